use Rattle.std.proofs.Common.{sym, ap, ◌∙◌}
use Rattle.std.proofs.lemmas.Bool.{eqb-true, eq-eqb}
use Rattle.nd_delta.specs.Delta.{size, size-none}
use Rattle.nd_steps.proofs.PartsSent.{none_of_size}
use Rattle.nd_steps.proofs.broadcast.is_nothing.Goals as goal

pub returns-in-All : goal.returns-in-All
returns-in-All g c =
    rw c.in-All.is (
      λ t. none_of_size c.args.change.now (sym c.len.ensures ∙ eqb-true c.len.result 0 t),
      λ e. eq-eqb c.len.result 0 (c.len.ensures ∙ ap size e ∙ size-none),
    )
