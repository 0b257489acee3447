use Rattle.std.proofs.Common.{ap, ◌∙◌}
use Rattle.std.proofs.lemmas.Result.{on_ok_weaker}
use Rattle.nd_delta.specs.Delta.{minus, minus-plus}
use Rattle.nd_view.proofs.View.apply.Goals as goal

pub returns-clause-undone : goal.returns-clause-undone
returns-clause-undone g c = on_ok_weaker c.change.result (λ is. ap (λ m. minus m c.args.delta.now) is ∙ minus-plus c.args.self.now.map c.args.delta.now) c.change.ensures.ok
