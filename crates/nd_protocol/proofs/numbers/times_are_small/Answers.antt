use Rattle.std.proofs.Common.{subst, arith}
use Rattle.std.proofs.lemmas.List.Elements.{All-cons}
use Rattle.std.specs.Prelude.{All}
use Rattle.nd_protocol.specs.Ranges.{IsSmall}
use Rattle.nd_protocol.proofs.numbers.times_are_small.Goals as goal

pub returns : goal.returns
returns c =
    All-cons IsSmall c.args.time.now.epoch c.args.time.now.counters (omega (arith, c.epoch-epoch.ensures, c.epoch-epoch.type_inv))
    (subst (All IsSmall) c.counters.ensures.value c.numbers_are_small.ensures)
