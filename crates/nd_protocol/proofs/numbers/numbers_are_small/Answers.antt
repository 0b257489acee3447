use Rattle.std.proofs.Common.{arith}
use Rattle.std.proofs.lemmas.List.Elements.{All-from_get_or}
use Rattle.nd_protocol.specs.Ranges.{IsSmall}
use Rattle.nd_protocol.proofs.numbers.numbers_are_small.Goals as goal

pub returns : goal.returns
returns c = All-from_get_or IsSmall c.args.numbers.now 0 (λ i within. omega (arith, c.type_inv.numbers i))
