use Rattle.std.proofs.Common.{ap, sym, ◌∙◌}
use Rattle.nd_protocol.specs.declared.part.Part.TheVariants.{Points}
use Rattle.nd_protocol.proofs.part.Part.copy.Goals as goal

pub returns-in_ok-copy-in-Points : goal.returns-in_ok-copy-in-Points
returns-in_ok-copy-in-Points g c = ap Points c.in_ok-copy-in-Points.ensures ∙ sym c.in-Points.is
