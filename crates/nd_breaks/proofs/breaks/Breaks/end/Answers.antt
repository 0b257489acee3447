use Rattle.std.proofs.Common.{refl, arith}
use Rattle.nd_breaks.proofs.Slots.{none_from}
use Rattle.nd_breaks.proofs.breaks.Breaks.end.Goals as goal

pub returns-clause-past : goal.returns-clause-past
returns-clause-past g c = none_from c.self.inside.slots.items c.self.inside.slots.items c.args.self.now c.len.result refl c.self.view_is (omega arith)
