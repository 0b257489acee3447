use Rattle.std.proofs.Common.{pos, true}
use Rattle.nd_delta.proofs.Sums.{combined_is, part_gone}
use Rattle.nd_delta.proofs.large.LargeDelta.take_part.Goals as goal

pub returns : goal.returns
returns g c = combined_is true c.args.self.now c.args.part.now {f = λ _. pos 0} c.entries.ensures.listed (record { value = c.clear.ensures }) (part_gone c.args.self.now c.args.part.now c.requires)
