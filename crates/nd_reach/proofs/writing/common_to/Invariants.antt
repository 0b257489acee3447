use Rattle.std.proofs.Common.{◌≡◌, ◌+◌, drop}
use Rattle.nd_reach.specs.Forms.{in_common, newest_first}
use Rattle.nd_reach.proofs.writing.common_to.Given as goal

abbrev pub invariant-loop-i : goal.invariant-loop-i
invariant-loop-i g l =
    let xs = newest_first l.cluster l.from l.longest in
    let ys = newest_first l.cluster l.from l.to in
    l.i + in_common (drop l.i xs) (drop l.i ys) ≡ in_common xs ys
