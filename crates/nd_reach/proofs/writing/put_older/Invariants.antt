use Rattle.std.proofs.Common.{◌≡◌, drop}
use Rattle.nd_reach.specs.Forms.{change_form, newest_first}
use Rattle.nd_reach.proofs.Written.{to_come}
use Rattle.nd_reach.proofs.writing.put_older.Given as goal

abbrev pub invariant-loop-i : goal.invariant-loop-i
invariant-loop-i g l =
    let all = newest_first l.cluster l.from l.to in
    to_come change_form l.bytes.items (drop l.i all) ≡ to_come change_form l.initial.bytes.items (drop l.count all)
