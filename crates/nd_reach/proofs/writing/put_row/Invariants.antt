use Rattle.std.proofs.Common.{◌≡◌, drop}
use Rattle.nd_reach.specs.Forms.{queue_form, longest, rows_newest}
use Rattle.nd_reach.proofs.Written.{to_come}
use Rattle.nd_reach.proofs.writing.put_row.Given as goal

abbrev pub invariant-loop-to : goal.invariant-loop-to
invariant-loop-to g l =
    let all = rows_newest l.cluster l.from in
    to_come (queue_form (longest all)) l.bytes.items (drop l.to all) ≡ to_come (queue_form (longest all)) l.initial.bytes.items all
