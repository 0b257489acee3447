use Rattle.std.proofs.Common.{◌≡◌, drop}
use Rattle.nd_reach.proofs.Written.{to_come}
use Rattle.nd_reach.proofs.entries.put_list.Given as goal

abbrev pub invariant-loop-entry : goal.invariant-loop-entry
invariant-loop-entry g l = to_come g.K.Formed.form l.bytes.items (drop l.entry-index l.entries) ≡ to_come g.K.Formed.form l.initial.bytes.items l.entries
