use Rattle.std.proofs.Common.{◌≡◌}
use Rattle.nd_reach.proofs.Written.{to_come}
use Rattle.nd_reach.proofs.entries.put_map.Given as goal

abbrev pub invariant-loop-key : goal.invariant-loop-key
invariant-loop-key g l = to_come g.K.Formed.form l.bytes.items l.key-iterator ≡ to_come g.K.Formed.form l.initial.bytes.items l.fn.entries
