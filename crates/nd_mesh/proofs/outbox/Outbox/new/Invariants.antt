use Rattle.std.proofs.Common.{◌≡◌, [], replicate}
use Rattle.nd_mesh.proofs.outbox.Outbox.new.Given as goal

abbrev pub invariant-loop : goal.invariant-loop
invariant-loop g l = l.queues.items ≡ replicate l.counter []
