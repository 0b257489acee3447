use Rattle.std.proofs.Common.{◌≡◌, take}
use Rattle.nd_mesh.proofs.outbox.Outbox.copy.Given as goal

abbrev pub invariant-loop-queue : goal.invariant-loop-queue
invariant-loop-queue g l = record {
  items : l.queue-items ≡ l.self;
  copied : l.queues.items ≡ take l.queue-index l.queue-items;
}
