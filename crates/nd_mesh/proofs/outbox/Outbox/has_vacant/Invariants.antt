use Rattle.std.proofs.Common.{◌≡◌, ℕ, ◌<◌, [], get_or}
use Rattle.nd_mesh.specs.Mesh.{IsVacant}
use Rattle.nd_mesh.proofs.outbox.Outbox.has_vacant.Given as goal

abbrev pub invariant-loop-queue : goal.invariant-loop-queue
invariant-loop-queue g l = record {
  items : l.queue-items ≡ l.self;
  none : (to : ℕ) → to < l.queue-index → IsVacant (get_or l.queue-items to []) → ⊥;
}
