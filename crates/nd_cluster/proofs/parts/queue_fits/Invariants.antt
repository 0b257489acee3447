use Rattle.std.proofs.Common.{ℕ, ◌<◌, get_or}
use Rattle.nd_delta.specs.Delta.{DeltaValue}
use Rattle.nd_mesh.specs.Mesh.{queue}
use Rattle.nd_protocol.specs.Fitting.{DeltaFits, DeltaIsWithin}
use Rattle.nd_cluster.proofs.parts.queue_fits.Given as goal

abbrev pub invariant-loop-i : goal.invariant-loop-i
invariant-loop-i g l = record {
  fits : (k : ℕ) (d : DeltaValue) → k < l.i → DeltaFits l.graph (get_or (queue l.mesh l.from l.to) k d);
  within : (k : ℕ) (d : DeltaValue) → k < l.i → DeltaIsWithin (get_or (queue l.mesh l.from l.to) k d);
}
