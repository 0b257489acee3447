use Rattle.std.proofs.Common.{ℕ, ◌<◌}
use Rattle.std.specs.Prelude.{All}
use Rattle.nd_mesh.specs.Mesh.{queue}
use Rattle.nd_protocol.specs.Fitting.{DeltaFits, DeltaIsWithin}
use Rattle.nd_cluster.proofs.parts.row_fits.Given as goal

abbrev pub invariant-loop-to : goal.invariant-loop-to
invariant-loop-to g l = record {
  fits : (q : ℕ) → q < l.to → All (DeltaFits l.graph) (queue l.mesh l.from q);
  within : (q : ℕ) → q < l.to → All DeltaIsWithin (queue l.mesh l.from q);
}
