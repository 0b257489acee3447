use Rattle.std.proofs.Common.{ℕ, ◌<◌}
use Rattle.nd_cluster.specs.Parts.{RowFits, RowIsWithin}
use Rattle.nd_cluster.proofs.parts.mesh_fits.Given as goal

abbrev pub invariant-loop-from : goal.invariant-loop-from
invariant-loop-from g l = record {
  fits : (p : ℕ) → p < l.from → RowFits l.graph l.mesh p;
  within : (p : ℕ) → p < l.from → RowIsWithin l.mesh p;
}
