use Rattle.std.proofs.Common.{◌≡◌, take}
use Rattle.nd_mesh.proofs.mesh.Mesh.copy.Given as goal

abbrev pub invariant-loop-row : goal.invariant-loop-row
invariant-loop-row g l = record {
  items : l.row-items ≡ l.self;
  copied : l.rows.items ≡ take l.row-index l.row-items;
}
