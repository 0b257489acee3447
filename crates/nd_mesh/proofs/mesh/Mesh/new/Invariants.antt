use Rattle.std.proofs.Common.{◌≡◌, [], replicate}
use Rattle.nd_mesh.proofs.mesh.Mesh.new.Given as goal

abbrev pub invariant-loop : goal.invariant-loop
invariant-loop g l = l.rows.items ≡ replicate l.counter (replicate l.n [])
