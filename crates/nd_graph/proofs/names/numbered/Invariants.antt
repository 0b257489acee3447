use Rattle.std.proofs.Common.{◌≡◌, ◌++◌, false, map, take}
use Rattle.nd_graph.specs.Checked.{has_double}
use Rattle.nd_graph.proofs.names.numbered.Given as goal

abbrev pub invariant-loop-vertex : goal.invariant-loop-vertex
invariant-loop-vertex g l = record {
  all : l.names.keys ≡ map (λ v. v.name) (take l.vertex-index l.vertices);
  once : has_double l.names.keys ≡ false;
}

abbrev pub invariant-loop-edge : goal.invariant-loop-edge
invariant-loop-edge g l = record {
  all : l.names.keys ≡ map (λ v. v.name) l.fn.vertices ++ map (λ e. e.name) (take l.edge-index l.edges);
  once : has_double l.names.keys ≡ false;
}
