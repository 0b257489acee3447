use Rattle.std.proofs.Common.{◌≡◌, Some, map, take}
use Rattle.serde_json.specs.View.{view}
use Rattle.nd_graph.specs.Draft.{every, vertex_of}
use Rattle.nd_graph.proofs.draft.vertices_of.Given as goal

abbrev pub invariant-loop-value : goal.invariant-loop-value
invariant-loop-value g l = every vertex_of (map view (take l.value-index l.values)) ≡ Some l.vertices.items
