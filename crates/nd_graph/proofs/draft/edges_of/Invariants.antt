use Rattle.std.proofs.Common.{◌≡◌, Some, map, take}
use Rattle.serde_json.specs.View.{view}
use Rattle.nd_graph.specs.Draft.{every, edge_of}
use Rattle.nd_graph.proofs.draft.edges_of.Given as goal

abbrev pub invariant-loop-value : goal.invariant-loop-value
invariant-loop-value g l = every edge_of (map view (take l.value-index l.values)) ≡ Some l.edges.items
