use Rattle.nd_graph.proofs.Agreement.{is_graph}
use Rattle.nd_graph.proofs.build.built.Goals as goal

pub arcs_of-requires : goal.arcs_of-requires
arcs_of-requires g c =
    let whole = is_graph (record { order = c.args.order; vertices = c.args.vertices.items; edges = c.args.edges.items }) c.requires in
    rw (c.deref-3.ensures.value, c.deref-4.ensures.value) whole.few

pub from_parts-requires-clause-kept : goal.from_parts-requires-clause-kept
from_parts-requires-clause-kept g c =
    rw (c.in_ok-depths.ensures, c.in_ok-arcs.ensures, c.deref.ensures.value, c.deref-2.ensures.value, c.deref-3.ensures.value, c.deref-4.ensures.value)
    (is_graph (record { order = c.args.order; vertices = c.args.vertices.items; edges = c.args.edges.items }) c.requires)
