use Rattle.std.proofs.Common.{◌≡◌, ap, subst, length, arith}
use Rattle.nd_graph.specs.Graph.{depths}
use Rattle.nd_summaries.proofs.Leaving.{LeavingFirst, LeavingFirst-more, AreLeaving-all}
use Rattle.nd_summaries.proofs.outgoing.all_leaving.Goals as goal

pub loop-location-preserved : goal.loop-location-preserved
loop-location-preserved g c =
    LeavingFirst-more c.all_arcs-arcs.result.now c.loop-location.rows.items c.push.new.self.items c.in_ok-row.row c.loop-location.location c.loop-location.invariant c.in_ok-row.ensures c.in_ok-push.ensures.items

pub returns : goal.returns
returns g c =
    let size : c.loop-location.location ≡ length (depths c.args.graph.now) = omega (arith, c.loop-location-test.false, c.loop-location.auto.location-end, ap length c.depths-location-end.ensures.depths) in
    AreLeaving-all c.args.graph.now c.loop-location.rows.items c.loop-location.location c.all_arcs-arcs.ensures.agree size
    (subst (λ xs. LeavingFirst xs c.loop-location.rows.items c.loop-location.location) c.all_arcs-arcs.ensures.arcs c.loop-location.invariant)
