use Rattle.std.proofs.Common.{◌≡◌, ◌∙◌, All, ap, subst}
use Rattle.nd_graph.specs.Graph.{Dataflow, ArcAgrees, arcs, depths}
use Rattle.nd_graph.specs.Checked.{IsFaultless}
use Rattle.nd_session.proofs.Logs.{kept_new}
use Rattle.nd_session.proofs.StartLemmas.{is_state, keeps_protocol}
use Rattle.nd_session.proofs.state.State.new.Goals as goal

pub invariant_of-result : goal.invariant_of-result
invariant_of-result g c =
    let base = c.args.timeline.base in
    let start = c.requires.start in
    let same : c.graph-graph.result.now ≡ base.graph = c.graph-graph.ensures ∙ ap (λ s. s.graph) c.base.ensures in
    let sound : IsFaultless base.graph = subst IsFaultless same c.vertices.ensures.sound in
    let agree : All (ArcAgrees (depths base.graph)) (arcs base.graph) = subst (λ (d : Dataflow). All (ArcAgrees (depths d)) (arcs d)) same c.all_arcs.ensures.agree in
    rw (c.in_ok-new.ensures, c.new-2.ensures.items, c.new-3.ensures)
    (kept_new c.args.timeline c.requires.fresh c.at.ensures.timeline start
    (is_state base start sound agree c.starts_keep_protocol.ensures.state) (keeps_protocol base start sound agree c.starts_keep_protocol.ensures.protocol))
