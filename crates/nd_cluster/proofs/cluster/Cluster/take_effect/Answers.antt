use Rattle.std.proofs.Common.{◌≡◌, ◌<◌, Err, w64, to_z, of_z, rules, sym, ap, subst, ◌∙◌, length}
use Rattle.nd_graph.specs.Graph.{Dataflow, action_of, op_at}
use Rattle.nd_graph.specs.Checked.{IsFaultless}
use Rattle.nd_graph.specs.declared.op.Op.{Op}
use Rattle.nd_vertex.specs.Effects.{MayActAt, IsCounterFull, IsInRange}
use Rattle.nd_vertex.specs.Table.{on_record}
use Rattle.nd_processor.specs.State.{ProcessorState, items_at}
use Rattle.nd_protocol.specs.Fitting.{IsState}
use Rattle.nd_cluster.proofs.Reactions.{take_stands, read_range, read_free}
use Rattle.nd_cluster.proofs.cluster.Cluster.take_effect.Goals as goal

pub vertex_state-vertex-requires : goal.vertex_state-vertex-requires
vertex_state-vertex-requires g c =
    let a = c.args in
    let stands = take_stands a.self.now a.p a.key.now a.target (subst IsState c.self.view_is c.self.invariant) (subst IsFaultless c.graph.ensures c.op_at-op.ensures.sound) c.requires.target c.requires.free in
    subst (λ (q : ProcessorState). a.target < length q.items) (sym c.processor-processor.ensures) stands.vertex

pub on_record-requires : goal.on_record-requires
on_record-requires g c =
    let a = c.args in
    let stands = take_stands a.self.now a.p a.key.now a.target (subst IsState c.self.view_is c.self.invariant) (subst IsFaultless c.graph.ensures c.op_at-op.ensures.sound) c.requires.target c.requires.free in
    let op : c.op_at-op.result ≡ op_at a.self.now.graph a.target = c.op_at-op.ensures.op ∙ ap (λ (d : Dataflow). op_at d a.target) c.graph.ensures in
    subst (λ (o : Op). MayActAt (action_of o) (length a.key.now.point.time.counters)) (sym op) stands.may

pub returns-after-effect-clause-free : goal.returns-after-effect-clause-free
returns-after-effect-clause-free g c =
    let a = c.args in
    let value : to_z w64 (of_z w64 a.key.now.value) ≡ a.key.now.value = search rules in
    let told = c.in-Ok.ensures in
    let full : IsCounterFull c.op_at-op.result a.key.now.point.time → ⊥ = (λ h. absurd (cc (told.full.1 h))) in
    read_free a.self.now a.p a.key.now a.target c.requires.target c.requires.free c.op_at-op.result c.vertex_state-vertex.result.now
    (c.op_at-op.ensures.op ∙ ap (λ (d : Dataflow). op_at d a.target) c.graph.ensures)
    (c.vertex_state-vertex.ensures ∙ ap (λ (q : ProcessorState). items_at q a.target) c.processor-processor.ensures)
    full (λ far. absurd (cc (told.range.1 (full, λ r. far (subst (λ v. IsInRange (on_record c.op_at-op.result c.vertex_state-vertex.result.now a.key.now.point.time v)) value r)))))

pub returns-in-Err-ValueRange-clause-refused : goal.returns-in-Err-ValueRange-clause-refused
returns-in-Err-ValueRange-clause-refused g c = λ other.
    let a = c.args in
    let value : to_z w64 (of_z w64 a.key.now.value) ≡ a.key.now.value = search rules in
    let told = c.in-Err-ValueRange.ensures.range.0 (ap Err c.in-Err-ValueRange.field-0-is) in
    read_range a.self.now a.p a.key.now a.target c.requires.target c.requires.free c.op_at-op.result c.vertex_state-vertex.result.now
    (c.op_at-op.ensures.op ∙ ap (λ (d : Dataflow). op_at d a.target) c.graph.ensures)
    (c.vertex_state-vertex.ensures ∙ ap (λ (q : ProcessorState). items_at q a.target) c.processor-processor.ensures)
    told.0 (λ r. told.1 (subst (λ v. IsInRange (on_record c.op_at-op.result c.vertex_state-vertex.result.now a.key.now.point.time v)) (sym value) r))
