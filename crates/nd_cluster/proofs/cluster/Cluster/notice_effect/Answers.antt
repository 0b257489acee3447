use Rattle.std.proofs.Common.{◌<◌, length, refl, sym, subst}
use Rattle.nd_processor.specs.State.{ProcessorState}
use Rattle.nd_graph.specs.Graph.{Dataflow}
use Rattle.nd_view.specs.Kept.{IsFor}
use Rattle.nd_cluster.proofs.Reactions.{requested_there, notice_here, notice_blocked, notice_free}
use Rattle.nd_cluster.proofs.cluster.Cluster.notice_effect.Goals as goal

pub view-view-requires : goal.view-view-requires
view-view-requires g c = notice_here c.args.self.now c.args.p c.args.point.now c.requires.free

pub processor-requires : goal.processor-requires
processor-requires g c = notice_here c.args.self.now c.args.p c.args.point.now c.requires.free

pub vertex_state-vertex-requires : goal.vertex_state-vertex-requires
vertex_state-vertex-requires g c =
    let s = c.args.self.now in
    subst (λ (q : ProcessorState). c.args.point.now.location < length q.items) (sym c.processor.ensures)
    (requested_there s c.args.p c.args.point.now c.processor_count.ensures.state (notice_here s c.args.p c.args.point.now c.requires.free) c.requires.asked)

pub blocker_before-requires : goal.blocker_before-requires
blocker_before-requires g c = subst (λ (k : Dataflow). IsFor k c.view-view.result.now) (sym c.paths.ensures) c.view-view.ensures.paths

pub returns-in-Some-clause-refused : goal.returns-in-Some-clause-refused
returns-in-Some-clause-refused g c = λ other.
    notice_blocked c.args.self.now c.args.p c.args.point.now c.requires.free c.paths.result.now c.view-view.result.now.map c.paths.ensures (sym c.view-view.ensures.map)
    c.in-Some.blocker c.in-Some.ensures.least

pub returns-in-Ok-clause-free : goal.returns-in-Ok-clause-free
returns-in-Ok-clause-free g c =
    notice_free c.args.self.now c.args.p c.args.point.now c.requires.free c.paths.result.now c.view-view.result.now.map c.paths.ensures (sym c.view-view.ensures.map)
    (c.in_default.ensures.nothing.0 refl)

pub returns-in-Err-clause-memory : goal.returns-in-Err-clause-memory
returns-in-Err-clause-memory g c = λ memory.
    notice_free c.args.self.now c.args.p c.args.point.now c.requires.free c.paths.result.now c.view-view.result.now.map c.paths.ensures (sym c.view-view.ensures.map)
    (c.in_default.ensures.nothing.0 refl)
