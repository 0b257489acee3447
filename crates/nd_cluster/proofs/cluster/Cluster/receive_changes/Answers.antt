use Rattle.std.proofs.Common.{◌≡◌, ◌<◌, length, sym, ap, subst, ◌∙◌, arith}
use Rattle.std.proofs.lemmas.Result.{err_from_is_err_and}
use Rattle.std.specs.Prelude.{slice_get}
use Rattle.nd_delta.specs.Delta.{plus, IsTooLarge}
use Rattle.nd_protocol.specs.State.{ClusterState, view, queue}
use Rattle.nd_protocol.specs.declared.refusal.Refusal.{Refusal}
use Rattle.nd_protocol.specs.declared.refusal.Refusal.TheVariants.{Memory}
use Rattle.nd_steps.specs.Refusals.{FrontFails}
use Rattle.nd_cluster.proofs.Exchanges.{error_is, receive_plans, receive_refused, receive_wants_memory}
use Rattle.nd_cluster.proofs.cluster.Cluster.receive_changes.Goals as goal

pub planned_front-requires-clause-state : goal.planned_front-requires-clause-state
planned_front-requires-clause-state g c = c.self.invariant

pub planned_front-requires-clause-sender : goal.planned_front-requires-clause-sender
planned_front-requires-clause-sender g c =
    let from : c.args.from < length c.args.self.now.processors = omega (arith, c.n.ensures.value, c.if-sender-n.false) in
    subst (λ (t : ClusterState). c.args.from < length t.processors) (sym c.self.view_is) from

pub planned_front-requires-clause-receiver : goal.planned_front-requires-clause-receiver
planned_front-requires-clause-receiver g c =
    let to : c.args.to < length c.args.self.now.processors = omega (arith, c.n-else-sender-n.ensures.value, c.if-receiver-n.false) in
    subst (λ (t : ClusterState). c.args.to < length t.processors) (sym c.self.view_is) to

pub returns-in_err-change-clause-refused : goal.returns-in_err-change-clause-refused
returns-in_err-change-clause-refused g c =
    let s = c.args.self.now in
    let from : c.args.from < length s.processors = omega (arith, c.n.ensures.value, c.if-sender-n.false) in
    let to : c.args.to < length s.processors = omega (arith, c.n-else-sender-n.ensures.value, c.if-receiver-n.false) in
    let fails = subst (λ (t : ClusterState). FrontFails (view t c.args.to) (queue t c.args.from c.args.to) c.in_err-change.field-0.0) c.self.view_is c.in_err-change.ensures.refused in
    let p = err_from_is_err_and c.from_residual.result c.from_residual.ensures.1 in
    rw (p.1) (receive_refused _ s c.args.from c.args.to c.processor_count.ensures.state from to p.0
    (subst (FrontFails (view s c.args.to) (queue s c.args.from c.args.to)) (sym p.2) fails))

pub returns-in_err-change-clause-memory : goal.returns-in_err-change-clause-memory
returns-in_err-change-clause-memory g c = λ e.
    let s = c.args.self.now in
    let from : c.args.from < length s.processors = omega (arith, c.n.ensures.value, c.if-sender-n.false) in
    let to : c.args.to < length s.processors = omega (arith, c.n-else-sender-n.ensures.value, c.if-receiver-n.false) in
    let fails = subst (λ (t : ClusterState). FrontFails (view t c.args.to) (queue t c.args.from c.args.to) c.in_err-change.field-0.0) c.self.view_is c.in_err-change.ensures.refused in
    let p = err_from_is_err_and c.from_residual.result c.from_residual.ensures.1 in
    let memory : Memory ≡ c.in_err-change.field-0.0 = error_is c.from_residual.result Memory p.0 e p.1 ∙ p.2 in
    receive_wants_memory _ s c.args.from c.args.to c.processor_count.ensures.state from to
    (subst (FrontFails (view s c.args.to) (queue s c.args.from c.args.to)) (sym memory) fails)

pub returns-clause-ok : goal.returns-clause-ok
returns-clause-ok g c =
    let s = c.args.self.now in
    let d = c.in_ok-change.change in
    let from : c.args.from < length s.processors = omega (arith, c.n.ensures.value, c.if-sender-n.false) in
    let to : c.args.to < length s.processors = omega (arith, c.n-else-sender-n.ensures.value, c.if-receiver-n.false) in
    receive_plans _ s c.args.from c.args.to c.processor_count.ensures.state from to d
    (ap (λ (t : ClusterState). slice_get (queue t c.args.from c.args.to) 0) (sym c.self.view_is) ∙ c.in_ok-change.ensures.front)
    c.changes_are_counted.ensures.received (subst (λ (t : ClusterState). IsTooLarge (plus (view t c.args.to) d) → ⊥) c.self.view_is c.in_ok-change.ensures.room) c.requires
