use Rattle.std.proofs.Common.{◌≡◌, ◌<◌, List, length, vec_len, sym, ap, subst, ◌∙◌, arith, length-set, rules}
use Rattle.nd_delta.specs.Delta.{DeltaValue}
use Rattle.nd_view.specs.Views.{for_set}
use Rattle.nd_protocol.specs.State.{ClusterState}
use Rattle.nd_steps.proofs.ReceivedLemmas.{view_stored, view_is_for, from_row, to_row, taken_again_seen, received_back_seen}
use Rattle.nd_steps.proofs.receive.unreceive.Goals as goal

pub unpop-requires-clause-sender : goal.unpop-requires-clause-sender
unpop-requires-clause-sender g c =
    let h = c.requires in
    subst (λ (t : ClusterState). c.args.from < length t.queues) (sym c.parts.view_is) (from_row h.0 c.args.parts.now c.args.from c.args.to c.args.change.now h.1 h.2)

pub unpop-requires-clause-receiver : goal.unpop-requires-clause-receiver
unpop-requires-clause-receiver g c =
    let h = c.requires in
    subst (λ (t : ClusterState). c.args.to < length t.queues) (sym c.parts.view_is) (to_row h.0 c.args.parts.now c.args.from c.args.to c.args.change.now h.1 h.2)

pub index_mut-view-requires : goal.index_mut-view-requires
index_mut-view-requires g c =
    let a = c.parts.inside in
    let h = c.requires in
    let counted : length a.views.items ≡ vec_len a.views = search rules in
    subst (λ n. c.args.to < n) counted (view_stored c.args.parts.now a.paths a.processors.items a.views.items a.mesh c.parts.view_is h.0 c.args.from c.args.to c.args.change.now h.1 h.2)

pub unapply-requires : goal.unapply-requires
unapply-requires g c =
    let a = c.parts.inside in
    let h = c.requires in
    let lt = view_stored c.args.parts.now a.paths a.processors.items a.views.items a.mesh c.parts.view_is h.0 c.args.from c.args.to c.args.change.now h.1 h.2 in
    view_is_for c.args.parts.now a.paths a.processors.items a.views.items a.mesh c.parts.view_is c.args.to c.index_mut-view.result.now lt c.index_mut-view.ensures.value c.parts.invariant

pub invariant_of-parts-in-Ok-unapply : goal.invariant_of-parts-in-Ok-unapply
invariant_of-parts-in-Ok-unapply g c = for_set c.parts.inside.paths c.parts.inside.views.items c.args.to c.unapply.new.self c.parts.invariant c.unapply.ensures.paths

pub pop-taken-requires-clause-sender : goal.pop-taken-requires-clause-sender
pop-taken-requires-clause-sender g c =
    let n : length c.unpop.new.self ≡ length c.parts.inside.mesh = ap (λ (m : List (List (List DeltaValue))). length m) c.in-Ok.ensures.ok ∙ length-set c.parts.inside.mesh c.args.from _ in
    let h = c.requires in
    let lt : c.args.from < length c.parts.inside.mesh
    = subst (λ (t : ClusterState). c.args.from < length t.queues) (sym c.parts.view_is) (from_row h.0 c.args.parts.now c.args.from c.args.to c.args.change.now h.1 h.2) in
    omega (arith, n, lt)

pub pop-taken-requires-clause-receiver : goal.pop-taken-requires-clause-receiver
pop-taken-requires-clause-receiver g c =
    let n : length c.unpop.new.self ≡ length c.parts.inside.mesh = ap (λ (m : List (List (List DeltaValue))). length m) c.in-Ok.ensures.ok ∙ length-set c.parts.inside.mesh c.args.from _ in
    let h = c.requires in
    let lt : c.args.to < length c.parts.inside.mesh
    = subst (λ (t : ClusterState). c.args.to < length t.queues) (sym c.parts.view_is) (to_row h.0 c.args.parts.now c.args.from c.args.to c.args.change.now h.1 h.2) in
    omega (arith, n, lt)

pub invariant_of-parts-in_default-unapply : goal.invariant_of-parts-in_default-unapply
invariant_of-parts-in_default-unapply g c = for_set c.parts.inside.paths c.parts.inside.views.items c.args.to c.unapply.new.self c.parts.invariant c.unapply.ensures.paths

pub returns-in_default-unapply-clause-err : goal.returns-in_default-unapply-clause-err
returns-in_default-unapply-clause-err g c =
    let a = c.parts.inside in
    let h = c.requires in
    taken_again_seen c.args.parts.now a.paths a.processors.items a.views.items a.mesh c.parts.view_is h.0 c.args.from c.args.to c.args.change.now h.1 h.2 c.index_mut-view.result.now c.unapply.new.self
    c.index_mut-view.ensures.value c.in_default-unapply.ensures.err c.pop-taken.result c.in_ok-copied.copied c.unpop.new.self c.pop-taken.new.self
    c.in-Ok.ensures.ok c.in-Ok.ensures.undone c.pop-taken.ensures.empty.0 c.pop-taken.ensures.ok

pub returns-clause-ok : goal.returns-clause-ok
returns-clause-ok g c = λ s state receives.
    let a = c.parts.inside in
    received_back_seen c.args.parts.now a.paths a.processors.items a.views.items a.mesh c.parts.view_is s c.args.from c.args.to c.args.change.now state receives c.index_mut-view.result.now c.unapply.new.self
    c.index_mut-view.ensures.value c.in-Ok-unapply.ensures.ok c.in_ok-copied.copied c.in_ok-copied.ensures.equal c.unpop.new.self c.in-Ok.ensures.ok
