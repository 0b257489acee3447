use Rattle.std.proofs.Common.{◌≡◌, ◌<◌, length, vec_len, refl, subst, rules}
use Rattle.nd_view.specs.Views.{for_set}
use Rattle.nd_steps.proofs.ReceivedLemmas.{view_is_for, stored_again, receiver_stored, not_vacant, received_seen}
use Rattle.nd_steps.proofs.receive.receive.Goals as goal

pub index_mut-view-requires : goal.index_mut-view-requires
index_mut-view-requires g c =
    let a = c.parts.inside in
    let counted : length a.views.items ≡ vec_len a.views = search rules in
    subst (λ n. c.args.to < n) counted (receiver_stored c.args.parts.now a.paths a.processors.items a.views.items a.mesh c.parts.view_is c.args.from c.args.to c.args.change.now c.requires.state c.requires.receives)

pub apply-requires : goal.apply-requires
apply-requires g c =
    let a = c.parts.inside in
    let lt = receiver_stored c.args.parts.now a.paths a.processors.items a.views.items a.mesh c.parts.view_is c.args.from c.args.to c.args.change.now c.requires.state c.requires.receives in
    view_is_for c.args.parts.now a.paths a.processors.items a.views.items a.mesh c.parts.view_is c.args.to c.index_mut-view.result.now lt c.index_mut-view.ensures.value c.parts.invariant

pub invariant_of-parts : goal.invariant_of-parts
invariant_of-parts g c = for_set c.parts.inside.paths c.parts.inside.views.items c.args.to c.apply.new.self c.parts.invariant c.apply.ensures.paths

pub invariant_of-parts-2 : goal.invariant_of-parts-2
invariant_of-parts-2 g c = for_set c.parts.inside.paths c.parts.inside.views.items c.args.to c.apply.new.self c.parts.invariant c.apply.ensures.paths

pub returns-in_default-clause-err : goal.returns-in_default-clause-err
returns-in_default-clause-err g c =
    let a = c.parts.inside in
    stored_again c.args.parts.now a.paths a.processors.items a.views.items a.mesh c.parts.view_is c.args.from c.args.to c.index_mut-view.result.now c.apply.new.self c.index_mut-view.ensures.value c.in_default.ensures.err

pub returns-in_default-pop-clause-ok : goal.returns-in_default-pop-clause-ok
returns-in_default-pop-clause-ok g c =
    let a = c.parts.inside in
    absurd (not_vacant c.args.parts.now a.paths a.processors.items a.views.items a.mesh c.parts.view_is c.args.from c.args.to c.args.change.now c.requires.state c.requires.receives (c.in_default-pop.ensures.empty.0 refl))

pub returns-clause-ok : goal.returns-clause-ok
returns-clause-ok g c =
    let a = c.parts.inside in
    received_seen c.args.parts.now a.paths a.processors.items a.views.items a.mesh c.parts.view_is c.args.from c.args.to c.args.change.now c.requires.state c.requires.receives
    c.index_mut-view.result.now c.apply.new.self c.index_mut-view.ensures.value c.in-Ok.ensures.ok c.pop.new.self c.in-Ok-pop.ensures.ok
