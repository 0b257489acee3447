use Rattle.std.proofs.Common.{length, sym, ap, subst, ◌∙◌}
use Rattle.std.proofs.lemmas.List.{with_items_is}
use Rattle.std.proofs.lemmas.List.Sorted.{length_permutation}
use Rattle.std.proofs.lemmas.Result.{err_from_is_err_and}
use Rattle.nd_steps.specs.Plans.{Each}
use Rattle.nd_steps.specs.Turns.{IsReadable, IsInOrder}
use Rattle.nd_steps.specs.Orders.{StayWithin, StayFails, AreOrdered}
use Rattle.nd_steps.proofs.ReachesLemmas.{readable, few_enough, little_enough, passes, leads}
use Rattle.nd_steps.proofs.order.planned_changes.Goals as goal

pub put_in_order-requires : goal.put_in_order-requires
put_in_order-requires g c =
    subst (Each (IsReadable c.args.processors.now)) (sym c.deref_mut.ensures.value) (readable c.args.processors.now c.requires.0 c.requires.1 c.args.all.items c.requires.2)

pub returns-in_err-put_in_order-clause-refused : goal.returns-in_err-put_in_order-clause-refused
returns-in_err-put_in_order-clause-refused g c =
    let ps = c.args.processors.now in
    let p = err_from_is_err_and c.from_residual.result c.from_residual.ensures.1 in
    let fails = subst (λ cs. StayFails ps cs c.in_err-put_in_order.field-0.0) c.deref_mut.ensures.value c.in_err-put_in_order.ensures.refused in
    rw (p.1) (λ s t h. passes ps s t c.args.all.items h p.0 (subst (StayFails ps c.args.all.items) (sym p.2) fails))

pub returns-clause-ok : goal.returns-clause-ok
returns-clause-ok g c =
    let ps = c.args.processors.now in
    let all = c.args.all.items in
    let cs = c.put_in_order.new.changes in
    let value = c.deref_mut.ensures.value in
    let told = c.in_ok-put_in_order.ensures in
    let order = subst (λ l. IsInOrder ps l cs) value told.order in
    let within = subst (StayWithin ps) value told.within in
    subst (AreOrdered ps all) (sym (with_items_is c.args.all cs (length_permutation c.deref_mut.result.now cs told.order.same ∙ ap length value ∙ sym c.args.all.ok.0)))
    (record { leads = λ s t h. leads ps s t all h cs order within; counts = λ s t h. few_enough ps s t all h within.0; entries = λ s t h. little_enough ps s t all h within.1 })
