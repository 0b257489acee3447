use Rattle.std.proofs.Common.{◌≡◌, [], ◌∷◌, ◌++◌, true, false, ap, sym, ◌∙◌, arith}
use Rattle.std.proofs.lemmas.List.{nil_from_length}
use Rattle.std.specs.Ordering.{is_eq}
use Rattle.std.specs.Vec.Iter.{into_iter_items}
use Rattle.nd_steps.specs.Changes.{place_of}
use Rattle.nd_steps.specs.Places.{is_place}
use Rattle.nd_steps.specs.Drafts.{joins, joined}
use Rattle.nd_steps.proofs.DraftsLemmas.{join_same, join_next}
use Rattle.nd_steps.proofs.draft.join_neighbours.Goals as goal

pub loop-change-init : goal.loop-change-init
loop-change-init g c =
    let whole : c.args.sorted.items ≡ c.in-Some.last ∷ into_iter_items c.next.new.self = sym c.into_iter-rest.ensures.rest ∙ c.in-Some.ensures.items in
    ap (λ cs. cs ++ joins c.in-Some.last (into_iter_items c.into_iter-change-iterator.result)) c.new-joined.ensures.items
    ∙ ap (λ i. joins c.in-Some.last (into_iter_items i)) c.into_iter-change-iterator.ensures.into_iter_gives
    ∙ sym (ap joined whole)

pub loop-change-preserved-in-Continue-1 : goal.loop-change-preserved-in-Continue-1
loop-change-preserved-in-Continue-1 g c =
    let rest = into_iter_items c.next-in-loop-change.new.self in
    let step : into_iter_items c.loop-change.change-iterator ≡ c.in-Some-change.change ∷ rest = c.in-Some-change.ensures.steps.0 in
    let same : is_place (place_of c.loop-change.last) (place_of c.in-Some-change.change) ≡ true = sym (ap is_eq c.by_place.ensures) ∙ sym c.is_eq.ensures ∙ c.if-is_eq.true in
    join_same c.loop-change.joined.items (joined c.args.sorted.items) c.loop-change.last c.in-Some-change.change rest (into_iter_items c.loop-change.change-iterator) step c.loop-change.invariant
    same c.add_to.new.last c.in_ok-add_to.ensures

pub loop-change-preserved : goal.loop-change-preserved
loop-change-preserved g c =
    let rest = into_iter_items c.next-in-loop-change.new.self in
    let step : into_iter_items c.loop-change.change-iterator ≡ c.in-Some-change.change ∷ rest = c.in-Some-change.ensures.steps.0 in
    let other : is_place (place_of c.loop-change.last) (place_of c.in-Some-change.change) ≡ false = sym (ap is_eq c.by_place.ensures) ∙ sym c.is_eq.ensures ∙ c.if-is_eq.false in
    join_next c.loop-change.joined.items (joined c.args.sorted.items) c.loop-change.last c.in-Some-change.change rest (into_iter_items c.loop-change.change-iterator) step c.loop-change.invariant
    other c.replace-before.result c.replace-before.new.dest c.replace-before.ensures.value c.replace-before.ensures.after c.push_some.new.to.items c.in_ok-push_some.ensures

pub returns : goal.returns
returns g c =
    let none : into_iter_items c.loop-change.change-iterator ≡ [] = nil_from_length _ (omega (arith, c.in-None.ensures.steps.0, c.loop-change.change-iterator.rest.ok.0)) in
    c.in_ok-append.ensures.items ∙ ap (λ l. l ++ c.push_some-2.new.to.items) c.in_ok-exact.ensures.items ∙ c.in_ok-push_some-2.ensures
    ∙ sym (ap (λ cs. c.loop-change.joined.items ++ joins c.loop-change.last cs) none) ∙ c.loop-change.invariant
