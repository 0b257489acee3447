use Rattle.std.proofs.Common.{◌≡◌, ℤ, ◌+ℤ◌, Option, OnOk, FitsSigned, w64, to_z, of_z, sym, ap, subst, ◌∙◌, rules}
use Rattle.std.specs.Int.{w128}
use Rattle.std.specs.Prelude.{slice_set}
use Rattle.std.proofs.Math.Facts.{sfits_widen}
use Rattle.std.proofs.lemmas.Int.{to_z-of_z}
use Rattle.std.proofs.lemmas.Result.{on_err_weaker}
use Rattle.nd_map.specs.Counts.{at, set}
use Rattle.nd_vertex.specs.Edits.{item_of, number_of}
use Rattle.nd_vertex.specs.Items.{Items, item_key, item_total}
use Rattle.nd_vertex.specs.declared.key.ItemKey.{ItemKey}
use Rattle.nd_processor.specs.State.{items_at}
use Rattle.nd_protocol.specs.Ranges.{IsValue}
use Rattle.nd_steps.proofs.ItemsLemmas.{was}
use Rattle.nd_steps.proofs.amounts.more_of_item.Goals as goal

stored : ℤ → ℤ
stored z = to_z w128 (of_z w128 z)

-- the number before, and the number after
module _ (m n : Items) (j k : ItemKey) (is : m ≡ n) (same : j ≡ k) (old : Option ℤ) (found : old ≡ item_of m j) where
  old_is : number_of old ≡ at n k
  old_is = ap number_of (found ∙ (λ i. item_of (is i) (same i))) ∙ was (at n k)

  module _ (x y : ℤ) (x_is : x ≡ number_of old) (fits : FitsSigned w128 y) (before : IsValue (at n k)) (after : IsValue (at n k +ℤ y)) where
    now : stored (stored x +ℤ stored y) ≡ at n k +ℤ y
    unfolding stored
    now =
        ap (λ z. stored (stored z +ℤ stored y)) (x_is ∙ old_is)
        ∙ (λ i. stored (to_z-of_z w128 (at n k) (sfits_widen tt before) i +ℤ to_z-of_z w128 y fits i))
        ∙ to_z-of_z w128 (at n k +ℤ y) (sfits_widen tt after)

-- the key as it is passed on
passed : (k : ItemKey) → FitsSigned w64 k.item → item_key k.time (to_z w64 (of_z w64 k.item)) ≡ k
passed k fits = ap (item_key k.time) (to_z-of_z w64 k.item fits)

pub item_number-new-requires : goal.item_number-new-requires
unfolding stored
item_number-new-requires g c =
    let q = c.args.processor.now in
    let k = c.args.key.now in
    let fits : FitsSigned w64 k.item = search rules in
    subst IsValue
    (sym (now c.vertex_state.result.now (items_at q c.args.vertex) _ k c.vertex_state.ensures (passed k fits) c.get-old.result c.get-old.ensures.value
    c.number.result c.args.n c.number.ensures.value c.ranges.n c.requires.before.ranged c.requires.within.ranged))
    c.requires.within.ranged

pub returns-clause-ok : goal.returns-clause-ok
unfolding stored
returns-clause-ok g c =
    let q = c.args.processor.now in
    let k = c.args.key.now in
    let fits : FitsSigned w64 k.item = search rules in
    let sum = now c.vertex_state.result.now (items_at q c.args.vertex) _ k c.vertex_state.ensures (passed k fits) c.get-old.result c.get-old.ensures.value
    c.number.result c.args.n c.number.ensures.value c.ranges.n c.requires.before.ranged c.requires.within.ranged in
    let key = passed k fits in
    let then = c.item_number-new.ensures.number ∙ sum in
    subst (λ (e : ItemKey × ℤ). OnOk c.set_item.result (c.set_item.new.self ≡ record q { items = slice_set q.items c.args.vertex (set item_total (items_at q c.args.vertex) e.0 e.1) }))
    (λ i. (key i, then i)) c.set_item.ensures.ok

pub returns-clause-absent : goal.returns-clause-absent
returns-clause-absent g c =
    let k = c.args.key.now in
    let fits : FitsSigned w64 k.item = search rules in
    on_err_weaker c.set_item.result
    (λ none. sym (old_is c.vertex_state.result.now (items_at c.args.processor.now c.args.vertex) _ k c.vertex_state.ensures (passed k fits) c.get-old.result c.get-old.ensures.value) ∙ ap number_of none) c.set_item.ensures.absent
