-- The changes of a vertex's items: each item once, and they turn the old items into the new ones.
use Rattle.std.proofs.Common.{◌≡◌, ◌<◌, ◌≤◌, ◌+◌, ℕ, zero, suc, ℤ, pos, negsuc, ◌+ℤ◌, ◌-ℤ◌, All, Bool, true, false, cond, List, [], ◌∷◌, map, length, length-set, get_or, get_or-set_same, Some, None, refl, sym, ap, subst, ◌∙◌, arith}
use Rattle.std.proofs.lemmas.Int.{ints}
use Rattle.std.proofs.lemmas.Map.Keys.{IsDistinct-head, IsDistinct-tail}
use Rattle.std.specs.List.{IsDistinct, AllByRecursion}
use Rattle.std.specs.Ordering.{eq_by_cmp}
use Rattle.std.specs.Cmp.{eq_by_cmp_equiv}
use Rattle.std.proofs.lemmas.List.{set-set, set-get_or}
use Rattle.std.specs.Prelude.{slice_set}
use Rattle.nd_map.specs.Counts.{at as number_at, set, none as no_counts, at-set}
use Rattle.nd_vertex.specs.Items.{Items, item_cmp, item_total}
use Rattle.nd_vertex.specs.Table.{is_zero}
use Rattle.nd_vertex.specs.Edits.{LeadsTo, edited, item_of as item_found, keys, number_of, with_item}
use Rattle.nd_vertex.specs.declared.key.ItemKey.{ItemKey}
use Rattle.nd_vertex.specs.declared.effect.ItemEdit.{ItemEdit}
use Rattle.nd_processor.specs.State.{ProcessorState, items_at, held}
use Rattle.nd_protocol.specs.Ranges.{IsValue}
use Rattle.nd_protocol.specs.State.{ClusterState, processor}
use Rattle.nd_steps.specs.Places.{Place, place_at}
use Rattle.nd_steps.specs.declared.slot.Slot.TheVariants.{State}
use Rattle.nd_steps.specs.Plans.{often, Once, Each, StaysRanged}
use Rattle.nd_steps.specs.Drafts.{item_change, item_changes, HasValues}
use Rattle.nd_steps.specs.Places.{is_place}
use Rattle.nd_steps.proofs.AlikeLemmas.{same_place, item-test}
use Rattle.nd_steps.proofs.Moves.{Moves, nothing_more, stays, moves_then, put_moves}

-- ---- numbers of items

pub was : (z : ℤ) → number_of (cond (is_zero z) None (Some z)) ≡ z
was (pos zero) = refl
was (pos (suc n)) = refl
was (negsuc n) = refl

-- ---- no item occurs twice

rec_at : {X Y : Type 0} (P : Y → Type 0) (g : X → Y) (xs : List X) (i : ℕ) (d : X) → AllByRecursion P (map g xs) → i < length xs → P (g (get_or xs i d))
rec_at P g [] i d h lt = absurd (omega (arith, lt))
rec_at P g (x ∷ xs) zero d h lt = h.0
rec_at P g (x ∷ xs) (suc i) d h lt = rec_at P g xs i d h.1 (omega (arith, lt))

module _ (p vertex : ℕ) where
  not_among : (b : ItemKey) (es : List ItemEdit) → AllByRecursion (λ y. eq_by_cmp item_cmp b y ≡ false) (keys es) → often (place_at p (State vertex b)) (item_changes p vertex es) ≡ 0
  not_among b [] h = refl
  not_among b (e ∷ es) h =
      ap (λ t. cond t 1 0 + often (place_at p (State vertex b)) (item_changes p vertex es)) (item-test p vertex b e.key ∙ h.0)
      ∙ (let r = not_among b es h.1 in omega (arith, r))

  once_by : (k : Place) (e : ItemEdit) (es : List ItemEdit) (t : Bool) → is_place k (place_at p (State vertex e.key)) ≡ t → AllByRecursion (λ y. eq_by_cmp item_cmp e.key y ≡ false) (keys es) → often k (item_changes p vertex es) ≤ 1
      → cond t 1 0 + often k (item_changes p vertex es) ≤ 1
  once_by k e es true t head rest =
      let none : often k (item_changes p vertex es) ≡ 0 = ap (λ x. often x (item_changes p vertex es)) (same_place k (place_at p (State vertex e.key)) t) ∙ not_among e.key es head in
      omega (arith, none)
  once_by k e es false t head rest = omega (arith, rest)

  pub items_once : (es : List ItemEdit) → IsDistinct (eq_by_cmp item_cmp) (keys es) → Once (item_changes p vertex es)
  items_once [] h k = omega arith
  items_once (e ∷ es) h k =
      once_by k e es (is_place k (place_at p (State vertex e.key))) refl (IsDistinct-head (eq_by_cmp item_cmp) e.key (keys es) h)
      (items_once es (IsDistinct-tail (eq_by_cmp item_cmp) e.key (keys es) h) k)

  -- ---- what they add

  found_so : (m n : Items) (k : ItemKey) → number_at n k ≡ number_at m k → item_found n k ≡ item_found m k
  found_so m n k e = ap (λ z. cond (is_zero z) None (Some z)) e

  -- the other items are as they were
  olds_after : (m : Items) (e : ItemEdit) (es : List ItemEdit) → All (λ f. item_found m f.key ≡ f.old) (e ∷ es) → IsDistinct (eq_by_cmp item_cmp) (keys (e ∷ es)) → All (λ f. item_found (with_item m e.key e.new) f.key ≡ f.old) es
  olds_after m e es olds once i d lt =
      let f = get_or es i d in
      let head : AllByRecursion (λ y. eq_by_cmp item_cmp e.key y ≡ false) (keys es) = IsDistinct-head (eq_by_cmp item_cmp) e.key (keys es) once in
      let apart : eq_by_cmp item_cmp f.key e.key ≡ false = (eq_by_cmp_equiv item_total).symm f.key e.key ∙ rec_at (λ y. eq_by_cmp item_cmp e.key y ≡ false) (λ (x : ItemEdit). x.key) es i d head lt in
      found_so m (with_item m e.key e.new) f.key (at-set item_total m e.key (number_of e.new) f.key ∙ ap (λ t. cond t (number_of e.new) (number_at m f.key)) apart)
      ∙ olds (suc i) d (omega (arith, lt))

  -- one item gets its new number
  item_moves : (q : ProcessorState) (e : ItemEdit) → vertex < length q.items → item_found (items_at q vertex) e.key ≡ e.old
      → Moves p p q (record q { items = slice_set q.items vertex (with_item (items_at q vertex) e.key e.new) }) (item_change p vertex e ∷ [])
  item_moves q e lt old =
      let n : ℤ = number_of e.new -ℤ number_of e.old in
      let before : number_of e.old ≡ number_at (items_at q vertex) e.key = ap number_of (sym old) ∙ was (number_at (items_at q vertex) e.key) in
      let then : number_of e.new ≡ number_at (items_at q vertex) e.key +ℤ n = omega (arith, ints, before) in
      put_moves p p q (State vertex e.key) n [] _ (ap (λ z. record q { items = slice_set q.items vertex (set item_total (items_at q vertex) e.key z) }) then)
      tt lt tt tt (λ x. nothing_more (pos (held q x)))

  edits_move : (q : ProcessorState) (es : List ItemEdit) → vertex < length q.items → All (λ e. item_found (items_at q vertex) e.key ≡ e.old) es → IsDistinct (eq_by_cmp item_cmp) (keys es)
      → Moves p p q (record q { items = slice_set q.items vertex (edited (items_at q vertex) es) }) (item_changes p vertex es)
  edits_move q [] lt olds once = subst (λ ms. Moves p p q (record q { items = ms }) []) (sym (set-get_or q.items vertex no_counts)) (stays p p q)
  edits_move q (e ∷ es) lt olds once =
      let m : Items = with_item (items_at q vertex) e.key e.new in
      let r : ProcessorState = record q { items = slice_set q.items vertex m } in
      let here : items_at r vertex ≡ m = get_or-set_same q.items vertex m no_counts lt in
      let rest = edits_move r es (subst (λ n. vertex < n) (sym (length-set q.items vertex m)) lt)
      (subst (λ w. All (λ f. item_found w f.key ≡ f.old) es) (sym here) (olds_after (items_at q vertex) e es olds once))
      (IsDistinct-tail (eq_by_cmp item_cmp) e.key (keys es) once) in
      moves_then (item_moves q e lt (olds 0 e (omega arith)))
      (subst (λ ms. Moves p p r (record q { items = ms }) (item_changes p vertex es)) (set-set q.items vertex m (edited (items_at r vertex) es) ∙ ap (λ w. slice_set q.items vertex (edited w es)) here) rest)

  -- the items become n
  pub items_move : (q : ProcessorState) (es : List ItemEdit) (n : Items) → vertex < length q.items → LeadsTo (items_at q vertex) es n → Moves p p q (record q { items = slice_set q.items vertex n }) (item_changes p vertex es)
  items_move q es n lt leads = subst (λ w. Moves p p q (record q { items = slice_set q.items vertex w }) (item_changes p vertex es)) leads.edited_is (edits_move q es lt leads.can_edit.olds leads.can_edit.once)

-- ---- the numbers fit 64 bits

module _ (s : ClusterState) (p vertex : ℕ) where
  abbrev kept : Items
  kept = items_at (processor s p) vertex

  one_ranged : (z : ℤ) (e : ItemEdit) → HasValues e → number_of e.old ≡ z → IsValue (z +ℤ (number_of e.new -ℤ number_of e.old))
  one_ranged z e h old = subst IsValue (then z (number_of e.old) (number_of e.new) old) h.new
    where
      then : (z a b : ℤ) → a ≡ z → b ≡ z +ℤ (b -ℤ a)
      then z a b e = omega (arith, ints, e)

  each_ranged : (es : List ItemEdit) → All (λ e. item_found kept e.key ≡ e.old) es → All HasValues es → Each (StaysRanged s) (item_changes p vertex es)
  each_ranged [] olds values = tt
  each_ranged (e ∷ es) olds values = (
    one_ranged (number_at kept e.key) e (values 0 e (omega arith)) (ap number_of (sym (olds 0 e (omega arith))) ∙ was (number_at kept e.key)),
    each_ranged es (λ i d lt. olds (suc i) d (omega (arith, lt))) (λ i d lt. values (suc i) d (omega (arith, lt))),
  )

  pub items_ranged : (n : Items) (es : List ItemEdit) → LeadsTo kept es n → All HasValues es → Each (StaysRanged s) (item_changes p vertex es)
  items_ranged n es leads values = each_ranged es leads.can_edit.olds values
