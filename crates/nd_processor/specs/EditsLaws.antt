-- Each edit of a processor's maps is undone by its inverse.
use Rattle.std.specs.Prelude.{◌≡◌, ◌≤◌, ◌<◌, ℕ, zero, suc, ◌+◌, ◌-◌, ℤ, pos, negsuc, ◌+ℤ◌, neg_ℤ, Bool, true, false, cond, List, [], ◌∷◌, length, Option, Some, None, slice_index_or, slice_set, refl}
use Rattle.std.proofs.Common.{Ordering, sym, ap, ◌∙◌, arith}
use Rattle.std.proofs.lemmas.Int.{ints}
use Rattle.std.proofs.lemmas.List.{set-get_or, get_or-set_same}
use Rattle.std.proofs.lemmas.Map.Views.{tells_apart}
use Rattle.std.specs.Ordering.{eq_by_cmp}
use Rattle.std.specs.Cmp.{IsTotalOrder}
use Rattle.std.specs.FinMap as fin
use Rattle.nd_paths.specs.declared.point.Pointstamp.{Pointstamp}
use Rattle.nd_map.specs.Counts.{Counts, naturals, natural, none as no_items, at as count_at, added, added-back}
use Rattle.nd_delta.specs.Delta.{DeltaValue, at, set, at-set_same, set-set, set-at}
use Rattle.nd_vertex.specs.Items.{Items, item_total, item_exact}
use Rattle.nd_vertex.specs.Edits.{item_of, with_item, number_of}
use Rattle.nd_vertex.specs.Table.{is_zero}
use Rattle.nd_vertex.specs.declared.key.ItemKey.{ItemKey}
use Rattle.nd_map.specs.Counts.{set-back}
use Rattle.nd_processor.specs.HeldLaws.{natural-less}
use Rattle.nd_processor.specs.Edits.{with_value, with_vertex_item, more_unsent}

-- ---- counts

module _ {K : Type 0} {R : K → K → Ordering} (o : IsTotalOrder R) (tells : fin.IsAntisymmetric R) where
  -- subtracting what was added restores the counts
  pub more-back : (m : Counts R naturals) (k : K) (n : ℕ) → added o (added o m k (pos n)) k (neg_ℤ (pos n)) ≡ m
  more-back m k n = added-back o tells m k (pos n) refl

  -- adding what was subtracted restores the counts
  pub less-back : (m : Counts R naturals) (k : K) (n : ℕ) → n ≤ count_at m k → added o (added o m k (neg_ℤ (pos n))) k (pos n) ≡ m
  less-back m k n h =
      let fits : pos (natural (pos (count_at m k) +ℤ neg_ℤ (pos n))) ≡ pos (count_at m k) +ℤ neg_ℤ (pos n)
      = ap pos (natural-less (count_at m k) n h) ∙ (let e : pos (count_at m k - n) ≡ pos (count_at m k) +ℤ neg_ℤ (pos n) = omega (arith, ints) in e) in
      let twice : neg_ℤ (neg_ℤ (pos n)) ≡ pos n = omega (arith, ints) in
      ap (λ z. added o (added o m k (neg_ℤ (pos n))) k z) (sym twice) ∙ added-back o tells m k (neg_ℤ (pos n)) fits

over : {A : Type 0} (b : Bool) (x y z : A) → (b ≡ true → x ≡ z) → cond b x (cond b y z) ≡ z
over true x y z e = e refl
over false x y z e = refl

module _ {K X : Type 0} {R : K → K → Ordering} (o : IsTotalOrder R) where
  pub get-with_value : (m : fin.FinMap R X) (k : K) (x : Option X) (q : K) → fin.get (with_value m k x) q ≡ cond (eq_by_cmp R q k) x (fin.get m q)
  get-with_value m k None q = fin.get-remove o m k q
  get-with_value m k (Some v) q = fin.get-insert o m k v q

  -- writing the old value back restores the map
  pub value-back : fin.IsAntisymmetric R → (m : fin.FinMap R X) (k : K) (old new : Option X) → fin.get m k ≡ old → with_value (with_value m k new) k old ≡ m
  value-back tells m k old new is =
      fin.same_map o tells _ _ (λ q.
      get-with_value (with_value m k new) k old q ∙ ap (cond (eq_by_cmp R q k) old) (get-with_value m k new q)
      ∙ over (eq_by_cmp R q k) old new (fin.get m q) (λ e. sym is ∙ ap (fin.get m) (sym (tells_apart tells q k e))))

item_number : (z : ℤ) → number_of (cond (is_zero z) None (Some z)) ≡ z
item_number (pos zero) = refl
item_number (pos (suc n)) = refl
item_number (negsuc n) = refl

-- writing an item's old number back restores the items
pub item-back : (m : Items) (k : ItemKey) (old new : Option ℤ) → item_of m k ≡ old → with_item (with_item m k new) k old ≡ m
item-back m k old new is = set-back item_total item_exact m k (number_of new) (number_of old) (ap number_of (sym is) ∙ item_number (count_at m k))

written_over : {A : Type 0} (xs : List A) (i : ℕ) (x y : A) → slice_set (slice_set xs i x) i y ≡ slice_set xs i y
written_over [] i x y = refl
written_over (z ∷ xs) zero x y = refl
written_over (z ∷ xs) (suc i) x y = ap (λ ys. z ∷ ys) (written_over xs i x y)

pub vertex_item-back : (items : List Items) (vertex : ℕ) (k : ItemKey) (old new : Option ℤ) → vertex < length items → item_of (slice_index_or items vertex no_items) k ≡ old
    → with_vertex_item (with_vertex_item items vertex k new) vertex k old ≡ items
vertex_item-back items vertex k old new within is =
    let m : Items = slice_index_or items vertex no_items in
    ap (λ x. slice_set (slice_set items vertex (with_item m k new)) vertex (with_item x k old)) (get_or-set_same items vertex (with_item m k new) no_items within)
    ∙ written_over items vertex (with_item m k new) (with_item (with_item m k new) k old)
    ∙ ap (slice_set items vertex) (item-back m k old new is)
    ∙ set-get_or items vertex no_items

pub unsent-back : (m : DeltaValue) (x : Pointstamp) (n : ℤ) → more_unsent (more_unsent m x n) x (neg_ℤ n) ≡ m
unsent-back m x n =
    let back : at (more_unsent m x n) x +ℤ neg_ℤ n ≡ at m x = ap (λ z. z +ℤ neg_ℤ n) (at-set_same m x (at m x +ℤ n)) ∙ (let e : at m x +ℤ n +ℤ neg_ℤ n ≡ at m x = omega (arith, ints) in e) in
    ap (set (more_unsent m x n) x) back ∙ set-set m x (at m x +ℤ n) (at m x) ∙ set-at m x
