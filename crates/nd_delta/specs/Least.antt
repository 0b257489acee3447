-- The least pointstamp with a property, and how a loop over the entries of a change finds it.
use Rattle.std.specs.Prelude.{◌≡◌, ◌≢◌, ◌<◌, ◌≤◌, ◌+◌, ℕ, ℤ, pos, List, length, Option, Some, None, refl}
use Rattle.std.proofs.Common.{get_or, Less, Equal, Greater, sym, ap, subst, ◌∙◌, arith, below_more, inl, inr}
use Rattle.std.proofs.lemmas.Bool.{cases_lt}
use Rattle.std.proofs.lemmas.Cmp.{tied_itself}
use Rattle.std.proofs.lemmas.List.{get_or_default}
use Rattle.std.specs.FinMap.{find}
use Rattle.nd_map.specs.Entries.{find-index, found_at, rises}
use Rattle.nd_paths.specs.Point.{point_cmp, point_total, point_exact}
use Rattle.nd_paths.specs.declared.point.Pointstamp.{Pointstamp}
use Rattle.nd_delta.specs.Delta.{DeltaValue, at, entries, or_zero, at-entries, sorted-entries}

-- x satisfies P, and no pointstamp that satisfies P is listed before x
pub record IsLeast (P : Pointstamp → Type 0) (x : Pointstamp) : Type 0 where
  pub is_one : P x
  pub first : (y : Pointstamp) → P y → point_cmp x y ≢ Greater

-- the points of the first i entries satisfy G
abbrev pub AllUpTo : (Pointstamp → Type 0) → List (Pointstamp × ℤ) → ℕ → Type 0
AllUpTo G es i = (k : ℕ) → k < i → (d : Pointstamp × ℤ) → G (get_or es k d).0

pub all-more : (G : Pointstamp → Type 0) (es : List (Pointstamp × ℤ)) (i : ℕ) (x : Pointstamp × ℤ) → i < length es → x ≡ get_or es i x → G x.0 → AllUpTo G es i → AllUpTo G es (i + 1)
all-more G es i x lt is g h = below_more _ _ h (λ d. subst (λ y. G y.0) (is ∙ get_or_default es i x d lt) g)

module _ (m : DeltaValue) where
  -- an entry has the integer that the change has at its point
  pub at-index : (i : ℕ) (x : Pointstamp × ℤ) → i < length (entries m) → x ≡ get_or (entries m) i x → x.1 ≡ at m x.0
  at-index i x lt is =
      let found : find point_cmp (get_or (entries m) i x).0 (entries m) ≡ Some (get_or (entries m) i x).1 = find-index point_cmp point_total (entries m) i x (sorted-entries m) lt in
      ap (λ y. y.1) is ∙ sym (ap or_zero found) ∙ at-entries m (get_or (entries m) i x).0 ∙ ap (λ y. at m y.0) (sym is)

  -- the index of the entry at a point, if the change has an integer other than 0 there
  pub place_of : (q : Pointstamp) → at m q ≢ pos 0 → record { index : ℕ; in_range : index < length (entries m); is : (get_or (entries m) index (q, at m q)).0 ≡ q }
  place_of q some = by (find point_cmp q (entries m)) refl
    where
      by : (o : Option ℤ) → find point_cmp q (entries m) ≡ o → record { index : ℕ; in_range : index < length (entries m); is : (get_or (entries m) index (q, at m q)).0 ≡ q }
      by None e = absurd (some (sym (at-entries m q) ∙ ap or_zero e))
      by (Some v) e =
          let found = found_at point_cmp point_exact (entries m) q v e in
          record { index = found.index; in_range = found.in_range; is = ap (λ y. y.0) (get_or_default (entries m) found.index (q, at m q) (q, v) found.in_range ∙ found.is) }

  -- if the points of all entries satisfy G, so does each point at which the change is not 0
  pub all-points : (G : Pointstamp → Type 0) (i : ℕ) → length (entries m) ≤ i → AllUpTo G (entries m) i → (q : Pointstamp) → at m q ≢ pos 0 → G q
  all-points G i past h q some =
      let place = place_of q some in
      subst G place.is (h place.index (omega (arith, place.in_range, past)) (q, at m q))

  -- the first entry that satisfies P is the least point with P, if all entries before it satisfy G, which excludes P
  pub least-index : (P G : Pointstamp → Type 0) → ((y : Pointstamp) → P y → at m y ≢ pos 0) → ((y : Pointstamp) → P y → G y → ⊥)
      → (i : ℕ) (x : Pointstamp × ℤ) → i < length (entries m) → x ≡ get_or (entries m) i x → AllUpTo G (entries m) i → P x.0 → IsLeast P x.0
  least-index P G some apart i x lt is before p = record {
    is_one = p;
    first = λ y q greater.
        let place = place_of y (some y q) in
        let d : Pointstamp × ℤ = (y, at m y) in
        let here : x ≡ get_or (entries m) i d = is ∙ get_or_default (entries m) i x d lt in
        elim (cases_lt place.index i) [
          | inl earlier ↦ apart y q (subst G place.is (before place.index earlier d))
          | inr later ↦ elim (cases_lt i place.index) [
            | inl rising ↦
                let less : point_cmp x.0 y ≡ Less
                = ap (λ z. point_cmp z.0 y) here ∙ ap (point_cmp (get_or (entries m) i d).0) (sym place.is) ∙ rises point_cmp point_total (entries m) (sorted-entries m) i place.index d rising place.in_range in
                absurd (cc (less, greater))
            | inr back ↦
                let one : place.index ≡ i = omega (arith, later, back) in
                let tied : point_cmp x.0 y ≡ Equal = ap (λ z. point_cmp z y) (ap (λ z. z.0) here ∙ ap (λ k. (get_or (entries m) k d).0) (sym one) ∙ place.is) ∙ tied_itself point_total y in
                absurd (cc (tied, greater))
          ]
        ];
  }
