-- Views whose precursor counts are those of a graph.
use Rattle.std.proofs.Common.{◌≡◌, ℕ, ℤ, pos, List, [], Option, Some, None, refl, sym, ap, subst, ◌∙◌, ◌⊎◌, inl, inr, zero, suc, negsuc, arith, Result, Ok, Err, ◌<◌}
use Rattle.std.specs.Prelude.{◌<ℤ◌, OnOk, OnErr}
use Rattle.std.proofs.lemmas.Int.{ints}
use Rattle.std.specs.FinMap.{find, put}
use Rattle.std.specs.FinMap.Entries.{same_entries}
use Rattle.nd_map.specs.Maps.{listed-put, listed-without}
use Rattle.nd_graph.specs.Graph.{Dataflow}
use Rattle.nd_map.specs.Listed.{IsListed, without}
use Rattle.nd_paths.specs.Point.{point_cmp, point_total, point_exact}
use Rattle.nd_paths.specs.declared.point.Pointstamp.{Pointstamp}
use Rattle.nd_delta.specs.Delta.{DeltaValue, none, at, set, at-none, entries, or_zero, at-entries, some-entry}
use Rattle.nd_delta.specs.Least.{place_of}
use Rattle.nd_view.specs.View.{IsOnFrontier}
use Rattle.nd_view.specs.Kept.{Kept, IsKeptAt, IsFor, kept_of}
use Rattle.nd_view.proofs.Moves.{kept_positive, kept_other, first_one, alike, found_other, found_gone, found_still}
use Rattle.nd_map.specs.Cases.{not_zero}

pub signed : (z : ℤ) → (pos 0 <ℤ z) ⊎ (pos 0 <ℤ z → ⊥)
signed (pos zero) = inr (λ p. absurd (omega (arith, ints, p)))
signed (pos (suc n)) = inl (omega (arith, ints))
signed (negsuc n) = inr (λ p. absurd (omega (arith, ints, p)))

pub for_none : (g : Dataflow) (m : DeltaValue) (es : List (Pointstamp × ℕ)) → m ≡ none → es ≡ [] → IsFor g (kept_of m es)
for_none g m es m_is es_is = record {
  listed = subst (IsListed point_cmp) (sym es_is) tt;
  each = λ q. subst (IsKeptAt g m q) (sym (ap (find point_cmp q) es_is)) (λ p. not_zero (at m q) p (ap (λ c. at c q) m_is ∙ at-none q));
}

-- an integer of the same sign
pub for_stay : (g : Dataflow) (m n : DeltaValue) (es : List (Pointstamp × ℕ)) (x : Pointstamp) (z : ℤ) → IsFor g (kept_of m es) → n ≡ set m x z
    → ((pos 0 <ℤ z → pos 0 <ℤ at m x) × (pos 0 <ℤ at m x → pos 0 <ℤ z)) → IsFor g (kept_of n es)
for_stay g m n es x z h is sign = record {
  listed = h.listed;
  each = λ q. elim (signed z) [
    | inl p ↦ kept_positive m n x z is g (sign.0 p) p q (find point_cmp q es) (h.each q)
    | inr never ↦ kept_other m n x z is g (λ p. never (sign.1 p)) never q (find point_cmp q es) (h.each q)
  ];
}

-- the same if the change may have been refused
pub for_same : (g : Dataflow) {E : Type 0} (r : Result (Unit {0}) E) (v w : Kept) (x : Pointstamp) (z : ℤ) → OnOk r (w.map ≡ set v.map x z) → OnErr r (w.map ≡ v.map) → w.counts ≡ v.counts
    → ((pos 0 <ℤ z → pos 0 <ℤ at v.map x) × (pos 0 <ℤ at v.map x → pos 0 <ℤ z)) → IsFor g v → IsFor g w
for_same g (Ok u) v w x z ok err same sign h = for_stay g v.map w.map w.counts x z (subst (λ es. IsFor g (kept_of v.map es)) (sym same) h) ok sign
for_same g (Err e) v w x z ok err same sign h = subst (IsFor g) (λ j. kept_of (sym err j) (sym same j)) h

-- ---- precursor counts of 0
pub frontier_of_none : (g : Dataflow) (m : DeltaValue) (q : Pointstamp) → IsKeptAt g m q (Some 0) → IsOnFrontier g m q
frontier_of_none g m q kept = record {
  positive = kept.0;
  first = λ y p.
      let f = kept.1.0 in
      let place = place_of f y (λ z. not_zero (at m y) p.positive (sym (kept.1.1.all y p) ∙ z)) in
      omega (arith, place.in_range, kept.1.2);
}

pub not_on_frontier : (g : Dataflow) (m : DeltaValue) (q : Pointstamp) (n : ℕ) → 0 < n → IsKeptAt g m q (Some n) → IsOnFrontier g m q → ⊥
not_on_frontier g m q n more kept on =
    let f = kept.1.0 in
    let one = first_one (entries f) (omega (arith, more, kept.1.2)) in
    on.first one.point (kept.1.1.only one.point (λ z. some-entry f one.point one.value one.found (sym (ap or_zero one.found) ∙ at-entries f one.point ∙ z)))

-- a point is on the frontier exactly if its precursor count is 0
pub zero_of_frontier : (g : Dataflow) (v : Kept) → IsFor g v → (q : Pointstamp) → IsOnFrontier g v.map q → find point_cmp q v.counts ≡ Some 0
zero_of_frontier g v h q on = by (find point_cmp q v.counts) (h.each q)
  where
    by : (o : Option ℕ) → IsKeptAt g v.map q o → o ≡ Some 0
    by None never = absurd (never on.positive)
    by (Some zero) kept = refl
    by (Some (suc n)) kept = absurd (not_on_frontier g v.map q (suc n) (omega arith) kept on)

pub frontier_of_zero : (g : Dataflow) (v : Kept) → IsFor g v → (q : Pointstamp) → find point_cmp q v.counts ≡ Some 0 → IsOnFrontier g v.map q
frontier_of_zero g v h q e = frontier_of_none g v.map q (subst (IsKeptAt g v.map q) e (h.each q))

-- ---- what is added and removed again
pub kept_none : (g : Dataflow) (m : DeltaValue) (q : Pointstamp) (o : Option ℕ) → IsKeptAt g m q o → (pos 0 <ℤ at m q → ⊥) → o ≡ None
kept_none g m q None h never = refl
kept_none g m q (Some n) h never = absurd (never h.0)

pub taken_out : (g : Dataflow) (v : Kept) (x : Pointstamp) (c : ℕ) → IsFor g v → (pos 0 <ℤ at v.map x → ⊥) → without point_cmp x (put point_cmp x c v.counts) ≡ v.counts
taken_out g v x c h never =
    same_entries point_cmp point_total point_exact (without point_cmp x (put point_cmp x c v.counts)) v.counts
    (listed-without point_cmp x (put point_cmp x c v.counts) (listed-put point_cmp point_total x c v.counts h.listed)) h.listed
    (λ q. elim (alike q x) [
      | inl same ↦ found_gone q x (put point_cmp x c v.counts) same ∙ sym (ap (λ y. find point_cmp y v.counts) same ∙ kept_none g v.map x (find point_cmp x v.counts) (h.each x) never)
      | inr other ↦ found_still q x (put point_cmp x c v.counts) other ∙ found_other q x c v.counts other
    ])
