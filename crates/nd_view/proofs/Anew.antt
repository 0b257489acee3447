-- Which counts are stored: those of the positive points.
use Rattle.std.proofs.Common.{◌≡◌, ◌≢◌, ◌≤◌, ◌+◌, ℕ, ℤ, pos, cond, List, [], ◌∷◌, length, Option, Some, None, refl, sym, ap, subst, ◌∙◌, ◌⊎◌, inl, inr, arith}
use Rattle.std.specs.Prelude.{◌<ℤ◌, Contains}
use Rattle.std.specs.FinMap.{find, put}
use Rattle.nd_map.specs.Entries.{find-head, find-index, found_at, absent_in_tail, listed-tail}
use Rattle.nd_map.specs.Listed.{IsListed}
use Rattle.nd_graph.specs.Graph.{Dataflow}
use Rattle.nd_paths.specs.Point.{point_cmp, point_total, point_exact}
use Rattle.nd_paths.specs.declared.point.Pointstamp.{Pointstamp}
use Rattle.nd_delta.specs.Delta.{DeltaValue, at, set, size, entries}
use Rattle.nd_view.specs.Kept.{IsHeldAt, IsKeptAt, AreKept, IsFor, kept_of}
use Rattle.nd_view.specs.Counting.{ArePositive}
use Rattle.nd_map.specs.Counts.{keys_of}
use Rattle.nd_view.proofs.Early.{IsEarly, among_found}
use Rattle.nd_view.proofs.Left.{IsLeft, left_all, left_has, left_next, left_rest, left_later, left_apart, left_still}
use Rattle.nd_view.proofs.Moves.{alike, apart, found_put, found_other, at-elsewhere, size_gone}
use Rattle.nd_view.proofs.Shifts.{size_grown}
use Rattle.nd_map.specs.Cases.{not_zero}

held : (g : Dataflow) (m : DeltaValue) (q : Pointstamp) (o : Option ℕ) → IsKeptAt g m q o → IsHeldAt m q o
held g m q None h = h
held g m q (Some n) h = h.0

module _ (g : Dataflow) (m : DeltaValue) (es : List (Pointstamp × ℕ)) where
  -- each count stored in a view of a graph is correct
  pub are_kept : IsFor g (kept_of m es) → AreKept g m es
  are_kept h q n found = subst (IsKeptAt g m q) found (h.each q)

  -- a count is stored exactly for each positive point
  pub are_positive : IsFor g (kept_of m es) → ArePositive m es
  are_positive h q = held g m q (find point_cmp q es) (h.each q)

  -- if all stored counts are correct, so are those of some of the entries
  pub kept_among : (part : List (Pointstamp × ℕ)) → IsListed point_cmp es → ((e : Pointstamp × ℕ) → Contains part e → Contains es e) → AreKept g m es → AreKept g m part
  kept_among part listed among h q n found =
      let at = found_at point_cmp point_exact part q n found in
      let here = among (q, n) (at.index, at.in_range, at.is) in
      let stored = find-index point_cmp point_total es here.0 (q, n) listed here.1 in
      h q n (subst (λ x. find point_cmp x.0 es ≡ Some x.1) here.2 stored)

-- each positive point is among the points that have a number
pub positive_among : (m : DeltaValue) (es : List (Pointstamp × ℕ)) (ks : List Pointstamp) → keys_of es ≡ ks → ArePositive m es → (i : ℕ) → length es ≤ i → (q : Pointstamp) → pos 0 <ℤ at m q → IsEarly ks i q
positive_among m es ks keys positive i past q up = by (find point_cmp q es) refl
  where
    by : (o : Option ℕ) → find point_cmp q es ≡ o → IsEarly ks i q
    by None e = absurd (subst (IsHeldAt m q) e (positive q) up)
    by (Some n) e = among_found es ks keys q n i past e

-- another number of a positive point
pub positive_put : (m : DeltaValue) (es fs : List (Pointstamp × ℕ)) (k : Pointstamp) (n : ℕ) → fs ≡ put point_cmp k n es → pos 0 <ℤ at m k → ArePositive m es → ArePositive m fs
positive_put m es fs k n put_is up h q = elim (alike q k) [
  | inl same ↦ subst (IsHeldAt m q) (sym (ap (find point_cmp q) put_is ∙ found_put q k n es same)) (subst (λ y. pos 0 <ℤ at m y) (sym same) up)
  | inr other ↦ subst (IsHeldAt m q) (sym (ap (find point_cmp q) put_is ∙ found_other q k n es other)) (h q)
]

-- each positive point that is not among the entries left has a number
pub record IsPickedUpTo (m : DeltaValue) (left : List (Pointstamp × ℤ)) (es : List (Pointstamp × ℕ)) : Type 0 where
  pub entries_left : IsLeft m left
  pub only : (q : Pointstamp) (n : ℕ) → find point_cmp q es ≡ Some n → pos 0 <ℤ at m q
  pub all : (q : Pointstamp) → pos 0 <ℤ at m q → (find point_cmp q es ≢ None) ⊎ (find point_cmp q left ≢ None)
  pub apart : (q : Pointstamp) → find point_cmp q left ≢ None → find point_cmp q es ≡ None
  pub listed : IsListed point_cmp es
  pub room : length es + length left ≤ size m

module _ (m : DeltaValue) where
  pub picked_none : (left : List (Pointstamp × ℤ)) (es : List (Pointstamp × ℕ)) → left ≡ entries m → es ≡ [] → IsPickedUpTo m left es
  picked_none left es left_is es_is = record {
    entries_left = left_all m left left_is;
    only = λ q n found. absurd (let none = ap (find point_cmp q) es_is in cc (none, found));
    all = λ q positive. inr (left_has m left left_is q (not_zero (at m q) positive));
    apart = λ q _. ap (find point_cmp q) es_is;
    listed = subst (IsListed point_cmp) (sym es_is) tt;
    room = let long = ap length left_is in let short = ap length es_is in omega (arith, long, short);
  }

  module _ (e : Pointstamp × ℤ) (rest : List (Pointstamp × ℤ)) (es : List (Pointstamp × ℕ)) (h : IsPickedUpTo m (e ∷ rest) es) where
    pub picked_skip : (pos 0 <ℤ e.1 → ⊥) → IsPickedUpTo m rest es
    picked_skip never = record {
      entries_left = left_rest m e rest h.entries_left;
      only = h.only;
      all = λ q positive. elim (h.all q positive) [
        | inl stored ↦ inl stored
        | inr later ↦ inr (left_later m e rest h.entries_left q (λ same. never (subst (λ z. pos 0 <ℤ z) (ap (at m) same ∙ sym (left_next m e rest h.entries_left)) positive)) later)
      ];
      apart = λ q later. h.apart q (left_still m e rest h.entries_left q later);
      listed = h.listed;
      room = let room = h.room in omega (arith, room);
    }

    pub picked_take : (fs : List (Pointstamp × ℕ)) (n : ℕ) → fs ≡ put point_cmp e.0 n es → IsListed point_cmp fs → pos 0 <ℤ e.1 → IsPickedUpTo m rest fs
    picked_take fs n put_is listed positive = record {
      entries_left = left_rest m e rest h.entries_left;
      only = λ q k found. elim (alike q e.0) [
        | inl same ↦ subst (λ z. pos 0 <ℤ z) (left_next m e rest h.entries_left ∙ ap (at m) (sym same)) positive
        | inr other ↦ h.only q k (sym (ap (find point_cmp q) put_is ∙ found_other q e.0 n es other) ∙ found)
      ];
      all = λ q up. elim (alike q e.0) [
        | inl same ↦ inl (λ none. let stored = ap (find point_cmp q) put_is ∙ found_put q e.0 n es same in cc (stored, none))
        | inr other ↦ elim (h.all q up) [
          | inl stored ↦ inl (λ none. stored (sym (ap (find point_cmp q) put_is ∙ found_other q e.0 n es other) ∙ none))
          | inr later ↦ inr (left_later m e rest h.entries_left q (apart q e.0 other) later)
        ]
      ];
      apart = λ q later. elim (alike q e.0) [
        | inl same ↦ absurd (left_apart m e rest h.entries_left q later same)
        | inr other ↦ ap (find point_cmp q) put_is ∙ found_other q e.0 n es other ∙ h.apart q (left_still m e rest h.entries_left q later)
      ];
      listed = listed;
      room = let grown = size_grown es fs e.0 n h.listed put_is in let room = h.room in omega (arith, grown, room);
    }

  -- the next entry has no number yet
  pub picked_fresh : (e : Pointstamp × ℤ) (rest : List (Pointstamp × ℤ)) (es : List (Pointstamp × ℕ)) → IsPickedUpTo m (e ∷ rest) es → find point_cmp e.0 es ≡ None
  picked_fresh e rest es h = h.apart e.0 (λ none. let found = find-head point_cmp point_total e rest in cc (found, none))

  pub picked_all : (left : List (Pointstamp × ℤ)) (es : List (Pointstamp × ℕ)) → left ≡ [] → IsPickedUpTo m left es → ArePositive m es
  picked_all left es none h q = by (find point_cmp q es) refl
    where
      by : (o : Option ℕ) → find point_cmp q es ≡ o → IsHeldAt m q o
      by None e = λ positive. elim (h.all q positive) [
        | inl stored ↦ stored e
        | inr later ↦ later (ap (find point_cmp q) none)
      ]
      by (Some n) e = h.only q n e

-- there are no more counts than entries
pub few_positive : (es : List (Pointstamp × ℕ)) (m : DeltaValue) → IsListed point_cmp es → ((q : Pointstamp) → find point_cmp q es ≢ None → at m q ≢ pos 0) → length es ≤ size m
few_positive [] m listed some = omega arith
few_positive (e ∷ es) m listed some =
    let here : at m e.0 ≢ pos 0 = some e.0 (λ none. let found = find-head point_cmp point_total e es in cc (found, none)) in
    let fewer = size_gone m e.0 here in
    let rest = few_positive es (set m e.0 (pos 0)) (listed-tail point_cmp e es listed) (λ q found. elim (alike q e.0) [
      | inl same ↦ absurd (found (ap (λ y. find point_cmp y es) same ∙ absent_in_tail point_cmp e es listed))
      | inr other ↦ λ z. some q (λ none. found (sym (ap (λ b. cond b (Some e.1) (find point_cmp q es)) other) ∙ none)) (sym (at-elsewhere m e.0 (pos 0) q other) ∙ z)
    ]) in
    omega (arith, fewer, rest)

pub few_counts : (g : Dataflow) (m : DeltaValue) (es : List (Pointstamp × ℕ)) → IsFor g (kept_of m es) → length es ≤ size m
few_counts g m es h = few_positive es m h.listed (λ q found. by q (find point_cmp q es) refl found)
  where
    by : (q : Pointstamp) (o : Option ℕ) → find point_cmp q es ≡ o → find point_cmp q es ≢ None → at m q ≢ pos 0
    by q None e found = absurd (found e)
    by q (Some n) e found = not_zero (at m q) (subst (IsHeldAt m q) e (are_positive g m es h q))
