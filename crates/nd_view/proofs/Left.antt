-- The entries of a change that a loop has not yet visited.
use Rattle.std.proofs.Common.{◌≡◌, ◌≢◌, suc, ℤ, pos, cond, List, ◌∷◌, Option, Some, None, Less, refl, sym, ap, subst, ◌∙◌, inl, inr, arith}
use Rattle.std.proofs.lemmas.Cmp.{tied_itself}
use Rattle.std.specs.FinMap.{find}
use Rattle.nd_map.specs.Entries.{find-head, found_at, rises, absent_in_tail, listed-tail}
use Rattle.nd_map.specs.Listed.{IsListed}
use Rattle.nd_paths.specs.Point.{point_cmp, point_total, point_exact}
use Rattle.nd_paths.specs.declared.point.Pointstamp.{Pointstamp}
use Rattle.nd_delta.specs.Delta.{DeltaValue, at, entries, or_zero, at-entries, sorted-entries}
use Rattle.nd_delta.specs.Least.{IsLeast}
use Rattle.nd_view.proofs.Moves.{alike}

-- entries of m in the order of listing
pub record IsLeft (m : DeltaValue) (left : List (Pointstamp × ℤ)) : Type 0 where
  pub listed : IsListed point_cmp left
  pub right : (q : Pointstamp) (v : ℤ) → find point_cmp q left ≡ Some v → v ≡ at m q

module _ (m : DeltaValue) where
  pub left_all : (left : List (Pointstamp × ℤ)) → left ≡ entries m → IsLeft m left
  left_all left is = record {
    listed = subst (IsListed point_cmp) (sym is) (sorted-entries m);
    right = λ q v found. sym (ap or_zero (ap (find point_cmp q) (sym is) ∙ found)) ∙ at-entries m q;
  }

  -- each point with an integer is among all entries
  pub left_has : (left : List (Pointstamp × ℤ)) → left ≡ entries m → (q : Pointstamp) → at m q ≢ pos 0 → find point_cmp q left ≢ None
  left_has left is q some none = some (sym (at-entries m q) ∙ ap or_zero (ap (find point_cmp q) (sym is) ∙ none))

  module _ (e : Pointstamp × ℤ) (rest : List (Pointstamp × ℤ)) (h : IsLeft m (e ∷ rest)) where
    -- the integer of the next entry
    pub left_next : e.1 ≡ at m e.0
    left_next = h.right e.0 e.1 (find-head point_cmp point_total e rest)

    pub left_rest : IsLeft m rest
    left_rest = record {
      listed = listed-tail point_cmp e rest h.listed;
      right = λ q v found. elim (alike q e.0) [
        | inl same ↦ absurd (let none = ap (λ y. find point_cmp y rest) same ∙ absent_in_tail point_cmp e rest h.listed in cc (none, found))
        | inr other ↦ h.right q v (ap (λ b. cond b (Some e.1) (find point_cmp q rest)) other ∙ found)
      ];
    }

    -- a point among the rest is another, and among the entries left
    pub left_apart : (q : Pointstamp) → find point_cmp q rest ≢ None → q ≡ e.0 → ⊥
    left_apart q later same = later (ap (λ y. find point_cmp y rest) same ∙ absent_in_tail point_cmp e rest h.listed)

    pub left_still : (q : Pointstamp) → find point_cmp q rest ≢ None → find point_cmp q (e ∷ rest) ≢ None
    left_still q later none = elim (alike q e.0) [
      | inl same ↦ left_apart q later same
      | inr other ↦ later (sym (ap (λ b. cond b (Some e.1) (find point_cmp q rest)) other) ∙ none)
    ]

    -- another point is among the rest
    pub left_later : (q : Pointstamp) → (q ≡ e.0 → ⊥) → find point_cmp q (e ∷ rest) ≢ None → find point_cmp q rest ≢ None
    left_later q never some none = elim (alike q e.0) [
      | inl same ↦ absurd (never same)
      | inr other ↦ some (ap (λ b. cond b (Some e.1) (find point_cmp q rest)) other ∙ none)
    ]

    -- the next entry is listed before those of the rest
    below : (q : Pointstamp) (o : Option ℤ) → find point_cmp q rest ≡ o → o ≢ None → point_cmp e.0 q ≡ Less
    below q None is some = absurd (some refl)
    below q (Some v) is some =
        let found = found_at point_cmp point_exact rest q v is in
        ap (point_cmp e.0) (ap (λ y. y.0) (sym found.is)) ∙ rises point_cmp point_total (e ∷ rest) h.listed 0 (suc found.index) (q, v) (omega arith) (omega (arith, found.in_range))

    -- the next entry's point is the least with a property that only points of entries left have
    pub left_least : (P : Pointstamp → Type 0) → ((q : Pointstamp) → P q → find point_cmp q (e ∷ rest) ≢ None) → P e.0 → IsLeast P e.0
    left_least P all here = record {
      is_one = here;
      first = λ q p greater. elim (alike q e.0) [
        | inl same ↦ let tied = ap (point_cmp e.0) same ∙ tied_itself point_total e.0 in absurd (cc (tied, greater))
        | inr other ↦ let less = below q (find point_cmp q rest) refl (λ none. all q p (ap (λ b. cond b (Some e.1) (find point_cmp q rest)) other ∙ none)) in absurd (cc (less, greater))
      ];
    }
