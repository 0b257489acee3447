-- The entries that a change stores, and the change that they represent: lookups and edits, with the integers of the code.
use Rattle.std.proofs.Common.{◌≡◌, ◌≢◌, ◌≤◌, ◌<◌, ◌+ℤ◌, ℤ, pos, unsigned_abs, List, Option, Some, None, IfSome, FitsSigned, w64, to_z, of_z, inl, inr, refl, sym, ap, subst, ◌∙◌, arith}
use Rattle.std.proofs.lemmas.Bool.{cases_lt}
use Rattle.std.proofs.lemmas.Int.{ints, to_z-of_z, fits_signed_from_abs}
use Rattle.std.specs.FinMap.{find, put}
use Rattle.nd_time.specs.Limits.{max_count}
use Rattle.nd_map.specs.Cases.{at_least, zero_or_not}
use Rattle.nd_map.specs.Counts.{integers}
use Rattle.nd_map.specs.Edits.{IsSaid, edited}
use Rattle.nd_map.specs.Listed.{without}
use Rattle.nd_map.specs.KeptLaws as laws
use Rattle.nd_map.specs.declared.tree.Edit.{Edit}
use Rattle.nd_map.specs.declared.tree.Edit.TheVariants.{Keep, Put, Remove}
use Rattle.nd_paths.specs.Point.{point_cmp, point_total, point_exact}
use Rattle.nd_paths.specs.declared.point.Pointstamp.{Pointstamp}
use Rattle.nd_delta.specs.Delta.{DeltaValue, at, set, or_zero, of_entries, entries, IsWithin}
use Rattle.nd_delta.specs.Kept.{IsCount, IsKept}

-- an integer as the code stores it
pub whole : (n : ℤ) → unsigned_abs n ≤ max_count → to_z w64 (of_z w64 n) ≡ n
whole n within = to_z-of_z w64 n (fits_signed_from_abs w64 n (omega (arith, within)))

-- an integer as the code stores it is within the limit
pub not_past : (n : ℤ) → FitsSigned w64 n → (max_count < unsigned_abs (to_z w64 (of_z w64 n)) → ⊥) → unsigned_abs n ≤ max_count
not_past n fits h = subst (λ z. unsigned_abs z ≤ max_count) (to_z-of_z w64 n fits) (at_least max_count (unsigned_abs (to_z w64 (of_z w64 n))) h)

-- e is the edit of the integer z to z + n
pub record IsMoved (n z : ℤ) (e : Edit ℤ) : Type 0 where
  pub full : max_count < unsigned_abs (z +ℤ n) → e ≡ Keep
  pub none : z +ℤ n ≡ pos 0 → e ≡ Remove
  pub some : unsigned_abs (z +ℤ n) ≤ max_count → z +ℤ n ≢ pos 0 → e ≡ Put (z +ℤ n)

-- the entries fs after n was added at the pointstamp p, unless the sum exceeds the limit
pub record IsAdded (m : DeltaValue) (p : Pointstamp) (n : ℤ) (said : Option (Edit ℤ)) (fs : List (Pointstamp × ℤ)) : Type 0 where
  pub kept : IsKept fs
  pub full : said ≡ Some Keep → max_count < unsigned_abs (at m p +ℤ n)
  pub fits : said ≢ Some Keep → unsigned_abs (at m p +ℤ n) ≤ max_count
  pub sum : said ≢ Some Keep → of_entries fs ≡ set m p (at m p +ℤ n)

module _ (es : List (Pointstamp × ℤ)) (kept : IsKept es) (m : DeltaValue) (view : of_entries es ≡ m) where
  pub listed : es ≡ entries m
  unfolding of_entries entries
  listed = laws.listed integers point_total point_exact es m view (λ _. IsCount) kept (λ _ _ count. count.some)

  -- every integer is within the limit
  pub all_within : IsWithin m
  unfolding of_entries at
  all_within q = laws.at_is integers point_total point_exact es m view (λ _. IsCount) kept (λ z. unsigned_abs z ≤ max_count) q (λ _ count. count.within) (omega arith)

  module _ (p : Pointstamp) where
    pub at_found : or_zero (find point_cmp p es) ≡ at m p
    unfolding of_entries at
    at_found = laws.at_found integers point_total point_exact es m view p

    -- a lookup that finds nothing
    pub got_none : None ≡ find point_cmp p es → pos 0 ≡ at m p
    got_none is = ap or_zero is ∙ at_found

    -- the integer that a lookup finds
    pub got_some : (n : ℤ) → Some n ≡ find point_cmp p es → (to_z w64 (of_z w64 n) ≡ at m p) × (unsigned_abs (to_z w64 (of_z w64 n)) ≤ max_count)
    got_some n is =
        let here : n ≡ at m p = ap or_zero is ∙ at_found in
        let within : unsigned_abs n ≤ max_count = rw here (all_within p) in
        (whole n within ∙ here, rw (whole n within) within)

    -- an entry is put
    put_count : (n : ℤ) (fs : List (Pointstamp × ℤ)) → IsCount n → fs ≡ put point_cmp p n es → IsKept fs
    put_count n fs count is = subst IsKept (sym is) (laws.kept_put point_cmp point_total es p (λ _. IsCount) n (λ _ _. count) kept)

    put_so : (n : ℤ) (fs : List (Pointstamp × ℤ)) → fs ≡ put point_cmp p n es → of_entries fs ≡ set m p n
    unfolding of_entries set
    put_so n fs is = laws.of_put integers point_total point_exact es m view p n fs is

    -- the same with the integer as the code stores it
    pub put_kept : (n : ℤ) (fs : List (Pointstamp × ℤ)) → unsigned_abs n ≤ max_count → n ≢ pos 0 → fs ≡ put point_cmp p (to_z w64 (of_z w64 n)) es → IsKept fs
    put_kept n fs within some is = put_count n fs (record { some = some; within = within }) (is ∙ ap (λ z. put point_cmp p z es) (whole n within))

    pub put_is : (n : ℤ) (fs : List (Pointstamp × ℤ)) → unsigned_abs n ≤ max_count → fs ≡ put point_cmp p (to_z w64 (of_z w64 n)) es → of_entries fs ≡ set m p n
    put_is n fs within is = put_so n fs (is ∙ ap (λ z. put point_cmp p z es) (whole n within))

    -- an entry is removed
    pub taken_kept : (fs : List (Pointstamp × ℤ)) → fs ≡ without point_cmp p es → IsKept fs
    taken_kept fs is = subst IsKept (sym is) (laws.kept_without point_cmp point_total es p (λ _. IsCount) kept)

    pub taken_is : (fs : List (Pointstamp × ℤ)) → fs ≡ without point_cmp p es → of_entries fs ≡ set m p (pos 0)
    unfolding of_entries set
    taken_is fs is = laws.of_without integers point_total point_exact es m view p fs is

    module _ (n : ℤ) where
      by_edit : (e : Edit ℤ) (fs : List (Pointstamp × ℤ)) → IsMoved n (at m p) e → fs ≡ edited point_cmp p n (Some e) es → IsAdded m p n (Some e) fs
      by_edit e fs move is = elim (cases_lt max_count (unsigned_abs (at m p +ℤ n))) [
        | inl past ↦ record {
          kept = subst IsKept (sym (is ∙ ap (λ d. edited point_cmp p n (Some d) es) (move.full past))) kept;
          full = λ _. past;
          fits = λ other. absurd (other (ap Some (move.full past)));
          sum = λ other. absurd (other (ap Some (move.full past)));
        }
        | inr fits ↦ elim (zero_or_not (at m p +ℤ n)) [
          | inl zero ↦
              let gone = is ∙ ap (λ d. edited point_cmp p n (Some d) es) (move.none zero) in record {
                kept = taken_kept fs gone;
                full = λ keep. let removed = move.none zero in absurd (cc (keep, removed));
                fits = λ _. fits;
                sum = λ _. taken_is fs gone ∙ ap (set m p) (sym zero);
              }
          | inr some ↦
              let here = is ∙ ap (λ d. edited point_cmp p n (Some d) es) (move.some fits some) in record {
                kept = put_count (at m p +ℤ n) fs (record { some = some; within = fits }) here;
                full = λ keep. let sum = move.some fits some in absurd (cc (keep, sum));
                fits = λ _. fits;
                sum = λ _. put_so (at m p +ℤ n) fs here;
              }
        ]
      ]

      -- n was added by an edit of what a lookup finds, or put where there was nothing
      pub added : IsCount n → (said : Option (Edit ℤ)) (fs : List (Pointstamp × ℤ)) → (P : ℤ → Edit ℤ → Type 0)
          → ((z : ℤ) (e : Edit ℤ) → IsCount z → P z e → IsMoved n z e) → IsSaid P (find point_cmp p es) said
          → fs ≡ edited point_cmp p (to_z w64 (of_z w64 n)) said es → IsAdded m p n said fs
      added count said fs P each by is = cases (find point_cmp p es) refl (kept.numbers p) said by (is ∙ ap (λ z. edited point_cmp p z said es) (whole n count.within))
        where
          cases : (x : Option ℤ) → x ≡ find point_cmp p es → IfSome x IsCount → (said : Option (Edit ℤ)) → IsSaid P x said → fs ≡ edited point_cmp p n said es → IsAdded m p n said fs
          cases None found _ None by is =
              let here : pos 0 ≡ at m p = got_none found in
              let same : n ≡ at m p +ℤ n = omega (arith, ints, here) in record {
                kept = put_count n fs count is;
                full = λ keep. absurd (cc);
                fits = λ _. subst (λ z. unsigned_abs z ≤ max_count) same count.within;
                sum = λ _. put_so n fs is ∙ ap (set m p) same;
              }
          cases None found _ (Some e) by is = absurd by
          cases (Some z) found held None by is = absurd by
          cases (Some z) found held (Some e) by is =
              by_edit e fs (subst (λ y. IsMoved n y e) (ap or_zero found ∙ at_found) (each z e held by)) is
