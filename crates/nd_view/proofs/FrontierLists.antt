-- The list of the points whose precursor count is 0, built entry by entry.
use Rattle.std.proofs.Common.{◌≡◌, ◌≢◌, ◌<◌, ◌≤◌, ◌+◌, ℕ, zero, suc, List, [], ◌∷◌, ◌++◌, length, get_or, Some, sym, ap, subst, ◌∙◌, inl, inr, arith, below_more}
use Rattle.std.specs.Prelude.{Contains}
use Rattle.std.specs.FinMap.{find}
use Rattle.std.proofs.lemmas.List.{get_or_default}
use Rattle.std.proofs.lemmas.List.Elements.{Contains-append_left, Contains-append_right, Contains-append_cases}
use Rattle.nd_map.specs.Entries.{found_at}
use Rattle.nd_map.specs.Listed.{IsListed}
use Rattle.nd_paths.specs.Point.{point_cmp, point_exact}
use Rattle.nd_paths.specs.declared.point.Pointstamp.{Pointstamp}
use Rattle.nd_view.specs.Kept.{IsFrontierList}
use Rattle.nd_view.proofs.Early.{entry_found}

module _ (es : List (Pointstamp × ℕ)) where
  -- the list has only points with count 0, and all of those among the first entries
  pub record IsListedUpTo (i : ℕ) (frontier : List Pointstamp) : Type 0 where
    pub only : (q : Pointstamp) → Contains frontier q → find point_cmp q es ≡ Some 0
    pub all : (k : ℕ) → k < i → (d : Pointstamp × ℕ) → (get_or es k d).1 ≡ 0 → Contains frontier (get_or es k d).0

  -- before the first entry
  pub listed_none : (i : ℕ) → i ≡ 0 → IsListedUpTo i []
  listed_none i first = record {
    only = λ q among. let lt = among.1 in absurd (omega (arith, lt));
    all = λ k lt d e. absurd (omega (arith, lt, first));
  }

  one : (x q : Pointstamp) → Contains (x ∷ []) q → x ≡ q
  one x q (zero, lt, e) = e
  one x q (suc k, lt, e) = absurd (omega (arith, lt))

  module _ (listed : IsListed point_cmp es) (i : ℕ) (x : Pointstamp × ℕ) (lt : i < length es) (is : x ≡ get_or es i x) where
    pub listed_take : (frontier more : List Pointstamp) → more ≡ frontier ++ x.0 ∷ [] → x.1 ≡ 0 → IsListedUpTo i frontier → IsListedUpTo (i + 1) more
    listed_take frontier more more_is none h = record {
      only = λ q among. elim (Contains-append_cases frontier (x.0 ∷ []) q (subst (λ l. Contains l q) more_is among)) [
        | inl before ↦ h.only q before
        | inr here ↦ ap (λ y. find point_cmp y es) (sym (one x.0 q here)) ∙ entry_found es i x listed lt is ∙ ap Some none
      ];
      all = below_more _ _
          (λ k less d e. subst (λ l. Contains l (get_or es k d).0) (sym more_is) (Contains-append_left frontier (x.0 ∷ []) (get_or es k d).0 (h.all k less d e)))
          (λ d e. subst (λ l. Contains l (get_or es i d).0) (sym more_is) (Contains-append_right frontier (x.0 ∷ []) (get_or es i d).0 (0, omega arith, ap (λ y. y.0) (is ∙ get_or_default es i x d lt))));
    }

    pub listed_skip : (frontier : List Pointstamp) → x.1 ≢ 0 → IsListedUpTo i frontier → IsListedUpTo (i + 1) frontier
    listed_skip frontier some h = record {
      only = h.only;
      all = below_more _ _ h.all (λ d e. absurd (some (ap (λ y. y.1) (is ∙ get_or_default es i x d lt) ∙ e)));
    }

  -- after the last entry
  pub listed_done : (i room : ℕ) (frontier : List Pointstamp) → length es ≤ i → length es ≤ room → IsListedUpTo i frontier → IsFrontierList es frontier room
  listed_done i room frontier past enough h = record {
    all = λ q e.
        let found = found_at point_cmp point_exact es q 0 e in
        subst (Contains frontier) (ap (λ y. y.0) found.is) (h.all found.index (omega (arith, found.in_range, past)) (q, 0) (ap (λ y. y.1) found.is));
    only = h.only;
    enough = enough;
  }
