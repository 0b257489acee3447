-- The entries of a tally, and the map of counts that they represent.
use Rattle.std.proofs.Common.{◌≡◌, ◌≤◌, ◌+◌, ◌-◌, ℕ, pos, ◌+ℤ◌, neg_ℤ, true, false, cond, List, nat_eq, refl, sym, ap, ◌∙◌, arith}
use Rattle.std.proofs.lemmas.Bool.Decides.{nat_tests}
use Rattle.std.specs.declared.cmp.Ordering.{Ordering}
use Rattle.std.specs.Cmp.{IsTotalOrder}
use Rattle.std.specs.FinMap.{IsAntisymmetric, put}
use Rattle.nd_time.specs.Limits.{max_count}
use Rattle.nd_map.specs.Listed.{without}
use Rattle.nd_map.specs.Counts.{Counts, naturals, natural, at, set, added, of_entries, entries}
use Rattle.nd_map.specs.KeptLaws as laws
use Rattle.nd_processor.specs.EditsLaws.{more-back, less-back}
use Rattle.nd_processor.specs.HeldLaws.{natural-less}
use Rattle.nd_processor.specs.Kept.{IsCount, IsKept, number, put_count}

module _ {K : Type 0} (R : K → K → Ordering) (o : IsTotalOrder R) (tells : IsAntisymmetric R) (es : List (K × ℕ)) (m : Counts R naturals) (is_m : of_entries o es ≡ m) where
  -- the entries that are stored are those of their map
  pub kept_entries : IsKept R es → es ≡ entries m
  kept_entries kept = laws.listed naturals o tells es m is_m (λ _. IsCount) kept (λ _ _ count. count.some)

  pub kept_within : IsKept R es → (k : K) → at m k ≤ max_count
  kept_within kept k = laws.at_is naturals o tells es m is_m (λ _. IsCount) kept (λ n. n ≤ max_count) k (λ _ count. count.within) (omega arith)

  module _ (k : K) where
    -- the count that a lookup finds
    pub number_at : number R es k ≡ at m k
    number_at = laws.at_found naturals o tells es m is_m k

    -- ---- after an edit
    changed : (n z : ℕ) (fs : List (K × ℕ)) → fs ≡ put_count R k n es → n ≡ z → of_entries {N = naturals} o fs ≡ set o m k z
    changed n z fs is same =
        elim (nat_eq n 0) as (λ b. nat_eq n 0 ≡ b → fs ≡ cond b (without R k es) (put R k n es) → of_entries {N = naturals} o fs ≡ set o m k z) [
          | true ↦ λ t here. laws.of_without naturals o tells es m is_m k fs here ∙ (let e : 0 ≡ z = grind (arith, nat_tests) in ap (set o m k) e)
          | false ↦ λ t here. laws.of_put naturals o tells es m is_m k n fs here ∙ ap (set o m k) same
        ] refl is

    pub more : (n : ℕ) (fs : List (K × ℕ)) → fs ≡ put_count R k (number R es k + n) es → of_entries o fs ≡ added o m k (pos n)
    more n fs is = changed (number R es k + n) (at m k + n) fs is (ap (λ c. c + n) number_at)

    pub more_undone : (n : ℕ) (fs : List (K × ℕ)) → fs ≡ put_count R k (number R es k + n) es → added o (of_entries o fs) k (neg_ℤ (pos n)) ≡ m
    more_undone n fs is = ap (λ (c : Counts R naturals). added o c k (neg_ℤ (pos n))) (more n fs is) ∙ more-back o tells m k n

    pub less : (n : ℕ) (fs : List (K × ℕ)) → n ≤ at m k → fs ≡ put_count R k (number R es k - n) es → of_entries o fs ≡ added o m k (neg_ℤ (pos n))
    less n fs h is =
        changed (number R es k - n) (natural (pos (at m k) +ℤ neg_ℤ (pos n))) fs is (ap (λ c. c - n) number_at ∙ sym (natural-less (at m k) n h))

    pub less_undone : (n : ℕ) (fs : List (K × ℕ)) → n ≤ at m k → fs ≡ put_count R k (number R es k - n) es → added o (of_entries o fs) k (pos n) ≡ m
    less_undone n fs h is = ap (λ (c : Counts R naturals). added o c k (pos n)) (less n fs h is) ∙ less-back o tells m k n h
