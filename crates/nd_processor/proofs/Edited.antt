-- The entries of a tally after an edit of a count.
use Rattle.std.proofs.Common.{◌≡◌, ◌≢◌, ◌≤◌, ◌<◌, ◌+◌, ◌-◌, ℕ, false, List, Option, Some, None, Result, Ok, Err, IfOk, IfSome, OnErr, nat_eq, refl, sym, ap, subst, ◌∙◌, arith}
use Rattle.std.proofs.Common.{inl, inr}
use Rattle.std.proofs.lemmas.Bool.{cases_lt}
use Rattle.std.proofs.lemmas.Bool.Decides.{nat_tests}
use Rattle.std.specs.declared.cmp.Ordering.{Ordering}
use Rattle.std.specs.Cmp.{IsTotalOrder}
use Rattle.std.specs.FinMap.{find}
use Rattle.nd_time.specs.Limits.{max_count}
use Rattle.nd_map.specs.Counts.{or_else}
use Rattle.nd_map.specs.Edits.{IsSaid, edited}
use Rattle.nd_map.specs.Maps.{put-same, without-none}
use Rattle.nd_map.specs.KeptLaws as laws
use Rattle.nd_map.specs.declared.tree.Edit.{Edit}
use Rattle.nd_map.specs.declared.tree.Edit.TheVariants.{Keep, Put, Remove}
use Rattle.nd_processor.specs.Kept.{IsCount, IsKept, number, put_count}

-- the edit puts a count
abbrev pub PutsCount : Edit ℕ → Type 0
PutsCount Keep = Unit {0}
PutsCount (Put n) = IsCount n
PutsCount Remove = Unit {0}

-- a count that is raised and stays within the limit
pub raised : (c n : ℕ) (e : Edit ℕ) → n ≢ 0 → (c + n ≤ max_count → e ≡ Put (c + n)) → (max_count < c + n → e ≡ Keep) → PutsCount e
raised c n e some more full = elim (cases_lt max_count (c + n)) [
  | inl past ↦ rw (full past) tt
  | inr fits ↦ rw (more fits) (record { some = λ z. some (omega (arith, z)); within = fits })
]

-- a count that is lowered and does not become 0
pub lowered : (c n : ℕ) (e : Edit ℕ) → IsCount c → (n < c → e ≡ Put (c - n)) → (c ≤ n → e ≡ Remove) → PutsCount e
lowered c n e count some all = elim (cases_lt n c) [
  | inl less ↦ rw (some less) (record { some = λ z. absurd (omega (arith, less, z)); within = let most = count.within in omega arith })
  | inr none ↦ rw (all none) tt
]

puts : (P : ℕ → Edit ℕ → Type 0) → ((c : ℕ) (e : Edit ℕ) → IsCount c → P c e → PutsCount e) → (x : Option ℕ) (e : Edit ℕ) → IfSome x IsCount → IsSaid P x (Some e) → PutsCount e
puts P each None e counts said = absurd said
puts P each (Some c) e counts said = each c e counts said

module _ {K : Type 0} (R : K → K → Ordering) (o : IsTotalOrder R) (es : List (K × ℕ)) (k : K) (kept : IsKept R es) where
  pub within : number R es k ≤ max_count
  within = laws.number_is R (λ _. IsCount) es kept.numbers (λ n. n ≤ max_count) 0 k (λ _ count. count.within) (omega arith)

  -- putting the count that is there changes nothing
  pub stays : (n : ℕ) → n ≡ number R es k → es ≡ put_count R k n es
  stays n is = by (find R k es) refl (kept.numbers k)
    where
      by : (x : Option ℕ) → find R k es ≡ x → IfSome x IsCount → es ≡ put_count R k n es
      by None t count = let none = is ∙ ap (or_else 0) t in rw none (sym (without-none R k es t))
      by (Some c) t count =
          let here = is ∙ ap (or_else 0) t in
          let other : nat_eq c 0 ≡ false = let some = count.some in grind (arith, nat_tests) in
          rw (here, other) (sym (put-same R o k c es kept.listed t))

  after : (n : ℕ) → IsCount n → (e : Option (Edit ℕ)) → ((d : Edit ℕ) → e ≡ Some d → PutsCount d) → IsKept R (edited R k n e es)
  after n count None put_is = laws.kept_put R o es k (λ _. IsCount) n (λ _ _. count) kept
  after n count (Some Keep) put_is = kept
  after n count (Some (Put m)) put_is = laws.kept_put R o es k (λ _. IsCount) m (λ _ _. put_is (Put m) refl) kept
  after n count (Some Remove) put_is = laws.kept_without R o es k (λ _. IsCount) kept

  -- the entries stay well-formed after an edit that puts counts
  pub edited_kept : {E : Type 0} (P : ℕ → Edit ℕ → Type 0) (n : ℕ) → IsCount n → ((c : ℕ) (e : Edit ℕ) → IsCount c → P c e → PutsCount e)
      → (r : Result (Option (Edit ℕ)) E) (fs : List (K × ℕ)) → IfOk r (IsSaid P (find R k es)) → IfOk r (λ e. fs ≡ edited R k n e es) → OnErr r (fs ≡ es) → IsKept R fs
  edited_kept P n count each (Err x) fs said done err = subst (IsKept R) (sym err) kept
  edited_kept P n count each (Ok e) fs said done err =
      subst (IsKept R) (sym done) (after n count e (λ d is. puts P each (find R k es) d (kept.numbers k) (subst (IsSaid P (find R k es)) is said)))
