-- Nothing is held if nothing is outstanding.
use Rattle.std.proofs.Common.{◌≡◌, ◌≢◌, ℕ, zero, suc, pos, Bool, true, false, cond, List, [], ◌∷◌, ◌++◌, length, get_or, sum_by, Some, None, Ordering, refl, ap, sym, ◌∙◌, arith, true≢false}
use Rattle.std.specs.Prelude.{All}
use Rattle.std.proofs.lemmas.Int.{ints}
use Rattle.std.proofs.lemmas.List.Sums.{sum_by-append, sum_by-cons}
use Rattle.std.specs.List.{flat_map}
use Rattle.std.specs.Cmp.{IsTotalOrder}
use Rattle.std.specs.FinMap.{IsAntisymmetric, find}
use Rattle.std.specs.FinMap as fin
use Rattle.std.specs.FinMap.Entries.{where_key, find-where_key, is_sorted-where_key}
use Rattle.nd_map.specs.Counts.{Counts, naturals, at, entries, of_entries, or_else, same, at-of_entries, at-entries, entries_listed, entries-of_entries}
use Rattle.nd_map.specs.Entries.{find-index}
use Rattle.nd_paths.specs.declared.point.Pointstamp.{Pointstamp}
use Rattle.nd_delta.specs.Delta.{is_point, at as in_change}
use Rattle.nd_processor.specs.Keys.{value_at_total, value_at_exact}
use Rattle.nd_processor.specs.State.{ProcessorState, idle, token_point}
use Rattle.nd_processor.specs.declared.key.ValueAt.{ValueAt}
use Rattle.nd_protocol.specs.State.{ClusterState, truth}
use Rattle.nd_why.specs.Why.{in_turn, if_at, records_at, requests_at, tokens_at, held_by, held_at, amount}
use Rattle.nd_why.specs.declared.answer.Held.{Held}
use Rattle.nd_why.specs.declared.answer.Held.TheVariants.{Records, Request, Token}
use Rattle.nd_why.proofs.Sums.{counted_at}

-- ---- no entry of a map of counts is 0

is_more : ℕ → Bool
is_more zero = false
is_more (suc n) = true

zero_if : (n : ℕ) → is_more n ≡ false → n ≡ 0
unfolding is_more
zero_if zero e = refl
zero_if (suc n) e = absurd (true≢false e)

some_if : (n : ℕ) → is_more n ≡ true → n ≢ 0
unfolding is_more
some_if zero e z = true≢false (sym e)
some_if (suc n) e z = absurd (omega arith)

module _ {K : Type 0} {R : K → K → Ordering} (o : IsTotalOrder R) (tells : IsAntisymmetric R) (m : Counts R naturals) where
  has_some : K → Bool
  has_some q = is_more (at m q)

  kept : List (K × ℕ)
  kept = where_key R has_some (entries m)

  find_kept : (q : K) → find R q kept ≡ cond (has_some q) (find R q (entries m)) None
  unfolding kept
  find_kept q = find-where_key R has_some q (λ x e. ap has_some (sym (tells q x e))) (entries m)

  at_kept : (q : K) → at (of_entries {N = naturals} o kept) q ≡ at m q
  unfolding has_some
  at_kept q =
      at-of_entries naturals o tells kept q ∙ ap (or_else 0) (find_kept q)
      ∙ elim (has_some q) as (λ b. has_some q ≡ b → or_else 0 (cond b (find R q (entries m)) None) ≡ at m q) [
        | true ↦ λ e. sym (at-entries m q)
        | false ↦ λ e. sym (zero_if (at m q) e)
      ] refl

  no_zero : (q : K) → find R q kept ≡ Some 0 → ⊥
  unfolding has_some
  no_zero q e =
      elim (has_some q) as (λ b. has_some q ≡ b → cond b (find R q (entries m)) None ≡ Some 0 → ⊥) [
        | true ↦ λ t f. some_if (at m q) t (at-entries m q ∙ ap (or_else 0) f)
        | false ↦ λ t f. absurd (cc)
      ] refl (sym (find_kept q) ∙ e)

  kept_all : entries m ≡ kept
  unfolding kept
  kept_all =
      sym (ap entries (same o tells (of_entries {N = naturals} o kept) m at_kept))
      ∙ entries-of_entries naturals o tells kept (is_sorted-where_key R has_some (entries m) (entries_listed m)) no_zero

  pub some_number : All (λ e. e.1 ≢ 0) (entries m)
  some_number k d lt none =
      let e : K × ℕ = get_or (entries m) k d in
      no_zero e.0 (ap (find R e.0) (sym kept_all) ∙ find-index R o (entries m) k d (entries_listed m) lt ∙ ap Some none)

-- ---- a list whose sum is 0 is empty

none_if : (b point : Pointstamp) (h : Held) → amount h ≢ 0 → sum_by amount (if_at b point h) ≡ 0 → if_at b point h ≡ []
none_if b point h some = elim (is_point b point) as (λ c. sum_by amount (cond c (h ∷ []) []) ≡ 0 → cond c (h ∷ []) [] ≡ []) [
  | true ↦ λ e. absurd (some (omega (arith, sum_by-cons amount h [], e)))
  | false ↦ λ e. refl
]

none_both : (xs ys : List Held) → (sum_by amount xs ≡ 0 → xs ≡ []) → (sum_by amount ys ≡ 0 → ys ≡ []) → sum_by amount (xs ++ ys) ≡ 0 → xs ++ ys ≡ []
none_both xs ys f h e =
    let both = sum_by-append amount xs ys in
    λ i. f (omega (arith, both, e)) i ++ h (omega (arith, both, e)) i

none_flat : {X : Type 0} (f : X → List Held) (xs : List X) → All (λ x. sum_by amount (f x) ≡ 0 → f x ≡ []) xs → sum_by amount (flat_map f xs) ≡ 0 → flat_map f xs ≡ []
none_flat f [] h e = refl
none_flat f (x ∷ xs) h e = none_both (f x) (flat_map f xs) (h 0 x (omega arith)) (none_flat f xs (λ k d lt. h (suc k) d (omega (arith, lt)))) e

none_held : (p : ℕ) (r : ProcessorState) (b : Pointstamp) → sum_by amount (held_by p r b) ≡ 0 → held_by p r b ≡ []
unfolding held_by
none_held p r b =
    none_both (records_at p r b) (requests_at p r b ++ tokens_at p r b)
    (none_flat (λ (e : ValueAt × ℕ). if_at b e.0.point (Records p e.0.value e.1)) (entries r.records) (λ k d lt. none_if b (get_or (entries r.records) k d).0.point _ (some_number value_at_total value_at_exact r.records k d lt)))
    (none_both (requests_at p r b) (tokens_at p r b)
    (none_flat (λ (x : Pointstamp). if_at b x (Request p)) (fin.keys r.requests) (λ k d lt. none_if b (get_or (fin.keys r.requests) k d) (Request p) (λ e. absurd (omega (arith, e)))))
    (none_flat (λ (e : ℕ × ℕ). if_at b (token_point e.0 e.1) (Token p)) (fin.entries r.tokens) (λ k d lt. none_if b (token_point (get_or (fin.entries r.tokens) k d).0 (get_or (fin.entries r.tokens) k d).1) (Token p) (λ e. absurd (omega (arith, e))))))

none_turns : (f : ℕ → List Held) → ((k : ℕ) → sum_by amount (f k) ≡ 0 → f k ≡ []) → (n : ℕ) → sum_by amount (in_turn n f) ≡ 0 → in_turn n f ≡ []
none_turns f h zero e = refl
none_turns f h (suc n) e = none_both (in_turn n f) (f n) (none_turns f h n) (h n) e

-- if nothing is outstanding at b, nothing is held there
pub nothing_held : (s : ClusterState) (q : ℕ) (b : Pointstamp) → in_change (truth s.processors) b ≡ pos 0 → held_at s.processors b ≡ []
nothing_held s q b none =
    let all = counted_at s q b in
    none_turns (λ p. held_by p (get_or s.processors p idle) b) (λ p. none_held p (get_or s.processors p idle) b) (length s.processors) (omega (arith, ints, all, none))
