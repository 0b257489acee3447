-- How each edit of a processor changes what is outstanding in it.
--     in_records-..., in_requests-..., in_tokens-...       an edit of one map
--     held-...                  the same for a processor
use Rattle.std.specs.Prelude.{◌≡◌, ◌⊎◌, ◌≤◌, ℕ, ◌+◌, ◌-◌, pos, ◌+ℤ◌, neg_ℤ, Bool, true, false, cond, List, [], ◌∷◌, map, Option, Some, None, sum_by, refl}
use Rattle.std.proofs.Common.{Ordering, inl, inr, sym, ap, ◌∙◌, arith}
use Rattle.std.proofs.lemmas.Int.{ints}
use Rattle.std.proofs.lemmas.List.Sums.{sum_by-cons}
use Rattle.std.proofs.lemmas.Cmp.{tied_itself, nat_cmp_total}
use Rattle.std.proofs.lemmas.Map.Views.{tells_apart}
use Rattle.std.specs.Ordering.{nat_cmp, eq_by_cmp, is_eq}
use Rattle.std.specs.Cmp.{IsTotalOrder}
use Rattle.std.specs.FinMap as fin
use Rattle.nd_paths.specs.Point.{point_cmp, point_total, point_exact}
use Rattle.nd_paths.specs.declared.point.Pointstamp.{Pointstamp}
use Rattle.nd_map.specs.Counts.{Counts, naturals, natural, none, at, set, added, entries, of_entries-nil, entries-of_entries, weight-set}
use Rattle.nd_map.specs.Maps.{entries-from_entries}
use Rattle.nd_map.specs.Weights.{weight, weight_at}
use Rattle.nd_map.specs.WeightsLaws.{weight-insert, weight_moves}
use Rattle.nd_delta.specs.Delta.{is_point}
use Rattle.nd_processor.specs.Keys.{value_at_cmp, value_at_total, value_at_exact}
use Rattle.nd_processor.specs.State.{ProcessorState, Requests, token_point, one_at, in_records, in_requests, in_tokens, held}
use Rattle.nd_processor.specs.declared.key.ValueAt.{ValueAt}
use Rattle.nd_processor.specs.Held.{many_at, token_at}

-- two pointstamps are equal, or the second counts nothing at the first
pub point_cases : (x k : Pointstamp) → (x ≡ k) ⊎ (one_at k x ≡ 0)
point_cases x k =
    elim (is_point x k) as (λ b. is_point x k ≡ b → (x ≡ k) ⊎ (one_at k x ≡ 0)) [
      | true ↦ λ t. inl (tells_apart point_exact x k t)
      | false ↦ λ t. inr (ap (λ b. cond b 1 0) t)
    ] refl

pub one_at_itself : (k : Pointstamp) → one_at k k ≡ 1
one_at_itself k = ap (λ r. cond (is_eq r) 1 0) (tied_itself point_total k)

-- ---- records

pub nothing_at : (p x : Pointstamp) → many_at p 0 x ≡ 0
nothing_at p x = elim (is_point x p) as (λ b. ◌≡◌ {A = ℕ} (cond b 0 0) 0) [ true ↦ refl | false ↦ refl ]

-- the number of records of a key is replaced
pub in_records-set : (m : Counts value_at_cmp naturals) (k : ValueAt) (n : ℕ) (x : Pointstamp)
    → in_records (set value_at_total m k n) x + many_at k.point (at m k) x ≡ in_records m x + many_at k.point n x
in_records-set m k n x = weight-set value_at_total value_at_exact (λ (j : ValueAt) i. cond (is_point x j.point) i 0) m k n (nothing_at k.point x)

by_more : (b : Bool) (o p a n : ℕ) → o + cond b a 0 ≡ p + cond b (a + n) 0 → o ≡ p + cond b n 0
by_more true o p a n e = omega arith
by_more false o p a n e = omega arith

-- n records are added
pub in_records-added : (m : Counts value_at_cmp naturals) (k : ValueAt) (n : ℕ) (x : Pointstamp) → in_records (added value_at_total m k (pos n)) x ≡ in_records m x + many_at k.point n x
in_records-added m k n x = by_more (is_point x k.point) (in_records (added value_at_total m k (pos n)) x) (in_records m x) (at m k) n (in_records-set m k (natural (pos (at m k) +ℤ pos n)) x)

by_less : (b : Bool) (o p a n : ℕ) → n ≤ a → o + cond b a 0 ≡ p + cond b (a - n) 0 → o + cond b n 0 ≡ p
by_less true o p a n h e = omega arith
by_less false o p a n h e = omega arith

pub natural-less : (a n : ℕ) → n ≤ a → natural (pos a +ℤ neg_ℤ (pos n)) ≡ a - n
natural-less a n h = let e : pos a +ℤ neg_ℤ (pos n) ≡ pos (a - n) = omega (arith, ints) in ap natural e

-- n records are removed
pub in_records-taken : (m : Counts value_at_cmp naturals) (k : ValueAt) (n : ℕ) (x : Pointstamp) → n ≤ at m k
    → in_records (added value_at_total m k (neg_ℤ (pos n))) x + many_at k.point n x ≡ in_records m x
in_records-taken m k n x h =
    by_less (is_point x k.point) (in_records (added value_at_total m k (neg_ℤ (pos n))) x) (in_records m x) (at m k) n h
    (in_records-set m k (natural (pos (at m k) +ℤ neg_ℤ (pos n))) x ∙ ap (λ i. in_records m x + many_at k.point i x) (natural-less (at m k) n h))

-- ---- any finite map

module _ {K X : Type 0} {R : K → K → Ordering} (o : IsTotalOrder R) where
  pub gone : (m : fin.FinMap R X) (k : K) → fin.get (fin.remove m k) k ≡ None
  gone m k = fin.get-remove o m k k ∙ ap (λ r. cond (is_eq r) None (fin.get m k)) (tied_itself o k)

  pub stays : fin.IsAntisymmetric R → (m : fin.FinMap R X) (k q : K) → (q ≡ k → ⊥) → fin.get (fin.remove m k) q ≡ fin.get m q
  stays tells m k q other =
      fin.get-remove o m k q ∙ elim (eq_by_cmp R q k) as (λ b. eq_by_cmp R q k ≡ b → cond b None (fin.get m q) ≡ fin.get m q) [
        | true ↦ λ t. absurd (other (tells_apart tells q k t))
        | false ↦ λ t. refl
      ] refl

  pub weight-remove : fin.IsAntisymmetric R → (f : K → X → ℕ) (m : fin.FinMap R X) (k : K) → weight f (fin.entries (fin.remove m k)) + weight_at f k (fin.get m k) ≡ weight f (fin.entries m)
  weight-remove tells f m k =
      weight_moves R o tells f m (fin.remove m k) k (λ q other. stays tells m k q other)
      ∙ ap (λ v. weight f (fin.entries m) + weight_at f k v) (gone m k) ∙ (let z : weight f (fin.entries m) + 0 ≡ weight f (fin.entries m) = omega arith in z)

-- ---- requests

pub sum_by-map : {A B : Type 0} (f : B → ℕ) (g : A → B) (xs : List A) → sum_by f (map g xs) ≡ sum_by (λ x. f (g x)) xs
sum_by-map f g [] = refl
sum_by-map f g (x ∷ xs) = sum_by-cons f (g x) (map g xs) ∙ ap (λ n. f (g x) + n) (sum_by-map f g xs) ∙ sym (sum_by-cons (λ y. f (g y)) x xs)

pub in_requests-weight : (s : Requests) (x : Pointstamp) → in_requests s x ≡ weight (λ k (u : Unit {0}). one_at k x) (fin.entries s)
in_requests-weight s x = sum_by-map (λ k. one_at k x) (λ (e : Pointstamp × Unit {0}). e.0) (fin.entries s)

requested : (s : Requests) (k x : Pointstamp) → in_requests (fin.insert s k tt) x + weight_at (λ j (u : Unit {0}). one_at j x) k (fin.get s k) ≡ in_requests s x + one_at k x
requested s k x =
    let f = λ (j : Pointstamp) (u : Unit {0}). one_at j x in
    let a : in_requests (fin.insert s k tt) x ≡ weight f (fin.entries (fin.insert s k tt)) = in_requests-weight (fin.insert s k tt) x in
    let b : in_requests s x ≡ weight f (fin.entries s) = in_requests-weight s x in
    let c : weight f (fin.entries (fin.insert s k tt)) + weight_at f k (fin.get s k) ≡ weight f (fin.entries s) + one_at k x = weight-insert point_cmp point_total point_exact f s k tt in
    omega arith

-- a request is added that was not there
pub in_requests-insert : (s : Requests) (k x : Pointstamp) → fin.get s k ≡ None → in_requests (fin.insert s k tt) x ≡ in_requests s x + one_at k x
in_requests-insert s k x absent =
    let c = requested s k x in
    let d : weight_at (λ j (u : Unit {0}). one_at j x) k (fin.get s k) ≡ 0 = ap (weight_at (λ j (u : Unit {0}). one_at j x) k) absent in
    omega arith

-- a request is added, whether or not it was there
pub in_requests-insert_le : (s : Requests) (k x : Pointstamp) → in_requests (fin.insert s k tt) x ≤ in_requests s x + one_at k x
in_requests-insert_le s k x = let c = requested s k x in omega arith

-- adding a request that is already there changes nothing
pub in_requests-again : (s : Requests) (k x : Pointstamp) → fin.get s k ≡ Some tt → in_requests (fin.insert s k tt) x ≡ in_requests s x
in_requests-again s k x found =
    let c = requested s k x in
    let d : weight_at (λ j (u : Unit {0}). one_at j x) k (fin.get s k) ≡ one_at k x = ap (weight_at (λ j (u : Unit {0}). one_at j x) k) found in
    omega arith

-- a request is removed
pub in_requests-remove : (s : Requests) (k x : Pointstamp) → fin.get s k ≡ Some tt → in_requests (fin.remove s k) x + one_at k x ≡ in_requests s x
in_requests-remove s k x found =
    let f = λ (j : Pointstamp) (u : Unit {0}). one_at j x in
    let a : in_requests (fin.remove s k) x ≡ weight f (fin.entries (fin.remove s k)) = in_requests-weight (fin.remove s k) x in
    let b : in_requests s x ≡ weight f (fin.entries s) = in_requests-weight s x in
    let c : weight f (fin.entries (fin.remove s k)) + weight_at f k (fin.get s k) ≡ weight f (fin.entries s) = weight-remove point_total point_exact f s k in
    let d : weight_at f k (fin.get s k) ≡ one_at k x = ap (weight_at f k) found in
    omega arith

token_weighs : (v : ℕ) (e : Option ℕ) (x : Pointstamp) → weight_at (λ w n. one_at (token_point w n) x) v e ≡ token_at v e x
token_weighs v None x = refl
token_weighs v (Some e) x = refl

-- a token is added, or moved to another epoch
pub in_tokens-insert : (m : fin.FinMap nat_cmp ℕ) (v e : ℕ) (x : Pointstamp) → in_tokens (fin.insert m v e) x + token_at v (fin.get m v) x ≡ in_tokens m x + token_at v (Some e) x
in_tokens-insert m v e x =
    ap (λ n. in_tokens (fin.insert m v e) x + n) (sym (token_weighs v (fin.get m v) x))
    ∙ weight-insert nat_cmp nat_cmp_total fin.nat_cmp-IsAntisymmetric (λ w n. one_at (token_point w n) x) m v e

-- a token is removed
pub in_tokens-remove : (m : fin.FinMap nat_cmp ℕ) (v : ℕ) (x : Pointstamp) → in_tokens (fin.remove m v) x + token_at v (fin.get m v) x ≡ in_tokens m x
in_tokens-remove m v x =
    ap (λ n. in_tokens (fin.remove m v) x + n) (sym (token_weighs v (fin.get m v) x))
    ∙ weight-remove nat_cmp_total fin.nat_cmp-IsAntisymmetric (λ w n. one_at (token_point w n) x) m v

-- ---- a processor

pub held-added : (q : ProcessorState) (k : ValueAt) (n : ℕ) (x : Pointstamp) → held (record q { records = added value_at_total q.records k (pos n) }) x ≡ held q x + many_at k.point n x
held-added q k n x = let e = in_records-added q.records k n x in omega arith

pub held-token : (q : ProcessorState) (v e : ℕ) (x : Pointstamp)
    → held (record q { tokens = fin.insert q.tokens v e }) x + token_at v (fin.get q.tokens v) x ≡ held q x + token_at v (Some e) x
held-token q v e x = let m = in_tokens-insert q.tokens v e x in omega arith

pub held-closed : (q : ProcessorState) (v : ℕ) (x : Pointstamp) → held (record q { tokens = fin.remove q.tokens v }) x + token_at v (fin.get q.tokens v) x ≡ held q x
held-closed q v x = let m = in_tokens-remove q.tokens v x in omega arith

-- ---- empty maps

pub no_records : (x : Pointstamp) → in_records none x ≡ 0
no_records x =
    ap (λ es. weight (λ (k : ValueAt) n. cond (is_point x k.point) n 0) es)
    (ap entries (sym (of_entries-nil naturals value_at_total)) ∙ entries-of_entries naturals value_at_total value_at_exact [] tt (λ q e. absurd (cc)))

pub no_requests : (x : Pointstamp) → in_requests fin.empty x ≡ 0
no_requests x = ap (λ (es : List (Pointstamp × Unit {0})). sum_by (λ p. one_at p x) (map (λ e. e.0) es)) (entries-from_entries point_cmp point_total point_exact [] tt)

pub no_tokens : (x : Pointstamp) → in_tokens fin.empty x ≡ 0
no_tokens x = ap (λ es. weight (λ v e. one_at (token_point v e) x) es) (entries-from_entries nat_cmp nat_cmp_total fin.nat_cmp-IsAntisymmetric [] tt)
