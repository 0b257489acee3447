-- How an edit at one key changes the weight of the entries of a finite map.
use Rattle.std.specs.Prelude.{◌≡◌, ◌≢◌, ℕ, ◌+◌, true, false, cond, not, T, List, [], ◌∷◌, Option, Some, None, refl}
use Rattle.std.proofs.Common.{sym, ap, ◌∙◌, arith, Ordering, Less, Equal, Greater, true≢false}
use Rattle.std.specs.Ordering.{eq_by_cmp, is_eq, is_lt}
use Rattle.std.specs.Cmp.{IsTotalOrder}
use Rattle.std.proofs.lemmas.Cmp.{tied_itself, tied_back}
use Rattle.std.proofs.lemmas.List.Sums.{sum_by-cons}
use Rattle.std.specs.FinMap.{FinMap, IsAntisymmetric, entries, entries_sorted, get, insert, remove, find, put, is_sorted, entries-insert, get-entries, get-insert, get-remove, same_map}
use Rattle.std.specs.FinMap.Entries.{below_all, by_order, find_tied}
use Rattle.nd_map.specs.Listed.{IsListed, without}
use Rattle.nd_map.specs.Cases.{first, second, less, equal}
use Rattle.nd_map.specs.Weights.{weight, weight_at}

module _ {K X : Type 0} (R : K → K → Ordering) (o : IsTotalOrder R) (tells : IsAntisymmetric R) (f : K → X → ℕ) where
  none_below : (k : K) (x : K) (es : List (K × X)) → R k x ≡ Less → T (below_all R x es) → find R k es ≡ None
  none_below k x [] l h = refl
  none_below k x (e ∷ es) l h =
      let m : R k e.0 ≡ Less = o.trans k x e.0 l (less (R x e.0) (first (is_lt (R x e.0)) (below_all R x es) h)) in
      rw m (none_below k x es l (second (is_lt (R x e.0)) (below_all R x es) h))

  none_itself : (k : K) (es : List (K × X)) → T (below_all R k es) → find R k es ≡ None
  none_itself k [] h = refl
  none_itself k (e ∷ es) h =
      let m : R k e.0 ≡ Less = less (R k e.0) (first (is_lt (R k e.0)) (below_all R k es) h) in
      rw m (none_itself k es (second (is_lt (R k e.0)) (below_all R k es) h))

  -- how putting a value at a key changes the weight
  pub weight-put : (k : K) (v : X) (es : List (K × X)) → IsListed R es → weight f (put R k v es) + weight_at f k (find R k es) ≡ weight f es + f k v
  weight-put k v [] h = omega arith
  weight-put k v (e ∷ es) h =
      let below : T (below_all R e.0 es) = first (below_all R e.0 es) (is_sorted R es) h in
      let rest : T (is_sorted R es) = second (below_all R e.0 es) (is_sorted R es) h in
      let ih : weight f (put R k v es) + weight_at f k (find R k es) ≡ weight f es + f k v = weight-put k v es rest in
      let S : (x : K × X) (xs : List (K × X)) → weight f (x ∷ xs) ≡ f x.0 x.1 + weight f xs = sum_by-cons (λ e. f e.0 e.1) in
      elim (R k e.0) as (λ r. R k e.0 ≡ r → weight f (by_order r ((k, v) ∷ e ∷ es) ((e.0, v) ∷ es) (e ∷ put R k v es)) + weight_at f k (cond (is_eq r) (Some e.1) (find R k es)) ≡ weight f (e ∷ es) + f k v) [
        | Less ↦ λ t.
            let n : find R k es ≡ None = none_below k e.0 es t below in
            rw n (omega (arith, S (k, v) (e ∷ es)))
        | Equal ↦ λ t.
            let same : k ≡ e.0 = tells k e.0 t in
            let a : f k v ≡ f e.0 v = ap (λ x. f x v) same in
            let b : f k e.1 ≡ f e.0 e.1 = ap (λ x. f x e.1) same in
            omega (arith, S (e.0, v) es, S e es)
        | Greater ↦ λ t. omega (arith, S e (put R k v es), S e es)
      ] refl

  absent_tied : (k : K) (x : K) (es : List (K × X)) → R k x ≡ Equal → T (below_all R x es) → find R k es ≡ None
  absent_tied k x es t h = find_tied R o x k (tied_back o k x t) es ∙ none_itself x es h

  -- how removing a key changes the weight
  pub weight-without : (k : K) (es : List (K × X)) → IsListed R es → weight f (without R k es) + weight_at f k (find R k es) ≡ weight f es
  weight-without k [] h = omega arith
  weight-without k (e ∷ es) h =
      let below : T (below_all R e.0 es) = first (below_all R e.0 es) (is_sorted R es) h in
      let ih : weight f (without R k es) + weight_at f k (find R k es) ≡ weight f es = weight-without k es (second (below_all R e.0 es) (is_sorted R es) h) in
      let S : (x : K × X) (xs : List (K × X)) → weight f (x ∷ xs) ≡ f x.0 x.1 + weight f xs = sum_by-cons (λ e. f e.0 e.1) in
      elim (eq_by_cmp R k e.0) as (λ b. eq_by_cmp R k e.0 ≡ b → weight f (cond (not b) (e ∷ without R k es) (without R k es)) + weight_at f k (cond b (Some e.1) (find R k es)) ≡ weight f (e ∷ es)) [
        | true ↦ λ t.
            let tie : R k e.0 ≡ Equal = equal (R k e.0) t in
            let b : f k e.1 ≡ f e.0 e.1 = ap (λ x. f x e.1) (tells k e.0 tie) in
            let n : weight_at f k (find R k es) ≡ 0 = ap (weight_at f k) (absent_tied k e.0 es tie below) in
            omega (arith, S e es)
        | false ↦ λ t. omega (arith, S e (without R k es), S e es)
      ] refl

  pub weight-insert : (m : FinMap R X) (k : K) (v : X) → weight f (entries (insert m k v)) + weight_at f k (get m k) ≡ weight f (entries m) + f k v
  weight-insert m k v = rw (entries-insert o m k v, get-entries m k) (weight-put k v (entries m) (entries_sorted m))

  ties : (k : K) → eq_by_cmp R k k ≡ true
  ties k = ap is_eq (tied_itself o k)

  gone : (m : FinMap R X) (k : K) → get (remove m k) k ≡ None
  gone m k = get-remove o m k k ∙ ap (λ b. cond b None (get m k)) (ties k)

  -- the weight without k, plus the weight of the value at k, is the weight of the map
  whole : (m : FinMap R X) (k : K) (v : Option X) → get m k ≡ v → weight f (entries (remove m k)) + weight_at f k v ≡ weight f (entries m)
  whole m k None e =
      let same : remove m k ≡ m = same_map o tells (remove m k) m (λ q.
      get-remove o m k q ∙ elim (eq_by_cmp R q k) as (λ b. eq_by_cmp R q k ≡ b → cond b None (get m q) ≡ get m q) [
        | true ↦ λ t. sym (ap (get m) (tells q k (equal (R q k) t)) ∙ e)
        | false ↦ λ t. refl
      ] refl) in
      rw same (omega arith)
  whole m k (Some v) e =
      let same : insert (remove m k) k v ≡ m = same_map o tells (insert (remove m k) k v) m (λ q.
      get-insert o (remove m k) k v q ∙ ap (cond (eq_by_cmp R q k) (Some v)) (get-remove o m k q)
      ∙ elim (eq_by_cmp R q k) as (λ b. eq_by_cmp R q k ≡ b → cond b (Some v) (cond b None (get m q)) ≡ get m q) [
        | true ↦ λ t. sym (ap (get m) (tells q k (equal (R q k) t)) ∙ e)
        | false ↦ λ t. refl
      ] refl) in
      let w : weight f (entries (insert (remove m k) k v)) + weight_at f k (get (remove m k) k) ≡ weight f (entries (remove m k)) + f k v
      = weight-insert (remove m k) k v in
      let n : weight_at f k (get (remove m k) k) ≡ 0 = ap (weight_at f k) (gone m k) in
      let u : weight f (entries (insert (remove m k) k v)) ≡ weight f (entries m) = ap (λ x. weight f (entries x)) same in
      omega arith

  -- how the weight changes if n has the same values as m at all keys except k
  pub weight_moves : (m n : FinMap R X) (k : K) → ((q : K) → q ≢ k → get n q ≡ get m q) → weight f (entries n) + weight_at f k (get m k) ≡ weight f (entries m) + weight_at f k (get n k)
  weight_moves m n k others =
      let same : remove n k ≡ remove m k = same_map o tells (remove n k) (remove m k) (λ q.
      get-remove o n k q ∙ elim (eq_by_cmp R q k) as (λ b. eq_by_cmp R q k ≡ b → cond b None (get n q) ≡ cond b None (get m q)) [
        | true ↦ λ t. refl
        | false ↦ λ t. others q (λ e. true≢false (sym (ties k) ∙ ap (λ x. eq_by_cmp R x k) (sym e) ∙ t))
      ] refl ∙ sym (get-remove o m k q)) in
      let a : weight f (entries (remove m k)) + weight_at f k (get m k) ≡ weight f (entries m) = whole m k (get m k) refl in
      let b : weight f (entries (remove n k)) + weight_at f k (get n k) ≡ weight f (entries n) = whole n k (get n k) refl in
      let c : weight f (entries (remove n k)) ≡ weight f (entries (remove m k)) = ap (λ x. weight f (entries x)) same in
      omega arith
