-- A finite map to numbers in which no key has 0, generic in its keys and its numbers.
--     Number, naturals, integers     the numbers that a map may have, each an integer
--     none, at, set             the empty map; the number at a key; the map with another number at one key
--     added                     an integer added to the number at one key
--     only                      the map restricted to the keys that pass a test
--     merged                    two maps combined number by number
--     entries, size             the keys that have a number, each with its number, in the order of listing; how many there are
--     same                      maps with the same number at each key are equal
--     changed                   at how many keys two maps differ
--     set-back, added-back      setting a number back, or subtracting what was added, restores the map
--     size-set                  a new key adds one entry
--     weight-differs, -set      how one number changes the weight of the entries
use Rattle.std.specs.Prelude.{◌≡◌, ◌≢◌, ℕ, zero, suc, ◌+◌, ℤ, pos, negsuc, ◌+ℤ◌, ◌-ℤ◌, neg_ℤ, Bool, true, false, cond, ◌||◌, List, [], ◌∷◌, ◌++◌, map, length, Option, Some, None, is_some, refl}
use Rattle.std.proofs.Common.{T, sym, ap, ◌∙◌, arith}
use Rattle.std.proofs.lemmas.Int.{ints}
use Rattle.std.proofs.lemmas.Cmp.{tied_itself}
use mathlib.Core.HLevel.{Σ_prop_path}
use Rattle.std.specs.Coded.{Coded}
use base.Stored.{coded_via}
use Rattle.std.specs.List.{list_any}
use Rattle.std.specs.declared.cmp.Ordering.{Ordering}
use Rattle.std.specs.Ordering.{eq_by_cmp, is_eq}
use Rattle.std.specs.Cmp.{IsTotalOrder}
use Rattle.std.specs.FinMap.{FinMap, IsAntisymmetric, get, insert, remove, find, same_map, get-insert, get-remove, get-empty, contains_key-keys, get-entries, entries_sorted, is_sorted}
use Rattle.std.specs.FinMap.Entries.{is_some-find, same_entries}
use Rattle.std.proofs.lemmas.List.Folds.{list_any-append}
use Rattle.std.specs.FinMap as fin
use Rattle.std.proofs.lemmas.Map.Views.{tells_apart}
use Rattle.nd_map.specs.Weights.{weight, weight_at}
use Rattle.nd_map.specs.WeightsLaws.{weight_moves}

-- a type of numbers, each of which stands for an integer
pub record Number (X : Type 0) : Type 0 where
  pub int : X → ℤ
  pub of_int : ℤ → X
  pub kept : (x : X) → of_int (int x) ≡ x
  pub kept_zero : int (of_int (pos 0)) ≡ pos 0
  pub kept_more : (x : X) (n : ℕ) → int (of_int (int x +ℤ pos n)) ≡ int x +ℤ pos n

abbrev pub natural : ℤ → ℕ
natural (pos n) = n
natural (negsuc n) = 0

abbrev pub naturals : Number ℕ
naturals = record { int = pos; of_int = natural; kept = λ _. refl; kept_zero = refl; kept_more = λ _ _. refl }

abbrev pub integers : Number ℤ
integers = record { int = λ z. z; of_int = λ z. z; kept = λ _. refl; kept_zero = refl; kept_more = λ _ _. refl }

abbrev pub nil : {X : Type 0} → Number X → X
nil N = N.of_int (pos 0)

-- a finite map without zeros
pub record Counts {K X : Type 0} (R : K → K → Ordering) (N : Number X) : Type 0 where
  map : FinMap R X
  nonzero : (q : K) → get map q ≢ Some (nil N)

abbrev pub or_else : {X : Type 0} → X → Option X → X
or_else z None = z
or_else z (Some x) = x

or_else_exact : {X : Type 0} (z : X) (a b : Option X) → a ≢ Some z → b ≢ Some z → or_else z a ≡ or_else z b → a ≡ b
or_else_exact z None None p q e = refl
or_else_exact z None (Some x) p q e = absurd (q (ap Some (sym e)))
or_else_exact z (Some x) None p q e = absurd (p (ap Some e))
or_else_exact z (Some x) (Some y) p q e = ap Some e

pub or_else-cond : {X : Type 0} (z : X) (b : Bool) (x y : Option X) → or_else z (cond b x y) ≡ cond b (or_else z x) (or_else z y)
or_else-cond z true x y = refl
or_else-cond z false x y = refl

kept_some : {X : Type 0} (z : X) (b : Bool) (v : X) (x : Option X) → v ≢ z → x ≢ Some z → cond b (Some v) x ≢ Some z
kept_some z true v x p q e = p (ap (or_else z) e)
kept_some z false v x p q e = q e

dropped : {X : Type 0} (z : X) (b : Bool) (x : Option X) → x ≢ Some z → cond b None x ≢ Some z
dropped z true x q e = absurd (cc)
dropped z false x q e = q e

one_of : {X : Type 0} (b c : Bool) (x y z : X) → (b ≡ true → x ≡ y) → cond b x (cond c y z) ≡ cond (b || c) y z
one_of true c x y z e = e refl
one_of false c x y z e = refl

either : {X : Type 0} (z : X) (b : Bool) (x : X) → (b ≡ false → x ≡ z) → cond b x z ≡ x
either z true x p = refl
either z false x p = sym (p refl)

module _ {K X : Type 0} {R : K → K → Ordering} {N : Number X} where
  -- the number at a key
  pub at : Counts R N → K → X
  at m q = or_else (nil N) (get m.map q)

  -- the number at a key as an integer
  abbrev pub int_at : Counts R N → K → ℤ
  int_at m q = N.int (at m q)

  pub map_of : Counts R N → FinMap R X
  map_of m = m.map

  pub same_maps : (m n : Counts R N) → map_of m ≡ map_of n → m ≡ n
  unfolding map_of
  same_maps m n e =
      let pairs : ◌≡◌ {A = (f : FinMap R X) × ((q : K) → get f q ≢ Some (nil N))} (m.map, m.nonzero) (n.map, n.nonzero) = Σ_prop_path (λ f. hlevel) e in
      λ i. record { map = (pairs i).0; nonzero = (pairs i).1 }

  abbrev pub code : Coded K → Coded X → Coded (Counts R N)
  code k x = coded_via (fin.code k x) map_of same_maps

  -- the map without keys
  pub none : Counts R N
  none = record { map = fin.empty; nonzero = λ q e. absurd (cc (get-empty {X = X} R q, e)) }

  -- the keys that have a number, each with its number, in the order of listing
  pub entries : Counts R N → List (K × X)
  entries m = fin.entries m.map

  abbrev pub size : Counts R N → ℕ
  size m = length (entries m)

pub at-none : {K X : Type 0} (R : K → K → Ordering) (N : Number X) (q : K) → at (none {R = R} {N = N}) q ≡ nil N
unfolding at none
at-none R N q = ap (or_else (nil N)) (get-empty R q)

-- the keys of a list of entries, in the same order
abbrev pub keys_of : {K X : Type 0} → List (K × X) → List K
keys_of es = map (λ e. e.0) es

-- whether a key is in the list
abbrev pub has_key : {K : Type 0} → (K → K → Ordering) → K → List K → Bool
has_key R q ks = list_any (eq_by_cmp R q) ks

module _ {K X : Type 0} {R : K → K → Ordering} {N : Number X} where
  -- a key without an entry has no number
  pub at-absent : (m : Counts R N) (q : K) → has_key R q (keys_of (entries m)) ≡ false → at m q ≡ nil N
  unfolding at entries
  at-absent m q e = nothing (get m.map q) (contains_key-keys m.map q ∙ e)
    where
      nothing : (x : Option X) → is_some x ≡ false → or_else (nil N) x ≡ nil N
      nothing None e = refl
      nothing (Some z) e = absurd (cc)

  -- a key with an entry has a number
  pub at-present : (m : Counts R N) (q : K) → has_key R q (keys_of (entries m)) ≡ true → at m q ≢ nil N
  unfolding at entries
  at-present m q e = some (get m.map q) (contains_key-keys m.map q ∙ e) (m.nonzero q)
    where
      some : (x : Option X) → is_some x ≡ true → x ≢ Some (nil N) → or_else (nil N) x ≢ nil N
      some None e n z = absurd (cc)
      some (Some v) e n z = n (ap Some z)

  -- the number of an entry is not nil
  pub some-entry : (m : Counts R N) (q : K) (v : X) → find R q (entries m) ≡ Some v → v ≢ nil N
  unfolding entries
  some-entry m q v e z = m.nonzero q (get-entries m.map q ∙ e ∙ ap Some z)

module _ {K X : Type 0} {R : K → K → Ordering} {N : Number X} (o : IsTotalOrder R) (tells : IsAntisymmetric R) where
  -- maps that have the same number at each key are equal
  pub same : (m n : Counts R N) → ((q : K) → at m q ≡ at n q) → m ≡ n
  unfolding at map_of
  same m n h = same_maps m n (same_map o tells m.map n.map (λ q. or_else_exact (nil N) _ _ (m.nonzero q) (n.nonzero q) (h q)))

module _ {K X : Type 0} {R : K → K → Ordering} {N : Number X} (o : IsTotalOrder R) where
  put_in : Counts R N → K → (v : X) → v ≢ nil N → Counts R N
  put_in m k v some = record { map = insert m.map k v; nonzero = λ q e. kept_some _ _ v _ some (m.nonzero q) (sym (get-insert o m.map k v q) ∙ e) }

  take_out : Counts R N → K → Counts R N
  take_out m k = record { map = remove m.map k; nonzero = λ q e. dropped _ _ _ (m.nonzero q) (sym (get-remove o m.map k q) ∙ e) }

  set_by : Counts R N → K → (v : X) → (z : ℤ) → N.int v ≡ z → Counts R N
  set_by m k v (pos zero) e = take_out m k
  set_by m k v (pos (suc n)) e = put_in m k v (λ s. absurd (cc (e, ap N.int s, N.kept_zero)))
  set_by m k v (negsuc n) e = put_in m k v (λ s. absurd (cc (e, ap N.int s, N.kept_zero)))

  -- the map with another number at one key
  pub set : Counts R N → K → X → Counts R N
  set m k v = set_by m k v (N.int v) refl

  at-put_in : (m : Counts R N) (k : K) (v : X) (some : v ≢ nil N) (q : K) → at (put_in m k v some) q ≡ cond (eq_by_cmp R q k) v (at m q)
  unfolding at put_in
  at-put_in m k v some q = ap (or_else (nil N)) (get-insert o m.map k v q) ∙ or_else-cond (nil N) (eq_by_cmp R q k) (Some v) (get m.map q)

  at-set_by : (m : Counts R N) (k : K) (v : X) (z : ℤ) (e : N.int v ≡ z) (q : K) → at (set_by m k v z e) q ≡ cond (eq_by_cmp R q k) v (at m q)
  unfolding at set_by take_out
  at-set_by m k v (pos zero) e q =
      ap (or_else (nil N)) (get-remove o m.map k q) ∙ or_else-cond (nil N) (eq_by_cmp R q k) None (get m.map q)
      ∙ ap (λ x. cond (eq_by_cmp R q k) x (at m q)) (sym (sym (N.kept v) ∙ ap N.of_int e))
  at-set_by m k v (pos (suc n)) e q = at-put_in m k v _ q
  at-set_by m k v (negsuc n) e q = at-put_in m k v _ q

  pub at-set : (m : Counts R N) (k : K) (v : X) (q : K) → at (set m k v) q ≡ cond (eq_by_cmp R q k) v (at m q)
  unfolding set
  at-set m k v q = at-set_by m k v (N.int v) refl q

  -- the map with an integer added at one key
  abbrev pub added : Counts R N → K → ℤ → Counts R N
  added m k n = set m k (N.of_int (int_at m k +ℤ n))

  -- the map with the number f k at each key k of the list, and no number at other keys
  pub on_keys : List K → (K → X) → Counts R N
  on_keys [] f = none
  on_keys (k ∷ ks) f = set (on_keys ks f) k (f k)

  -- the map that has at each key the number that a lookup in the list finds
  pub of_entries : List (K × X) → Counts R N
  of_entries es = on_keys (keys_of es) (λ q. or_else (nil N) (find R q es))

module _ {K X : Type 0} {R : K → K → Ordering} (N : Number X) (o : IsTotalOrder R) where
  pub at-on_keys : IsAntisymmetric R → (ks : List K) (f : K → X) (q : K) → at (on_keys {N = N} o ks f) q ≡ cond (has_key R q ks) (f q) (nil N)
  unfolding on_keys
  at-on_keys tells [] f q = at-none R N q
  at-on_keys tells (k ∷ ks) f q =
      at-set o (on_keys {N = N} o ks f) k (f k) q
      ∙ ap (cond (eq_by_cmp R q k) (f k)) (at-on_keys tells ks f q)
      ∙ one_of (eq_by_cmp R q k) (has_key R q ks) (f k) (f q) (nil N) (λ e. ap f (sym (tells_apart tells q k e)))

  unlisted : (es : List (K × X)) (q : K) → has_key R q (keys_of es) ≡ false → or_else (nil N) (find R q es) ≡ nil N
  unlisted es q e = nothing (find R q es) (is_some-find R q es ∙ e)
    where
      nothing : (x : Option X) → is_some x ≡ false → or_else (nil N) x ≡ nil N
      nothing None e = refl
      nothing (Some z) e = absurd (cc)

  pub at-of_entries : IsAntisymmetric R → (es : List (K × X)) (q : K) → at (of_entries {N = N} o es) q ≡ or_else (nil N) (find R q es)
  unfolding of_entries
  at-of_entries tells es q = at-on_keys tells (keys_of es) (λ p. or_else (nil N) (find R p es)) q ∙ either (nil N) _ _ (unlisted es q)

  same_at : IsAntisymmetric R → (es : List (K × X)) (q : K) → or_else (nil N) (get (of_entries {N = N} o es).map q) ≡ or_else (nil N) (find R q es)
  unfolding at
  same_at tells es q = at-of_entries tells es q

  -- sorted entries without zeros are the entries of their map
  pub entries-of_entries : IsAntisymmetric R → (es : List (K × X)) → T (is_sorted R es) → ((q : K) → find R q es ≢ Some (nil N)) → entries (of_entries {N = N} o es) ≡ es
  unfolding entries
  entries-of_entries tells es sorted some =
      same_entries R o tells (fin.entries (of_entries {N = N} o es).map) es (entries_sorted (of_entries {N = N} o es).map) sorted
      (λ q. sym (get-entries (of_entries {N = N} o es).map q) ∙ or_else_exact (nil N) _ _ ((of_entries {N = N} o es).nonzero q) (some q) (same_at tells es q))

  pub of_entries-nil : of_entries {N = N} o [] ≡ none
  unfolding of_entries on_keys
  of_entries-nil = refl

cut : {X : Type 0} (z : X) (b c : Bool) (x : X) → (b ≡ false → x ≡ z) → cond b (cond c x z) z ≡ cond c x z
cut z true c x p = refl
cut z false true x p = sym (p refl)
cut z false false x p = refl

module _ {K X : Type 0} {R : K → K → Ordering} {N : Number X} (o : IsTotalOrder R) where
  -- the map restricted to the keys that pass p
  pub only : (K → Bool) → Counts R N → Counts R N
  only p m = on_keys o (keys_of (entries m)) (λ q. cond (p q) (at m q) (nil N))

  pub at-only : IsAntisymmetric R → (p : K → Bool) (m : Counts R N) (q : K) → at (only p m) q ≡ cond (p q) (at m q) (nil N)
  unfolding only
  at-only tells p m q =
      at-on_keys N o tells (keys_of (entries m)) (λ k. cond (p k) (at m k) (nil N)) q
      ∙ cut (nil N) (has_key R q (keys_of (entries m))) (p q) (at m q) (at-absent m q)

merged_list : (f : ℤ → ℤ → ℤ) (b c : Bool) (x y : ℤ) → f (pos 0) (pos 0) ≡ pos 0 → (b ≡ false → x ≡ pos 0) → (c ≡ false → y ≡ pos 0) → cond (b || c) (f x y) (pos 0) ≡ f x y
merged_list f true c x y e p q = refl
merged_list f false true x y e p q = refl
merged_list f false false x y e p q = rw (p refl, q refl, e) refl

module _ {K X : Type 0} {R : K → K → Ordering} {N : Number X} (o : IsTotalOrder R) where
  -- f of the two maps' numbers at each key, for example their sum or their difference
  pub merged : (ℤ → ℤ → ℤ) → Counts R N → Counts R N → Counts R integers
  merged f m n = on_keys o (keys_of (entries m) ++ keys_of (entries n)) (λ q. f (int_at m q) (int_at n q))

  pub at-merged : IsAntisymmetric R → (f : ℤ → ℤ → ℤ) → f (pos 0) (pos 0) ≡ pos 0 → (m n : Counts R N) (q : K) → at (merged f m n) q ≡ f (int_at m q) (int_at n q)
  unfolding merged
  at-merged tells f e m n q =
      at-on_keys integers o tells (keys_of (entries m) ++ keys_of (entries n)) (λ p. f (int_at m p) (int_at n p)) q
      ∙ ap (λ b. cond b (f (int_at m q) (int_at n q)) (pos 0)) (list_any-append (eq_by_cmp R q) (keys_of (entries m)) (keys_of (entries n)))
      ∙ merged_list f _ _ (int_at m q) (int_at n q) e (λ t. ap N.int (at-absent m q t) ∙ N.kept_zero) (λ t. ap N.int (at-absent n q t) ∙ N.kept_zero)

  -- by how much the second map has more, at each key where the two differ
  pub difference : Counts R N → Counts R N → Counts R integers
  difference = merged (λ x y. y -ℤ x)

  -- at how many keys two maps differ
  abbrev pub changed : Counts R N → Counts R N → ℕ
  changed m n = size (difference m n)

  pub at-difference : IsAntisymmetric R → (m n : Counts R N) (q : K) → at (difference m n) q ≡ int_at n q -ℤ int_at m q
  unfolding difference
  at-difference tells m n q = at-merged tells (λ x y. y -ℤ x) refl m n q

-- ---- setting a number and setting it back

twice : {X : Type 0} (b : Bool) (v w x : X) → cond b w (cond b v x) ≡ cond b w x
twice true v w x = refl
twice false v w x = refl

itself : {X : Type 0} (b : Bool) (x y : X) → (b ≡ true → y ≡ x) → cond b x y ≡ y
itself true x y e = sym (e refl)
itself false x y e = refl

module _ {K X : Type 0} {R : K → K → Ordering} {N : Number X} (o : IsTotalOrder R) (tells : IsAntisymmetric R) where
  pub at-set_here : (m : Counts R N) (k : K) (v : X) → at (set o m k v) k ≡ v
  at-set_here m k v = at-set o m k v k ∙ ap (λ r. cond (is_eq r) v (at m k)) (tied_itself o k)

  -- setting a key twice leaves the second number
  pub set-set : (m : Counts R N) (k : K) (v w : X) → set o (set o m k v) k w ≡ set o m k w
  set-set m k v w =
      same o tells _ _ (λ q.
      at-set o (set o m k v) k w q ∙ ap (cond (eq_by_cmp R q k) w) (at-set o m k v q)
      ∙ twice (eq_by_cmp R q k) v w (at m q) ∙ sym (at-set o m k w q))

  -- setting the number that a key has changes nothing
  pub set-at : (m : Counts R N) (k : K) → set o m k (at m k) ≡ m
  set-at m k = same o tells _ _ (λ q. at-set o m k (at m k) q ∙ itself (eq_by_cmp R q k) (at m k) (at m q) (λ e. ap (at m) (tells_apart tells q k e)))

  -- setting the old number again restores the map
  pub set-back : (m : Counts R N) (k : K) (v w : X) → w ≡ at m k → set o (set o m k v) k w ≡ m
  set-back m k v w is = set-set m k v w ∙ ap (set o m k) is ∙ set-at m k

  -- subtracting what was added restores the map
  pub added-back : (m : Counts R N) (k : K) (n : ℤ) → N.int (N.of_int (int_at m k +ℤ n)) ≡ int_at m k +ℤ n → added o (added o m k n) k (neg_ℤ n) ≡ m
  added-back m k n fits =
      set-back m k (N.of_int (int_at m k +ℤ n)) (N.of_int (int_at (added o m k n) k +ℤ neg_ℤ n))
      (ap (λ x. N.of_int (N.int x +ℤ neg_ℤ n)) (at-set_here m k (N.of_int (int_at m k +ℤ n)))
      ∙ ap (λ z. N.of_int (z +ℤ neg_ℤ n)) fits ∙ ap N.of_int (let e : int_at m k +ℤ n +ℤ neg_ℤ n ≡ int_at m k = omega (arith, ints) in e) ∙ N.kept (at m k))

-- ---- a new key adds one entry

no_entry : {X : Type 0} (z : X) (x : Option X) → x ≢ Some z → or_else z x ≡ z → is_some x ≡ false
no_entry z None n e = refl
no_entry z (Some v) n e = absurd (n (ap Some e))

grown : (b : Bool) (n : ℕ) → b ≡ false → cond b n (n + 1) ≡ n + 1
grown true n e = absurd (cc)
grown false n e = refl

pub size-none : {K X : Type 0} (R : K → K → Ordering) (N : Number X) → size (none {R = R} {N = N}) ≡ 0
unfolding none entries
size-none {K} {X} R N = sym (fin.len-entries (fin.empty {X = X} {R = R})) ∙ fin.len-empty R X

module _ {K X : Type 0} {R : K → K → Ordering} {N : Number X} (o : IsTotalOrder R) where
  larger : (m : Counts R N) (k : K) (v : X) → at m k ≡ nil N → length (fin.entries (insert m.map k v)) ≡ length (fin.entries m.map) + 1
  unfolding at
  larger m k v absent =
      sym (fin.len-entries (insert m.map k v)) ∙ fin.len-insert o m.map k v
      ∙ grown _ _ (no_entry (nil N) (get m.map k) (m.nonzero k) absent) ∙ ap (λ n. n + 1) (fin.len-entries m.map)

  size-set_by : (m : Counts R N) (k : K) (v : X) (z : ℤ) (e : N.int v ≡ z) → v ≢ nil N → at m k ≡ nil N → size (set_by o m k v z e) ≡ size m + 1
  unfolding at entries put_in set_by
  size-set_by m k v (pos zero) e some absent = absurd (some (sym (N.kept v) ∙ ap N.of_int e))
  size-set_by m k v (pos (suc n)) e some absent = larger m k v absent
  size-set_by m k v (negsuc n) e some absent = larger m k v absent

  pub size-set : (m : Counts R N) (k : K) (v : X) → v ≢ nil N → at m k ≡ nil N → size (set o m k v) ≡ size m + 1
  unfolding set
  size-set m k v some absent = size-set_by m k v (N.int v) refl some absent

-- ---- the weight of the entries

found_weighs : {K X : Type 0} (f : K → X → ℕ) (k : K) (z : X) → f k z ≡ 0 → (x : Option X) → weight_at f k x ≡ f k (or_else z x)
found_weighs f k z e None = sym e
found_weighs f k z e (Some v) = refl

module _ {K X : Type 0} {R : K → K → Ordering} {N : Number X} (o : IsTotalOrder R) (tells : IsAntisymmetric R) (f : K → X → ℕ) where
  -- how the weight changes if two maps differ at one key only
  pub weight-differs : (m n : Counts R N) (k : K) → f k (nil N) ≡ 0 → ((q : K) → q ≢ k → at n q ≡ at m q) → weight f (entries n) + f k (at m k) ≡ weight f (entries m) + f k (at n k)
  unfolding at entries
  weight-differs m n k e others =
      ap (λ w. weight f (fin.entries n.map) + w) (sym (found_weighs f k (nil N) e (get m.map k)))
      ∙ weight_moves R o tells f m.map n.map k (λ q other. or_else_exact (nil N) _ _ (n.nonzero q) (m.nonzero q) (others q other))
      ∙ ap (λ w. weight f (fin.entries m.map) + w) (found_weighs f k (nil N) e (get n.map k))

  pub weight-set : (m : Counts R N) (k : K) (v : X) → f k (nil N) ≡ 0 → weight f (entries (set o m k v)) + f k (at m k) ≡ weight f (entries m) + f k v
  weight-set m k v e =
      weight-differs m (set o m k v) k e (λ q other. at-set o m k v q ∙ elim (eq_by_cmp R q k) as (λ b. eq_by_cmp R q k ≡ b → cond b v (at m q) ≡ at m q) [
        | true ↦ λ t. absurd (other (tells_apart tells q k t))
        | false ↦ λ t. refl
      ] refl)
      ∙ ap (λ x. weight f (entries m) + f k x) (at-set_here o tells m k v)

module _ {K X : Type 0} {R : K → K → Ordering} {N : Number X} where
  -- the number at a key, as a lookup among the entries finds it
  pub at-entries : (m : Counts R N) (q : K) → at m q ≡ or_else (nil N) (find R q (entries m))
  unfolding at entries
  at-entries m q = ap (or_else (nil N)) (get-entries m.map q)

  pub entries_listed : (m : Counts R N) → T (is_sorted R (entries m))
  unfolding entries
  entries_listed m = entries_sorted m.map
