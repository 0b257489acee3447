-- Names that occur twice, and the positions of names.
use Rattle.std.proofs.Common.{◌≡◌, ◌∙◌, inl, inr, ℕ, ◌+◌, ◌<◌, ◌≤◌, zero, suc, Bool, true, false, cond, List, [], ◌∷◌, ◌++◌, length, take, drop, get_or, map, refl, sym, ap, arith, append_assoc, Some, None}
use Rattle.std.proofs.lemmas.List.{take_more, map-append, take-append-drop}
use Rattle.std.proofs.lemmas.Bool.{le-ltb, lt-ltb, or_cases, or_left, or_right, or_parts, or_from}
use Rattle.std.proofs.lemmas.List.Sums.{position_or_len_is}
use Rattle.std.proofs.lemmas.List.Folds.{list_any-append}
use Rattle.std.proofs.lemmas.Iterator.Adapters.{position_from-zero}
use Rattle.std.specs.List.{list_any, position, position_from}
use Rattle.std.specs.Str.{bytes_eq}
use Rattle.std.specs.Cmp.Lexicographic.{nat_list_eq_equiv}
use Rattle.nd_graph.specs.Checked.{has_double}

-- ---- tests

-- ---- names that occur twice

-- a name that occurred before makes a double
pub has_double-again : (ks rest : List (List ℕ)) (k : List ℕ) → list_any (bytes_eq k) ks ≡ true → has_double (ks ++ k ∷ rest) ≡ true
has_double-again [] rest k e = cc
has_double-again (x ∷ ks) rest k e =
    elim (or_cases (bytes_eq k x) (list_any (bytes_eq k) ks) e) [
      | inl h ↦ or_left _ _ (list_any-append (bytes_eq x) ks (k ∷ rest) ∙ or_right _ _ (or_left _ _ (nat_list_eq_equiv.symm x k ∙ h)))
      | inr h ↦ or_right _ _ (has_double-again ks rest k h)
    ]

-- a new name makes no double
pub has_double-new : (ks : List (List ℕ)) (k : List ℕ) → has_double ks ≡ false → list_any (bytes_eq k) ks ≡ false → has_double (ks ++ k ∷ []) ≡ false
has_double-new [] k h e = refl
has_double-new (x ∷ ks) k h e =
    let before = or_parts (list_any (bytes_eq x) ks) (has_double ks) h in
    let here = or_parts (bytes_eq k x) (list_any (bytes_eq k) ks) e in
    or_from _ _ (list_any-append (bytes_eq x) ks (k ∷ []) ∙ or_from _ _ before.0 (or_from _ _ (nat_list_eq_equiv.symm x k ∙ here.0) refl))
    (has_double-new ks k before.1 here.1)

-- ---- loops over lists

-- a list, split at one of its elements
pub map-at : {X Y : Type 0} (f : X → Y) (xs : List X) (x : X) (i : ℕ) → i < length xs → x ≡ get_or xs i x
    → map f xs ≡ map f (take i xs) ++ f x ∷ map f (drop (suc i) xs)
map-at f [] x i within at = absurd (omega arith)
map-at f (y ∷ xs) x zero within at = rw (sym at) refl
map-at f (y ∷ xs) x (suc i) within at = ap (λ ys. f y ∷ ys) (map-at f xs x i (omega arith) at)

pub map-next : {X Y : Type 0} (f : X → Y) (xs : List X) (x : X) (i : ℕ) → i < length xs → x ≡ get_or xs i x
    → map f (take (i + 1) xs) ≡ map f (take i xs) ++ f x ∷ []
map-next f xs x i within at =
    ap (map f) (take_more xs i x within ∙ ap (λ y. take i xs ++ y ∷ []) (sym at)) ∙ map-append f (take i xs) (x ∷ [])

-- ---- the positions of names

module _ {V K : Type 0} (name : V → K) (test : K → Bool) where
  above : (ks : List K) (i j : ℕ) → position_from test i ks ≡ Some j → i ≤ j
  above [] i j e = cc
  above (k ∷ ks) i j e =
      elim (test k) as (λ b. cond b (Some i) (position_from test (i + 1) ks) ≡ Some j → i ≤ j) [
        | true ↦ λ h. (let same : i ≡ j = cc in omega arith)
        | false ↦ λ h. (let later = above ks (i + 1) j h in omega arith)
      ] e

  within_front : (vs : List V) (rest : List K) (i j : ℕ) → position_from test i (map name vs ++ rest) ≡ Some j → j < i + length vs
      → position_from (λ v. test (name v)) i vs ≡ Some j
  within_front [] rest i j e h = let late = above rest i j e in absurd (omega arith)
  within_front (v ∷ vs) rest i j e h =
      elim (test (name v)) as (λ b. cond b (Some i) (position_from test (i + 1) (map name vs ++ rest)) ≡ Some j
      → cond b (Some i) (position_from (λ v. test (name v)) (i + 1) vs) ≡ Some j) [
        | true ↦ λ p. p
        | false ↦ λ p. within_front vs rest (i + 1) j p (omega arith)
      ] e

  past_front : (vs : List V) (rest : List K) (i j : ℕ) → position_from test i (map name vs ++ rest) ≡ Some j → i + length vs ≤ j
      → position_from (λ v. test (name v)) i vs ≡ None
  past_front [] rest i j e h = refl
  past_front (v ∷ vs) rest i j e h =
      elim (test (name v)) as (λ b. cond b (Some i) (position_from test (i + 1) (map name vs ++ rest)) ≡ Some j
      → cond b (Some i) (position_from (λ v. test (name v)) (i + 1) vs) ≡ None) [
        | true ↦ λ p. (let same : i ≡ j = cc in absurd (omega arith))
        | false ↦ λ p. past_front vs rest (i + 1) j p (omega arith)
      ] e

  nowhere : (vs : List V) (rest : List K) (i : ℕ) → position_from test i (map name vs ++ rest) ≡ None
      → position_from (λ v. test (name v)) i vs ≡ None
  nowhere [] rest i e = refl
  nowhere (v ∷ vs) rest i e =
      elim (test (name v)) as (λ b. cond b (Some i) (position_from test (i + 1) (map name vs ++ rest)) ≡ None
      → cond b (Some i) (position_from (λ v. test (name v)) (i + 1) vs) ≡ None) [
        | true ↦ λ p. cc
        | false ↦ λ p. nowhere vs rest (i + 1) p
      ] e

  whole : (vs : List V) (ks : List K) → take (length vs) ks ≡ map name vs → ks ≡ map name vs ++ drop (length vs) ks
  whole vs ks e = sym (take-append-drop (length vs) ks) ∙ ap (λ front. front ++ drop (length vs) ks) e

  -- the position among the vertices of a name that a lookup among all names finds
  pub position-front : (vs : List V) (ks : List K) (j : ℕ) → take (length vs) ks ≡ map name vs → position test ks ≡ Some j → j < length vs
      → position (λ v. test (name v)) vs ≡ Some j
  position-front vs ks j front e h =
      position_from-zero (λ v. test (name v)) vs
      ∙ within_front vs (drop (length vs) ks) 0 j (ap (position_from test 0) (sym (whole vs ks front)) ∙ sym (position_from-zero test ks) ∙ e) (omega arith)

  pub position-past : (vs : List V) (ks : List K) (j : ℕ) → take (length vs) ks ≡ map name vs → position test ks ≡ Some j → length vs ≤ j
      → position (λ v. test (name v)) vs ≡ None
  position-past vs ks j front e h =
      position_from-zero (λ v. test (name v)) vs
      ∙ past_front vs (drop (length vs) ks) 0 j (ap (position_from test 0) (sym (whole vs ks front)) ∙ sym (position_from-zero test ks) ∙ e) (omega arith)

  pub position-nowhere : (vs : List V) (ks : List K) → take (length vs) ks ≡ map name vs → position test ks ≡ None
      → position (λ v. test (name v)) vs ≡ None
  position-nowhere vs ks front e =
      position_from-zero (λ v. test (name v)) vs
      ∙ nowhere vs (drop (length vs) ks) 0 (ap (position_from test 0) (sym (whole vs ks front)) ∙ sym (position_from-zero test ks) ∙ e)

-- an element of vs whose name occurs before it
pub has_double-first : {V : Type 0} (name : V → List ℕ) (vs : List V) (v : V) (i : ℕ) (ks more : List (List ℕ)) → i < length vs → v ≡ get_or vs i v
    → ks ≡ map name (take i vs) → list_any (bytes_eq (name v)) ks ≡ true → has_double (map name vs ++ more) ≡ true
has_double-first name vs v i ks more within at all h =
    ap (λ names. has_double (names ++ more)) (map-at name vs v i within at)
    ∙ ap has_double (append_assoc (map name (take i vs)) (name v ∷ map name (drop (suc i) vs)) more)
    ∙ has_double-again (map name (take i vs)) (map name (drop (suc i) vs) ++ more) (name v) (ap (list_any (bytes_eq (name v))) (sym all) ∙ h)

-- an element after the first names whose name occurs before it
pub has_double-second : {V : Type 0} (name : V → List ℕ) (first : List (List ℕ)) (vs : List V) (v : V) (i : ℕ) (ks : List (List ℕ)) → i < length vs → v ≡ get_or vs i v
    → ks ≡ first ++ map name (take i vs) → list_any (bytes_eq (name v)) ks ≡ true → has_double (first ++ map name vs) ≡ true
has_double-second name first vs v i ks within at all h =
    ap (λ names. has_double (first ++ names)) (map-at name vs v i within at)
    ∙ ap has_double (sym (append_assoc first (map name (take i vs)) (name v ∷ map name (drop (suc i) vs))))
    ∙ has_double-again (first ++ map name (take i vs)) (map name (drop (suc i) vs)) (name v) (ap (list_any (bytes_eq (name v))) (sym all) ∙ h)

-- ---- the first position that passes a test

pub position_found : {X : Type 0} (p : X → Bool) (xs : List X) (i : ℕ) (d : X) → i < length xs → ((k : ℕ) → k < i → p (get_or xs k d) ≡ false)
    → p (get_or xs i d) ≡ true → position p xs ≡ Some i
position_found p xs i d within before here =
    rw (position_or_len_is p xs i d (omega arith) before (λ _. here), lt-ltb i (length xs) within) refl

pub position_none : {X : Type 0} (p : X → Bool) (xs : List X) (d : X) → ((k : ℕ) → k < length xs → p (get_or xs k d) ≡ false)
    → position p xs ≡ None
position_none p xs d none =
    rw (position_or_len_is p xs (length xs) d (omega arith) none (λ past. absurd (omega arith)), le-ltb (length xs) (length xs) (omega arith)) refl
