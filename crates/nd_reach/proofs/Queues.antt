-- The queues from a processor: the longest, and what two have in common.
use Rattle.std.proofs.Common.{◌≡◌, ◌≢◌, ℕ, zero, suc, ◌+◌, ◌<◌, ◌≤◌, ℤ, Bool, true, false, cond, List, [], ◌∷◌, length, drop, get_or, min, leb, refl, sym, ap, ◌∙◌, arith, nat_lt, drop-cons, add-one}
use Rattle.std.proofs.lemmas.Bool.{leb-true}
use Rattle.std.proofs.lemmas.Bool.Decides.{nat_tests}
use Rattle.std.specs.Bool.{Decides, MatchBool}
use Rattle.std.specs.Str.{bytes_eq}
use Rattle.std.proofs.lemmas.List.{drop_all}
use Rattle.std.proofs.lemmas.Slice.Eq.{bytes_eq-Decides}
use Rattle.nd_paths.specs.declared.point.Pointstamp.{Pointstamp}
use Rattle.nd_delta.specs.Delta.{DeltaValue, entries as updates}
use Rattle.nd_reach.specs.Forms.{change_form, in_common, longer_of, longest, longest_of}
use Rattle.nd_reach.proofs.Parts.{same_updates}
use Rattle.nd_reach.proofs.Rows.{same_change}

-- ---- the longest queue

longer_itself : (b : Bool) (xs : List DeltaValue) → cond b xs xs ≡ xs
longer_itself true xs = refl
longer_itself false xs = refl

longer_none : (xs : List DeltaValue) → longer_of [] xs ≡ xs
longer_none [] = refl
longer_none (x ∷ xs) =
    let less : nat_lt 0 (length (x ∷ xs)) ≡ true = grind (arith, nat_tests) in
    ap (λ b. cond b (x ∷ xs) []) less

-- the first of some lists may be taken for the longest at the beginning
pub longest_first : (xss : List (List DeltaValue)) (i : ℕ) → i < length xss → longest_of (get_or xss 0 []) (drop 0 xss) ≡ longest xss
longest_first [] i h = absurd (omega arith)
longest_first (xs ∷ xss) i h =
    ap (λ ys. longest_of ys xss) (longer_itself (nat_lt (length xs) (length xs)) xs ∙ sym (longer_none xs))

-- one more list was compared
pub longest_more : (xss : List (List DeltaValue)) (i : ℕ) (old new : List DeltaValue) → i < length xss → longest_of old (drop i xss) ≡ longest xss
    → new ≡ longer_of old (get_or xss i []) → longest_of new (drop (i + 1) xss) ≡ longest xss
longest_more xss i old new lt before is =
    rw add-one (ap (λ xs. longest_of xs (drop (suc i) xss)) is ∙ ap (longest_of old) (sym (drop-cons xss i [] lt)) ∙ before)

-- all lists were compared
pub longest_all : (xss : List (List DeltaValue)) (i : ℕ) (new : List DeltaValue) → length xss ≤ i → longest_of new (drop i xss) ≡ longest xss → new ≡ longest xss
longest_all xss i new h e = ap (longest_of new) (sym (drop_all i xss h)) ∙ e

-- ---- what two queues have in common

is_false : (b : Bool) → b ≢ true → b ≡ false
is_false true h = absurd (h refl)
is_false false h = refl

common_by : (b : Bool) (c d : DeltaValue) (cs ds : List DeltaValue) → bytes_eq (change_form c) (change_form d) ≡ b → in_common (c ∷ cs) (d ∷ ds) ≡ cond b (suc (in_common cs ds)) zero
common_by b c d cs ds e = ap (λ t. cond t (suc (in_common cs ds)) zero) e

-- the next changes are the same
pub common_more : (xs ys : List DeltaValue) (i : ℕ) (c d : DeltaValue) → i < length xs → i < length ys → get_or xs i c ≡ c → get_or ys i d ≡ d → c ≡ d
    → i + in_common (drop i xs) (drop i ys) ≡ in_common xs ys → (i + 1) + in_common (drop (i + 1) xs) (drop (i + 1) ys) ≡ in_common xs ys
common_more xs ys i c d h k a b e before =
    let same = (bytes_eq-Decides (change_form c) (change_form d)).1 (ap change_form e) in
    let left : drop i xs ≡ c ∷ drop (suc i) xs = drop-cons xs i c h ∙ ap (λ x. x ∷ drop (suc i) xs) a in
    let right : drop i ys ≡ d ∷ drop (suc i) ys = drop-cons ys i d k ∙ ap (λ x. x ∷ drop (suc i) ys) b in
    let next : in_common (drop i xs) (drop i ys) ≡ suc (in_common (drop (suc i) xs) (drop (suc i) ys)) =
    (λ j. in_common (left j) (right j)) ∙ common_by true c d (drop (suc i) xs) (drop (suc i) ys) same in
    rw add-one (omega (arith, next, before))

-- the next changes differ
pub common_less : (xs ys : List DeltaValue) (i : ℕ) (c d : DeltaValue) → i < length xs → i < length ys → get_or xs i c ≡ c → get_or ys i d ≡ d → c ≢ d
    → i + in_common (drop i xs) (drop i ys) ≡ in_common xs ys → i ≡ in_common xs ys
common_less xs ys i c d h k a b e before =
    let other = is_false (bytes_eq (change_form c) (change_form d)) (λ t. e (same_change c d t)) in
    let left : drop i xs ≡ c ∷ drop (suc i) xs = drop-cons xs i c h ∙ ap (λ x. x ∷ drop (suc i) xs) a in
    let right : drop i ys ≡ d ∷ drop (suc i) ys = drop-cons ys i d k ∙ ap (λ x. x ∷ drop (suc i) ys) b in
    let next : in_common (drop i xs) (drop i ys) ≡ 0 =
    (λ j. in_common (left j) (right j)) ∙ common_by false c d (drop (suc i) xs) (drop (suc i) ys) other in
    omega (arith, next, before)

common_none : (xs : List DeltaValue) → in_common xs [] ≡ 0
common_none [] = refl
common_none (x ∷ xs) = refl

-- one of the two has no more changes
pub common_all : (xs ys : List DeltaValue) (i : ℕ) → min (length ys) (length xs) ≤ i → i + in_common (drop i xs) (drop i ys) ≡ in_common xs ys → i ≡ in_common xs ys
common_all xs ys i h before = ended (leb (length xs) i) refl
  where
    ended : (b : Bool) → leb (length xs) i ≡ b → i ≡ in_common xs ys
    ended true e =
        let left : drop i xs ≡ [] = drop_all i xs (leb-true (length xs) i e) in
        omega (arith, ap (λ zs. in_common zs (drop i ys)) left, before)
    ended false e =
        let more : i < length xs = grind (arith, nat_tests) in
        let right : drop i ys ≡ [] = drop_all i ys (omega arith) in
        omega (arith, ap (λ zs. in_common (drop i xs) zs) right ∙ common_none (drop i xs), before)

-- a list has all in common with itself
pub common_itself : (xs : List DeltaValue) → in_common xs xs ≡ length xs
common_itself [] = refl
common_itself (x ∷ xs) =
    common_by true x x xs xs ((bytes_eq-Decides (change_form x) (change_form x)).1 refl) ∙ ap suc (common_itself xs)

-- changes are the same exactly if their entries are
pub match_equal : (c d : DeltaValue) (xs ys : List (Pointstamp × ℤ)) (b : Bool) → xs ≡ updates c → ys ≡ updates d → Decides b (xs ≡ ys) → MatchBool b (c ≡ d) (c ≢ d)
match_equal c d xs ys true left right decided = same_updates c d (sym left ∙ decided.0 refl ∙ right)
match_equal c d xs ys false left right decided = λ e. let t = decided.1 (left ∙ ap updates e ∙ sym right) in absurd (cc)
