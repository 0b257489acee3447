-- A change has an integer for each pointstamp, other than 0 at finitely many of them. It is a map of counts (`nd_map`).
--     none, at, set             the change without entries; the integer at a pointstamp; another integer at one pointstamp
--     plus, minus, part         the pointwise sum and difference; the entries at the pointstamps of a list
--     entries, size             the pointstamps with an integer other than 0, each with it, in the order of listing; how many there are
--     IsPartOf, IsApart         each entry of one change is an entry of the other; the two have no pointstamp in common
--     same                      changes with the same integer at each pointstamp are equal
use Rattle.std.specs.Prelude.{◌≡◌, ◌≢◌, ℕ, ℤ, pos, ◌+ℤ◌, ◌-ℤ◌, Bool, true, false, cond, List, [], length, Option, Some, refl, unsigned_abs, ◌+◌, ◌<◌, ◌≤◌}
use Rattle.std.proofs.Common.{T, sym, arith}
use Rattle.std.proofs.lemmas.Int.{ints}
use Rattle.std.specs.Coded.{Coded, coded_ℤ}
use Rattle.std.specs.List.{list_any}
use Rattle.std.specs.Ordering.{eq_by_cmp}
use Rattle.std.specs.FinMap.{find, is_sorted}
use Rattle.nd_time.specs.Limits.{max_count}
use Rattle.nd_map.specs.Counts.{Counts, integers, or_else, keys_of}
use Rattle.nd_map.specs.Counts as counts
use Rattle.nd_paths.specs.Point.{point_cmp, point_code, point_total, point_exact}
use Rattle.nd_paths.specs.declared.point.Pointstamp.{Pointstamp}

-- an integer for each pointstamp; a pointstamp with 0 has no entry
abbrev pub DeltaValue : Type 0
DeltaValue = Counts point_cmp integers

abbrev pub delta_code : Coded DeltaValue
delta_code = counts.code point_code coded_ℤ

abbrev pub or_zero : Option ℤ → ℤ
or_zero x = or_else (pos 0) x

-- whether two pointstamps are equal
abbrev pub is_point : Pointstamp → Pointstamp → Bool
is_point p q = eq_by_cmp point_cmp p q

-- whether a pointstamp is in the list
abbrev pub has_point : Pointstamp → List Pointstamp → Bool
has_point q ks = list_any (is_point q) ks

abbrev pub points_of : List (Pointstamp × ℤ) → List Pointstamp
points_of es = keys_of es

-- the integer at the pointstamp q; 0 if q has no entry
unfoldable pub at : DeltaValue → Pointstamp → ℤ
at m q = counts.at m q

-- the change without entries
unfoldable pub none : DeltaValue
none = counts.none

-- the change m with the integer v at the pointstamp k
unfoldable pub set : DeltaValue → Pointstamp → ℤ → DeltaValue
set m k v = counts.set point_total m k v

-- the pointstamps with an integer other than 0, each with its integer, in the order of listing
unfoldable pub entries : DeltaValue → List (Pointstamp × ℤ)
entries m = counts.entries m

-- how many entries a change has
abbrev pub size : DeltaValue → ℕ
size m = length (entries m)

-- the change that has at each pointstamp the integer that a lookup in the list finds
unfoldable pub of_entries : List (Pointstamp × ℤ) → DeltaValue
of_entries es = counts.of_entries point_total es

-- pointwise sum
pub plus : DeltaValue → DeltaValue → DeltaValue
plus m n = counts.merged point_total (λ x y. x +ℤ y) m n

-- pointwise difference
pub minus : DeltaValue → DeltaValue → DeltaValue
minus m n = counts.merged point_total (λ x y. x -ℤ y) m n

-- the difference, or the sum
abbrev pub combined : Bool → DeltaValue → DeltaValue → DeltaValue
combined true m n = minus m n
combined false m n = plus m n

-- the entries at the pointstamps of the list
pub part : DeltaValue → List Pointstamp → DeltaValue
part m ks = counts.only point_total (λ q. has_point q ks) m

-- some integer exceeds the limit of the program in absolute value
abbrev pub IsTooLarge : DeltaValue → Type 0
IsTooLarge m = (q : Pointstamp) × (max_count < unsigned_abs (at m q))

-- each integer is within the limit of the program
abbrev pub IsWithin : DeltaValue → Type 0
IsWithin m = (q : Pointstamp) → unsigned_abs (at m q) ≤ max_count

-- each entry of `piece` is an entry of m
abbrev pub IsPartOf : DeltaValue → DeltaValue → Type 0
IsPartOf piece m = (x : Pointstamp) → at piece x ≢ pos 0 → at m x ≡ at piece x

-- m has no entry at a pointstamp at which `piece` has one
abbrev pub IsApart : DeltaValue → DeltaValue → Type 0
IsApart piece m = (x : Pointstamp) → at piece x ≢ pos 0 → at m x ≡ pos 0

-- ---- the laws of counts, for changes

-- changes that have the same integer at each pointstamp are equal
pub same : (m n : DeltaValue) → ((q : Pointstamp) → at m q ≡ at n q) → m ≡ n
unfolding at
same m n h = counts.same point_total point_exact m n h

pub at-none : (q : Pointstamp) → at none q ≡ pos 0
unfolding at none
at-none q = counts.at-none point_cmp integers q

pub at-set : (m : DeltaValue) (k : Pointstamp) (v : ℤ) (q : Pointstamp) → at (set m k v) q ≡ cond (is_point q k) v (at m q)
unfolding at set
at-set m k v q = counts.at-set point_total m k v q

pub at-plus : (m n : DeltaValue) (q : Pointstamp) → at (plus m n) q ≡ at m q +ℤ at n q
unfolding at plus
at-plus m n q = counts.at-merged point_total point_exact (λ x y. x +ℤ y) refl m n q

pub at-minus : (m n : DeltaValue) (q : Pointstamp) → at (minus m n) q ≡ at m q -ℤ at n q
unfolding at minus
at-minus m n q = counts.at-merged point_total point_exact (λ x y. x -ℤ y) refl m n q

pub at-part : (m : DeltaValue) (ks : List Pointstamp) (q : Pointstamp) → at (part m ks) q ≡ cond (has_point q ks) (at m q) (pos 0)
unfolding at part
at-part m ks q = counts.at-only point_total point_exact (λ p. has_point p ks) m q

-- a pointstamp without an entry has the integer 0
pub at-absent : (m : DeltaValue) (q : Pointstamp) → has_point q (points_of (entries m)) ≡ false → at m q ≡ pos 0
unfolding at entries
at-absent m q e = counts.at-absent m q e

-- a pointstamp with an entry has an integer other than 0
pub at-present : (m : DeltaValue) (q : Pointstamp) → has_point q (points_of (entries m)) ≡ true → at m q ≢ pos 0
unfolding at entries
at-present m q e = counts.at-present m q e

pub of_entries-nil : of_entries [] ≡ none
unfolding of_entries none
of_entries-nil = counts.of_entries-nil integers point_total

pub at-entries : (m : DeltaValue) (q : Pointstamp) → or_zero (find point_cmp q (entries m)) ≡ at m q
unfolding entries at
at-entries m q = sym (counts.at-entries m q)

pub sorted-entries : (m : DeltaValue) → T (is_sorted point_cmp (entries m))
unfolding entries
sorted-entries m = counts.entries_listed m

-- the integer of an entry is not 0
pub some-entry : (m : DeltaValue) (q : Pointstamp) (v : ℤ) → find point_cmp q (entries m) ≡ Some v → v ≢ pos 0
unfolding entries
some-entry m q v e = counts.some-entry m q v e

pub at-set_same : (m : DeltaValue) (k : Pointstamp) (v : ℤ) → at (set m k v) k ≡ v
unfolding at set
at-set_same m k v = counts.at-set_here point_total point_exact m k v

pub set-set : (m : DeltaValue) (k : Pointstamp) (v w : ℤ) → set (set m k v) k w ≡ set m k w
unfolding set
set-set m k v w = counts.set-set point_total point_exact m k v w

pub set-at : (m : DeltaValue) (k : Pointstamp) → set m k (at m k) ≡ m
unfolding at set
set-at m k = counts.set-at point_total point_exact m k

pub size-set : (m : DeltaValue) (k : Pointstamp) (v : ℤ) → v ≢ pos 0 → at m k ≡ pos 0 → size (set m k v) ≡ size m + 1
unfolding at set entries
size-set m k v some absent = counts.size-set point_total m k v some absent

pub size-none : size none ≡ 0
unfolding none entries
size-none = counts.size-none point_cmp integers

-- ---- undoing sums
pub minus-plus : (m n : DeltaValue) → minus (plus m n) n ≡ m
minus-plus m n = same _ _ (λ q. let d = at-minus (plus m n) n q in let e = at-plus m n q in omega (arith, ints, d, e))

pub plus-minus : (m n : DeltaValue) → plus (minus m n) n ≡ m
plus-minus m n = same _ _ (λ q. let d = at-plus (minus m n) n q in let e = at-minus m n q in omega (arith, ints, d, e))
