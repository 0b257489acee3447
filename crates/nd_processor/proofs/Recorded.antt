-- Records have values of 64 bits, so those at a pointstamp are those between its least and its greatest value.
use Rattle.std.proofs.Common.{◌≡◌, ◌≢◌, ◌≤◌, ◌<◌, ◌+◌, ◌*◌, ◌-◌, ◌^◌, ℕ, suc, pos, negsuc, FitsSigned, w64, Ordering, Less, Equal, Greater, Bool, true, false, cond, not, ◌&&◌, List, [], ◌∷◌, length, Option, Some, None, IfSome, nat_eq, refl, sym, ap, subst, ◌∙◌, arith}
use Rattle.std.proofs.lemmas.Bool.Decides.{nat_tests}
use Rattle.std.proofs.lemmas.Cmp.{tied_itself}
use Rattle.std.proofs.lemmas.List.Elements.{All-filter}
use Rattle.std.proofs.lemmas.List.Sums.{sum_by-cons, sum_by-le}
use Rattle.std.proofs.lemmas.Map.Views.{tells_apart}
use Rattle.std.specs.Prelude.{All, OnErr, OnOk, Result, Err, Ok, sum_by}
use Rattle.std.specs.List.{filter}
use Rattle.std.specs.declared.ops.Bound.TheVariants.{Included}
use Rattle.std.specs.BTreeMap.Range.{IsLeBy, range_contains, entries_between}
use Rattle.std.specs.Ordering.{int_cmp, is_eq, is_gt, is_le, is_lt, ordering_then}
use Rattle.std.specs.FinMap.{find, put}
use Rattle.nd_time.specs.Limits.{max_count}
use Rattle.nd_map.specs.Counts.{or_else}
use Rattle.nd_map.specs.Entries.{all_found}
use Rattle.nd_map.specs.Listed.{without}
use Rattle.nd_map.specs.KeptLaws as laws
use Rattle.nd_map.specs.Weights.{weight}
use Rattle.nd_paths.specs.Point.{point_cmp, point_total}
use Rattle.nd_paths.specs.declared.point.Pointstamp.{Pointstamp}
use Rattle.nd_delta.specs.Delta.{is_point}
use Rattle.nd_processor.specs.Keys.{value_at_cmp, value_at_total, value_at_exact}
use Rattle.nd_processor.specs.Kept.{AreRecords, IsCount, IsKept, number, put_count}
use Rattle.nd_processor.specs.declared.key.ValueAt.{ValueAt}
use Rattle.nd_map.specs.Ends.{not_below, not_above}

-- ---- an edit keeps the entries records

module _ (es : List (ValueAt × ℕ)) (k : ValueAt) (kept : AreRecords es) where
  put_records : (n : ℕ) → FitsSigned w64 k.value → AreRecords (put value_at_cmp k n es)
  put_records n fits = record {
    values = laws.each_put value_at_cmp value_at_total es k (λ k _. FitsSigned w64 k.value) n
        (λ q t. subst (λ (x : ValueAt). FitsSigned w64 x.value) (sym (tells_apart value_at_exact q k t)) fits) kept.values;
  }

  without_records : AreRecords (without value_at_cmp k es)
  without_records = record { values = laws.each_without value_at_cmp value_at_total es k (λ k _. FitsSigned w64 k.value) kept.values }

  -- entries stay records if the count of a key is replaced; the key's value fits 64 bits, unless the count becomes 0
  counted : (n : ℕ) → (n ≢ 0 → FitsSigned w64 k.value) → AreRecords (put_count value_at_cmp k n es)
  counted n fits =
      elim (nat_eq n 0) as (λ b. nat_eq n 0 ≡ b → AreRecords (cond b (without value_at_cmp k es) (put value_at_cmp k n es))) [
        | true ↦ λ t. without_records
        | false ↦ λ t. put_records n (fits (grind (arith, nat_tests)))
      ] refl

  pub added_records : {E : Type 0} (n : ℕ) (fs : List (ValueAt × ℕ)) (r : Result (Unit {0}) E) → OnOk r (fs ≡ put_count value_at_cmp k n es) → OnErr r (fs ≡ es) → FitsSigned w64 k.value → AreRecords fs
  added_records n fs (Ok u) ok err fits = subst AreRecords (sym ok) (counted n (λ _. fits))
  added_records n fs (Err e) ok err fits = subst AreRecords (sym err) kept

  there : (x : Option ℕ) → IfSome x (λ _. FitsSigned w64 k.value) → or_else 0 x ≢ 0 → FitsSigned w64 k.value
  there None h some = absurd (some refl)
  there (Some n) h some = h

  pub taken_records : (n : ℕ) (fs : List (ValueAt × ℕ)) → fs ≡ put_count value_at_cmp k (number value_at_cmp es k - n) es → AreRecords fs
  taken_records n fs is =
      subst AreRecords (sym is)
      (counted (number value_at_cmp es k - n) (λ some. there (find value_at_cmp k es) (kept.values k) (λ e. some (let z : number value_at_cmp es k - n ≡ 0 = omega (arith, e) in z))))

-- ---- the records at a pointstamp

-- the first and the last key at a pointstamp
abbrev pub first_at : Pointstamp → ValueAt
first_at x = record { point = x; value = negsuc (2 ^ 63 - 1) }

abbrev pub last_at : Pointstamp → ValueAt
last_at x = record { point = x; value = pos (2 ^ 63 - 1) }

pub forward : (x : Pointstamp) → IsLeBy value_at_cmp (first_at x) (last_at x)
forward x = ap (λ r. is_gt (ordering_then r (int_cmp (negsuc (2 ^ 63 - 1)) (pos (2 ^ 63 - 1))))) (tied_itself point_total x)

-- a record is at a pointstamp if it is between these keys
within : (x : Pointstamp) (k : ValueAt) → FitsSigned w64 k.value → range_contains value_at_cmp (Included (first_at x)) (Included (last_at x)) k ≡ is_point x k.point
within x k fits = by (point_cmp x k.point)
  where
    by : (r : Ordering) → (is_le (ordering_then r (int_cmp (negsuc (2 ^ 63 - 1)) k.value)) && not (is_lt (ordering_then r (int_cmp (pos (2 ^ 63 - 1)) k.value)))) ≡ is_eq r
    by Less = refl
    by Equal = λ i. not_below k.value fits i && not (not_above k.value fits i)
    by Greater = refl

-- two tests that agree on each entry give the same sum
passed : (p q : ValueAt × ℕ → Bool) (es : List (ValueAt × ℕ)) → All (λ e. p e ≡ q e) es → sum_by (λ e. e.1) (filter p es) ≡ sum_by (λ e. cond (q e) e.1 0) es
passed p q [] h = refl
passed p q (e ∷ es) h =
    one (p e) (filter p es) ∙ (λ i. cond (h 0 e (omega arith) i) e.1 0 + passed p q es (λ j d lt. h (suc j) d (omega (arith, lt))) i)
    ∙ sym (sum_by-cons (λ (d : ValueAt × ℕ). cond (q d) d.1 0) e es)
  where
    one : (b : Bool) (ds : List (ValueAt × ℕ)) → sum_by (λ (d : ValueAt × ℕ). d.1) (cond b (e ∷ ds) ds) ≡ cond b e.1 0 + sum_by (λ (d : ValueAt × ℕ). d.1) ds
    one true ds = sum_by-cons (λ (d : ValueAt × ℕ). d.1) e ds
    one false ds = omega arith

-- how many of these records are at a pointstamp
abbrev pub number_at_point : Pointstamp → List (ValueAt × ℕ) → ℕ
number_at_point x es = weight (λ (k : ValueAt) n. cond (is_point x k.point) n 0) es

module _ (x : Pointstamp) (es : List (ValueAt × ℕ)) (kept : IsKept value_at_cmp es) where
  -- the number of records at the pointstamp
  pub between_weigh : AreRecords es → sum_by (λ e. e.1) (entries_between value_at_cmp (Included (first_at x)) (Included (last_at x)) es) ≡ number_at_point x es
  between_weigh records =
      passed (λ e. range_contains value_at_cmp (Included (first_at x)) (Included (last_at x)) e.0) (λ e. is_point x e.0.point) es
      (all_found value_at_cmp value_at_total (λ k _. range_contains value_at_cmp (Included (first_at x)) (Included (last_at x)) k ≡ is_point x k.point) es kept.listed
      (λ k n is. within x k (subst (λ v. IfSome v (λ _. FitsSigned w64 k.value)) is (records.values k))))

  -- the entries at one pointstamp, each within its limit, have a small sum
  pub between_few : length (entries_between value_at_cmp (Included (first_at x)) (Included (last_at x)) es) < 2 ^ 63 → sum_by (λ e. e.1) (entries_between value_at_cmp (Included (first_at x)) (Included (last_at x)) es) < 2 ^ 120
  between_few short =
      let those = entries_between value_at_cmp (Included (first_at x)) (Included (last_at x)) es in
      let limited : All (λ (e : ValueAt × ℕ). e.1 ≤ max_count) those
      = All-filter (λ e. range_contains value_at_cmp (Included (first_at x)) (Included (last_at x)) e.0) (λ e. e.1 ≤ max_count) es
      (all_found value_at_cmp value_at_total (λ _ n. n ≤ max_count) es kept.listed (λ k n is. let c : IsCount n = subst (λ v. IfSome v IsCount) is (kept.numbers k) in c.within)) in
      let bound : sum_by (λ (e : ValueAt × ℕ). e.1) those ≤ length those * max_count = sum_by-le (λ (e : ValueAt × ℕ). e.1) max_count those limited in
      let many : length those * max_count ≤ 2 ^ 63 * max_count = omega arith in
      omega arith
