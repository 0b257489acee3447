-- A change that is computed point by point, and the sum and the difference computed in this way.
use Rattle.std.proofs.Common.{◌≡◌, ◌≢◌, ◌≤◌, ◌<◌, ◌+◌, ◌*◌, ◌||◌, ◌⊎◌, ℕ, ℤ, pos, append_assoc, length-append, ◌+ℤ◌, ◌-ℤ◌, Bool, true, false, cond, List, [], ◌∷◌, ◌++◌, take, drop, length, get_or, Option, Some, w64, to_z, of_z, FitsSigned, unsigned_abs, refl, sym, ap, subst, ◌∙◌, inl, inr, arith}
use Rattle.std.proofs.lemmas.Bool.{cond_both, cond-false, or_parts}
use Rattle.std.proofs.lemmas.Int.{ints, to_z-of_z, fits_signed_from_abs}
use Rattle.std.proofs.lemmas.List.{take_all, map_more, map-append, append-nil, take-append-drop, take-map}
use Rattle.std.proofs.lemmas.List.Folds.{list_any-append, list_any_more}
use Rattle.std.proofs.lemmas.Map.Iter.{rest_more}
use Rattle.std.proofs.lemmas.Map.Views.{tells_apart}
use Rattle.std.proofs.Math.Bool.{or-false}
use Rattle.std.proofs.Math.Seq.{get_or-append_seam}
use Rattle.std.specs.Map.Iter.{TakesFirst}
use Rattle.std.specs.Prelude.{Any}
use Rattle.nd_time.specs.Limits.{max_count}
use Rattle.nd_map.specs.Cases.{zero_or_not}
use Rattle.nd_paths.specs.Point.{point_exact}
use Rattle.nd_paths.specs.declared.point.Pointstamp.{Pointstamp}
use Rattle.nd_delta.specs.Delta.{DeltaValue, at, set, plus, minus, combined, entries, points_of, has_point, same, is_point, at-set, at-plus, at-minus, at-absent, at-present, at-none, none, IsTooLarge, IsWithin, IsPartOf, IsApart}
use Rattle.nd_delta.specs.Least.{at-index}
use Rattle.nd_delta.proofs.Among.{entry_of}

-- ---- point by point
-- s has f at the points that c names, and g elsewhere
pub record IsSplit (c : Pointstamp → Bool) (f g : Pointstamp → ℤ) (s : DeltaValue) : Type 0 where
  pub value : (q : Pointstamp) → at s q ≡ cond (c q) (f q) (g q)

-- whether a point is among the first i of the list
abbrev pub first_points : List Pointstamp → ℕ → Pointstamp → Bool
first_points ps i q = has_point q (take i ps)

-- whether one of the first i entries is at the point
abbrev pub first_entries : List (Pointstamp × ℤ) → ℕ → Pointstamp → Bool
first_entries es i q = has_point q (points_of (take i es))

pub next_point : (ps : List Pointstamp) (i : ℕ) (x : Pointstamp) → i < length ps → x ≡ get_or ps i x → (q : Pointstamp) → first_points ps (i + 1) q ≡ (first_points ps i q || is_point q x)
next_point ps i x lt is q = list_any_more (is_point q) ps i x lt ∙ ap (λ y. first_points ps i q || is_point q y) (sym is)

named : (ks : List Pointstamp) (x q : Pointstamp) → has_point q (ks ++ x ∷ []) ≡ (has_point q ks || is_point q x)
named ks x q = list_any-append (is_point q) ks (x ∷ []) ∙ ap (λ b. has_point q ks || b) (or-false (is_point q x))

pub next_entry : (es : List (Pointstamp × ℤ)) (i : ℕ) (x : Pointstamp × ℤ) → i < length es → x ≡ get_or es i x → (q : Pointstamp) → first_entries es (i + 1) q ≡ (first_entries es i q || is_point q x.0)
next_entry es i x lt is q = ap (has_point q) (map_more (λ y. y.0) es i x lt ∙ ap (λ y. points_of (take i es) ++ y.0 ∷ []) (sym is)) ∙ named (points_of (take i es)) x.0 q

-- no point yet
pub split_none : {f : Pointstamp → ℤ} {s : DeltaValue} → s ≡ none → IsSplit (λ _. false) f (λ _. pos 0) s
split_none is = record { value = λ q. ap (λ m. at m q) is ∙ at-none q }

added : (b c : Bool) (x y z w : ℤ) → (b ≡ true → x ≡ y) → w ≡ cond c y z → cond b x w ≡ cond (c || b) y z
added true true x y z w same e = same refl
added true false x y z w same e = same refl
added false true x y z w same e = e
added false false x y z w same e = e

-- one more point
pub one_more : {c d : Pointstamp → Bool} {f g : Pointstamp → ℤ} {s t : DeltaValue} (x : Pointstamp) → IsSplit c f g s → t ≡ set s x (f x) → ((q : Pointstamp) → d q ≡ (c q || is_point q x)) → IsSplit d f g t
one_more {c} {d} {f} {g} {s} {t} x h is more = record {
  value = λ q.
      ap (λ m. at m q) is ∙ at-set s x (f x) q
      ∙ added (is_point q x) (c q) (f x) (f q) (g q) (at s q) (λ e. ap f (sym (tells_apart point_exact q x e))) (h.value q)
      ∙ ap (λ b. cond b (f q) (g q)) (sym (more q));
}

-- all entries
pub all_entries : {f g : Pointstamp → ℤ} {s : DeltaValue} (es : List (Pointstamp × ℤ)) (i : ℕ) → length es ≤ i → IsSplit (first_entries es i) f g s → IsSplit (λ q. has_point q (points_of es)) f g s
all_entries {f} {g} {s} es i past h = subst (λ fs. IsSplit (λ q. has_point q (points_of fs)) f g s) (take_all i es past) h

-- ---- the sum and the difference
-- an integer as the code stores it
pub kept : (x : ℤ) → unsigned_abs x ≤ 2 * max_count → to_z w64 (of_z w64 x) ≡ x
kept x within = to_z-of_z w64 x (fits_signed_from_abs w64 x (omega (arith, within)))

module _ (x y : ℤ) (x_within : unsigned_abs x ≤ max_count) (y_within : unsigned_abs y ≤ max_count) where
  pub lessens : FitsSigned w64 (to_z w64 (of_z w64 x) -ℤ to_z w64 (of_z w64 y))
  lessens = rw (kept x (omega (arith, x_within)), kept y (omega (arith, y_within))) (fits_signed_from_abs w64 (x -ℤ y) (omega (arith, ints, x_within, y_within)))

  module _ (m n : DeltaValue) (q : Pointstamp) (x_is : x ≡ at m q) (y_is : y ≡ at n q) where
    pub summed : to_z w64 (of_z w64 (to_z w64 (of_z w64 x) +ℤ to_z w64 (of_z w64 y))) ≡ at (plus m n) q
    summed =
        rw (kept x (omega (arith, x_within)), kept y (omega (arith, y_within)))
        (kept (x +ℤ y) (omega (arith, ints, x_within, y_within)) ∙ (λ i. x_is i +ℤ y_is i) ∙ sym (at-plus m n q))

    pub lessened : to_z w64 (of_z w64 (to_z w64 (of_z w64 x) -ℤ to_z w64 (of_z w64 y))) ≡ at (minus m n) q
    lessened =
        rw (kept x (omega (arith, x_within)), kept y (omega (arith, y_within)))
        (kept (x -ℤ y) (omega (arith, ints, x_within, y_within)) ∙ (λ i. x_is i -ℤ y_is i) ∙ sym (at-minus m n q))

-- a point at which none of the entries is
absent : (m : DeltaValue) {es : List (Pointstamp × ℤ)} → es ≡ entries m → (q : Pointstamp) → has_point q (points_of es) ≡ false → at m q ≡ pos 0
absent m listed q free = at-absent m q (ap (λ fs. has_point q (points_of fs)) (sym listed) ∙ free)

module _ (b : Bool) (m n : DeltaValue) where
  -- a point at which the second has no entry
  combined_alone : (q : Pointstamp) → at n q ≡ pos 0 → at (combined b m n) q ≡ at m q
  combined_alone q e = alone b
    where
      alone : (c : Bool) → at (combined c m n) q ≡ at m q
      alone true = let d = at-minus m n q in omega (arith, ints, d, e)
      alone false = let d = at-plus m n q in omega (arith, ints, d, e)

  -- s has f at the entries of the second, and the integers of the first elsewhere
  pub combined_is : {es : List (Pointstamp × ℤ)} {f : Pointstamp → ℤ} {s : DeltaValue} → es ≡ entries n → IsSplit (λ q. has_point q (points_of es)) f (at m) s
      → ((q : Pointstamp) → at n q ≢ pos 0 → f q ≡ at (combined b m n) q) → s ≡ combined b m n
  combined_is {es} {f} {s} listed h some =
      same s (combined b m n) (λ q.
      h.value q ∙ cond_both (has_point q (points_of es)) (f q) (at m q) (λ z. z ≡ at (combined b m n) q)
      (λ there. some q (at-present n q (ap (λ fs. has_point q (points_of fs)) (sym listed) ∙ there)))
      (λ free. sym (combined_alone q (absent n listed q free))))

  -- s is computed at the entries of both
  pub joined_is : {es fs : List (Pointstamp × ℤ)} {s : DeltaValue} (i j : ℕ) → es ≡ entries m → fs ≡ entries n → length es ≤ i → length fs ≤ j
      → IsSplit (λ q. first_entries es i q || first_entries fs j q) (at (combined b m n)) (λ _. pos 0) s → s ≡ combined b m n
  joined_is {es} {fs} {s} i j listed_m listed_n first second h =
      same s (combined b m n) (λ q.
      h.value q ∙ cond_both (first_entries es i q || first_entries fs j q) (at (combined b m n) q) (pos 0) (λ z. z ≡ at (combined b m n) q)
      (λ _. refl)
      (λ free.
      let neither = or_parts (first_entries es i q) (first_entries fs j q) free in
      sym (combined_alone q (absent n (take_all j fs second ∙ listed_n) q neither.1) ∙ absent m (take_all i es first ∙ listed_m) q neither.0)))

-- ---- whether it is within the limit
-- if the result exceeds the limit and the first does not, the result exceeds it at an entry of the second
pub large_entry : (b : Bool) (m n : DeltaValue) → IsWithin m → IsTooLarge (combined b m n) → Any (λ e. max_count < unsigned_abs (at (combined b m n) e.0)) (entries n)
large_entry b m n within large = elim (zero_or_not (at n large.0)) [
  | inl absent ↦
      let small : unsigned_abs (at m large.0) ≤ max_count = within large.0 in
      let wide : max_count < unsigned_abs (at m large.0) = rw (combined_alone b m n large.0 absent) at large.1 in
      absurd (omega (arith, small, wide))
  | inr some ↦ entry_of n (λ q _. max_count < unsigned_abs (at (combined b m n) q)) large.0 some large.1
]

-- ---- a change that is built from the entries of another, one by one
-- s has the integers of n at the entries of m so far, and no other entries; rest has the remaining entries
pub record IsMade (m n : DeltaValue) (rest : List (Pointstamp × ℤ)) (s : DeltaValue) : Type 0 where
  pub came : List (Pointstamp × ℤ)
  pub all : came ++ rest ≡ entries m
  pub made : IsSplit (λ q. has_point q (points_of came)) (at n) (λ _. pos 0) s

module _ (m n : DeltaValue) where
  pub made_first : (rest : List (Pointstamp × ℤ)) (s : DeltaValue) → rest ≡ entries m → s ≡ none → IsMade m n rest s
  made_first rest s is nothing = record { came = []; all = is; made = split_none nothing }

  pub made_more : (rest es : List (Pointstamp × ℤ)) (e : Pointstamp × ℤ) (s t : DeltaValue) → rest ≡ e ∷ es → IsMade m n rest s → t ≡ set s e.0 (at n e.0) → IsMade m n es t
  made_more rest es e s t step h is = record {
    came = h.came ++ e ∷ [];
    all = append_assoc h.came (e ∷ []) es ∙ ap (λ fs. h.came ++ fs) (sym step) ∙ h.all;
    made = one_more e.0 h.made is (λ q. ap (has_point q) (map-append (λ y. y.0) h.came (e ∷ [])) ∙ named (points_of h.came) e.0 q);
  }

  -- the entry x that the iterator returned has its point's integer
  pub made_next : {A : Type 0} (shows : A → Pointstamp × ℤ) (rest es : List (Pointstamp × ℤ)) (r : Option A) (x : A) {s : DeltaValue} → r ≡ Some x → TakesFirst shows rest r es → IsMade m n rest s
      → record { step : rest ≡ shows x ∷ es; is : (shows x).1 ≡ at m (shows x).0 }
  made_next shows rest es r x is steps h =
      let step : rest ≡ shows x ∷ es = rest_more shows rest es r x is steps in
      let all : h.came ++ shows x ∷ es ≡ entries m = ap (λ fs. h.came ++ fs) (sym step) ∙ h.all in
      let lt : length h.came < length (entries m) = subst (λ fs. length h.came < length fs) all (rw (length-append h.came (shows x ∷ es)) (omega arith)) in
      record { step = step; is = at-index m (length h.came) (shows x) lt (sym (get_or-append_seam h.came (shows x) es (shows x)) ∙ ap (λ fs. get_or fs (length h.came) (shows x)) all) }

  -- after the last entry, if n has entries only at points at which m has some
  pub made_last : (rest : List (Pointstamp × ℤ)) (s : DeltaValue) → rest ≡ [] → ((q : Pointstamp) → at m q ≡ pos 0 → at n q ≡ pos 0) → IsMade m n rest s → s ≡ n
  made_last rest s end nothing h =
      let all : h.came ≡ entries m = sym (append-nil h.came) ∙ ap (λ fs. h.came ++ fs) (sym end) ∙ h.all in
      same s n (λ q.
      h.made.value q ∙ cond_both (has_point q (points_of h.came)) (at n q) (pos 0) (λ z. z ≡ at n q)
      (λ _. refl)
      (λ free. sym (nothing q (absent m all q free))))

-- ---- what stays after a part is removed
pub minus_none : (m : DeltaValue) → minus m none ≡ m
minus_none m = same _ _ (λ q. let d = at-minus m none q in let e = at-none q in omega (arith, ints, d, e))

module _ (m piece : DeltaValue) (h : IsPartOf piece m) where
  -- an entry stays as it is, or is removed
  stays : (q : Pointstamp) → (at (minus m piece) q ≡ at m q) ⊎ (at (minus m piece) q ≡ pos 0)
  stays q =
      let d = at-minus m piece q in
      elim (zero_or_not (at piece q)) [
        | inl nothing ↦ inl (omega (arith, ints, d, nothing))
        | inr some ↦ let e = h q some in inr (omega (arith, ints, d, e))
      ]

  pub stays_absent : (q : Pointstamp) → at m q ≡ pos 0 → at (minus m piece) q ≡ pos 0
  stays_absent q e = elim (stays q) [ inl s ↦ s ∙ e | inr s ↦ s ]

  pub stays_within : (q : Pointstamp) → unsigned_abs (at m q) ≤ max_count → unsigned_abs (at (minus m piece) q) ≤ max_count
  stays_within q within = elim (stays q) [ inl s ↦ rw s within | inr s ↦ rw s (omega arith) ]

-- ---- a part that is removed or added
-- an entry in a loop over all entries
module _ (m : DeltaValue) {es : List (Pointstamp × ℤ)} (listed : es ≡ entries m) (within : IsWithin m) {i : ℕ} {x : Pointstamp × ℤ} (lt : i < length es) (is : x ≡ get_or es i x) where
  item_is : x.1 ≡ at m x.0
  item_is = at-index m i x (subst (λ fs. i < length fs) listed lt) (is ∙ ap (λ fs. get_or fs i x) listed)

  -- its integer as the code stores it
  pub item_kept : to_z w64 (of_z w64 x.1) ≡ at m x.0
  item_kept = let small = within x.0 in kept x.1 (rw item_is (omega (arith, small))) ∙ item_is

module _ (old piece : DeltaValue) where
  pub part_gone : IsPartOf piece old → (q : Pointstamp) → at piece q ≢ pos 0 → pos 0 ≡ at (minus old piece) q
  part_gone h q some = let d = at-minus old piece q in let e = h q some in omega (arith, ints, d, e)

  module _ (h : IsApart piece old) where
    pub part_here : (q : Pointstamp) → at piece q ≢ pos 0 → at piece q ≡ at (plus old piece) q
    part_here q some = let d = at-plus old piece q in let e = h q some in omega (arith, ints, d, e)

    among : (ks : List Pointstamp) (i : ℕ) (q : Pointstamp) → first_points ks i q ≡ true → has_point q ks ≡ true
    among ks i q t =
        ap (has_point q) (sym (take-append-drop i ks)) ∙ list_any-append (is_point q) (take i ks) (drop i ks)
        ∙ ap (λ b. b || has_point q (drop i ks)) t

    -- the entries that were added are removed again
    pub part_back : {es : List (Pointstamp × ℤ)} (i : ℕ) {s t : DeltaValue} → es ≡ entries piece → IsSplit (first_entries es i) (at piece) (at old) s
        → ((q : Pointstamp) → at t q ≡ cond (first_entries es i q) (pos 0) (at s q)) → t ≡ old
    part_back {es} i {s} {t} listed is gone =
        same t old (λ q.
        gone q ∙ cond_both (first_entries es i q) (pos 0) (at s q) (λ z. z ≡ at old q)
        (λ there. sym (h q (at-present piece q (ap (λ fs. has_point q (points_of fs)) (sym listed) ∙ among (points_of es) i q (ap (has_point q) (take-map (λ y. y.0) i es) ∙ there)))))
        (λ free. is.value q ∙ cond-false (first_entries es i q) (at piece q) (at old q) free))
