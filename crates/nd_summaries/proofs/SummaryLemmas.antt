-- Comparing the counters after a summary, number by number.
use Rattle.std.proofs.Common.{◌≡◌, inl, inr, ℕ, zero, suc, ◌+◌, ◌-◌, ◌<◌, ◌≤◌, ◌≢◌, true, false, ◌&&◌, nat_lt, nat_le, List, [], ◌∷◌, length, take, drop, get_or, refl, ◌∙◌, ap, arith, length-take}
use Rattle.std.specs.Ordering.{nat_cmp, is_le, ordering_then}
use Rattle.std.specs.Cmp.Lexicographic.{slice_cmp}
use Rattle.std.proofs.lemmas.Bool.Decides.{nat_tests, leb_tells}
use Rattle.std.proofs.lemmas.List.{drop_more, drop_all, get_or-take, get_or_append_left, get_or-append_right}
use Rattle.nd_summaries.specs.declared.summary.Summary.{Summary}
use Rattle.nd_summaries.specs.Summary.{raised, applied}
use Rattle.nd_summaries.specs.Steps.{each_at_most}
use Rattle.nd_summaries.proofs.Raised.{length-raised}

-- ---- the number at a position

raised_last : (a : ℕ) (c : List ℕ) (i : ℕ) → i + 1 ≡ length c → get_or (raised a c) i 0 ≡ get_or c i 0 + a
raised_last a [] i h = absurd (omega arith)
raised_last a (x ∷ []) zero h = refl
raised_last a (x ∷ []) (suc i) h = absurd (omega arith)
raised_last a (x ∷ y ∷ c) zero h = absurd (omega arith)
raised_last a (x ∷ y ∷ c) (suc i) h = raised_last a (y ∷ c) i (omega arith)

raised_outer : (a : ℕ) (c : List ℕ) (i : ℕ) → i + 1 < length c → get_or (raised a c) i 0 ≡ get_or c i 0
raised_outer a [] i h = absurd (omega arith)
raised_outer a (x ∷ []) i h = absurd (omega arith)
raised_outer a (x ∷ y ∷ c) zero h = refl
raised_outer a (x ∷ y ∷ c) (suc i) h = raised_outer a (y ∷ c) i (omega arith)

module _ (s : Summary) (c : List ℕ) (i : ℕ) (kept : s.keep ≤ length c) where
  size : length (raised s.add (take s.keep c)) ≡ s.keep
  size = omega (arith, length-raised s.add (take s.keep c), length-take s.keep c)

  -- a constant
  pub at_constant : s.keep ≤ i → get_or (applied s c) i 0 ≡ get_or s.constants (i - s.keep) 0
  at_constant h = get_or-append_right (raised s.add (take s.keep c)) s.constants s.keep i 0 size h

  -- the last counter that is kept, to which the summary adds
  pub at_last : i + 1 ≡ s.keep → get_or (applied s c) i 0 ≡ get_or c i 0 + s.add
  at_last h =
      get_or_append_left (raised s.add (take s.keep c)) s.constants 0 i (omega (arith, size))
      ∙ raised_last s.add (take s.keep c) i (omega (arith, length-take s.keep c))
      ∙ ap (λ n. n + s.add) (get_or-take s.keep c i 0 (omega arith))

  -- a counter further out
  pub at_outer : i + 1 < s.keep → get_or (applied s c) i 0 ≡ get_or c i 0
  at_outer h =
      get_or_append_left (raised s.add (take s.keep c)) s.constants 0 i (omega (arith, size))
      ∙ raised_outer s.add (take s.keep c) i (omega (arith, length-take s.keep c))
      ∙ get_or-take s.keep c i 0 (omega arith)

-- ---- the first difference decides

compared_at : (xs ys : List ℕ) (i : ℕ) → i < length xs → i < length ys → slice_cmp nat_cmp (drop i xs) (drop i ys) ≡ ordering_then (nat_cmp (get_or xs i 0) (get_or ys i 0)) (slice_cmp nat_cmp (drop (i + 1) xs) (drop (i + 1) ys))
compared_at xs ys i h k = rw (drop_more xs i 0 h, drop_more ys i 0 k) refl

-- if two lists have the same number at a position, the rest decides
pub same_at : (xs ys : List ℕ) (i : ℕ) → i < length xs → i < length ys → get_or xs i 0 ≡ get_or ys i 0 → slice_cmp nat_cmp (drop (i + 1) xs) (drop (i + 1) ys) ≡ slice_cmp nat_cmp (drop i xs) (drop i ys)
same_at xs ys i h k e = grind (arith, nat_tests, compared_at xs ys i h k)

-- if they differ there, that decides
pub differ_at : (xs ys : List ℕ) (i : ℕ) → i < length xs → i < length ys → get_or xs i 0 ≢ get_or ys i 0 → nat_lt (get_or xs i 0) (get_or ys i 0) ≡ is_le (slice_cmp nat_cmp (drop i xs) (drop i ys))
differ_at xs ys i h k e = grind (arith, nat_tests, compared_at xs ys i h k)

-- after the end the lists are equal
pub same_past : (xs ys : List ℕ) (i : ℕ) → length xs ≤ i → length ys ≤ i → is_le (slice_cmp nat_cmp (drop i xs) (drop i ys)) ≡ true
same_past xs ys i h k = rw (drop_all i xs h, drop_all i ys k) refl

-- ---- each number at most the one at its place

each_at : (xs ys : List ℕ) (i : ℕ) → i < length xs → i < length ys → each_at_most (drop i xs) (drop i ys) ≡ (nat_le (get_or xs i 0) (get_or ys i 0) && each_at_most (drop (i + 1) xs) (drop (i + 1) ys))
each_at xs ys i h k = rw (drop_more xs i 0 h, drop_more ys i 0 k) refl

-- a number that is greater than the other at its place decides
pub each_differ : (xs ys : List ℕ) (i : ℕ) → i < length xs → i < length ys → get_or ys i 0 < get_or xs i 0 → each_at_most (drop i xs) (drop i ys) ≡ false
each_differ xs ys i h k l =
    elim (leb_tells (get_or xs i 0) (get_or ys i 0)) [ inl t ↦ absurd (omega (arith, t.1, l)) | inr f ↦ rw (each_at xs ys i h k, f.0) refl ]

-- otherwise the rest decides
pub each_same : (xs ys : List ℕ) (i : ℕ) → i < length xs → i < length ys → get_or xs i 0 ≤ get_or ys i 0 → each_at_most (drop (i + 1) xs) (drop (i + 1) ys) ≡ each_at_most (drop i xs) (drop i ys)
each_same xs ys i h k l =
    elim (leb_tells (get_or xs i 0) (get_or ys i 0)) [ inl t ↦ rw (each_at xs ys i h k, t.0) refl | inr f ↦ absurd (omega (arith, f.1, l)) ]

-- nothing is left after the end
pub each_past : (xs ys : List ℕ) (i : ℕ) → length xs ≤ i → length ys ≤ i → each_at_most (drop i xs) (drop i ys) ≡ true
each_past xs ys i h k = rw (drop_all i xs h, drop_all i ys k) refl
