-- The composition of two summaries does what the first does, and then what the second does.
use Rattle.std.proofs.Common.{◌≡◌, inl, inr, cond, nat_eq, ℕ, zero, suc, ◌+◌, ◌-◌, ◌<◌, ◌≤◌, List, [], ◌∷◌, ◌++◌, length, take, refl, sym, ◌∙◌, ap, subst, arith, append_assoc, length-take}
use Rattle.std.proofs.lemmas.Bool.{cases_lt, cases_eq, lt-ltb, le-ltb, eq-eqb, ne_eqb}
use Rattle.std.proofs.lemmas.List.{take-append-le, take-take, take_all}
use Rattle.nd_summaries.specs.declared.summary.Summary.{Summary}
use Rattle.std.specs.Prelude.{All}
use Rattle.nd_time.specs.Limits.{max_depth, max_counter}
use Rattle.nd_summaries.specs.Summary.{raised, applied, composed, left_by, IsInLimits}
use Rattle.nd_summaries.proofs.Raised.{length-raised, length-applied, raised-front, raised-raised}

take-append-past : (p q : List ℕ) (n : ℕ) → length p ≤ n → take n (p ++ q) ≡ p ++ take (n - length p) q
take-append-past [] q n h = let e : n ≡ n - 0 = omega arith in ap (λ m. take m q) e
take-append-past (x ∷ p) q zero h = absurd (omega arith)
take-append-past (x ∷ p) q (suc n) h =
    let e : n - length p ≡ suc n - suc (length p) = omega arith in
    ap (λ l. x ∷ l) (take-append-past p q n (omega arith) ∙ ap (λ m. p ++ take m q) e)

take-raised : (n a : ℕ) (c : List ℕ) → n < length c → take n (raised a c) ≡ take n c
take-raised n a [] h = absurd (omega arith)
take-raised zero a (x ∷ c) h = refl
take-raised (suc n) a (x ∷ []) h = absurd (omega arith)
take-raised (suc n) a (x ∷ y ∷ c) h = ap (λ l. x ∷ l) (take-raised n a (y ∷ c) (omega arith))

-- the composition if the second summary keeps more counters
abbrev pub over : Summary → Summary → Summary
over s t = record { keep = s.keep; add = s.add; constants = applied (record { keep = t.keep - s.keep; add = t.add; constants = t.constants }) s.constants }

-- the composition if it does not
abbrev within : Summary → ℕ → Summary
within t a = record { keep = t.keep; add = a; constants = t.constants }

pub composed_over : (s t : Summary) → s.keep < t.keep → composed s t ≡ over s t
composed_over s t l = ap (λ b. cond b (over s t) (within t (cond (nat_eq s.keep t.keep) (s.add + t.add) t.add))) (lt-ltb s.keep t.keep l)

pub composed_same : (s t : Summary) → s.keep ≡ t.keep → composed s t ≡ record { keep = t.keep; add = s.add + t.add; constants = t.constants }
composed_same s t e =
    ap (λ b. cond b (over s t) (within t (cond (nat_eq s.keep t.keep) (s.add + t.add) t.add))) (le-ltb s.keep t.keep (omega arith))
    ∙ ap (λ b. within t (cond b (s.add + t.add) t.add)) (eq-eqb s.keep t.keep e)

pub composed_less : (s t : Summary) → t.keep < s.keep → composed s t ≡ t
composed_less s t l =
    let ne : s.keep ≡ t.keep → ⊥ = λ e. omega arith in
    ap (λ b. cond b (over s t) (within t (cond (nat_eq s.keep t.keep) (s.add + t.add) t.add))) (le-ltb s.keep t.keep (omega arith))
    ∙ ap (λ b. within t (cond b (s.add + t.add) t.add)) (ne_eqb s.keep t.keep ne)

module _ (s t : Summary) (c : List ℕ) (h : s.keep ≤ length c) (k : t.keep ≤ left_by s) where
  kept : List ℕ
  kept = raised s.add (take s.keep c)

  kept_size : length kept ≡ s.keep
  unfolding kept
  kept_size = omega (arith, length-raised s.add (take s.keep c), length-take s.keep c)

  deeper : s.keep < t.keep → applied (over s t) c ≡ applied t (applied s c)
  unfolding kept
  deeper l =
      let part : List ℕ = take (t.keep - s.keep) s.constants in
      let some : 0 < length part = omega (arith, length-take (t.keep - s.keep) s.constants) in
      let cut : take t.keep (kept ++ s.constants) ≡ kept ++ part = take-append-past kept s.constants t.keep (omega (arith, kept_size)) ∙ ap (λ n. kept ++ take (t.keep - n) s.constants) kept_size in
      sym (append_assoc kept (raised t.add part) t.constants) ∙ ap (λ v. v ++ t.constants) (sym (raised-front t.add kept part some)) ∙ ap (λ v. raised t.add v ++ t.constants) (sym cut)

  same : s.keep ≡ t.keep → applied (record { keep = t.keep; add = s.add + t.add; constants = t.constants }) c ≡ applied t (applied s c)
  unfolding kept
  same e =
      let cut : take t.keep (kept ++ s.constants) ≡ kept = take-append-le t.keep kept s.constants (omega (arith, kept_size)) ∙ take_all t.keep kept (omega (arith, kept_size)) in
      ap (λ v. v ++ t.constants) (ap (λ n. raised (s.add + t.add) (take n c)) (sym e) ∙ sym (raised-raised s.add t.add (take s.keep c)) ∙ ap (raised t.add) (sym cut))

  shallower : t.keep < s.keep → applied t c ≡ applied t (applied s c)
  unfolding kept
  shallower l =
      let cut : take t.keep (kept ++ s.constants) ≡ take t.keep c =
      take-append-le t.keep kept s.constants (omega (arith, kept_size)) ∙ take-raised t.keep s.add (take s.keep c) (omega (arith, length-take s.keep c)) ∙ take-take t.keep s.keep c (omega arith) in
      ap (λ v. raised t.add v ++ t.constants) (sym cut)

  pub applied-composed : applied (composed s t) c ≡ applied t (applied s c)
  applied-composed =
      let P : Summary → Type 0 = λ u. applied u c ≡ applied t (applied s c) in
      elim (cases_lt s.keep t.keep) [
        | inl l ↦ subst P (sym (composed_over s t l)) (deeper l)
        | inr l ↦ elim (cases_eq s.keep t.keep) [
          | inl e ↦ subst P (sym (composed_same s t e)) (same e)
          | inr ne ↦ subst P (sym (composed_less s t (omega arith))) (shallower (omega arith))
        ]
      ]

pub effect_of_composed : (s t u : Summary) → u ≡ composed s t → t.keep ≤ left_by s → (c : List ℕ) → s.keep ≤ length c → applied u c ≡ applied t (applied s c)
effect_of_composed s t u e k c h = ap (λ v. applied v c) e ∙ applied-composed s t c h k

pub length-over : (s t : Summary) → s.keep ≤ t.keep → t.keep ≤ left_by s → left_by (over s t) ≡ left_by t
length-over s t l k =
    let inside : t.keep - s.keep ≤ length s.constants = omega arith in
    let size = length-applied (record { keep = t.keep - s.keep; add = t.add; constants = t.constants }) s.constants inside in
    omega arith

pub limits_over : (s t : Summary) → s.keep < t.keep → t.keep ≤ left_by s → s.add ≤ max_counter → All (λ x. x ≤ max_counter) (over s t).constants → left_by t ≤ max_depth → IsInLimits (composed s t)
limits_over s t l k add small depth =
    subst IsInLimits (sym (composed_over s t l)) (record { add = add; constants = small; depth = omega (arith, length-over s t (omega arith) k) })

pub limits_same : (s t : Summary) → s.keep ≡ t.keep → s.add + t.add ≤ max_counter → All (λ x. x ≤ max_counter) t.constants → left_by t ≤ max_depth → IsInLimits (composed s t)
limits_same s t e add small depth = subst IsInLimits (sym (composed_same s t e)) (record { add = add; constants = small; depth = depth })

-- the composition leaves as many counters as the second summary
pub left_by_composed : (s t : Summary) → t.keep ≤ left_by s → left_by (composed s t) ≡ left_by t
left_by_composed s t k =
    elim (cases_lt s.keep t.keep) [
      | inl l ↦ ap left_by (composed_over s t l) ∙ length-over s t (omega arith) k
      | inr l ↦ elim (cases_eq s.keep t.keep) [
        | inl e ↦ ap left_by (composed_same s t e)
        | inr ne ↦ ap left_by (composed_less s t (omega arith))
      ]
    ]
