-- What the seats of the workers are given, and what they have drawn.
use Rattle.std.proofs.Common.{◌≡◌, ◌<◌, ◌≤◌, ℕ, zero, suc, ◌+◌, ◌-◌, ◌*◌, List, [], ◌∷◌, ◌++◌, sym, ap, ◌∙◌, inl, inr, arith}
use Rattle.std.proofs.lemmas.Bool.{cases_lt}
use Rattle.nd_history.specs.declared.hand.Hand.{Hand}
use Rattle.nd_history.specs.Hands.{hand}

at_least_one : (n p : ℕ) → 0 < n → p ≤ n * p
at_least_one zero p some = absurd (omega (arith, some))
at_least_one (suc n) p some = omega arith

one_less : (k n p : ℕ) → n ≡ k + 1 → n * p - p ≡ k * p
one_less k n p is = rw is (omega arith)

none_left : (k n p : ℕ) → n ≡ 0 → k ≡ 0 → n * p - p ≡ k * p
none_left k n p is here = rw (is, here) (omega arith)

no_share : (n p : ℕ) → n ≡ 0 → n * p ≡ 0
no_share n p is = rw is (omega arith)

-- one share less
less : (workers number p : ℕ) → (workers - number) * p - p ≡ (workers - (number + 1)) * p
less workers number p =
    elim (cases_lt number workers) [
      | inl lt ↦ one_less (workers - (number + 1)) (workers - number) p (omega (arith, lt))
      | inr ge ↦ none_left (workers - (number + 1)) (workers - number) p (omega (arith, ge)) (omega (arith, ge))
    ]

-- the value of a seat: its hand, and the slots that it holds
abbrev Me : Type 0 → Type 0
Me X = Hand × List X

module _ {X : Type 0} where
  module _ (p workers number : ℕ) (me : Me X) (is : me ≡ (hand p ((workers - number) * p) [], [])) where
    pub enough : number < workers → me.0.each ≤ me.0.allowance
    enough lt =
        let each : me.0.each ≡ p = ap (λ (m : Me X). m.0.each) is in
        let left : me.0.allowance ≡ (workers - number) * p = ap (λ (m : Me X). m.0.allowance) is in
        let some : p ≤ (workers - number) * p = at_least_one (workers - number) p (omega (arith, lt)) in
        omega (arith, each, left, some)

    pub share_left : (new : Me X) → new ≡ (hand me.0.each (me.0.allowance - me.0.each) me.0.drawn, me.1) → new ≡ (hand p ((workers - (number + 1)) * p) [], [])
    share_left new made =
        made ∙ (ap (λ (m : Me X). (hand m.0.each (m.0.allowance - m.0.each) m.0.drawn, m.1)) is ∙ ap (λ (a : ℕ). (hand p a [], [])) (less workers number p))

    pub share_given : (new : Me X) → new ≡ (hand me.0.each me.0.each [], []) → new ≡ (hand p p [], [])
    share_given new made = made ∙ ap (λ (m : Me X). (hand m.0.each m.0.each [], [])) is

    pub none_remains : workers ≤ number → me ≡ (hand p 0 [], [])
    none_remains all = is ∙ ap (λ (a : ℕ). (hand p a [], [])) (no_share (workers - number) p (omega (arith, all)))

  -- at the start
  pub undrawn : (me : Me X) (p : ℕ) (claimed : List ℕ) → me ≡ (hand p p [], []) → claimed ≡ [] → me ≡ (hand p (p - 0) claimed, [])
  undrawn me p claimed is none =
      let same : p ≡ p - 0 = omega arith in
      is ∙ (ap (λ (a : ℕ). (hand p a [], [])) same ∙ ap (λ (ns : List ℕ). (hand p (p - 0) ns, [])) (sym none))

  pub unshared : (me : Me X) (p workers : ℕ) → me ≡ (hand p (workers * p) [], []) → me ≡ (hand p ((workers - 0) * p) [], [])
  unshared me p workers is =
      let same : workers ≡ workers - 0 = omega arith in
      is ∙ ap (λ (n : ℕ). (hand p (n * p) [], [])) same

  -- a number is drawn
  pub drew : (me new : Me X) (each a b n : ℕ) (claimed more : List ℕ) → me ≡ (hand each a claimed, []) → new ≡ (hand me.0.each (me.0.allowance - 1) (me.0.drawn ++ n ∷ []), me.1) → a - 1 ≡ b → claimed ++ n ∷ [] ≡ more → new ≡ (hand each b more, [])
  drew me new each a b n claimed more is made left drawn =
      made ∙ (ap (λ (m : Me X). (hand m.0.each (m.0.allowance - 1) (m.0.drawn ++ n ∷ []), m.1)) is
      ∙ (ap (λ (a : ℕ). (hand each a (claimed ++ n ∷ []), [])) left ∙ ap (λ (ns : List ℕ). (hand each b ns, [])) drawn))
