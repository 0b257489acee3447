-- Each of the three moves keeps the invariant.
use Rattle.std.proofs.Common.{◌≡◌, ◌≢◌, ℕ, zero, suc, ◌<◌, ◌≤◌, ◌⊎◌, inl, inr, List, [], ◌∷◌, ◌++◌, length, drop, refl, sym, subst, subst₂, ap, arith, ℤ, pos, ◌+ℤ◌}
use Rattle.std.proofs.lemmas.Int.{ints}
use Rattle.nd_protocol.proofs.Core.{IsStrictOrder, IsFinite, IsHeld, sum_at, Reading, pending, IsBalanced, IsSound, Adds, Performs, Broadcasts, Receives, Steps, IsStart}
use Rattle.nd_delta.specs.Upright.{IsUpright}
use Rattle.nd_protocol.specs.Invariant.{total}
use Rattle.nd_protocol.proofs.UprightSums.{in_left, in_right, finite_zero, finite_sum, upright_same, upright_wider, upright_sum}
use Rattle.nd_map.specs.Cases.{zero_or_not}
use Rattle.std.proofs.lemmas.Bool.{cases_eq}

pub both_or_not : (a b c d : ℕ) → ((a ≡ b) × (c ≡ d)) ⊎ (a ≡ b → c ≡ d → ⊥)
both_or_not a b c d =
    elim (cases_eq a b) [
      | inl e ↦ elim (cases_eq c d) [ inl f ↦ inl (e, f) | inr ne ↦ inr (λ _ f. ne f) ]
      | inr ne ↦ inr (λ e _. ne e)
    ]

pub le_or_more : (a b : ℕ) → (a ≤ b) ⊎ (b < a)
le_or_more zero b = inl (omega arith)
le_or_more (suc a) zero = inr (omega arith)
le_or_more (suc a) (suc b) = elim (le_or_more a b) [ inl h ↦ inl (omega arith) | inr h ↦ inr (omega arith) ]

pub total_same : (n : ℕ) (f g : ℕ → ℤ) → ((p : ℕ) → p < n → g p ≡ f p) → total n g ≡ total n f
total_same zero f g same = refl
total_same (suc n) f g same =
    let e : total n g ≡ total n f = total_same n f g (λ p h. same p (omega arith)) in
    let l : g n ≡ f n = same n (omega arith) in
    omega (arith, ints)

-- one part of a sum grows by a
pub total_more : (n p : ℕ) (f g : ℕ → ℤ) (a : ℤ) → p < n → g p ≡ (f p +ℤ a) → ((k : ℕ) → k ≢ p → g k ≡ f k) → total n g ≡ (total n f +ℤ a)
total_more zero p f g a h here others = absurd (omega arith)
total_more (suc n) p f g a h here others =
    elim (cases_eq n p) [
      | inl e ↦
          let l : g n ≡ (f n +ℤ a) = subst (λ k. g k ≡ (f k +ℤ a)) (sym e) here in
          let m : total n g ≡ total n f = total_same n f g (λ k lt. others k (λ e'. omega arith)) in
          omega (arith, ints)
      | inr ne ↦
          let l : g n ≡ f n = others n ne in
          let m : total n g ≡ (total n f +ℤ a) = total_more n p f g a (omega arith) here others in
          omega (arith, ints)
    ]

pub total_zero : (n : ℕ) (f : ℕ → ℤ) → ((p : ℕ) → p < n → f p ≡ pos 0) → total n f ≡ pos 0
total_zero zero f h = refl
total_zero (suc n) f h =
    let e : total n f ≡ pos 0 = total_zero n f (λ p l. h p (omega arith)) in
    let l : f n ≡ pos 0 = h n (omega arith) in
    omega (arith, ints)

module _ {P C : Type 0} (R : P → P → Type 0) (at : C → P → ℤ) where
  sum_back : (cs : List C) (c : C) (k : ℕ) (x : P) → k ≤ length cs → sum_at at (drop k (cs ++ c ∷ [])) x ≡ (sum_at at (drop k cs) x +ℤ at c x)
  sum_back [] c zero x h = omega (arith, ints)
  sum_back [] c (suc k) x h = absurd (omega arith)
  sum_back (b ∷ bs) c zero x h =
      let e : sum_at at (drop zero (bs ++ c ∷ [])) x ≡ (sum_at at (drop zero bs) x +ℤ at c x) = sum_back bs c zero x (omega arith) in
      omega (arith, ints)
  sum_back (b ∷ bs) c (suc k) x h = sum_back bs c k x (omega arith)

  sum_none : (cs : List C) (c : C) (k : ℕ) (x : P) → length cs < k → sum_at at (drop k (cs ++ c ∷ [])) x ≡ pos 0
  sum_none cs c zero x h = absurd (omega arith)
  sum_none [] c (suc zero) x h = refl
  sum_none [] c (suc (suc k)) x h = refl
  sum_none (b ∷ bs) c (suc k) x h = sum_none bs c k x (omega arith)

  sum_of_nil : (k : ℕ) (x : P) → sum_at at (drop k []) x ≡ pos 0
  sum_of_nil zero x = refl
  sum_of_nil (suc k) x = refl

  pending_start : (r : Reading P C) → IsStart R at r → (p q k : ℕ) → p < r.n → q < r.n → (x : P) → pending R at r p q k x ≡ pos 0
  pending_start r st p q k l h x =
      let u : at (r.unsent p) x ≡ pos 0 = st.unsent p l x in
      let e : sum_at at (drop k (r.queue p q)) x ≡ pos 0 = rw (st.queue p q l h) (sum_of_nil k x) in
      omega (arith, ints)

  pub start_sound : (r : Reading P C) → IsStart R at r → IsSound R at r
  start_sound r st = record {
    balance = λ q h x.
        let e : total r.n (λ p. pending R at r p q 0 x) ≡ pos 0
        = total_zero r.n (λ p. pending R at r p q 0 x) (λ p l. pending_start r st p q 0 l h x) in
        let v : at (r.view q) x ≡ pos (r.truth x) = st.view q h x in
        omega (arith, ints);
    upright = λ p q k l h le x up.
        let e : pending R at r p q k x ≡ pos 0 = pending_start r st p q k l h x in
        absurd (omega (arith, ints));
    counted = st.counted;
  }

  -- ---- p executes a step
  module _ (p : ℕ) (d : P → ℤ) (r s : Reading P C) (step : Adds R at p d r s) where
    pub performed_here : (q k : ℕ) (x : P) → pending R at s p q k x ≡ (pending R at r p q k x +ℤ d x)
    performed_here q k x =
        let u : at (s.unsent p) x ≡ (at (r.unsent p) x +ℤ d x) = step.unsent x in
        let e : sum_at at (drop k (s.queue p q)) x ≡ sum_at at (drop k (r.queue p q)) x = ap (λ v. sum_at at (drop k v) x) (step.queue p q) in
        omega (arith, ints)

    pub performed_there : (j : ℕ) → j ≢ p → (q k : ℕ) (x : P) → pending R at s j q k x ≡ pending R at r j q k x
    performed_there j ne q k x = rw (step.queue j q, step.unsent_others j ne) refl

    performed_balance : IsBalanced R at r → (q : ℕ) → q < r.n → (x : P) → pos (s.truth x) ≡ (at (s.view q) x +ℤ total s.n (λ j. pending R at s j q 0 x))
    performed_balance balance q h x =
        let b : pos (r.truth x) ≡ (at (r.view q) x +ℤ total r.n (λ j. pending R at r j q 0 x)) = balance q h x in
        let t : pos (s.truth x) ≡ (pos (r.truth x) +ℤ d x) = step.truth x in
        let v : at (s.view q) x ≡ at (r.view q) x = ap (λ c. at c x) (step.view q) in
        let m : total r.n (λ j. pending R at s j q 0 x) ≡ (total r.n (λ j. pending R at r j q 0 x) +ℤ d x)
        = total_more r.n p (λ j. pending R at r j q 0 x) (λ j. pending R at s j q 0 x) (d x) step.here (performed_here q 0 x) (λ j ne. performed_there j ne q 0 x) in
        rw step.n (omega (arith, ints))

    pub performed_balanced : IsBalanced R at r → IsBalanced R at s
    performed_balanced balance q h x = performed_balance balance q (subst (λ v. q < v) step.n h) x

module _ {P C : Type 0} (R : P → P → Type 0) (o : IsStrictOrder R) (at : C → P → ℤ) (finite : (c : C) → IsFinite (at c)) where
  pub finite_queue : (cs : List C) → IsFinite (sum_at at cs)
  finite_queue [] = finite_zero
  finite_queue (c ∷ cs) = finite_sum (at c) (sum_at at cs) (finite c) (finite_queue cs)

  pub finite_pending : (r : Reading P C) (p q k : ℕ) → IsFinite (pending R at r p q k)
  finite_pending r p q k = finite_sum (sum_at at (drop k (r.queue p q))) (at (r.unsent p)) (finite_queue (drop k (r.queue p q))) (finite (r.unsent p))

  -- ---- p executes a step whose addition is upright
  module _ (p : ℕ) (d : P → ℤ) (r s : Reading P C) (step : Performs R at p d r s) where
    gain_finite : IsFinite d
    gain_finite =
        let f : IsFinite (at (r.unsent p)) = finite (r.unsent p) in
        let g : IsFinite (at (s.unsent p)) = finite (s.unsent p) in (
          f.0 ++ g.0,
          λ x h.
              let u : at (s.unsent p) x ≡ (at (r.unsent p) x +ℤ d x) = step.adds.unsent x in
              elim (zero_or_not (at (r.unsent p) x)) [
                | inl e ↦ in_right f.0 g.0 x (g.1 x (λ e'. h (omega (arith, ints))))
                | inr ne ↦ in_left f.0 g.0 x (f.1 x ne)
              ],
        )

    performed_upright : IsSound R at r → (j q k : ℕ) → j < r.n → q < r.n → k ≤ length (r.queue j q) → IsUpright R (IsHeld s j) (pending R at s j q k)
    performed_upright sound j q k l h le =
        elim (cases_eq j p) [
          | inl e ↦ rw e (upright_same R (IsHeld s p) (λ x. pending R at r p q k x +ℤ d x) (pending R at s p q k) (performed_here R at p d r s step.adds q k)
              (upright_sum R o (IsHeld r p) (IsHeld s p) (pending R at r p q k) d step.moved (finite_pending r p q k) gain_finite
              (sound.upright p q k step.adds.here h (subst (λ v. k ≤ length (r.queue v q)) e le)) step.justified))
          | inr ne ↦ upright_same R (IsHeld s j) (pending R at r j q k) (pending R at s j q k) (performed_there R at p d r s step.adds j ne q k)
              (upright_wider R (IsHeld r j) (IsHeld s j) (pending R at r j q k) (λ y held. subst (λ v. 0 < v) (sym (step.others j ne y)) held)
              (sound.upright j q k l h le))
        ]

    pub performed : IsSound R at r → IsSound R at s
    performed sound = record {
      balance = performed_balanced R at p d r s step.adds sound.balance;
      upright = λ j q k l h le. performed_upright sound j q k (subst (λ v. j < v) step.adds.n l) (subst (λ v. q < v) step.adds.n h)
          (subst (λ v. k ≤ length v) (step.adds.queue j q) le);
      counted = λ j l x. step.counted j (subst (λ v. j < v) step.adds.n l) x;
    }

  -- ---- p sends c to all processors
  module _ (p : ℕ) (c : C) (r s : Reading P C) (step : Broadcasts R at p c r s) where
    sent_same_held : (j : ℕ) (y : P) → IsHeld r j y → IsHeld s j y
    sent_same_held j y held = subst (λ v. 0 < v) (sym (step.supports j y)) held

    sent_here : (q k : ℕ) → q < r.n → k ≤ length (r.queue p q) → (x : P) → pending R at s p q k x ≡ pending R at r p q k x
    sent_here q k h le x =
        let u : at (r.unsent p) x ≡ (at c x +ℤ at (s.unsent p) x) = step.unsent x in
        let e : sum_at at (drop k (s.queue p q)) x ≡ (sum_at at (drop k (r.queue p q)) x +ℤ at c x)
        = rw (step.queue q h) (sum_back R at (r.queue p q) c k x le) in
        omega (arith, ints)

    sent_all : (q k : ℕ) → q < r.n → length (r.queue p q) < k → (x : P) → pending R at s p q k x ≡ at (s.unsent p) x
    sent_all q k h gt x =
        let e : sum_at at (drop k (s.queue p q)) x ≡ pos 0 = rw (step.queue q h) (sum_none R at (r.queue p q) c k x gt) in
        omega (arith, ints)

    sent_there : (j : ℕ) → j ≢ p → (q k : ℕ) (x : P) → pending R at s j q k x ≡ pending R at r j q k x
    sent_there j ne q k x = rw (step.queue_others j q ne, step.unsent_others j ne) refl

    sent_balance : IsBalanced R at r → (q : ℕ) → q < r.n → (x : P) → pos (s.truth x) ≡ (at (s.view q) x +ℤ total s.n (λ j. pending R at s j q 0 x))
    sent_balance balance q h x =
        let b : pos (r.truth x) ≡ (at (r.view q) x +ℤ total r.n (λ j. pending R at r j q 0 x)) = balance q h x in
        let t : s.truth x ≡ r.truth x = step.truth x in
        let v : at (s.view q) x ≡ at (r.view q) x = ap (λ c. at c x) (step.view q) in
        let m : total r.n (λ j. pending R at s j q 0 x) ≡ total r.n (λ j. pending R at r j q 0 x)
        = total_same r.n (λ j. pending R at r j q 0 x) (λ j. pending R at s j q 0 x)
        (λ j l. elim (cases_eq j p) [
          | inl e ↦ rw e (sent_here q 0 h (omega arith) x)
          | inr ne ↦ sent_there j ne q 0 x
        ]) in
        rw step.n (omega (arith, ints))

    pub sent_balanced : IsBalanced R at r → IsBalanced R at s
    sent_balanced balance q h x = sent_balance balance q (subst (λ v. q < v) step.n h) x

    sent_upright : IsSound R at r → (j q k : ℕ) → j < r.n → q < r.n → k ≤ length (s.queue j q) → IsUpright R (IsHeld s j) (pending R at s j q k)
    sent_upright sound j q k l h le =
        elim (cases_eq j p) [
          | inl e ↦ rw e (elim (le_or_more k (length (r.queue p q))) [
            | inl le' ↦ upright_same R (IsHeld s p) (pending R at r p q k) (pending R at s p q k) (sent_here q k h le')
                (upright_wider R (IsHeld r p) (IsHeld s p) (pending R at r p q k) (sent_same_held p) (sound.upright p q k step.here h le'))
            | inr gt ↦ upright_same R (IsHeld s p) (at (s.unsent p)) (pending R at s p q k) (sent_all q k h gt)
                (upright_wider R (IsHeld r p) (IsHeld s p) (at (s.unsent p)) (sent_same_held p) step.stays)
          ])
          | inr ne ↦ upright_same R (IsHeld s j) (pending R at r j q k) (pending R at s j q k) (sent_there j ne q k)
              (upright_wider R (IsHeld r j) (IsHeld s j) (pending R at r j q k) (sent_same_held j)
              (sound.upright j q k l h (subst (λ v. k ≤ length v) (step.queue_others j q ne) le)))
        ]

    pub sent : IsSound R at r → IsSound R at s
    sent sound = record {
      balance = sent_balanced sound.balance;
      upright = λ j q k l h le. sent_upright sound j q k (subst (λ v. j < v) step.n l) (subst (λ v. q < v) step.n h) le;
      counted = λ j l x. rw (step.supports j x, step.truth x) (sound.counted j (subst (λ v. j < v) step.n l) x);
    }

  -- ---- q receives the front of the queue from p
  module _ (p q : ℕ) (c : C) (r s : Reading P C) (step : Receives R at p q c r s) where
    taken_same_held : (j : ℕ) (y : P) → IsHeld r j y → IsHeld s j y
    taken_same_held j y held = subst (λ v. 0 < v) (sym (step.supports j y)) held

    taken_here : (k : ℕ) (x : P) → pending R at s p q k x ≡ pending R at r p q (suc k) x
    taken_here k x = rw (step.queue, step.unsent p) refl

    taken_there : (j l k : ℕ) → (j ≡ p → l ≡ q → ⊥) → (x : P) → pending R at s j l k x ≡ pending R at r j l k x
    taken_there j l k apart x = rw (step.queue_others j l apart, step.unsent j) refl

    taken_front : (x : P) → pending R at r p q 0 x ≡ (pending R at s p q 0 x +ℤ at c x)
    taken_front x = rw (step.queue, step.unsent p) (omega (arith, ints))

    taken_balance : IsBalanced R at r → (l : ℕ) → l < r.n → (x : P) → pos (s.truth x) ≡ (at (s.view l) x +ℤ total s.n (λ j. pending R at s j l 0 x))
    taken_balance balance l h x =
        let b : pos (r.truth x) ≡ (at (r.view l) x +ℤ total r.n (λ j. pending R at r j l 0 x)) = balance l h x in
        let t : s.truth x ≡ r.truth x = step.truth x in
        elim (cases_eq l q) [
          | inl e ↦
              let v : at (s.view l) x ≡ (at (r.view l) x +ℤ at c x) = rw e (step.view x) in
              let m : total r.n (λ j. pending R at r j l 0 x) ≡ (total r.n (λ j. pending R at s j l 0 x) +ℤ at c x)
              = rw e (total_more r.n p (λ j. pending R at s j q 0 x) (λ j. pending R at r j q 0 x) (at c x) step.from_here (taken_front x)
              (λ j ne. sym (taken_there j q 0 (λ e' _. ne e') x))) in
              rw step.n (omega (arith, ints))
          | inr ne ↦
              let v : at (s.view l) x ≡ at (r.view l) x = ap (λ c. at c x) (step.view_others l ne) in
              let m : total r.n (λ j. pending R at s j l 0 x) ≡ total r.n (λ j. pending R at r j l 0 x)
              = total_same r.n (λ j. pending R at r j l 0 x) (λ j. pending R at s j l 0 x) (λ j _. taken_there j l 0 (λ _ e'. ne e') x) in
              rw step.n (omega (arith, ints))
        ]

    pub taken_balanced : IsBalanced R at r → IsBalanced R at s
    taken_balanced balance l h x = taken_balance balance l (subst (λ v. l < v) step.n h) x

    taken_upright : IsSound R at r → (j l k : ℕ) → j < r.n → l < r.n → k ≤ length (s.queue j l) → IsUpright R (IsHeld s j) (pending R at s j l k)
    taken_upright sound j l k jl ll le =
        elim (both_or_not j p l q) [
          | inl (e, f) ↦ rw (e, f) (upright_same R (IsHeld s p) (pending R at r p q (suc k)) (pending R at s p q k) (taken_here k)
              (upright_wider R (IsHeld r p) (IsHeld s p) (pending R at r p q (suc k)) (taken_same_held p)
              (sound.upright p q (suc k) step.from_here step.to_here (rw step.queue (subst₂ (λ v w. suc k ≤ suc (length (s.queue v w))) e f (omega arith))))))
          | inr apart ↦ upright_same R (IsHeld s j) (pending R at r j l k) (pending R at s j l k) (taken_there j l k apart)
              (upright_wider R (IsHeld r j) (IsHeld s j) (pending R at r j l k) (taken_same_held j)
              (sound.upright j l k jl ll (subst (λ v. k ≤ length v) (step.queue_others j l apart) le)))
        ]

    pub taken : IsSound R at r → IsSound R at s
    taken sound = record {
      balance = taken_balanced sound.balance;
      upright = λ j l k jl ll le. taken_upright sound j l k (subst (λ v. j < v) step.n jl) (subst (λ v. l < v) step.n ll) le;
      counted = λ j l x. rw (step.supports j x, step.truth x) (sound.counted j (subst (λ v. j < v) step.n l) x);
    }

  -- ---- any step, and any run
  pub step_kept : (r s : Reading P C) → Steps R at r s → IsSound R at r → IsSound R at s
  step_kept r s (inl (p, d, step)) sound = performed p d r s step sound
  step_kept r s (inr (inl (p, c, step))) sound = sent p c r s step sound
  step_kept r s (inr (inr (p, q, c, step))) sound = taken p q c r s step sound
