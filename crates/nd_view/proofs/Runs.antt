-- Neighbouring entries at one location: their epochs increase.
use Rattle.std.proofs.Common.{◌≡◌, ◌≢◌, ◌<◌, ◌≤◌, ◌+◌, ◌⊎◌, inl, inr, ℕ, zero, suc, List, length, get_or, refl, sym, ap, subst, ◌∙◌, arith, Ordering, Less, Equal, Greater}
use Rattle.std.specs.Ordering.{nat_cmp, ordering_then}
use Rattle.std.proofs.lemmas.Bool.{cases_lt}
use Rattle.std.proofs.lemmas.Cmp.{ranked, tied_itself}
use Rattle.std.proofs.lemmas.List.{get_or_default}
use Rattle.nd_map.specs.Entries.{rises}
use Rattle.nd_map.specs.Listed.{IsListed}
use Rattle.nd_paths.specs.Point.{point_cmp, point_total}
use Rattle.nd_paths.specs.declared.point.Pointstamp.{Pointstamp}
use Rattle.nd_view.specs.Links.{IsRun, AreSmaller, AreNotSmaller}

-- what holds of one number, and is kept by each step, holds of a later number
pub onward : (Q : ℕ → Type 0) (i j : ℕ) → i ≤ j → ((k : ℕ) → i ≤ k → k < j → Q k → Q (k + 1)) → Q i → Q j
onward Q i zero le step q = subst Q (omega (arith, le)) q
onward Q i (suc j) le step q = elim (cases_lt j i) [
  | inl past ↦ subst Q (omega (arith, le, past)) q
  | inr at_least ↦ subst Q (omega arith) (step j at_least (omega arith) (onward Q i j at_least (λ k from upto. step k from (omega (arith, upto))) q))
]

decided : (a b : ℕ) (o : Ordering) → ordering_then (nat_cmp a b) o ≡ Less → (a < b) ⊎ ((a ≡ b) × (o ≡ Less))
decided a b o h = by (nat_cmp a b) refl
  where
    by : (r : Ordering) → nat_cmp a b ≡ r → (a < b) ⊎ ((a ≡ b) × (o ≡ Less))
    by Less e = inl (ranked a b Less (sym e))
    by Equal e = inr (ranked a b Equal (sym e), sym (ap (λ r. ordering_then r o) e) ∙ h)
    by Greater e = absurd (let no : Greater ≡ Less = sym (ap (λ r. ordering_then r o) e) ∙ h in cc)

rising : (p q : Pointstamp) → point_cmp p q ≡ Less → (p.location ≤ q.location) × (p.location ≡ q.location → p.time.epoch ≤ q.time.epoch)
rising p q h = elim (decided p.location q.location _ h) [
  | inl lt ↦ (omega (arith, lt), λ same. absurd (omega (arith, lt, same)))
  | inr both ↦ (omega (arith, both.0), λ _. elim (decided p.time.epoch q.time.epoch _ both.1) [ inl lt ↦ omega (arith, lt) | inr tie ↦ omega (arith, tie.0) ])
]

module _ {V : Type 0} (es : List (Pointstamp × V)) (listed : IsListed point_cmp es) where
  rising_at : (i j : ℕ) (d : Pointstamp × V) → i ≤ j → j < length es
      → ((get_or es i d).0.location ≤ (get_or es j d).0.location) × ((get_or es i d).0.location ≡ (get_or es j d).0.location → (get_or es i d).0.time.epoch ≤ (get_or es j d).0.time.epoch)
  rising_at i j d le lt = elim (cases_lt i j) [
    | inl before ↦ rising (get_or es i d).0 (get_or es j d).0 (rises point_cmp point_total es listed i j d before lt)
    | inr at_least ↦
        let same : i ≡ j = omega (arith, le, at_least) in
        (omega (arith, ap (λ k. (get_or es k d).0.location) same), λ _. omega (arith, ap (λ k. (get_or es k d).0.time.epoch) same))
  ]

  -- two entries have two points
  pub two_points : (i j : ℕ) (x y : Pointstamp × V) → i < j → j < length es → x ≡ get_or es i x → y ≡ get_or es j y → x.0 ≢ y.0
  two_points i j x y before lt is at same =
      let left : (get_or es i x).0 ≡ y.0 = ap (λ e. e.0) (sym is) ∙ same in
      let right : (get_or es j x).0 ≡ y.0 = ap (λ e. e.0) (sym (at ∙ get_or_default es j y x lt)) in
      let rise : point_cmp (get_or es i x).0 (get_or es j x).0 ≡ Less = rises point_cmp point_total es listed i j x before lt in
      let tied : point_cmp (get_or es i x).0 (get_or es j x).0 ≡ Equal = (λ k. point_cmp (left k) (right k)) ∙ tied_itself point_total y.0 in
      absurd (cc (rise, tied))

  module _ (run : IsRun es 0 (length es)) where
    -- two entries of a run
    pub in_run : (i j : ℕ) (x y : Pointstamp × V) → i ≤ j → j < length es → x ≡ get_or es i x → y ≡ get_or es j y → (x.0.location ≡ y.0.location) × (x.0.time.epoch ≤ y.0.time.epoch)
    in_run i j x y le lt is at =
        let here : y ≡ get_or es j x = at ∙ get_or_default es j y x lt in
        let place = run i x (omega arith) (omega (arith, le, lt)) ∙ sym (run j x (omega arith) lt) in
        let rise = (rising_at i j x le lt).1 place in
        (ap (λ e. e.0.location) is ∙ place ∙ sym (ap (λ e. e.0.location) here), omega (arith, ap (λ e. e.0.time.epoch) is, rise, ap (λ e. e.0.time.epoch) here))

    -- what is known about the epoch of one entry of a run
    module _ (i epoch : ℕ) (x : Pointstamp × V) (inside : i < length es) (is : x ≡ get_or es i x) where
      pub smaller_upto : x.0.time.epoch < epoch → AreSmaller es 0 (i + 1) epoch
      smaller_upto less k d _ late =
          let e = get_or es k d in
          let rise = (in_run k i e x (omega (arith, late)) inside (get_or_default es k d e (omega (arith, late, inside))) is).1 in
          omega (arith, rise, less)

      pub not_smaller_from : (x.0.time.epoch < epoch → ⊥) → AreNotSmaller es i (length es) epoch
      not_smaller_from never k d early late =
          let e = get_or es k d in
          let rise = (in_run i k x e early late is (get_or_default es k d e late)).1 in
          elim (cases_lt x.0.time.epoch epoch) [ inl less ↦ absurd (never less) | inr more ↦ omega (arith, rise, more) ]
