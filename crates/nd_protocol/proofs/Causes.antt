-- A step all of whose additions are strictly after one pointstamp, its cause.
use Rattle.std.proofs.Common.{◌≡◌, ◌⊎◌, inl, inr, ℕ, ◌+◌, ◌<◌, ◌≤◌, ◌<ℤ◌, ◌≤ℤ◌, pos, ◌+ℤ◌, List, length, get_or, set, arith}
use Rattle.std.proofs.lemmas.Int.{ints}
use Rattle.nd_paths.specs.declared.point.Pointstamp.{Pointstamp}
use Rattle.nd_delta.specs.Delta.{at}
use Rattle.nd_delta.specs.Upright.{IsUpright}
use Rattle.nd_processor.specs.State.{ProcessorState, idle, held}
use Rattle.nd_protocol.specs.Steps.{with_records, gain}
use Rattle.nd_processor.specs.declared.key.ValueAt.{ValueAt}
use Rattle.nd_protocol.proofs.Shape.{AllAt}
use Rattle.nd_protocol.proofs.Counts.{count, gain-count, count-set, come_or_same}

module _ (R : Pointstamp → Pointstamp → Type 0) (irreflexive : (x : Pointstamp) → R x x → ⊥) (old : List ProcessorState) (p : ℕ) (here : p < length old) (r : ProcessorState) (rs : List (ℕ × ValueAt)) (y : Pointstamp) (later : AllAt (R y) rs) (grows : (x : Pointstamp) → R y x ⊎ (held r x ≤ held (get_or old p idle) x)) where
  no_gain : (x : Pointstamp) → R y x ⊎ (at (gain old (with_records (set old p r) rs)) x ≤ℤ pos 0)
  no_gain x =
      elim (come_or_same (R y) rs later x) [
        | inl l ↦ inl l
        | inr same ↦ elim (grows x) [
          | inl l ↦ inl l
          | inr le ↦
              let moves : at (gain old (with_records (set old p r) rs)) x +ℤ pos (count old x) ≡ pos (count (with_records (set old p r) rs) x) = gain-count old (with_records (set old p r) rs) x in
              let none : count (with_records (set old p r) rs) x ≡ count (set old p r) x = same (set old p r) in
              let one : count (set old p r) x + held (get_or old p idle) x ≡ count old x + held r x = count-set old p r x here in
              inr (omega (arith, ints))
        ]
      ]

  pub loses : held r y < held (get_or old p idle) y → at (gain old (with_records (set old p r) rs)) y <ℤ pos 0
  loses less =
      elim (come_or_same (R y) rs later y) [
        | inl l ↦ absurd (irreflexive y l)
        | inr same ↦
            let moves : at (gain old (with_records (set old p r) rs)) y +ℤ pos (count old y) ≡ pos (count (with_records (set old p r) rs) y) = gain-count old (with_records (set old p r) rs) y in
            let none : count (with_records (set old p r) rs) y ≡ count (set old p r) y = same (set old p r) in
            let one : count (set old p r) y + held (get_or old p idle) y ≡ count old y + held r y = count-set old p r y here in
            omega (arith, ints)
      ]

  pub upright_gain : (H : Pointstamp → Type 0) → (at (gain old (with_records (set old p r) rs)) y <ℤ pos 0) ⊎ H y → IsUpright R H (at (gain old (with_records (set old p r) rs)))
  upright_gain H why x positive = elim (no_gain x) [ inl l ↦ (y, l, why) | inr none ↦ absurd (omega (arith, ints)) ]
