-- The order in which changes are applied: first those after which the integer at their place is not 0, then the others.
use Rattle.std.specs.Prelude.{◌≡◌, ◌≢◌, ◌<◌, ◌≤◌, ◌↔◌, ℕ, pos, Bool, IsTrue, List, length}
use Rattle.std.specs.List.Sorted.{IsPermutation}
use Rattle.std.proofs.Common.{get_or}
use Rattle.nd_processor.specs.State.{ProcessorState}
use Rattle.nd_steps.specs.Slots.{SlotIsThere}
use Rattle.nd_steps.specs.Changes.{own}
use Rattle.nd_steps.specs.Limits.{after}
use Rattle.nd_steps.specs.Undos.{IsGain}
use Rattle.nd_steps.specs.declared.change.Change.{Change}

-- the processor and the map of the change exist, and its integer is small enough to be undone
pub record IsReadable (processors : List ProcessorState) (c : Change) : Type 0 where
  pub owner : c.p < length processors
  pub there : SlotIsThere (own processors c) c.slot
  pub small : IsGain c.n

-- cs has the changes of `all` in another order: after the first ones, up to `turn`, the integer at the place is not 0, and after
-- the others it is 0
pub record IsInOrder (processors : List ProcessorState) (all cs : List Change) : Type 0 where
  pub same : IsPermutation all cs
  pub turn : ℕ
  pub leaves : (k : ℕ) (d : Change) → k < length cs → k < turn → after processors (get_or cs k d) ≢ pos 0
  pub goes : (k : ℕ) (d : Change) → k < length cs → turn ≤ k → after processors (get_or cs k d) ≡ pos 0

-- b says whether the integer at the place of the first change of cs is not 0 after that change
abbrev pub FirstLeaves : List ProcessorState → List Change → Bool → Type 0
FirstLeaves processors cs b = (d : Change) → 0 < length cs → IsTrue b ↔ (after processors (get_or cs 0 d) ≢ pos 0)
