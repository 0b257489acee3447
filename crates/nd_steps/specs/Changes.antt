-- Applying changes one after the other: the state after each, and when a list of changes can be applied.
use Rattle.std.specs.Prelude.{◌≡◌, ◌≢◌, ◌<◌, ◌≤◌, ◌+◌, ℕ, ℤ, pos, neg_ℤ, ◌+ℤ◌, List, [], ◌∷◌, take, length, slice_index_or}
use Rattle.std.specs.List.Sorted.{IsSorted}
use Rattle.std.proofs.Common.{get_or}
use Rattle.nd_processor.specs.State.{ProcessorState, idle}
use Rattle.nd_protocol.specs.State.{ClusterState, processor}
use Rattle.nd_steps.specs.Places.{Place, place_at, place_cmp}
use Rattle.nd_steps.specs.Slots.{stands, puts, SlotIsThere, SlotMay, SlotWithin}
use Rattle.nd_steps.specs.Integers.{standing, put_at}
use Rattle.nd_steps.specs.declared.change.Change.{Change}
use Rattle.nd_steps.specs.declared.slot.Slot.{Slot}

-- the change that adds n at a key of processor p's maps
abbrev pub at_key : ℕ → Slot → ℤ → Change
at_key p slot n = record { p = p; slot = slot; n = n }

-- the place of a change
abbrev pub place_of : Change → Place
place_of c = place_at c.p c.slot

-- changes in the order of their places
abbrev pub AreByPlace : List Change → Type 0
AreByPlace cs = IsSorted (λ a b. place_cmp (place_of a) (place_of b)) cs

-- the processor to which a change belongs
abbrev pub own : List ProcessorState → Change → ProcessorState
own processors c = slice_index_or processors c.p idle

-- the change that undoes c
abbrev pub inverse : Change → Change
inverse c = record c { n = neg_ℤ c.n }

-- the processor with n added at a key
abbrev pub made_in : ProcessorState → Slot → ℤ → ProcessorState
made_in q l n = puts q l (stands q l +ℤ n)

-- the state after a change
abbrev pub made : ClusterState → Change → ClusterState
made s c = put_at s (place_of c) (standing s (place_of c) +ℤ c.n)

-- n may be added at a key: n is not 0, and the integer at the key is within its limit before and after
pub record FitsIn (q : ProcessorState) (l : Slot) (n : ℤ) : Type 0 where
  pub there : SlotIsThere q l
  pub some : n ≢ pos 0
  pub before : SlotWithin l (stands q l)
  pub may : SlotMay l (stands q l +ℤ n)
  pub within : SlotWithin l (stands q l +ℤ n)

-- the change may be applied in this state
pub record Fits (s : ClusterState) (c : Change) : Type 0 where
  pub owner : c.p < length s.processors
  pub inside : FitsIn (processor s c.p) c.slot c.n

-- the integer at the place of the change is not 0
abbrev pub Finds : ClusterState → Change → Type 0
Finds s c = standing s (place_of c) ≢ pos 0

-- the integer at the place of the change is 0
abbrev pub FindsNothing : ClusterState → Change → Type 0
FindsNothing s c = standing s (place_of c) ≡ pos 0

-- the state after a list of changes
unfoldable pub applied : ClusterState → List Change → ClusterState
applied s [] = s
applied s (c ∷ cs) = applied (made s c) cs

-- the state after the first k changes
unfoldable pub state_at : ClusterState → List Change → ℕ → ClusterState
state_at s cs k = applied s (take k cs)

-- each change fits the state in which it is applied, and everything is added before anything is removed: after each of the first
-- changes, up to `turn`, the integer at its place is not 0, and before each of the others it is not 0
pub record IsRunnable (s : ClusterState) (cs : List Change) : Type 0 where
  pub turn : ℕ
  pub fits : (k : ℕ) (d : Change) → k < length cs → Fits (state_at s cs k) (get_or cs k d)
  pub leaves : (k : ℕ) (d : Change) → k < length cs → k < turn → Finds (state_at s cs (k + 1)) (get_or cs k d)
  pub finds : (k : ℕ) (d : Change) → k < length cs → turn ≤ k → Finds (state_at s cs k) (get_or cs k d)
