-- The limits of counts and of entries, for changes.
use Rattle.std.specs.Prelude.{◌≢◌, ◌↔◌, IsTrue, ℤ, pos, ◌+ℤ◌, List}
use Rattle.nd_processor.specs.State.{ProcessorState}
use Rattle.nd_protocol.specs.State.{ClusterState}
use Rattle.nd_protocol.specs.Enabled.{HasLargeCount, HasLargeEntry}
use Rattle.nd_protocol.specs.declared.refusal.Refusal.{Refusal}
use Rattle.nd_protocol.specs.declared.refusal.Refusal.TheVariants.{CountFull, DeltaFull}
use Rattle.nd_steps.specs.Slots.{stands, CountWithin, EntryWithin}
use Rattle.nd_steps.specs.Changes.{own}
use Rattle.nd_steps.specs.declared.change.Change.{Change}
use Rattle.nd_steps.specs.declared.reading.Reading.{Reading}
use Rattle.nd_steps.specs.declared.slot.Slot.{Slot}

-- the integer at the place of a change after the change
unfoldable pub after : List ProcessorState → Change → ℤ
after processors c = stands (own processors c) c.slot +ℤ c.n

-- the change leaves a count within its limit; `EntryStays` is the same for an entry
abbrev pub CountStays : List ProcessorState → Change → Type 0
CountStays processors c = CountWithin c.slot (after processors c)

abbrev pub EntryStays : List ProcessorState → Change → Type 0
EntryStays processors c = EntryWithin c.slot (after processors c)

-- t exceeds the limit that the refusal names; the limit of counts is tested before that of entries
abbrev pub LimitFails : ClusterState → Refusal → Type 0
LimitFails t CountFull = HasLargeCount t
LimitFails t DeltaFull = (HasLargeCount t → ⊥) × HasLargeEntry t
LimitFails t _ = ⊥

-- r says what holds at the key l if z is the integer there: whether z is not 0, and whether z is within the limits of counts and
-- of entries
pub record ReadsAs (r : Reading) (l : Slot) (z : ℤ) : Type 0 where
  pub leaves : IsTrue r.leaves ↔ (z ≢ pos 0)
  pub count : IsTrue r.count_stays ↔ CountWithin l z
  pub entry : IsTrue r.entry_stays ↔ EntryWithin l z

-- r says what holds at the key of the change c once it is applied to ps
abbrev pub ReadsChange : List ProcessorState → Change → Reading → Type 0
ReadsChange ps c r = ReadsAs r c.slot (after ps c)
