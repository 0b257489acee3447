-- Keys and changes that are not copied, as those that they refer to.
use Rattle.nd_steps.specs.Changes.{at_key}
use Rattle.nd_steps.specs.declared.change.Change.{Change}
use Rattle.nd_steps.specs.declared.change.ChangeRef.{ChangeRef}
use Rattle.nd_steps.specs.declared.listing.ChangeAt.{ChangeAt}
use Rattle.nd_steps.specs.declared.listing.ChangeAt.TheVariants.{Borrowed, Owned}
use Rattle.nd_steps.specs.declared.slot.Slot.{Slot}
use Rattle.nd_steps.specs.declared.slot.Slot.TheVariants as slot
use Rattle.nd_steps.specs.declared.slot.KeyRef.{KeyRef}
use Rattle.nd_steps.specs.declared.slot.KeyRef.TheVariants.{Records, Request, Token, State, Sink, Unsent}

-- the key
abbrev pub slot_of : KeyRef → Slot
slot_of (Records key) = slot.Records key.now
slot_of (Request point) = slot.Request point.now
slot_of (Token vertex) = slot.Token vertex
slot_of (State vertex key) = slot.State vertex key.now
slot_of (Sink key) = slot.Sink key
slot_of (Unsent point) = slot.Unsent point.now

-- the change
abbrev pub change_of : ChangeRef → Change
change_of c = at_key c.p (slot_of c.key) c.n

-- the change, whether another value holds it or it was built
abbrev pub change_at : ChangeAt → Change
change_at (Borrowed change) = change_of change
change_at (Owned change) = change
