-- The moves of a timeline: which replies each command that moves the cursor may get, and the timeline after it.
-- Each relation has one case for each kind of reply that is possible; any other reply is impossible for that command.
use Rattle.std.specs.Prelude.{◌≡◌, ℕ, ◌+◌, ◌-◌, ◌<◌, ◌≤◌, ◌⊎◌, length, Result, Ok, Err}
use Rattle.nd_time.specs.Limits.{max_kept}
use Rattle.nd_protocol.specs.Enabled.{IsEnabled, IsRefused, MayWantMemory}
use Rattle.nd_protocol.specs.declared.step.Step.{Step}
use Rattle.nd_replies.specs.declared.fault.Fault.{Fault}
use Rattle.nd_replies.specs.declared.fault.Fault.TheVariants.{Step as of_step, Memory, AtStart, AtEnd, NoSuchPoint, TimelineFull}
use Rattle.nd_replies.specs.declared.reply.Reply.{Reply}
use Rattle.nd_replies.specs.declared.reply.Reply.TheVariants.{Moved, Refused}
use Rattle.nd_timeline.specs.Timeline.{TimelineValue, cluster_of, extended, moved_to}

-- ---- a step forward

-- why a step fails on a timeline that is not full
abbrev pub StepFails : {A : Type 0} → TimelineValue A → Step A → Fault → Type 0
StepFails m x (of_step r) = IsRefused (cluster_of m) x r
StepFails m x (Memory at) = MayWantMemory (cluster_of m) x × (at ≡ m.cursor)
StepFails m x _ = ⊥

-- the step is executed, and kept in place of all steps after the cursor
abbrev pub ForwardMoves : {A : Type 0} → TimelineValue A → Step A → Reply → TimelineValue A → Type 0
ForwardMoves m x (Refused TimelineFull) new = (max_kept ≤ m.cursor) × (new ≡ m)
ForwardMoves m x (Refused (of_step r)) new = (m.cursor < max_kept) × IsRefused (cluster_of m) x r × (new ≡ m)
ForwardMoves m x (Refused (Memory at)) new = (m.cursor < max_kept) × MayWantMemory (cluster_of m) x × (at ≡ m.cursor) × (new ≡ m)
ForwardMoves m x (Moved at kept) new =
    (m.cursor < max_kept) × IsEnabled (cluster_of m) x × (at ≡ m.cursor + 1) × (kept ≡ m.cursor + 1) × (new ≡ extended m x)
ForwardMoves m x _ new = ⊥

-- ---- the cursor moves, and the kept steps stay

-- which replies `back` may get, and the timeline after each
abbrev pub BackMoves : {A : Type 0} → TimelineValue A → Reply → TimelineValue A → Type 0
BackMoves m (Refused AtStart) new = (m.cursor ≡ 0) × (new ≡ m)
BackMoves m (Refused (Memory at)) new = (0 < m.cursor) × (at ≡ m.cursor) × (new ≡ m)
BackMoves m (Moved at kept) new = (0 < m.cursor) × (at ≡ m.cursor - 1) × (kept ≡ length m.kept) × (new ≡ moved_to m (m.cursor - 1))
BackMoves m _ new = ⊥

-- which replies `redo` may get, and the timeline after each
abbrev pub RedoMoves : {A : Type 0} → TimelineValue A → Reply → TimelineValue A → Type 0
RedoMoves m (Refused AtEnd) new = (length m.kept ≤ m.cursor) × (new ≡ m)
RedoMoves m (Refused (Memory at)) new = (m.cursor < length m.kept) × (at ≡ m.cursor) × (new ≡ m)
RedoMoves m (Moved at kept) new = (m.cursor < length m.kept) × (at ≡ m.cursor + 1) × (kept ≡ length m.kept) × (new ≡ moved_to m (m.cursor + 1))
RedoMoves m _ new = ⊥

-- `at` is a position on the way from one position to another; the last position does not count
abbrev pub IsOnTheWay : ℕ → ℕ → ℕ → Type 0
IsOnTheWay from to at = ((from ≤ at) × (at < to)) ⊎ ((to < at) × (at ≤ from))

-- which replies `jump` to position n may get, and the timeline after each
abbrev pub JumpMoves : {A : Type 0} → TimelineValue A → ℕ → Reply → TimelineValue A → Type 0
JumpMoves m n (Refused NoSuchPoint) new = (length m.kept < n) × (new ≡ m)
JumpMoves m n (Refused (Memory at)) new = (n ≤ length m.kept) × IsOnTheWay m.cursor n at × (new ≡ moved_to m at)
JumpMoves m n (Moved at kept) new = (n ≤ length m.kept) × (at ≡ n) × (kept ≡ length m.kept) × (new ≡ moved_to m n)
JumpMoves m n _ new = ⊥

-- ---- the reply of a call

-- the reply to a command that moves the cursor
abbrev pub moved_reply : {A : Type 0} → Result (Unit {0}) Fault → TimelineValue A → Reply
moved_reply (Ok _) new = Moved new.cursor (length new.kept)
moved_reply (Err e) new = Refused e
