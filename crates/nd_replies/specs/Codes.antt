-- Refusals and replies encoded as numbers, so that the value of a model can contain them.
use Rattle.std.specs.Prelude.{◌≡◌, ℕ, ◌⊎◌, List, [], ◌∷◌, slice_index_or, refl}
use Rattle.std.proofs.Common.{inl, inr}
use Rattle.std.specs.Coded.{Coded, code_by, coded×, coded⊎, coded_ℕ}
use base.Stored.{coded_unit}
use Rattle.nd_paths.specs.Point.{point_code}
use Rattle.nd_paths.specs.declared.point.Pointstamp.{Pointstamp}
use Rattle.nd_protocol.specs.Refusals.{number_of as refusal_number}
use Rattle.nd_protocol.specs.declared.refusal.Refusal.{Refusal}
use Rattle.nd_protocol.specs.declared.refusal.Refusal.TheVariants as refusal
use Rattle.nd_replies.specs.declared.fault.Fault.{Fault}
use Rattle.nd_replies.specs.declared.fault.Fault.TheVariants as fault
use Rattle.nd_replies.specs.declared.reply.Stop.{Stop}
use Rattle.nd_replies.specs.declared.reply.Stop.TheVariants as stop
use Rattle.nd_replies.specs.declared.reply.Reply.{Reply}
use Rattle.nd_replies.specs.declared.reply.Reply.TheVariants as reply

-- ---- refusals as numbers

-- the refusals by number, with `Memory` for the numbers of those that name a pointstamp; refusals with numbers above 19 follow
abbrev pub plain : List Refusal
plain =
    refusal.Memory ∷ refusal.NoProcessor ∷ refusal.NoVertex ∷ refusal.NoEdge ∷ refusal.NotInput ∷ refusal.InputClosed ∷ refusal.TooManyValues ∷ refusal.EpochFull
    ∷ refusal.NoRecord ∷ refusal.NoRequest ∷ refusal.Memory ∷ refusal.CounterFull ∷ refusal.ValueRange ∷ refusal.CountFull ∷ refusal.DeltaFull ∷ refusal.NothingToSend
    ∷ refusal.Memory ∷ refusal.QueueEmpty ∷ refusal.QueueFull ∷ refusal.Memory ∷ refusal.NotNotified ∷ refusal.NotLater ∷ refusal.NoPort ∷ refusal.TooEarly ∷ []

abbrev pub RefusalParts : Type 0
RefusalParts = ℕ ⊎ (Pointstamp ⊎ Pointstamp)

abbrev pub refusal_parts : Refusal → RefusalParts
refusal_parts (refusal.NotYet blocker) = inr (inl blocker)
refusal_parts (refusal.NotAdmissible point) = inr (inr point)
refusal_parts refusal.NotNotified = inl 20
refusal_parts refusal.NotLater = inl 21
refusal_parts refusal.NoPort = inl 22
refusal_parts refusal.TooEarly = inl 23
refusal_parts r = inl (refusal_number r)

abbrev pub refusal_of : RefusalParts → Refusal
refusal_of (inl n) = slice_index_or plain n refusal.Memory
refusal_of (inr (inl blocker)) = refusal.NotYet blocker
refusal_of (inr (inr point)) = refusal.NotAdmissible point

pub refusal_back : (r : Refusal) → refusal_of (refusal_parts r) ≡ r
refusal_back refusal.NoProcessor = refl
refusal_back refusal.NoVertex = refl
refusal_back refusal.NoEdge = refl
refusal_back refusal.NotInput = refl
refusal_back refusal.InputClosed = refl
refusal_back refusal.TooManyValues = refl
refusal_back refusal.EpochFull = refl
refusal_back refusal.NoRecord = refl
refusal_back refusal.NoRequest = refl
refusal_back (refusal.NotYet blocker) = refl
refusal_back refusal.CounterFull = refl
refusal_back refusal.ValueRange = refl
refusal_back refusal.CountFull = refl
refusal_back refusal.DeltaFull = refl
refusal_back refusal.NothingToSend = refl
refusal_back (refusal.NotAdmissible point) = refl
refusal_back refusal.QueueEmpty = refl
refusal_back refusal.QueueFull = refl
refusal_back refusal.Memory = refl
refusal_back refusal.NotNotified = refl
refusal_back refusal.NotLater = refl
refusal_back refusal.NoPort = refl
refusal_back refusal.TooEarly = refl

abbrev pub refusal_code : Coded Refusal
refusal_code = code_by RefusalParts (coded⊎ coded_ℕ (coded⊎ point_code point_code)) refusal_parts refusal_of refusal_back

-- ---- replies

-- the faults by number, without those that have fields
abbrev pub plain_faults : List Fault
plain_faults = fault.AtStart ∷ fault.AtEnd ∷ fault.NoSuchPoint ∷ fault.TimelineFull ∷ fault.TooManyBreaks ∷ fault.NoBreak ∷ []

abbrev pub FaultParts : Type 0
FaultParts = ℕ ⊎ (Refusal ⊎ ℕ)

abbrev pub fault_parts : Fault → FaultParts
fault_parts (fault.Step r) = inr (inl r)
fault_parts (fault.Memory at) = inr (inr at)
fault_parts fault.AtStart = inl 0
fault_parts fault.AtEnd = inl 1
fault_parts fault.NoSuchPoint = inl 2
fault_parts fault.TimelineFull = inl 3
fault_parts fault.TooManyBreaks = inl 4
fault_parts fault.NoBreak = inl 5

abbrev pub fault_of : FaultParts → Fault
fault_of (inl n) = slice_index_or plain_faults n fault.NoBreak
fault_of (inr (inl r)) = fault.Step r
fault_of (inr (inr at)) = fault.Memory at

pub fault_back : (f : Fault) → fault_of (fault_parts f) ≡ f
fault_back (fault.Step r) = refl
fault_back (fault.Memory at) = refl
fault_back fault.AtStart = refl
fault_back fault.AtEnd = refl
fault_back fault.NoSuchPoint = refl
fault_back fault.TimelineFull = refl
fault_back fault.TooManyBreaks = refl
fault_back fault.NoBreak = refl

abbrev pub fault_code : Coded Fault
fault_code = code_by FaultParts (coded⊎ coded_ℕ (coded⊎ refusal_code coded_ℕ)) fault_parts fault_of fault_back

abbrev pub StopParts : Type 0
StopParts = Unit {0} ⊎ (Unit {0} ⊎ ℕ)

abbrev pub stop_parts : Stop → StopParts
stop_parts stop.Limit = inl tt
stop_parts stop.Idle = inr (inl tt)
stop_parts (stop.Break id) = inr (inr id)

abbrev pub stop_of : StopParts → Stop
stop_of (inl _) = stop.Limit
stop_of (inr (inl _)) = stop.Idle
stop_of (inr (inr id)) = stop.Break id

pub stop_back : (s : Stop) → stop_of (stop_parts s) ≡ s
stop_back stop.Limit = refl
stop_back stop.Idle = refl
stop_back (stop.Break id) = refl

abbrev pub stop_code : Coded Stop
stop_code = code_by StopParts (coded⊎ coded_unit (coded⊎ coded_unit coded_ℕ)) stop_parts stop_of stop_back

-- a reply as its parts
abbrev pub ReplyParts : Type 0
ReplyParts = ((ℕ × ℕ) ⊎ (ℕ × (ℕ × (ℕ × Stop)))) ⊎ (ℕ ⊎ (Unit {0} ⊎ Fault))

abbrev pub reply_parts : Reply → ReplyParts
reply_parts (reply.Moved at kept) = inl (inl (at, kept))
reply_parts (reply.Ran at kept ran stopped) = inl (inr (at, (kept, (ran, stopped))))
reply_parts (reply.Set id) = inr (inl id)
reply_parts reply.Cleared = inr (inr (inl tt))
reply_parts (reply.Refused f) = inr (inr (inr f))

abbrev pub reply_of : ReplyParts → Reply
reply_of (inl (inl t)) = reply.Moved t.0 t.1
reply_of (inl (inr t)) = reply.Ran t.0 t.1.0 t.1.1.0 t.1.1.1
reply_of (inr (inl id)) = reply.Set id
reply_of (inr (inr (inl _))) = reply.Cleared
reply_of (inr (inr (inr f))) = reply.Refused f

pub reply_back : (r : Reply) → reply_of (reply_parts r) ≡ r
reply_back (reply.Moved at kept) = refl
reply_back (reply.Ran at kept ran stopped) = refl
reply_back (reply.Set id) = refl
reply_back reply.Cleared = refl
reply_back (reply.Refused f) = refl

abbrev pub reply_code : Coded Reply
reply_code =
    code_by ReplyParts
    (coded⊎ (coded⊎ (coded× coded_ℕ coded_ℕ) (coded× coded_ℕ (coded× coded_ℕ (coded× coded_ℕ stop_code)))) (coded⊎ coded_ℕ (coded⊎ coded_unit fault_code)))
    reply_parts reply_of reply_back
