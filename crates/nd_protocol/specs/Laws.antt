-- The theorems of the protocol, as statements (Naiad, SOSP 2013, section 3.3; FORTE 2013).
use Rattle.std.specs.Prelude.{◌≡◌, ◌<◌, ◌≤◌, ◌<ℤ◌, ◌^◌, ℕ, pos, List, length, Some}
use Rattle.std.specs.FinMap as fin
use Rattle.nd_time.specs.Limits.{max_processors}
use Rattle.nd_time.specs.Time.{Time}
use Rattle.nd_graph.specs.Graph.{Dataflow}
use Rattle.nd_graph.specs.Checked.{IsFaultless}
use Rattle.nd_paths.specs.Order.{CouldResultIn, IsStrictlyBefore}
use Rattle.nd_paths.specs.declared.point.Pointstamp.{Pointstamp}
use Rattle.nd_delta.specs.Delta.{at}
use Rattle.nd_processor.specs.declared.key.ValueAt.{ValueAt}
use Rattle.nd_view.specs.View.{IsPassed, IsPrecursor}
use Rattle.nd_protocol.specs.State.{ClusterState, processor, view, truth}
use Rattle.nd_protocol.specs.Start.{start}
use Rattle.nd_protocol.specs.Steps.{point_at, stepped, after}
use Rattle.nd_protocol.specs.Fitting.{IsOrdered, IsState}
use Rattle.nd_protocol.specs.Enabled.{IsEnabled, AreEnabled}
use Rattle.nd_protocol.specs.Invariant.{IsSettled, KeepsProtocol, IsFinished}
use Rattle.nd_protocol.specs.Sending.{Appears, IsAfterSend}
use Rattle.nd_protocol.specs.declared.batch.Batch.{Batch}
use Rattle.nd_protocol.specs.declared.step.Step.{Step}
use Rattle.nd_protocol.specs.declared.step.Step.TheVariants.{Notice, Send}

-- ---- starts

-- the initial state of 1 to max_processors processors is a state that a cluster may be in
abbrev pub StartIsState : Type 0
StartIsState = (g : Dataflow) (n : ℕ) → IsFaultless g → IsOrdered g → 0 < n → n ≤ max_processors → IsState (start g n)

-- the initial state has the protocol invariant
abbrev pub StartKeepsProtocol : Type 0
StartKeepsProtocol = (g : Dataflow) (n : ℕ) → IsOrdered g → KeepsProtocol (start g n)

-- ---- numbers

-- in a settled state, the number outstanding at a pointstamp fits 63 bits
abbrev pub TruthIsSmall : Type 0
TruthIsSmall = (s : ClusterState) → IsState s → IsSettled s → (x : Pointstamp) → at (truth s.processors) x <ℤ pos (2 ^ 63)

-- ---- steps; A is the allocator of their values

-- an enabled step leads from a state that a cluster may be in to such a state
abbrev pub StepLeadsToState : Type 0 → Type 0
StepLeadsToState A = (s : ClusterState) (x : Step A) → IsState s → IsEnabled s x → IsState (stepped s x)

-- an enabled step keeps a settled cluster settled
abbrev pub StepKeepsSettled : Type 0 → Type 0
StepKeepsSettled A = (s : ClusterState) (x : Step A) → IsState s → IsEnabled s x → IsSettled s → IsSettled (stepped s x)

-- an enabled step keeps the protocol invariant
abbrev pub StepKeepsProtocol : Type 0 → Type 0
StepKeepsProtocol A = (s : ClusterState) (x : Step A) → IsState s → IsEnabled s x → KeepsProtocol s → KeepsProtocol (stepped s x)

-- a list of steps, each enabled after those before it, keeps the protocol invariant
abbrev pub RunKeepsProtocol : Type 0 → Type 0
RunKeepsProtocol A = (s : ClusterState) (xs : List (Step A)) → IsState s → KeepsProtocol s → AreEnabled s xs → IsState (after s xs) × KeepsProtocol (after s xs)

-- ---- safety

-- nothing outstanding is at or before a pointstamp that a view has passed
abbrev pub PassedMeansFinished : Type 0
PassedMeansFinished = (s : ClusterState) → IsState s → KeepsProtocol s → (q : ℕ) → q < length s.processors → (t : Pointstamp) → IsPassed s.graph (view s q) t → IsFinished s t

-- no view has passed a pointstamp that a request could result in: a notification that waits, or a capability that is held
abbrev pub HeldIsNotPassed : Type 0
HeldIsNotPassed = (s : ClusterState) → IsState s → KeepsProtocol s → (p q : ℕ) → p < length s.processors → q < length s.processors → (x t : Pointstamp)
    → fin.get (processor s p).requests x ≡ Some tt → CouldResultIn s.graph x t → IsPassed s.graph (view s q) t → ⊥

-- nothing outstanding is strictly before a pointstamp at which a view has no precursor
abbrev pub NothingIsBefore : Type 0
NothingIsBefore = (s : ClusterState) → IsState s → KeepsProtocol s → (q : ℕ) → q < length s.processors → (t : Pointstamp) → ((x : Pointstamp) → IsPrecursor s.graph (view s q) t x → ⊥)
    → (x : Pointstamp) → IsStrictlyBefore s.graph x t → at (truth s.processors) x ≡ pos 0

-- nothing outstanding is strictly before a notice that is enabled
abbrev pub NoticeComesLast : Type 0 → Type 0
NoticeComesLast A = (s : ClusterState) (p vertex : ℕ) (t : Time) → IsState s → KeepsProtocol s → IsEnabled {A = A} s (Notice p vertex t)
    → (x : Pointstamp) → IsStrictlyBefore s.graph x (point_at vertex t) → at (truth s.processors) x ≡ pos 0

-- what is finished is still finished after enabled steps
abbrev pub FinishedStaysFinished : Type 0 → Type 0
FinishedStaysFinished A = (s : ClusterState) (xs : List (Step A)) → IsState s → KeepsProtocol s → AreEnabled s xs → (t : Pointstamp) → IsFinished s t → IsFinished (after s xs) t

-- ---- sends

-- each record that an enabled send makes is strictly after the capability, which its processor holds before and after
abbrev pub SentIsLater : Type 0 → Type 0
SentIsLater A = (s : ClusterState) (p vertex : ℕ) (batch : Batch A) → IsState s → IsEnabled s (Send p vertex batch)
    → (fin.get (processor s p).requests (point_at vertex batch.time) ≡ Some tt)
    × (fin.get (processor (stepped s (Send p vertex batch)) p).requests (point_at vertex batch.time) ≡ Some tt)
    × ((r : ValueAt) → Appears s (stepped s (Send p vertex batch)) r → IsStrictlyBefore s.graph (point_at vertex batch.time) r.point)

-- no view has passed the pointstamp of a record that an enabled send makes
abbrev pub SentIsNotPassed : Type 0 → Type 0
SentIsNotPassed A = (s : ClusterState) (p q vertex : ℕ) (batch : Batch A) → IsState s → KeepsProtocol s → IsEnabled s (Send p vertex batch) → q < length s.processors
    → (r : ValueAt) → Appears s (stepped s (Send p vertex batch)) r → IsPassed s.graph (view s q) r.point → ⊥

-- an enabled send makes one record for each value on each edge of its port, and changes nothing else but what its processor has to
-- send
abbrev pub SendIsExact : Type 0 → Type 0
SendIsExact A = (s : ClusterState) (p vertex : ℕ) (batch : Batch A) → IsState s → IsEnabled s (Send p vertex batch) → IsAfterSend s (stepped s (Send p vertex batch)) p vertex batch
