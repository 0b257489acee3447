-- Why a broadcast or a receive is refused, in terms of the parts of a cluster that it uses.
use Rattle.std.specs.Prelude.{◌≡◌, ◌≢◌, Bool, List, [], ◌++◌, Some, filter, slice_get}
use Rattle.std.specs.FinMap as fin
use Rattle.nd_graph.specs.Graph.{Dataflow, op_at}
use Rattle.nd_graph.specs.Operators.{facts}
use Rattle.nd_paths.specs.Order.{IsStrictlyBefore}
use Rattle.nd_paths.specs.declared.point.Pointstamp.{Pointstamp}
use Rattle.nd_delta.specs.Delta.{DeltaValue, none, at, plus, minus, IsTooLarge}
use Rattle.nd_delta.specs.Least.{IsLeast}
use Rattle.nd_delta.specs.Upright.{IsUpright, IsUnsupported}
use Rattle.nd_processor.specs.State.{ProcessorState}
use Rattle.nd_processor.specs.Edits.{token_points}
use Rattle.nd_protocol.specs.Invariant.{Supports}
use Rattle.nd_protocol.specs.Steps.{chosen}
use Rattle.nd_protocol.specs.declared.part.Part.{Part}
use Rattle.nd_protocol.specs.declared.refusal.Refusal.{Refusal}
use Rattle.nd_protocol.specs.declared.refusal.Refusal.TheVariants.{NothingToSend, NotAdmissible, QueueEmpty, DeltaFull, Memory}

-- whether a capability supports at this pointstamp
abbrev pub supports_at : Dataflow → Pointstamp → Bool
supports_at g x = (facts (op_at g x.location)).supports

-- the pointstamps that support what a processor has not sent: those of its tokens, and of the capabilities that it holds at vertices
-- whose capabilities support
abbrev pub supporting_points : Dataflow → ProcessorState → List Pointstamp
supporting_points g q = token_points q ++ filter (supports_at g) (fin.keys q.requests)

-- after a processor has sent c, what stays is upright, given the tokens and capabilities that the processor holds
abbrev pub LeavesUpright : Dataflow → ProcessorState → DeltaValue → Type 0
LeavesUpright g q c = IsUpright (IsStrictlyBefore g) (Supports g q) (at (minus q.unsent c))

-- x is the least entry that stays without support
abbrev pub LeavesAlone : Dataflow → ProcessorState → DeltaValue → Pointstamp → Type 0
LeavesAlone g q c x = IsLeast (IsUnsupported (IsStrictlyBefore g) (Supports g q) (at (minus q.unsent c))) x

-- why c, the part that a broadcast names, is not sent
abbrev pub ChosenFails : Dataflow → ProcessorState → DeltaValue → Refusal → Type 0
ChosenFails g q c NothingToSend = c ≡ none
ChosenFails g q c (NotAdmissible x) = (c ≢ none) × LeavesAlone g q c x
ChosenFails g q c Memory = c ≢ none
ChosenFails g q c _ = ⊥

-- why a part of what a processor has to send is not sent
abbrev pub PartFails : {A : Type 0} → Dataflow → ProcessorState → Part A → Refusal → Type 0
PartFails g q part r = ChosenFails g q (chosen part q.unsent) r

-- why nothing is received from a queue into a view
abbrev pub FrontFails : DeltaValue → List DeltaValue → Refusal → Type 0
FrontFails v q QueueEmpty = q ≡ []
FrontFails v q DeltaFull = (c : DeltaValue) × (slice_get q 0 ≡ Some c) × IsTooLarge (plus v c)
FrontFails v q Memory = (c : DeltaValue) × (slice_get q 0 ≡ Some c) × (IsTooLarge (plus v c) → ⊥)
FrontFails v q _ = ⊥
