-- The changes of a performer's step as they are found, and where they lead.
use Rattle.std.specs.Prelude.{◌≡◌, ◌≢◌, ℕ, ◌++◌, Bool, false, List, [], ◌∷◌, Some, None, ⊤}
use Rattle.std.specs.FinMap as fin
use Rattle.nd_time.specs.Time.{Time}
use Rattle.nd_graph.specs.declared.op.Action.{Action}
use Rattle.nd_graph.specs.declared.op.Route.{Route}
use Rattle.nd_vertex.specs.declared.effect.Effect.{Effect}
use Rattle.nd_vertex.specs.declared.effect.Emission.{Emission}
use Rattle.nd_processor.specs.declared.key.ValueAt.{ValueAt}
use Rattle.nd_protocol.specs.State.{ClusterState, processor}
use Rattle.nd_protocol.specs.Steps.{batch_time, destination, flat, point_at}
use Rattle.nd_protocol.specs.declared.batch.Batch.{Batch}
use Rattle.nd_protocol.specs.declared.times.Times.{Times}
use Rattle.nd_protocol.specs.declared.step.Step.TheVariants.{Feed, Take, Notice, Release, Send}
use Rattle.nd_steps.specs.Drafts.{Has, Leads, TakesSo, NoticesSo, ReleasesSo, arrivals, made_by, emitted_by, values_by, fed_changes, taken_changes, noticed_changes, released_changes}
use Rattle.nd_steps.specs.Flows.{come_changes}
use Rattle.nd_steps.specs.Onward.{ComesBy}
use Rattle.nd_steps.specs.declared.change.Change.{Change}
use Rattle.nd_steps.specs.declared.consequence.Consequence.{Consequence}
use Rattle.nd_steps.specs.declared.consequence.Consequence.TheVariants.{Record}
use Rattle.nd_steps.specs.declared.draft.Draft.{Draft}
use Rattle.nd_steps.specs.declared.emit.Performer.{Performer}
use Rattle.nd_steps.specs.declared.feed.Fed.{Fed}
use Rattle.nd_steps.specs.declared.react.Taken.{Taken}

-- ---- a draft that grows

-- `new` is a draft of the same processor, with these changes appended to those of `old`
pub record Adds {A : Type 0} (old new : Draft A) (cs : List Change) : Type 0 where
  pub p : new.p ≡ old.p
  pub changes : new.changes.items ≡ old.changes.items ++ cs

-- `new` is `old` with the changes of records that arrive, which the draft's processor has to send
abbrev pub AddsRecords : {A : Type 0} → Draft A → Draft A → List (ℕ × ValueAt) → Type 0
AddsRecords old new rs = Adds old new (arrivals old.p rs)

-- ---- the changes that are found

-- the changes of a feed; the next four are those of a take, of a notice, of a release and of a send
abbrev pub found_fed : {B : Type 0} → Performer B → Fed → List Change
found_fed by fed = fed_changes by.p by.vertex fed.epoch fed.next (values_by None by.graph.now by.n by.p by.vertex 0 (flat fed.epoch) fed.values.now)

abbrev pub found_taken : {A B : Type 0} → Performer B → Taken A → List Change
found_taken by taken = taken_changes by.p by.vertex taken.key.now taken.effect.now taken.asks (emitted_by by.graph.now by.n by.p by.vertex taken.effect.now.emits.items)

abbrev pub found_noticed : {A B : Type 0} → Performer B → Time → Effect A → List Change
found_noticed by t effect = noticed_changes by.p (point_at by.vertex t) effect (emitted_by by.graph.now by.n by.p by.vertex effect.emits.items)

abbrev pub found_released : {B : Type 0} → Performer B → Times → Bool → List Change
found_released by times asks = released_changes by.p by.vertex times asks

abbrev pub found_posted : {A B : Type 0} → Performer B → Batch A → List Change
found_posted by batch = arrivals by.p (values_by batch.dest by.graph.now by.n by.p by.vertex batch.port (batch_time batch) batch.values)

-- ---- where changes lead

-- in each cluster of the performer in which its vertex has a token at this epoch, the changes are those of the feed
abbrev pub FeedLeads : (A : Type 0) {B : Type 0} → Performer B → Fed → List Change → Type 0
FeedLeads A by fed cs =
    (s : ClusterState) → Has by.graph.now by.n s → fin.get (processor s by.p).tokens by.vertex ≡ Some fed.epoch
    → Leads {A = A} s (Feed by.p by.vertex fed.values.now fed.next) cs

-- in each cluster of the performer in which the take has this effect, the changes are those of the take
abbrev pub TakeLeads : {A B : Type 0} → Performer B → Taken A → List Change → Type 0
TakeLeads {A} by taken cs =
    (s : ClusterState) → Has by.graph.now by.n s → TakesSo s by.p by.vertex taken.key.now taken.effect.now taken.asks
    → Leads {A = A} s (Take by.p taken.key.now.point.location taken.key.now.point.time taken.key.now.value) cs

-- in each cluster of the performer in which the notice has this effect, the changes are those of the notice
abbrev pub NoticeLeads : {A B : Type 0} → Performer B → Time → Effect A → List Change → Type 0
NoticeLeads {A} by t effect cs =
    (s : ClusterState) → Has by.graph.now by.n s → NoticesSo s by.p (point_at by.vertex t) effect
    → Leads {A = A} s (Notice by.p by.vertex t) cs

-- in each cluster of the performer in which the capability is held, and `asks` says whether the later request is new, the changes
-- are those of the release
abbrev pub ReleaseLeads : (A : Type 0) {B : Type 0} → Performer B → Times → Bool → List Change → Type 0
ReleaseLeads A by times asks cs =
    (s : ClusterState) → Has by.graph.now by.n s → ReleasesSo s by.p by.vertex times asks
    → Leads {A = A} s (Release by.p by.vertex times) cs

-- in each cluster of the performer the changes are those of the send
abbrev pub PostLeads : {A B : Type 0} → Performer B → Batch A → List Change → Type 0
PostLeads {A} by batch cs = (s : ClusterState) → Has by.graph.now by.n s → Leads {A = A} s (Send by.p by.vertex batch) cs

-- ---- the consequence of a take

-- the consequence that is one record: of the emission e, at the time after the action, on the edge with this location and route
abbrev pub coming : {B : Type 0} → Performer B → Action → ℕ → Route → Emission → Consequence
coming by action edge route e = Record action (destination route by.n by.p e.value) edge e.value

-- `come` is the consequence of taking the record `gone`, from the one emission e of the vertex
abbrev pub ComesFor : {B : Type 0} → Performer B → ValueAt → Emission → Consequence → Type 0
ComesFor by gone e come = ComesBy by.graph.now by.n by.p by.vertex gone e come

-- the changes of the take are those that remove its record, and those of this consequence
abbrev pub FlowLeads : {A B : Type 0} → Performer B → Taken A → Consequence → Type 0
FlowLeads by taken come = TakeLeads by taken (come_changes by.p taken.key.now come)

-- the emission e makes one record, on another edge than the record that is taken
abbrev pub PassesOn : {B : Type 0} → Performer B → ValueAt → Emission → Type 0
PassesOn by gone e = (r : ℕ × ValueAt) × (made_by by.graph.now by.n by.p by.vertex e ≡ r ∷ []) × (r.1.point.location ≢ gone.point.location)

-- nothing is emitted; or there is one emission, which makes one record, and no sink counts the value
abbrev pub ComesAlone : {B : Type 0} → Performer B → ValueAt → Bool → List Emission → Type 0
ComesAlone by gone sink [] = ⊤
ComesAlone by gone false (e ∷ []) = PassesOn by gone e
ComesAlone by gone _ _ = ⊥

-- a take that makes no new request, changes no item, and has at most one consequence
pub record IsPlainTake {A B : Type 0} (by : Performer B) (taken : Taken A) : Type 0 where
  pub asks : taken.asks ≡ false
  pub still : taken.effect.now.items.items ≡ []
  pub alone : ComesAlone by taken.key.now taken.effect.now.sink taken.effect.now.emits.items
