-- The changes of a step as a plan finds them, and the list in which no place occurs twice.
use Rattle.std.specs.Prelude.{◌≡◌, ◌≢◌, ℕ, ◌+◌, ℤ, pos, negsuc, ◌+ℤ◌, ◌-ℤ◌, ◌++◌, List, [], ◌∷◌, map, length, cond, Bool, true, false, Option, Some, None, is_none, ◌&&◌, nat_eq, if◌then◌else◌}
use Rattle.std.specs.List.{flat_map}
use Rattle.std.specs.FinMap as fin
use Rattle.nd_time.specs.Time.{Time}
use Rattle.nd_graph.specs.Graph.{Dataflow, op_at}
use Rattle.nd_graph.specs.declared.graph.Edge.{Edge}
use Rattle.nd_paths.specs.declared.point.Pointstamp.{Pointstamp}
use Rattle.nd_vertex.specs.Table.{is_zero}
use Rattle.nd_vertex.specs.Edits.{number_of}
use Rattle.nd_vertex.specs.Effects.{IsEffect}
use Rattle.nd_vertex.specs.declared.effect.Effect.{Effect}
use Rattle.nd_vertex.specs.declared.effect.Emission.{Emission}
use Rattle.nd_vertex.specs.declared.effect.ItemEdit.{ItemEdit}
use Rattle.nd_processor.specs.State.{Requests, token_point, items_at}
use Rattle.nd_processor.specs.declared.key.SinkKey.{SinkKey}
use Rattle.nd_processor.specs.declared.key.ValueAt.{ValueAt}
use Rattle.nd_protocol.specs.Ranges.{IsValue}
use Rattle.nd_protocol.specs.State.{ClusterState, processor}
use Rattle.nd_protocol.specs.Steps.{directed, record_key, made_on, target_of, take_outcome, notice_outcome, point_at, stepped}
use Rattle.nd_protocol.specs.Times.{is_kept}
use Rattle.nd_protocol.specs.Fitting.{IsState}
use Rattle.nd_protocol.specs.Enabled.{IsFreeBelow}
use Rattle.nd_protocol.specs.declared.step.Step.{Step}
use Rattle.nd_protocol.specs.declared.times.Later.{Later}
use Rattle.nd_protocol.specs.declared.times.Times.{Times}
use Rattle.nd_protocol.specs.declared.step.Next.{Next as Afterwards}
use Rattle.nd_protocol.specs.declared.step.Next.TheVariants as token
use Rattle.nd_steps.specs.Places.{Place}
use Rattle.nd_steps.specs.declared.slot.Slot.TheVariants.{Records, Request, Token, State, Sink, Unsent}
use Rattle.nd_steps.specs.Changes.{at_key, place_of}
use Rattle.nd_steps.specs.Places.{is_place}
use Rattle.nd_steps.specs.Plans.{Once, Each, Reaches, total_at}
use Rattle.nd_steps.specs.declared.change.Change.{Change}

-- ---- changes, as a plan finds them

-- the changes of records that arrive, each at its processor; p has each of them to send
abbrev pub arrivals : ℕ → List (ℕ × ValueAt) → List Change
arrivals p [] = []
arrivals p (r ∷ rs) = at_key r.0 (Records r.1) (pos 1) ∷ at_key p (Unsent r.1.point) (pos 1) ∷ arrivals p rs

-- the change of one item of a vertex to its new number
abbrev pub item_change : ℕ → ℕ → ItemEdit → Change
item_change p vertex e = at_key p (State vertex e.key) (number_of e.new -ℤ number_of e.old)

-- the changes of several items of a vertex to their new numbers
abbrev pub item_changes : ℕ → ℕ → List ItemEdit → List Change
item_changes p vertex es = map (item_change p vertex) es

-- the old and the new number of the edit fit 64 bits
pub record HasValues (e : ItemEdit) : Type 0 where
  pub old : IsValue (number_of e.old)
  pub new : IsValue (number_of e.new)

-- ---- no place occurs twice

-- the change c, or nothing if it adds 0
abbrev pub some_of : Change → List Change
some_of c = cond (is_zero c.n) [] (c ∷ [])

-- two changes at one place as one change
abbrev pub both : Change → Change → Change
both c d = record c { n = c.n +ℤ d.n }

-- the change c and those after it, with neighbours at the same place joined
abbrev pub joins : Change → List Change → List Change
joins c [] = some_of c
joins c (d ∷ ds) = cond (is_place (place_of c) (place_of d)) (joins (both c d) ds) (some_of c ++ joins d ds)

abbrev pub joined : List Change → List Change
joined [] = []
joined (c ∷ cs) = joins c cs

-- the changes ds add what cs add, no place occurs twice in ds, and no change of ds adds 0
pub record AreJoined (cs ds : List Change) : Type 0 where
  pub once : Once ds
  pub some : Each (λ c. c.n ≢ pos 0) ds
  pub totals : (k : Place) → total_at k ds ≡ total_at k cs

-- ---- the records that arrive

-- the record, with its processor, that an emission of a vertex of processor p makes on the edge at location l, if the edge leaves
-- the emission's port; on an exchange edge it goes to the processor dest, if one is named
abbrev pub made_along : Option ℕ → ℕ → ℕ → ℕ → Emission → ℕ → Edge → List (ℕ × ValueAt)
made_along dest n p vertex e l edge =
    if nat_eq edge.from vertex && nat_eq edge.port e.port then (directed dest edge.route n p e.value, record_key l e.time e.value) ∷ [] else []

-- the records that one emission makes, if it names the processor dest; `made_by` are those of an emission that names none
abbrev pub made_to : Option ℕ → Dataflow → ℕ → ℕ → ℕ → Emission → List (ℕ × ValueAt)
made_to dest g n p vertex e = made_on dest n p vertex e.port e.value e.time (length g.vertices) g.edges

abbrev pub made_by : Dataflow → ℕ → ℕ → ℕ → Emission → List (ℕ × ValueAt)
made_by g n p vertex e = made_to None g n p vertex e

-- a value that goes out on a port at a time, as an emission
abbrev pub emission_of : ℕ → Time → ℤ → Emission
emission_of port t v = record { port = port; time = t; value = v }

-- the records of values that go out at once, those of a feed or of a send; `emitted_by` are those of several emissions
abbrev pub values_by : Option ℕ → Dataflow → ℕ → ℕ → ℕ → ℕ → Time → List ℤ → List (ℕ × ValueAt)
values_by dest g n p vertex port t values = flat_map (λ v. made_to dest g n p vertex (emission_of port t v)) values

abbrev pub emitted_by : Dataflow → ℕ → ℕ → ℕ → List Emission → List (ℕ × ValueAt)
emitted_by g n p vertex es = flat_map (made_by g n p vertex) es

-- ---- the changes of each kind of step, in the order in which they are found

-- the changes that move a token from its epoch
abbrev pub token_changes : ℕ → ℕ → ℕ → Afterwards → List Change
token_changes p vertex epoch token.Stay = []
token_changes p vertex epoch token.Close = at_key p (Token vertex) (negsuc epoch) ∷ at_key p (Unsent (token_point vertex epoch)) (negsuc 0) ∷ []
token_changes p vertex epoch token.Next =
    at_key p (Token vertex) (pos 1) ∷ at_key p (Unsent (token_point vertex epoch)) (negsuc 0) ∷ at_key p (Unsent (token_point vertex (epoch + 1))) (pos 1) ∷ []
token_changes p vertex epoch (token.To n) =
    at_key p (Token vertex) (pos n -ℤ pos epoch) ∷ at_key p (Unsent (token_point vertex epoch)) (negsuc 0) ∷ at_key p (Unsent (token_point vertex n)) (pos 1) ∷ []

abbrev pub fed_changes : ℕ → ℕ → ℕ → Afterwards → List (ℕ × ValueAt) → List Change
fed_changes p vertex epoch next rs = token_changes p vertex epoch next ++ arrivals p rs

-- the changes of a request that was not there; none if `asks` is false
abbrev pub ask_changes : ℕ → Pointstamp → Bool → List Change
ask_changes p x true = at_key p (Request x) (pos 1) ∷ at_key p (Unsent x) (pos 1) ∷ []
ask_changes p x false = []

-- the change of a sink that counts a value; none if it does not count
abbrev pub sink_changes : ℕ → SinkKey → Bool → List Change
sink_changes p key true = at_key p (Sink key) (pos 1) ∷ []
sink_changes p key false = []

abbrev pub taken_changes : {A : Type 0} → ℕ → ℕ → ValueAt → Effect A → Bool → List (ℕ × ValueAt) → List Change
taken_changes p target k effect asks rs =
    (((at_key p (Records k) (negsuc 0) ∷ at_key p (Unsent k.point) (negsuc 0) ∷ []
    ++ ask_changes p (point_at target k.point.time) asks)
    ++ item_changes p target effect.items.items)
    ++ sink_changes p (record { vertex = target; value = k.value }) effect.sink)
    ++ arrivals p rs

abbrev pub noticed_changes : {A : Type 0} → ℕ → Pointstamp → Effect A → List (ℕ × ValueAt) → List Change
noticed_changes p x effect rs =
    (at_key p (Request x) (negsuc 0) ∷ at_key p (Unsent x) (negsuc 0) ∷ []
    ++ item_changes p x.location effect.items.items)
    ++ arrivals p rs

-- the changes of the request that a release gives up; none if it is kept
abbrev pub gone_changes : ℕ → ℕ → Times → List Change
gone_changes p vertex times =
    let x = point_at vertex times.time in
    cond (is_kept times.to) [] (at_key p (Request x) (negsuc 0) ∷ at_key p (Unsent x) (negsuc 0) ∷ [])

-- the changes of a release's later request; none if there is no new request
abbrev pub later_changes : ℕ → ℕ → Option Later → Bool → List Change
later_changes p vertex None asks = []
later_changes p vertex (Some to) asks = ask_changes p (point_at vertex to.time) asks

abbrev pub released_changes : ℕ → ℕ → Times → Bool → List Change
released_changes p vertex times asks = gone_changes p vertex times ++ later_changes p vertex times.to asks

-- ---- what determines the changes of a feed, a take, a notice, a release and a send

-- the changes lead from s to the state after the step x, if x passes all tests before those of the limits
abbrev pub Leads : {A : Type 0} → ClusterState → Step A → List Change → Type 0
Leads s x cs = IsState s → IsFreeBelow s x 13 → Reaches s (stepped s x) cs

-- a cluster with this graph, of n processors
pub record Has (g : Dataflow) (n : ℕ) (s : ClusterState) : Type 0 where
  pub graph : s.graph ≡ g
  pub count : length s.processors ≡ n

-- `effect` is the effect of the take on processor p, and `asks` says whether it makes a request that was not there
pub record TakesSo {A : Type 0} (s : ClusterState) (p target : ℕ) (k : ValueAt) (effect : Effect A) (asks : Bool) : Type 0 where
  pub goes : target ≡ target_of s.graph k.point.location
  pub does : IsEffect (items_at (processor s p) target) (op_at s.graph target) k.point.time (take_outcome s p k.point.location k.point.time k.value) effect
  pub anew : asks ≡ (effect.asks && is_none (fin.get (processor s p).requests (point_at target k.point.time)))

-- `effect` is the effect of the notice on processor p, and the notification was requested
pub record NoticesSo {A : Type 0} (s : ClusterState) (p : ℕ) (x : Pointstamp) (effect : Effect A) : Type 0 where
  pub asked : fin.get (processor s p).requests x ≡ Some tt
  pub does : IsEffect (items_at (processor s p) x.location) (op_at s.graph x.location) x.time (notice_outcome s p x.location x.time) effect

-- the requests that are left once the released one is removed, unless it is kept
abbrev pub left_by : Requests → ℕ → Times → Requests
left_by requests vertex times = cond (is_kept times.to) requests (fin.remove requests (point_at vertex times.time))

-- whether a release makes a later request that is not among those that are left
abbrev pub asks_later : Requests → ℕ → Option Later → Bool
asks_later left vertex None = false
asks_later left vertex (Some to) = is_none (fin.get left (point_at vertex to.time))

-- processor p holds the capability that is released, and `asks` says whether the release makes a request that was not there
pub record ReleasesSo (s : ClusterState) (p vertex : ℕ) (times : Times) (asks : Bool) : Type 0 where
  pub asked : fin.get (processor s p).requests (point_at vertex times.time) ≡ Some tt
  pub anew : asks ≡ asks_later (left_by (processor s p).requests vertex times) vertex times.to
