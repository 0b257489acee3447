-- What a step does to a cluster (Naiad, SOSP 2013, sections 2.2, 2.3 and 3.3; FORTE 2013).
use Rattle.std.specs.Prelude.{ℕ, ◌+◌, ◌-◌, ℤ, pos, negsuc, cond, ◌&&◌, ◌++◌, List, [], ◌∷◌, length, unwrap_or, unsigned_abs, nat_eq, if◌then◌else◌, Option, Some, None, slice_get, slice_index_or, slice_set}
use Rattle.std.specs.Int.{int_rem_euclid}
use Rattle.std.specs.List.{flat_map}
use Rattle.std.specs.Option.{option_map_or}
use Rattle.std.specs.Ordering.{nat_cmp}
use Rattle.std.specs.FinMap as fin
use Rattle.nd_map.specs.Counts.{added}
use Rattle.nd_time.specs.Time.{Time}
use Rattle.nd_graph.specs.Graph.{Dataflow, op_at}
use Rattle.nd_graph.specs.declared.op.Route.{Route}
use Rattle.nd_graph.specs.declared.op.Route.TheVariants.{Local, Exchange}
use Rattle.nd_graph.specs.declared.graph.Edge.{Edge}
use Rattle.nd_paths.specs.declared.point.Pointstamp.{Pointstamp}
use Rattle.nd_delta.specs.Delta.{DeltaValue, plus, minus, part as part_at}
use Rattle.nd_vertex.specs.Table.{Outcome, on_record, on_notice, time_past}
use Rattle.nd_processor.specs.Keys.{value_at_total, sink_total}
use Rattle.nd_processor.specs.State.{ProcessorState, Requests, idle, items_at}
use Rattle.nd_processor.specs.declared.key.ValueAt.{ValueAt}
use Rattle.nd_protocol.specs.State.{ClusterState, processor, truth}
use Rattle.nd_protocol.specs.Exchange.{sent, received}
use Rattle.nd_protocol.specs.declared.step.Step.{Step}
use Rattle.nd_protocol.specs.declared.step.Step.TheVariants.{Feed, Take, Notice, Release, Send, Broadcast, Receive}
use Rattle.nd_protocol.specs.declared.times.Later.{Later}
use Rattle.nd_protocol.specs.declared.times.Times.{Times}
use Rattle.nd_protocol.specs.declared.batch.Batch.{Batch}
use Rattle.nd_protocol.specs.declared.part.Part.{Part}
use Rattle.nd_protocol.specs.declared.part.Part.TheVariants.{All, Points}
use Rattle.nd_protocol.specs.declared.step.Next.{Next as Afterwards}
use Rattle.nd_protocol.specs.declared.step.Next.TheVariants as token

-- ---- where the values of an emission go

-- the processor, among n, to which a record goes: its maker p, or the value modulo n
abbrev pub destination : Route → ℕ → ℕ → ℤ → ℕ
destination Local n p v = p
destination Exchange n p v = unsigned_abs (int_rem_euclid v (pos n))

-- the same for a record that is sent to the processor dest, if one is named: on a local edge the record stays, even if `dest` is given
abbrev pub directed : Option ℕ → Route → ℕ → ℕ → ℤ → ℕ
directed None route n p v = destination route n p v
directed (Some dest) Local n p v = p
directed (Some dest) Exchange n p v = dest

-- the record of a value at an edge's pointstamp
abbrev pub record_key : ℕ → Time → ℤ → ValueAt
record_key edge t value = record { point = record { location = edge; time = t }; value = value }

-- the records that one value emitted on a port makes, each with its processor: one record on each edge that leaves the port; the
-- first of the edges is the location l
abbrev pub made_on : Option ℕ → ℕ → ℕ → ℕ → ℕ → ℤ → Time → ℕ → List Edge → List (ℕ × ValueAt)
made_on dest n p vertex port v t l [] = []
made_on dest n p vertex port v t l (e ∷ edges) =
    (if nat_eq e.from vertex && nat_eq e.port port then (directed dest e.route n p v, record_key l t v) ∷ [] else [])
    ++ made_on dest n p vertex port v t (l + 1) edges

-- the records that an emission of a vertex of processor p makes, each with its processor; t is the time before the vertex's
-- action
abbrev pub emitted : Dataflow → ℕ → ℕ → ℕ → Time → ℕ × ℤ → List (ℕ × ValueAt)
emitted g n p vertex t e = made_on None n p vertex e.0 e.1 (time_past (op_at g vertex) t) (length g.vertices) g.edges

-- the processors with one record added to its processor
abbrev pub with_record : List ProcessorState → ℕ × ValueAt → List ProcessorState
with_record qs r = let q = slice_index_or qs r.0 idle in slice_set qs r.0 (record q { records = added value_at_total q.records r.1 (pos 1) })

abbrev pub with_records : List ProcessorState → List (ℕ × ValueAt) → List ProcessorState
with_records qs [] = qs
with_records qs (r ∷ rs) = with_records (with_record qs r) rs

-- ---- the steps, without the unsent change

-- the tokens after a feed: the vertex's token moves to the next epoch, is dropped, stays, or moves to the epoch n
abbrev pub moved_token : fin.FinMap nat_cmp ℕ → ℕ → ℕ → Afterwards → fin.FinMap nat_cmp ℕ
moved_token tokens vertex epoch token.Next = fin.insert tokens vertex (epoch + 1)
moved_token tokens vertex epoch token.Close = fin.remove tokens vertex
moved_token tokens vertex epoch token.Stay = tokens
moved_token tokens vertex epoch (token.To n) = fin.insert tokens vertex n

-- the epoch of an input's token
abbrev pub epoch_of : ClusterState → ℕ → ℕ → ℕ
epoch_of s p vertex = unwrap_or (fin.get (processor s p).tokens vertex) 0

-- a time outside all loops
abbrev pub flat : ℕ → Time
flat epoch = record { epoch = epoch; counters = [] }

-- the pointstamp of a location at a time
abbrev pub point_at : ℕ → Time → Pointstamp
point_at l t = record { location = l; time = t }

-- a feed emits its values on port 0 at the token's epoch, and the token moves
unfoldable pub fed : ClusterState → ℕ → ℕ → List ℤ → Afterwards → List ProcessorState
fed s p vertex values next =
    let q = processor s p in
    let epoch = epoch_of s p vertex in
    with_records
    (slice_set s.processors p (record q { tokens = moved_token q.tokens vertex epoch next }))
    (flat_map (λ v. emitted s.graph (length s.processors) p vertex (flat epoch) (0, v)) values)

-- the vertex that an edge enters
abbrev pub target_of : Dataflow → ℕ → ℕ
target_of g edge = option_map_or (λ e. e.to) (slice_get g.edges (edge - length g.vertices)) 0

-- what the target of an edge does with a record
abbrev pub take_outcome : ClusterState → ℕ → ℕ → Time → ℤ → Outcome
take_outcome s p edge t value = let target = target_of s.graph edge in on_record (op_at s.graph target) (items_at (processor s p) target) t value

-- a record is removed from its edge and handed to the edge's target
unfoldable pub taken : ClusterState → ℕ → ℕ → Time → ℤ → List ProcessorState
taken s p edge t value =
    let q = processor s p in
    let target = target_of s.graph edge in
    let outcome = take_outcome s p edge t value in
    with_records
    (slice_set s.processors p (record q {
      records = added value_at_total q.records (record_key edge t value) (negsuc 0);
      requests = cond outcome.asks (fin.insert q.requests (point_at target t) tt) q.requests;
      items = slice_set q.items target outcome.items;
      sinks = cond outcome.counts (added sink_total q.sinks (record { vertex = target; value = value }) (pos 1)) q.sinks;
    }))
    (flat_map (emitted s.graph (length s.processors) p target t) outcome.emissions)

-- what a vertex does on a notification
abbrev pub notice_outcome : ClusterState → ℕ → ℕ → Time → Outcome
notice_outcome s p vertex t = on_notice (op_at s.graph vertex) (items_at (processor s p) vertex) t

-- a request is removed, and its vertex reacts to the notification
unfoldable pub noticed : ClusterState → ℕ → ℕ → Time → List ProcessorState
noticed s p vertex t =
    let q = processor s p in
    let outcome = notice_outcome s p vertex t in
    with_records
    (slice_set s.processors p (record q { requests = fin.remove q.requests (point_at vertex t); items = slice_set q.items vertex outcome.items }))
    (flat_map (emitted s.graph (length s.processors) p vertex t) outcome.emissions)

-- a request is removed, moved to another time, or stays beside one at another time; if there is already a request at that time, it
-- stays
abbrev pub moved_request : Requests → ℕ → Time → Option Later → Requests
moved_request requests vertex t None = fin.remove requests (point_at vertex t)
moved_request requests vertex t (Some to) = fin.insert (cond to.keep requests (fin.remove requests (point_at vertex t))) (point_at vertex to.time) tt

-- a held capability is dropped, moved to another time, or stays beside one at another time
unfoldable pub released : ClusterState → ℕ → ℕ → Times → List ProcessorState
released s p vertex times =
    let q = processor s p in
    slice_set s.processors p (record q { requests = moved_request q.requests vertex times.time times.to })

-- the time of the records of a batch
abbrev pub batch_time : {A : Type 0} → Batch A → Time
batch_time b = unwrap_or b.at b.time

-- the records that one value of a batch makes, each with its processor
abbrev pub posts : {A : Type 0} → Dataflow → ℕ → ℕ → ℕ → Batch A → ℤ → List (ℕ × ValueAt)
posts g n p vertex b v = made_on b.dest n p vertex b.port v (batch_time b) (length g.vertices) g.edges

-- the records that a batch makes, each with its processor
abbrev pub posted_records : {A : Type 0} → ClusterState → ℕ → ℕ → Batch A → List (ℕ × ValueAt)
posted_records s p vertex b = flat_map (posts s.graph (length s.processors) p vertex b) b.values

-- a vertex sends the values of a batch
unfoldable pub posted : {A : Type 0} → ClusterState → ℕ → ℕ → Batch A → List ProcessorState
posted s p vertex b = with_records s.processors (posted_records s p vertex b)

-- ---- the steps

-- what a step adds to the truth
abbrev pub gain : List ProcessorState → List ProcessorState → DeltaValue
gain old new = minus (truth new) (truth old)

-- what the step adds to the truth is added to the unsent change of p, which executes the step
abbrev pub with_gain : List ProcessorState → ℕ → List ProcessorState → List ProcessorState
with_gain old p new = let q = slice_index_or new p idle in slice_set new p (record q { unsent = plus q.unsent (gain old new) })

-- the cluster after a step of p; new is its processors, without what p has to send
abbrev pub worked : ClusterState → ℕ → List ProcessorState → ClusterState
worked s p new = record s { processors = with_gain s.processors p new }

-- the part of a change that a broadcast names: all of it, or its entries at some pointstamps
abbrev pub chosen : {A : Type 0} → Part A → DeltaValue → DeltaValue
chosen All c = c
chosen (Points points) c = part_at c points

-- the cluster after a step
unfoldable pub stepped : {A : Type 0} → ClusterState → Step A → ClusterState
stepped s (Feed p vertex values next) = worked s p (fed s p vertex values next)
stepped s (Take p edge t value) = worked s p (taken s p edge t value)
stepped s (Notice p vertex t) = worked s p (noticed s p vertex t)
stepped s (Release p vertex times) = worked s p (released s p vertex times)
stepped s (Send p vertex batch) = worked s p (posted s p vertex batch)
stepped s (Broadcast p part) = sent s p (chosen part (processor s p).unsent)
stepped s (Receive from to) = received s from to

-- the cluster after a list of steps
unfoldable pub after : {A : Type 0} → ClusterState → List (Step A) → ClusterState
after s [] = s
after s (x ∷ xs) = after (stepped s x) xs
