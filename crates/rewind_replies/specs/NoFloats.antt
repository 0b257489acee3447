-- What replies show has no float.
use Rattle.std.proofs.Common.{◌≡◌, ◌+◌, ℕ, ℤ, pos, negsuc, List, [], ◌∷◌, ◌++◌, map, Bool, true, false, Option, Some, None, option_map, refl}
use Rattle.std.specs.List.{flat_map, enumerate_from, zip}
use Rattle.std.specs.FinMap as fin
use Rattle.std.specs.declared.alloc.Global.{Global}
use Rattle.serde_json.specs.Data.{Data, Members}
use Rattle.serde_json.specs.Written.{has_float, members_have_float}
use Rattle.nd_time.specs.Time.{Time}
use Rattle.nd_graph.specs.Graph.{Dataflow}
use Rattle.nd_paths.specs.declared.point.Pointstamp.{Pointstamp}
use Rattle.nd_delta.specs.Delta.{DeltaValue, entries as listed}
use Rattle.nd_map.specs.Counts.{entries as numbers}
use Rattle.nd_vertex.specs.Items.{Items}
use Rattle.nd_vertex.specs.declared.key.ItemKey.{ItemKey}
use Rattle.nd_processor.specs.State.{ProcessorState}
use Rattle.nd_protocol.specs.State.{ClusterState}
use Rattle.nd_protocol.specs.declared.step.Step.{Step}
use Rattle.nd_protocol.specs.declared.step.Step.TheVariants.{Feed, Take, Notice, Release, Send, Broadcast, Receive}
use Rattle.nd_protocol.specs.declared.times.Later.{Later}
use Rattle.nd_protocol.specs.declared.batch.Batch.{Batch}
use Rattle.nd_protocol.specs.declared.part.Part.{Part}
use Rattle.nd_protocol.specs.declared.part.Part.TheVariants.{All, Points}
use Rattle.nd_protocol.specs.declared.step.Next.{Next as Afterwards}
use Rattle.nd_protocol.specs.declared.step.Next.TheVariants as token
use Rattle.nd_state_json.specs.StateText.{row, natural, whole, time_data, point_data, entry_data, entries_data, item_data, record_data, sink_data, token_data, processor_data, queue_data, queues_data, state_data}
use Rattle.nd_state_json.specs.Objects.{object_of, broadcast_object, next_data, move_object, release_object, at_before, dest_before, send_members, send_object}
use Rattle.rewind_replies.specs.Errors.{error_data}
use Rattle.rewind_replies.specs.declared.replies.ErrorReply.{ErrorReply}
use Rattle.rewind_replies.specs.declared.replies.ErrorReply.TheVariants as error
use Rattle.rewind_replies.specs.Replies.{step_refused, refused, stop, reply_data}
use Rattle.rewind_replies.specs.Effects.{or_null, item_altered, record_altered, request_altered, sink_altered, token_altered, entry_altered, queue_altered, effect_data}
use Rattle.rewind_replies.specs.Reasons.{held_data, unheard_data, reason_data}
use Rattle.rewind_replies.specs.Candidates.{candidate_data, tried}
use Rattle.rewind_replies.specs.Changes.{changed_data}
use Rattle.nd_steps.specs.declared.effect.Altered.{Altered}
use Rattle.nd_steps.specs.declared.effect.ItemAt.{ItemAt}
use Rattle.nd_steps.specs.Effect.{EffectValue}
use Rattle.nd_processor.specs.declared.key.ValueAt.{ValueAt}
use Rattle.nd_processor.specs.declared.key.SinkKey.{SinkKey}
use Rattle.nd_protocol.specs.declared.refusal.Refusal.{Refusal}
use Rattle.nd_protocol.specs.declared.refusal.Refusal.TheVariants as why
use Rattle.nd_replies.specs.declared.fault.Fault.{Fault}
use Rattle.nd_replies.specs.declared.fault.Fault.TheVariants as fault
use Rattle.nd_replies.specs.declared.reply.Stop.{Stop}
use Rattle.nd_replies.specs.declared.reply.Stop.TheVariants as end
use Rattle.nd_replies.specs.declared.reply.Reply.{Reply}
use Rattle.nd_replies.specs.declared.reply.Reply.TheVariants.{Moved, Ran, Set, Cleared, Refused}
use Rattle.nd_why.specs.Account.{Account}
use Rattle.nd_why.specs.declared.answer.Held.{Held}
use Rattle.nd_why.specs.declared.answer.Held.TheVariants.{Records, Request, Token}
use Rattle.nd_why.specs.declared.answer.Unheard.{Unheard}
use Rattle.nd_why.specs.declared.answer.Unheard.TheVariants.{Unsent, Queued}
use Rattle.nd_cluster.specs.declared.candidate.Candidate.{Candidate}
use Rattle.nd_timeline.specs.declared.changed.Changed.{Changed}

pub no_float-row : {A : Type 0} (f : A → Data) (xs : List A) → ((x : A) → has_float (f x) ≡ false) → has_float (row (map f xs)) ≡ false
no_float-row f [] h = refl
no_float-row f (x ∷ xs) h = rw (h x) (no_float-row f xs h)

pub no_float-whole : (z : ℤ) → has_float (whole z) ≡ false
no_float-whole (pos n) = refl
no_float-whole (negsuc n) = refl

pub no_float-time : (t : Time) → has_float (time_data t) ≡ false
no_float-time t = no_float-row natural (t.epoch ∷ t.counters) (λ n. refl)

pub no_float-point : (g : Dataflow) (p : Pointstamp) → has_float (point_data g p) ≡ false
no_float-point g p = rw (no_float-time p.time) refl

pub no_float-entries : (g : Dataflow) (entries : List (Pointstamp × ℤ)) → has_float (entries_data g entries) ≡ false
no_float-entries g entries = no_float-row (entry_data g) entries (λ e. rw (no_float-time e.0.time, no_float-whole e.1) refl)

no_float-broadcast : (g : Dataflow) (p : ℕ) (part : Part Global) → has_float (broadcast_object g p part) ≡ false
no_float-broadcast g p All = refl
no_float-broadcast g p (Points points) = rw (no_float-row (point_data g) points (no_float-point g)) refl

pub no_float-next : (next : Afterwards) → has_float (next_data next) ≡ false
no_float-next token.Next = refl
no_float-next token.Close = refl
no_float-next token.Stay = refl
no_float-next (token.To n) = refl

no_float-move : (g : Dataflow) (p vertex : ℕ) (time to : Time) (keep : Bool) → has_float (move_object g p vertex time to keep) ≡ false
no_float-move g p vertex time to true = rw (no_float-time time, no_float-time to) refl
no_float-move g p vertex time to false = rw (no_float-time time, no_float-time to) refl

no_float-release : (g : Dataflow) (p vertex : ℕ) (time : Time) (to : Option Later) → has_float (release_object g p vertex time to) ≡ false
no_float-release g p vertex time None = rw (no_float-time time) refl
no_float-release g p vertex time (Some to) = no_float-move g p vertex time to.time to.keep

no_float-dest : (dest : Option ℕ) (ms : Members) → members_have_float ms ≡ false → members_have_float (dest_before dest ms) ≡ false
no_float-dest None ms h = h
no_float-dest (Some q) ms h = h

no_float-at : (at : Option Time) (ms : Members) → members_have_float ms ≡ false → members_have_float (at_before at ms) ≡ false
no_float-at None ms h = h
no_float-at (Some t) ms h = rw (no_float-time t) h

no_float-send : (g : Dataflow) (p vertex : ℕ) (b : Batch Global) → has_float (send_object g p vertex b) ≡ false
no_float-send g p vertex b =
    let ms : Members = send_members g p vertex b in
    no_float-at b.at (dest_before b.dest ms)
    (no_float-dest b.dest ms (rw (no_float-time b.time, no_float-row whole b.values no_float-whole) refl))

-- the object of a step has no float
pub no_float-step : (g : Dataflow) (x : Step Global) → has_float (object_of g x) ≡ false
unfolding object_of
no_float-step g (Feed p vertex values next) = rw (no_float-next next, no_float-row whole values no_float-whole) refl
no_float-step g (Take p edge time value) = rw (no_float-time time, no_float-whole value) refl
no_float-step g (Notice p vertex time) = rw (no_float-time time) refl
no_float-step g (Release p vertex times) = no_float-release g p vertex times.time times.to
no_float-step g (Send p vertex batch) = no_float-send g p vertex batch
no_float-step g (Broadcast p part) = no_float-broadcast g p part
no_float-step g (Receive from to) = refl

-- ---- a state

no_float-then : (g : Dataflow) (v : ℕ) (es : List (ItemKey × ℤ)) (others : List Data) → has_float (row others) ≡ false → has_float (row (map (item_data g v) es ++ others)) ≡ false
no_float-then g v [] others h = h
no_float-then g v (e ∷ es) others h = rw (no_float-time e.0.time, no_float-whole e.0.item, no_float-whole e.1) (no_float-then g v es others h)

-- the items of vertices, the first of which has the number v
no_float-items : (g : Dataflow) (v : ℕ) (items : List Items) → has_float (row (flat_map (λ i. map (item_data g i.0) (numbers i.1)) (enumerate_from v items))) ≡ false
no_float-items g v [] = refl
no_float-items g v (i ∷ items) = no_float-then g v (numbers i) (flat_map (λ j. map (item_data g j.0) (numbers j.1)) (enumerate_from (v + 1) items)) (no_float-items g (v + 1) items)

no_float-processor : (g : Dataflow) (q : ProcessorState) (view : DeltaValue) → has_float (processor_data g q view) ≡ false
unfolding processor_data
no_float-processor g q view =
    rw (
      no_float-items g 0 q.items,
      no_float-row (record_data g) (numbers q.records) (λ e. rw (no_float-time e.0.point.time, no_float-whole e.0.value) refl),
      no_float-row (point_data g) (fin.keys q.requests) (no_float-point g),
      no_float-row (sink_data g) (numbers q.sinks) (λ e. rw (no_float-whole e.0.value) refl),
      no_float-row (token_data g) (fin.entries q.tokens) (λ e. refl),
      no_float-entries g (listed q.unsent),
      no_float-entries g (listed view),
    ) refl

no_float-queues : (g : Dataflow) (queues : List (List DeltaValue)) → has_float (queues_data g queues) ≡ false
no_float-queues g queues = no_float-row (queue_data g) queues (λ changes. no_float-row (λ c. entries_data g (listed c)) changes (λ c. no_float-entries g (listed c)))

pub no_float-state : (s : ClusterState) → has_float (state_data s) ≡ false
unfolding state_data
no_float-state s =
    rw (
      no_float-row (λ (e : ProcessorState × DeltaValue). processor_data s.graph e.0 e.1) (zip s.processors s.views) (λ e. no_float-processor s.graph e.0 e.1),
      no_float-row (queues_data s.graph) s.queues (no_float-queues s.graph),
    ) refl

-- ---- replies

pub no_float-or_null : {A : Type 0} (f : A → Data) (o : Option A) → ((x : A) → has_float (f x) ≡ false) → has_float (or_null (option_map f o)) ≡ false
no_float-or_null f None h = refl
no_float-or_null f (Some x) h = h x

pub no_float-error : (e : ErrorReply) → has_float (error_data e) ≡ false
no_float-error (error.Plain code) = refl
no_float-error (error.Line code n) = refl
no_float-error (error.Location code name) = refl

pub no_float-step_refused : (g : Dataflow) (r : Refusal) → has_float (step_refused g r) ≡ false
no_float-step_refused g (why.NotYet blocker) = rw (no_float-point g blocker) refl
no_float-step_refused g (why.NotAdmissible point) = rw (no_float-point g point) refl
no_float-step_refused g _ = refl

pub no_float-refused : (g : Dataflow) (f : Fault) → has_float (refused g f) ≡ false
no_float-refused g (fault.Step r) = no_float-step_refused g r
no_float-refused g _ = refl

pub no_float-stop : (x : Stop) → has_float (stop x) ≡ false
no_float-stop end.Limit = refl
no_float-stop end.Idle = refl
no_float-stop (end.Break id) = refl

pub no_float-reply : (g : Dataflow) (r : Reply) → has_float (reply_data g r) ≡ false
no_float-reply g (Moved at kept) = refl
no_float-reply g (Ran at kept made x) = rw (no_float-stop x) refl
no_float-reply g (Set id) = refl
no_float-reply g Cleared = refl
no_float-reply g (Refused f) = no_float-refused g f

-- ---- effects

pub no_float-item : (g : Dataflow) (a : Altered ItemAt (Option ℤ)) → has_float (item_altered g a) ≡ false
no_float-item g a = rw (no_float-time a.key.key.time, no_float-whole a.key.key.item, no_float-or_null whole a.old no_float-whole, no_float-or_null whole a.new no_float-whole) refl

pub no_float-record : (g : Dataflow) (a : Altered ValueAt ℕ) → has_float (record_altered g a) ≡ false
no_float-record g a = rw (no_float-time a.key.point.time, no_float-whole a.key.value) refl

pub no_float-request : (g : Dataflow) (a : Altered Pointstamp Bool) → has_float (request_altered g a) ≡ false
no_float-request g a = rw (no_float-time a.key.time) refl

pub no_float-sink : (g : Dataflow) (a : Altered SinkKey ℕ) → has_float (sink_altered g a) ≡ false
no_float-sink g a = rw (no_float-whole a.key.value) refl

pub no_float-token : (g : Dataflow) (a : Altered ℕ (Option ℕ)) → has_float (token_altered g a) ≡ false
no_float-token g a = rw (no_float-or_null natural a.old (λ n. refl), no_float-or_null natural a.new (λ n. refl)) refl

pub no_float-entry : (g : Dataflow) (a : Altered Pointstamp ℤ) → has_float (entry_altered g a) ≡ false
no_float-entry g a = rw (no_float-time a.key.time, no_float-whole a.old, no_float-whole a.new) refl

pub no_float-effect : (g : Dataflow) (e : EffectValue) → has_float (effect_data g e) ≡ false
no_float-effect g e =
    rw (
      no_float-row (item_altered g) e.items (no_float-item g),
      no_float-row queue_altered e.queues (λ a. refl),
      no_float-row (record_altered g) e.records (no_float-record g),
      no_float-row (request_altered g) e.requests (no_float-request g),
      no_float-row (sink_altered g) e.sinks (no_float-sink g),
      no_float-row (token_altered g) e.tokens (no_float-token g),
      no_float-row (entry_altered g) e.unsent (no_float-entry g),
      no_float-row (entry_altered g) e.views (no_float-entry g),
    ) refl

-- ---- reasons, candidates and changes

pub no_float-held : (g : Dataflow) (l : ℕ) (h : Held) → has_float (held_data g l h) ≡ false
no_float-held g l (Records p value n) = rw (no_float-whole value) refl
no_float-held g l (Request p) = refl
no_float-held g l (Token p) = refl

pub no_float-unheard : (u : Unheard) → has_float (unheard_data u) ≡ false
no_float-unheard (Unsent p n) = rw (no_float-whole n) refl
no_float-unheard (Queued p behind n) = rw (no_float-whole n) refl

pub no_float-reason : (g : Dataflow) (a : Account) → has_float (reason_data g a) ≡ false
no_float-reason g a =
    rw (
      no_float-row (held_data g a.point.location) a.held (no_float-held g a.point.location),
      no_float-point g a.point,
      no_float-row unheard_data a.unheard no_float-unheard,
      no_float-whole a.view,
    ) refl

no_float-tried : (g : Dataflow) (x : Step Global) (r : Option Refusal) → has_float (tried (object_of g x) (option_map (step_refused g) r)) ≡ false
no_float-tried g x None = rw (no_float-step g x) refl
no_float-tried g x (Some r) = rw (no_float-step g x, no_float-step_refused g r) refl

pub no_float-candidate : (g : Dataflow) (c : Candidate Global) → has_float (candidate_data g c) ≡ false
no_float-candidate g c = no_float-tried g c.step c.refusal

pub no_float-changed : (c : Changed) → has_float (changed_data c) ≡ false
no_float-changed c = rw (no_float-whole c.entry) refl
