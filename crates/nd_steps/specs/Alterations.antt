-- The effect of changes: the keys of a processor's maps that they change, with the values before and after, and how two effects
-- are combined.
use Rattle.std.specs.Prelude.{◌≡◌, ◌≤◌, ℕ, zero, suc, ◌+◌, ◌-◌, ℤ, pos, negsuc, ◌+ℤ◌, Bool, not, Option, Some, None, is_some, cond, List, [], ◌∷◌, ◌++◌, length}
use Rattle.std.specs.FinMap as fin
use Rattle.nd_time.specs.declared.order.TimeOrder.TheVariants.{Lexicographic}
use Rattle.nd_map.specs.Counts.{at, int_at, natural}
use Rattle.nd_paths.specs.declared.point.Pointstamp.{Pointstamp}
use Rattle.nd_delta.specs.Delta.{DeltaValue, at as in_change}
use Rattle.nd_vertex.specs.Edits.{item_of}
use Rattle.nd_vertex.specs.Table.{is_zero}
use Rattle.nd_vertex.specs.declared.key.ItemKey.{ItemKey}
use Rattle.nd_processor.specs.State.{ProcessorState, items_at}
use Rattle.nd_processor.specs.declared.key.ValueAt.{ValueAt}
use Rattle.nd_processor.specs.declared.key.SinkKey.{SinkKey}
use Rattle.nd_protocol.specs.State.{ClusterState}
use Rattle.nd_steps.specs.Slots.{stands}
use Rattle.nd_steps.specs.Integers.{changed}
use Rattle.nd_steps.specs.Records.{RunsTo}
use Rattle.nd_steps.specs.Changes.{own}
use Rattle.nd_mesh.specs.Mesh.{queue}
use Rattle.nd_steps.specs.Effect.{EffectValue, joined_below, lists_of, effect_of}
use Rattle.nd_steps.specs.declared.change.Change.{Change}
use Rattle.nd_steps.specs.declared.slot.Slot.{Slot}
use Rattle.nd_steps.specs.declared.slot.Slot.TheVariants.{Records, Request, Token, State, Sink, Unsent}
use Rattle.nd_steps.specs.declared.effect.Altered.{Altered}
use Rattle.nd_steps.specs.declared.effect.ItemAt.{ItemAt}
use Rattle.nd_steps.specs.declared.effect.Effect.{Effect}

-- ---- the processors alone

-- a state with these processors only, for definitions about a list of processors
abbrev pub only : List ProcessorState → ClusterState
only processors = record { graph = record { vertices = []; edges = []; order = Lexicographic }; processors = processors; views = []; queues = [] }

-- ---- combined effects

-- the effect that changes nothing
abbrev pub nothing : EffectValue
nothing = record { items = []; queues = []; records = []; requests = []; sinks = []; tokens = []; unsent = []; views = [] }

-- the two effects as one: each list of e, followed by that of f
abbrev pub beside : EffectValue → EffectValue → EffectValue
beside e f = record {
  items = e.items ++ f.items;
  queues = e.queues ++ f.queues;
  records = e.records ++ f.records;
  requests = e.requests ++ f.requests;
  sinks = e.sinks ++ f.sinks;
  tokens = e.tokens ++ f.tokens;
  unsent = e.unsent ++ f.unsent;
  views = e.views ++ f.views;
}

-- ---- the value at a key, from the integer there

-- the epoch of a token; `number_from` is the number of an item
abbrev pub epoch_from : ℤ → Option ℕ
epoch_from (pos zero) = None
epoch_from (pos (suc epoch)) = Some epoch
epoch_from (negsuc n) = None

abbrev pub number_from : ℤ → Option ℤ
number_from z = cond (is_zero z) None (Some z)

-- ---- adding n at a key of processor p, whose state is q

abbrev pub item_row : ProcessorState → ℕ → ℕ → ItemKey → ℤ → Altered ItemAt (Option ℤ)
item_row q p vertex key n = record {
  p = p;
  key = record { vertex = vertex; key = key };
  old = item_of (items_at q vertex) key;
  new = number_from (at (items_at q vertex) key +ℤ n);
}

abbrev pub record_row : ProcessorState → ℕ → ValueAt → ℤ → Altered ValueAt ℕ
record_row q p key n = record { p = p; key = key; old = at q.records key; new = natural (int_at q.records key +ℤ n) }

abbrev pub request_row : ProcessorState → ℕ → Pointstamp → Altered Pointstamp Bool
request_row q p x = record { p = p; key = x; old = is_some (fin.get q.requests x); new = not (is_some (fin.get q.requests x)) }

abbrev pub sink_row : ProcessorState → ℕ → SinkKey → ℤ → Altered SinkKey ℕ
sink_row q p key n = record { p = p; key = key; old = at q.sinks key; new = natural (int_at q.sinks key +ℤ n) }

abbrev pub token_row : ProcessorState → ℕ → ℕ → ℤ → Altered ℕ (Option ℕ)
token_row q p vertex n = record { p = p; key = vertex; old = fin.get q.tokens vertex; new = epoch_from (stands q (Token vertex) +ℤ n) }

abbrev pub unsent_row : ProcessorState → ℕ → Pointstamp → ℤ → Altered Pointstamp ℤ
unsent_row q p x n = record { p = p; key = x; old = in_change q.unsent x; new = in_change q.unsent x +ℤ n }

-- the effect of adding n at a key: one element in the list of its map, and none in the others
abbrev pub altered_at : ProcessorState → ℕ → Slot → ℤ → EffectValue
altered_at q p (Records key) n = record nothing { records = record_row q p key n ∷ [] }
altered_at q p (Request x) n = record nothing { requests = request_row q p x ∷ [] }
altered_at q p (Token vertex) n = record nothing { tokens = token_row q p vertex n ∷ [] }
altered_at q p (State vertex key) n = record nothing { items = item_row q p vertex key n ∷ [] }
altered_at q p (Sink key) n = record nothing { sinks = sink_row q p key n ∷ [] }
altered_at q p (Unsent x) n = record nothing { unsent = unsent_row q p x n ∷ [] }

-- the effect of one change on these processors
abbrev pub altered_of : List ProcessorState → Change → EffectValue
altered_of ps c = altered_at (own ps c) c.p c.slot c.n

-- the effects of a list of changes, each applied to these processors as if it were the first
abbrev pub altered_by : List ProcessorState → List Change → EffectValue
altered_by ps [] = nothing
altered_by ps (c ∷ cs) = beside (altered_of ps c) (altered_by ps cs)

-- each list of the new effect is that of the old one, followed by that of e
abbrev pub Appends : {A : Type 0} → Effect A → Effect A → EffectValue → Type 0
Appends old new e = lists_of new ≡ beside (lists_of old) e

-- ---- what a broadcast and a receive change

-- an entry of the part that p sends: it was unsent, and is 0 afterwards
abbrev pub sent_row : ℕ → Pointstamp × ℤ → Altered Pointstamp ℤ
sent_row p e = record { p = p; key = e.0; old = e.1; new = pos 0 }

-- the queue from p to another processor, which becomes one change longer
abbrev pub longer_row : List (List (List DeltaValue)) → ℕ → ℕ → Altered ℕ ℕ
longer_row m p to = record { p = p; key = to; old = length (queue m p to); new = length (queue m p to) + 1 }

-- all queues from p
abbrev pub longer_rows : List (List (List DeltaValue)) → ℕ → ℕ → List (Altered ℕ ℕ)
longer_rows m p n = joined_below n (λ to. longer_row m p to ∷ [])

-- an entry of the change that q receives, added to its view
abbrev pub received_row : ℕ → DeltaValue → Pointstamp × ℤ → Altered Pointstamp ℤ
received_row q v e = record { p = q; key = e.0; old = in_change v e.0; new = in_change v e.0 +ℤ e.1 }

-- the queue from which the change is received, which becomes one change shorter
abbrev pub shorter_row : List (List (List DeltaValue)) → ℕ → ℕ → Altered ℕ ℕ
shorter_row m from to = record { p = from; key = to; old = length (queue m from to); new = length (queue m from to) - 1 }

-- ---- where changes lead

-- e is the effect of a step from s to each state that satisfies P
abbrev pub IsEffectTo : {A : Type 0} → ClusterState → (ClusterState → Type 0) → Effect A → Type 0
IsEffectTo s P e = (t : ClusterState) → P t → lists_of e ≡ effect_of s t

-- ---- lists of changes that name no more than they change

-- the changes can be applied to s and lead to t, and there are no more of them than keys and queues at which s and t differ
pub record RunsExactly (s : ClusterState) (cs : List Change) (t : ClusterState) : Type 0 where
  pub runs : RunsTo s cs t
  pub exact : length cs ≤ changed s t
