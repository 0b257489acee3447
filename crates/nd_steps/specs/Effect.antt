-- The effect of a step: each key of a map and each queue at which the states before and after it differ, with the values before
-- and after.
use Rattle.std.specs.Prelude.{◌≤◌, ℕ, zero, suc, ◌+◌, ℤ, Bool, Option, is_some, cond, List, [], ◌∷◌, ◌++◌, length}
use Rattle.std.specs.List.{flat_map}
use Rattle.std.specs.Ordering.{eq_by_cmp}
use Rattle.std.specs.FinMap as fin
use Rattle.nd_map.specs.Counts.{at, entries, keys_of}
use Rattle.nd_paths.specs.declared.point.Pointstamp.{Pointstamp}
use Rattle.nd_delta.specs.Delta.{at as in_change}
use Rattle.nd_vertex.specs.Edits.{item_of}
use Rattle.nd_processor.specs.State.{items_at}
use Rattle.nd_processor.specs.declared.key.ValueAt.{ValueAt}
use Rattle.nd_processor.specs.declared.key.SinkKey.{SinkKey}
use Rattle.nd_protocol.specs.State.{ClusterState, processor, view, queue}
use Rattle.nd_steps.specs.Places.{Place, place_at, view_of}
use Rattle.nd_steps.specs.Integers.{difference, changed, queue_cmp}
use Rattle.nd_steps.specs.Records.{named, Makes}
use Rattle.nd_steps.specs.declared.record.Record.{Record}
use Rattle.nd_steps.specs.declared.slot.Slot.TheVariants.{Records, Request, Token, State, Sink, Unsent}
use Rattle.nd_steps.specs.declared.effect.Altered.{Altered}
use Rattle.nd_steps.specs.declared.effect.ItemAt.{ItemAt}
use Rattle.nd_steps.specs.declared.effect.Effect.{Effect}

-- the eight lists of what a step changes
pub record EffectValue : Type 0 where
  -- the numbers of the items of vertices; None if the item is absent
  pub items : List (Altered ItemAt (Option ℤ))
  -- how many changes are in the queue to a processor
  pub queues : List (Altered ℕ ℕ)
  -- the number of records of a value at a pointstamp of an edge
  pub records : List (Altered ValueAt ℕ)
  -- whether there is a request at a pointstamp of a vertex
  pub requests : List (Altered Pointstamp Bool)
  -- how often a sink vertex has counted a value
  pub sinks : List (Altered SinkKey ℕ)
  -- the epoch of an input vertex's token, if it is open
  pub tokens : List (Altered ℕ (Option ℕ))
  -- the entries of unsent changes
  pub unsent : List (Altered Pointstamp ℤ)
  -- the entries of views
  pub views : List (Altered Pointstamp ℤ)

-- the lists of an `Effect`
abbrev pub lists_of : {A : Type 0} → Effect A → EffectValue
lists_of e = record {
  items = e.items.items;
  queues = e.queues.items;
  records = e.records.items;
  requests = e.requests.items;
  sinks = e.sinks.items;
  tokens = e.tokens.items;
  unsent = e.unsent.items;
  views = e.views.items;
}

-- ---- what changes at a place: one element in the list of its map, and none in the others

abbrev pub altered : {K V : Type 0} → ℕ → K → V → V → List (Altered K V)
altered p key old new = record { p = p; key = key; old = old; new = new } ∷ []

abbrev pub item_at : ClusterState → ClusterState → Place → List (Altered ItemAt (Option ℤ))
item_at s t (place_at p (State vertex key)) =
    altered p (record { vertex = vertex; key = key }) (item_of (items_at (processor s p) vertex) key) (item_of (items_at (processor t p) vertex) key)
item_at s t _ = []

abbrev pub record_at : ClusterState → ClusterState → Place → List (Altered ValueAt ℕ)
record_at s t (place_at p (Records key)) = altered p key (at (processor s p).records key) (at (processor t p).records key)
record_at s t _ = []

abbrev pub request_at : ClusterState → ClusterState → Place → List (Altered Pointstamp Bool)
request_at s t (place_at p (Request x)) = altered p x (is_some (fin.get (processor s p).requests x)) (is_some (fin.get (processor t p).requests x))
request_at s t _ = []

abbrev pub sink_at : ClusterState → ClusterState → Place → List (Altered SinkKey ℕ)
sink_at s t (place_at p (Sink key)) = altered p key (at (processor s p).sinks key) (at (processor t p).sinks key)
sink_at s t _ = []

abbrev pub token_at : ClusterState → ClusterState → Place → List (Altered ℕ (Option ℕ))
token_at s t (place_at p (Token vertex)) = altered p vertex (fin.get (processor s p).tokens vertex) (fin.get (processor t p).tokens vertex)
token_at s t _ = []

abbrev pub unsent_at : ClusterState → ClusterState → Place → List (Altered Pointstamp ℤ)
unsent_at s t (place_at p (Unsent x)) = altered p x (in_change (processor s p).unsent x) (in_change (processor t p).unsent x)
unsent_at s t _ = []

abbrev pub view_at : ClusterState → ClusterState → Place → List (Altered Pointstamp ℤ)
view_at s t (view_of q x) = altered q x (in_change (view s q) x) (in_change (view t q) x)
view_at s t _ = []

-- ---- what changes in the queues

-- f 0 ++ ... ++ f (n - 1)
abbrev pub joined_below : {X : Type 0} → ℕ → (ℕ → List X) → List X
joined_below zero f = []
joined_below (suc n) f = joined_below n f ++ f n

-- the lengths of a queue before and after, if the queue differs
abbrev pub queue_at : ClusterState → ClusterState → ℕ → ℕ → List (Altered ℕ ℕ)
queue_at s t from to = cond (eq_by_cmp queue_cmp (queue s from to) (queue t from to)) [] (altered from to (length (queue s from to)) (length (queue t from to)))

-- the queues that differ, by sender, and then by receiver
abbrev pub queues_altered : ClusterState → ClusterState → List (Altered ℕ ℕ)
queues_altered s t = let n : ℕ = length s.processors in joined_below n (λ from. joined_below n (queue_at s t from))

-- ---- what a step from s to t changes

-- the places at which two states differ, in order: by map, then by processor, then in the map's order of listing
abbrev pub places_altered : ClusterState → ClusterState → List Place
places_altered s t = keys_of (entries (difference s t))

-- what changes at these places and in these queues
abbrev pub effect_at : ClusterState → ClusterState → List Place → List (Altered ℕ ℕ) → EffectValue
effect_at s t places queues = record {
  items = flat_map (item_at s t) places;
  queues = queues;
  records = flat_map (record_at s t) places;
  requests = flat_map (request_at s t) places;
  sinks = flat_map (sink_at s t) places;
  tokens = flat_map (token_at s t) places;
  unsent = flat_map (unsent_at s t) places;
  views = flat_map (view_at s t) places;
}

-- every key and every queue at which s and t differ
unfoldable pub effect_of : ClusterState → ClusterState → EffectValue
effect_of s t = effect_at s t (places_altered s t) (queues_altered s t)

-- how many elements the lists have together
abbrev pub altered_count : EffectValue → ℕ
altered_count e =
    length e.items + (length e.queues + (length e.records + (length e.requests + (length e.sinks + (length e.tokens + (length e.unsent + length e.views))))))

-- ---- records with an exact effect

-- the record leads from s to t, and names no more keys and ends of queues than the step changes
pub record MakesExactly {A : Type 0} (s : ClusterState) (r : Record A) (t : ClusterState) : Type 0 where
  pub makes : Makes s r t
  pub exact : named r ≤ changed s t
