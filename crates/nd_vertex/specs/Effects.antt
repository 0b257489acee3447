-- When an effect is what the table says, and when a vertex cannot react.
use Rattle.std.specs.Prelude.{◌≡◌, ℕ, ℤ, ◌<◌, ◌≤◌, All, FitsSigned, List, [], ◌∷◌, map, Option, Some, None, ⊤}
use mir.Syntax.{w64}
use Rattle.nd_map.specs.Counts.{at}
use Rattle.nd_time.specs.Time.{Time, last_of}
use Rattle.nd_time.specs.Limits.{max_counter, max_depth}
use Rattle.nd_graph.specs.Graph.{action_of}
use Rattle.nd_graph.specs.declared.op.Op.{Op}
use Rattle.nd_graph.specs.declared.op.Action.{Action}
use Rattle.nd_graph.specs.declared.op.Action.TheVariants as action
use Rattle.nd_vertex.specs.Items.{Items}
use Rattle.nd_vertex.specs.Table.{Outcome, on_record, time_past}
use Rattle.nd_vertex.specs.Edits.{LeadsTo}
use Rattle.nd_vertex.specs.declared.key.ItemKey.{ItemKey}
use Rattle.nd_vertex.specs.declared.effect.Emission.{Emission}
use Rattle.nd_vertex.specs.declared.effect.Effect.{Effect}
use Rattle.nd_vertex.specs.declared.react.Reaction.{Reaction}

-- the emissions of outputs at a timestamp
abbrev pub emitted : Time → List (ℕ × ℤ) → List Emission
emitted t es = map (λ e. record { port = e.0; time = t; value = e.1 }) es

-- e is the effect with outcome o of operator op, on items m at timestamp t
pub record IsEffect {A : Type 0} (m : Items) (op : Op) (t : Time) (o : Outcome) (e : Effect A) : Type 0 where
  pub emits : e.emits.items ≡ emitted (time_past op t) o.emissions
  pub asks : e.asks ≡ o.asks
  pub items : LeadsTo m e.items.items o.items
  pub sink : e.sink ≡ o.counts

-- an action applies to a timestamp of this depth
abbrev pub MayActAt : Action → ℕ → Type 0
MayActAt action.Identity depth = ⊤
MayActAt action.Ingress depth = depth < max_depth
MayActAt action.Egress depth = 0 < depth
MayActAt action.Feedback depth = 0 < depth

-- the last counter of a feedback's timestamp is at its limit
pub record IsCounterFull (op : Op) (t : Time) : Type 0 where
  pub feedback : action_of op ≡ action.Feedback
  pub full : max_counter ≤ last_of t.counters

-- every number fits 64 bits
abbrev pub AreValues : Items → Type 0
AreValues m = (k : ItemKey) → FitsSigned w64 (at m k)

-- every emitted value fits 64 bits
abbrev pub AreEmittable : List (ℕ × ℤ) → Type 0
AreEmittable es = All (λ e. FitsSigned w64 e.1) es

-- every emitted value and the number of every item fit 64 bits
pub record IsInRange (o : Outcome) : Type 0 where
  pub emissions : AreEmittable o.emissions
  pub items : AreValues o.items

-- no counter is at its limit, and each number fits 64 bits
abbrev pub MayReact : Items → Op → Time → ℤ → Type 0
MayReact m op t v = (¬ IsCounterFull op t) × IsInRange (on_record op m t v)

-- no counter is at its limit, but a number does not fit 64 bits
abbrev pub IsOutOfRange : Items → Op → Time → ℤ → Type 0
IsOutOfRange m op t v = (¬ IsCounterFull op t) × (¬ IsInRange (on_record op m t v))

-- the elements of an option: none or one
abbrev pub listed : {X : Type 0} → Option X → List X
listed None = []
listed (Some x) = x ∷ []

-- what a reaction emits and edits is what the table says for a record of value v
pub record IsReaction (m : Items) (op : Op) (t : Time) (v : ℤ) (r : Reaction) : Type 0 where
  pub output : listed r.output ≡ (on_record op m t v).emissions
  pub edit : LeadsTo m (listed r.edit) (on_record op m t v).items
