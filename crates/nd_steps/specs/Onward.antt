-- The consequence of a take, if it is one record.
use Rattle.std.specs.Prelude.{◌≡◌, ◌≢◌, ◌≤◌, ℕ, ◌+◌, ◌++◌, List, [], ◌∷◌, length, nat_eq, ◌&&◌, if◌then◌else◌}
use Rattle.nd_time.specs.Limits.{max_depth}
use Rattle.nd_graph.specs.Graph.{Dataflow, op_at, action_of}
use Rattle.nd_graph.specs.declared.graph.Edge.{Edge}
use Rattle.nd_graph.specs.declared.op.Route.{Route}
use Rattle.nd_vertex.specs.declared.effect.Emission.{Emission}
use Rattle.nd_processor.specs.declared.key.ValueAt.{ValueAt}
use Rattle.nd_protocol.specs.Steps.{record_key}
use Rattle.nd_steps.specs.Drafts.{made_by}
use Rattle.nd_steps.specs.Flows.{come_key}
use Rattle.nd_steps.specs.declared.consequence.Consequence.{Consequence}
use Rattle.nd_steps.specs.declared.consequence.Consequence.TheVariants.{Record}

-- the edges that leave a port of a vertex: their numbers and routes; the first edge has number i
abbrev pub leaving : ℕ → ℕ → ℕ → List Edge → List (ℕ × Route)
leaving vertex port i [] = []
leaving vertex port i (e ∷ es) = (if nat_eq e.from vertex && nat_eq e.port port then (i, e.route) ∷ [] else []) ++ leaving vertex port (i + 1) es

-- `come` is the consequence of taking the record `gone`: one record, at another pointstamp, from the one emission e of the target
pub record ComesBy (g : Dataflow) (n p vertex : ℕ) (gone : ValueAt) (e : Emission) (come : Consequence) : Type 0 where
  pub to : ℕ
  pub edge : ℕ
  pub is : come ≡ Record (action_of (op_at g vertex)) to edge e.value
  pub made : made_by g n p vertex e ≡ (to, record_key edge e.time e.value) ∷ []
  pub apart : (come_key gone come).point ≢ gone.point
  pub deep : length e.time.counters ≤ max_depth
