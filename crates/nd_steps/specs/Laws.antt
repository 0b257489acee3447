-- A step that no refusal excludes is enabled.
use Rattle.std.specs.Prelude.{◌≡◌}
use Rattle.nd_graph.specs.Graph.{Dataflow}
use Rattle.nd_protocol.specs.State.{ClusterState}
use Rattle.nd_protocol.specs.Ranges.{NumbersFit}
use Rattle.nd_protocol.specs.Enabled.{Fails, IsEnabled}
use Rattle.nd_protocol.specs.declared.step.Step.{Step}
use Rattle.nd_protocol.specs.declared.refusal.Refusal.{Refusal}

-- on a cluster with the graph g, a step whose numbers fit their types is enabled if no condition of a refusal holds; A is the
-- allocator of the step's values
abbrev pub FreeMeansEnabled : Type 0 → Dataflow → Type 0
FreeMeansEnabled A g = (s : ClusterState) (x : Step A) → s.graph ≡ g → NumbersFit x → ((r : Refusal) → Fails s x r → ⊥) → IsEnabled s x
