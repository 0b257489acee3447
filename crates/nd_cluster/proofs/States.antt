-- A cluster's state, from what the readers of its parts give.
use Rattle.std.proofs.Common.{◌≡◌, List}
use Rattle.nd_graph.specs.Graph.{Dataflow}
use Rattle.nd_delta.specs.Delta.{DeltaValue}
use Rattle.nd_view.specs.Kept.{Kept}
use Rattle.nd_view.specs.Views.{maps}
use Rattle.nd_processor.specs.State.{ProcessorState}
use Rattle.nd_protocol.specs.State.{ClusterState}
use Rattle.nd_protocol.specs.Seen.{seen}

pub of_parts : (g : Dataflow) (ps : List ProcessorState) (vs : List Kept) (m : List (List (List DeltaValue))) (s : ClusterState)
    → g ≡ s.graph → ps ≡ s.processors → maps vs ≡ s.views → m ≡ s.queues → seen g ps vs m ≡ s
of_parts g ps vs m s a b c d = λ i. record { graph = a i; processors = b i; views = c i; queues = d i }
