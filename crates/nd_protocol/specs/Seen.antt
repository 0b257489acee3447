-- The state of a cluster, from what is stored of it.
use Rattle.std.specs.Prelude.{List}
use Rattle.nd_graph.specs.Graph.{Dataflow}
use Rattle.nd_delta.specs.Delta.{DeltaValue}
use Rattle.nd_view.specs.Kept.{Kept}
use Rattle.nd_view.specs.Views.{maps}
use Rattle.nd_processor.specs.State.{ProcessorState}
use Rattle.nd_protocol.specs.State.{ClusterState}

-- the state of a cluster with this graph and these processors, views and queues
abbrev pub seen : Dataflow → List ProcessorState → List Kept → List (List (List DeltaValue)) → ClusterState
seen g processors views queues = record { graph = g; processors = processors; views = maps views; queues = queues }
