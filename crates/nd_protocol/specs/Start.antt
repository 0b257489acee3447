-- The initial state of a cluster: each token is at epoch 0, each view has what is outstanding, and all else is empty (FORTE
-- 2013).
use Rattle.std.specs.Prelude.{ℕ, List, [], replicate}
use Rattle.nd_graph.specs.Graph.{Dataflow}
use Rattle.nd_processor.specs.State.{ProcessorState}
use Rattle.nd_processor.specs.Start.{start_processor}
use Rattle.nd_protocol.specs.State.{ClusterState, truth}

-- the initial state of a cluster of n processors
unfoldable pub start : Dataflow → ℕ → ClusterState
start g n =
    let processors : List ProcessorState = replicate n (start_processor g) in
    record {
      graph = g;
      processors = processors;
      views = replicate n (truth processors);
      queues = replicate n (replicate n []);
    }
