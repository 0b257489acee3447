-- How the protocol's theorem reads a cluster.
use Rattle.std.specs.Prelude.{length, sum_by}
use Rattle.nd_paths.specs.declared.point.Pointstamp.{Pointstamp}
use Rattle.nd_delta.specs.Delta.{DeltaValue}
use Rattle.nd_processor.specs.State.{held}
use Rattle.nd_protocol.specs.State.{ClusterState, processor, view, queue}
use Rattle.nd_protocol.specs.Invariant.{supporting}
use Rattle.nd_protocol.proofs.Core.{Reading}

abbrev pub reading : ClusterState → Reading Pointstamp DeltaValue
reading s = record {
  n = length s.processors;
  truth = λ x. sum_by (λ q. held q x) s.processors;
  supports = λ p x. supporting s.graph (processor s p) x;
  view = λ q. view s q;
  unsent = λ p. (processor s p).unsent;
  queue = λ p q. queue s p q;
}
