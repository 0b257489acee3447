-- A send: the capability from which values are sent is the cause of the records. It supports them, and stays.
use Rattle.std.proofs.Common.{◌≡◌, inl, inr, ℕ, ◌≤◌, length, get_or, Some, arith}
use Rattle.std.specs.FinMap as fin
use Rattle.nd_graph.specs.Graph.{Dataflow, op_at}
use Rattle.nd_paths.specs.declared.point.Pointstamp.{Pointstamp}
use Rattle.nd_paths.specs.Order.{IsStrictlyBefore}
use Rattle.nd_processor.specs.State.{ProcessorState}
use Rattle.nd_protocol.specs.State.{ClusterState, processor}
use Rattle.nd_protocol.specs.Steps.{posts, posted_records, point_at}
use Rattle.nd_protocol.specs.Fitting.{IsOrdered, IsAtVertex, ProcessorFits}
use Rattle.nd_protocol.specs.declared.batch.Batch.{Batch}
use Rattle.nd_protocol.proofs.Shape.{sending, FitsTypes, IsSmallKey, AllAt, HasCause}
use Rattle.nd_protocol.proofs.Counts.{AllAt-flat}
use Rattle.nd_protocol.proofs.Emissions.{posts_later, posts_on_edges}
use Rattle.nd_protocol.proofs.Ranges.{AllKeys-flat, posts_small}
use Rattle.nd_protocol.proofs.Supports.{supports_identity, request_supports}

pub posted_later : {A : Type 0} (s : ClusterState) → IsOrdered s.graph → (p vertex : ℕ) (b : Batch A) → fin.get (processor s p).requests (point_at vertex b.time) ≡ Some tt → FitsTypes s (sending p vertex b) → ProcessorFits s.graph (processor s p)
    → AllAt (IsStrictlyBefore s.graph (point_at vertex b.time)) (posted_records s p vertex b)
posted_later s o p vertex b found numbers fit =
    let g : Dataflow = s.graph in
    let n : ℕ = length s.processors in
    let y : Pointstamp = point_at vertex b.time in
    let place : IsAtVertex g y = fit.requests y found in
    AllAt-flat (IsStrictlyBefore g y) (posts g n p vertex b) (posts_later g o n p vertex b (supports_identity (op_at g vertex) numbers.0) numbers.1 place.fits) b.values

pub send_cause : {A : Type 0} (s : ClusterState) → IsOrdered s.graph → (p vertex : ℕ) (b : Batch A) → fin.get (processor s p).requests (point_at vertex b.time) ≡ Some tt → FitsTypes s (sending p vertex b) → ProcessorFits s.graph (processor s p) → HasCause s (sending p vertex b)
send_cause s o p vertex b found numbers fit =
    let g : Dataflow = s.graph in
    let q : ProcessorState = processor s p in
    let n : ℕ = length s.processors in
    let y : Pointstamp = point_at vertex b.time in
    record {
      fits = fit;
      edges = AllAt-flat (λ z. length g.vertices ≤ z.location) (posts g n p vertex b) (posts_on_edges g n p vertex b) b.values;
      small = AllKeys-flat IsSmallKey (posts g n p vertex b) b.values (λ k d lt. posts_small g n p vertex b (get_or b.values k d) numbers.2 (numbers.3 k d lt));
      cause = y;
      later = posted_later s o p vertex b found numbers fit;
      grows = λ z. inr (omega arith);
      goes = inr (request_supports g q y found numbers.0);
      supports = λ z h. inl h;
    }
