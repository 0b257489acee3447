-- A release: the capability that is released is the cause of the later one. If it is kept, it supports the later one.
use Rattle.std.proofs.Common.{◌≡◌, ◌⊎◌, inl, inr, ℕ, ◌+◌, ◌<◌, ◌≤◌, Bool, true, false, cond, Option, Some, None, refl, sym, subst, arith}
use Rattle.std.specs.FinMap as fin
use Rattle.nd_time.specs.Time.{Time}
use Rattle.nd_graph.specs.Graph.{Dataflow}
use Rattle.nd_paths.specs.declared.point.Pointstamp.{Pointstamp}
use Rattle.nd_paths.specs.Order.{Fits, IsStrictlyBefore}
use Rattle.nd_processor.specs.State.{ProcessorState, Requests, one_at, in_requests}
use Rattle.nd_processor.specs.HeldLaws.{point_cases, one_at_itself, in_requests-insert_le, in_requests-remove}
use Rattle.nd_protocol.specs.State.{ClusterState, processor}
use Rattle.nd_protocol.specs.Steps.{moved_request, point_at}
use Rattle.nd_protocol.specs.Times.{GoesLater, is_kept}
use Rattle.nd_protocol.specs.declared.times.Later.{Later}
use Rattle.nd_protocol.specs.declared.times.Times.{Times}
use Rattle.nd_protocol.specs.Fitting.{IsAtVertex, ProcessorFits}
use Rattle.nd_protocol.proofs.Shape.{releasing, FitsTypes, HasCause}
use Rattle.nd_protocol.proofs.Arcs.{later_time}
use Rattle.nd_protocol.proofs.Keys.{released_fits}
use Rattle.nd_protocol.proofs.Requests.{in_requests-kept}
use Rattle.nd_protocol.proofs.Supports.{request_supports, still_supports}

-- what a release of the capability at y does to the number of requests; K if it is kept
record IsMoved (g : Dataflow) (K : Type 0) (m n : Requests) (y : Pointstamp) : Type 0 where
  grows : (z : Pointstamp) → IsStrictlyBefore g y z ⊎ (in_requests n z ≤ in_requests m z)
  goes : (in_requests n y < in_requests m y) ⊎ K
  others : (z : Pointstamp) → (in_requests m z ≤ in_requests n z) ⊎ ((z ≡ y) × (in_requests n y < in_requests m y))

-- a request at w is made, and that at y is kept or removed
goes_on : (g : Dataflow) (keep : Bool) (m : Requests) (y w : Pointstamp) → fin.get m y ≡ Some tt → IsStrictlyBefore g y w → IsMoved g (keep ≡ true) m (fin.insert (cond keep m (fin.remove m y)) w tt) y
goes_on g true m y w found on =
    let more : (z : Pointstamp) → in_requests (fin.insert m w tt) z ≤ in_requests m z + one_at w z = λ z. in_requests-insert_le m w z in
    record {
      grows = λ z. elim (point_cases z w) [ inl same ↦ inl (subst (λ v. IsStrictlyBefore g y v) (sym same) on) | inr apart ↦ inr (omega (arith, more z)) ];
      goes = inr refl;
      others = λ z. inl (in_requests-kept m w z);
    }
goes_on g false m y w found on =
    let less : (z : Pointstamp) → in_requests (fin.remove m y) z + one_at y z ≡ in_requests m z = λ z. in_requests-remove m y z found in
    let more : (z : Pointstamp) → in_requests (fin.insert (fin.remove m y) w tt) z ≤ in_requests (fin.remove m y) z + one_at w z = λ z. in_requests-insert_le (fin.remove m y) w z in
    let kept : (z : Pointstamp) → in_requests (fin.remove m y) z ≤ in_requests (fin.insert (fin.remove m y) w tt) z = λ z. in_requests-kept (fin.remove m y) w z in
    let gone : in_requests (fin.insert (fin.remove m y) w tt) y < in_requests m y
    = elim (point_cases y w) [ inl same ↦ absurd (on.1 same) | inr apart ↦ omega (arith, less y, more y, one_at_itself y) ] in
    record {
      grows = λ z. elim (point_cases z w) [ inl same ↦ inl (subst (λ v. IsStrictlyBefore g y v) (sym same) on) | inr apart ↦ inr (omega (arith, less z, more z)) ];
      goes = inl gone;
      others = λ z. elim (point_cases z y) [ inl same ↦ inr (same, gone) | inr apart ↦ inl (omega (arith, less z, kept z)) ];
    }

request_moves : (g : Dataflow) (m : Requests) (vertex : ℕ) (t : Time) (to : Option Later) → fin.get m (point_at vertex t) ≡ Some tt → Fits g (point_at vertex t) → GoesLater g.order t to → IsMoved g (is_kept to ≡ true) m (moved_request m vertex t to) (point_at vertex t)
request_moves g m vertex t None found fits later =
    let y : Pointstamp = point_at vertex t in
    let less : (z : Pointstamp) → in_requests (fin.remove m y) z + one_at y z ≡ in_requests m z = λ z. in_requests-remove m y z found in
    let gone : in_requests (fin.remove m y) y < in_requests m y = omega (arith, less y, one_at_itself y) in
    record {
      grows = λ z. inr (omega (arith, less z));
      goes = inl gone;
      others = λ z. elim (point_cases z y) [ inl same ↦ inr (same, gone) | inr apart ↦ inl (omega (arith, less z)) ];
    }
request_moves g m vertex t (Some to) found fits later =
    goes_on g to.keep m (point_at vertex t) (point_at vertex to.time) found (later_time g vertex t to.time later.0 later.1 fits)

pub release_cause : (s : ClusterState) (p vertex : ℕ) (times : Times) → fin.get (processor s p).requests (point_at vertex times.time) ≡ Some tt → FitsTypes s (releasing p vertex times) → ProcessorFits s.graph (processor s p) → HasCause s (releasing p vertex times)
release_cause s p vertex times found numbers fit =
    let g : Dataflow = s.graph in
    let q : ProcessorState = processor s p in
    let y : Pointstamp = point_at vertex times.time in
    let place : IsAtVertex g y = fit.requests y found in
    let n : Requests = moved_request q.requests vertex times.time times.to in
    let moved : IsMoved g (is_kept times.to ≡ true) q.requests n y = request_moves g q.requests vertex times.time times.to found place.fits numbers.0 in
    record {
      fits = released_fits g q vertex times.time times.to numbers.0 numbers.1 place fit;
      edges = tt;
      small = tt;
      cause = y;
      later = tt;
      grows = λ z. elim (moved.grows z) [ inl later ↦ inl later | inr le ↦ inr (omega arith) ];
      goes = elim moved.goes [ inl less ↦ inl (omega arith) | inr kept ↦ inr (request_supports g q y found (numbers.2 kept)) ];
      supports = λ z h. elim (moved.others z) [ inl le ↦ inl (still_supports g q n z le h) | inr (same, less) ↦ inr (same, omega arith) ];
    }
