-- A receive, in terms of the front of its queue.
use Rattle.std.specs.Prelude.{◌≡◌, ℕ, List, [], ◌∷◌, drop, Some, unwrap_or, slice_get, refl}
use Rattle.std.proofs.Common.{set, sym, ap}
use Rattle.nd_delta.specs.Delta.{DeltaValue, plus}
use Rattle.nd_mesh.specs.Mesh.{row, popped}
use Rattle.nd_protocol.specs.State.{ClusterState, view, queue}
use Rattle.nd_protocol.specs.Exchange.{received_from, received}

-- the state after a receive, if c is the front of the queue
pub received-front : (s : ClusterState) (from to : ℕ) (c : DeltaValue) → slice_get (queue s from to) 0 ≡ Some c
    → received s from to ≡ record s { views = set s.views to (plus (view s to) c); queues = popped s.queues from to }
unfolding received
received-front s from to c front = by (queue s from to) refl front
  where
    by : (cs : List DeltaValue) → queue s from to ≡ cs → slice_get cs 0 ≡ Some c → received_from s from to cs ≡ record s { views = set s.views to (plus (view s to) c); queues = popped s.queues from to }
    by [] e h = absurd (cc)
    by (d ∷ rest) e h =
        let same : d ≡ c = ap (λ o. unwrap_or o d) h in
        let is : d ∷ rest ≡ queue s from to = sym e in
        λ i. record s { views = set s.views to (plus (view s to) (same i)); queues = set s.queues from (set (row s.queues from) to (drop 1 (is i))) }
