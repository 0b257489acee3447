-- What a broadcast and a receive do to a cluster (Naiad, SOSP 2013, section 3.3; FORTE 2013).
use Rattle.std.specs.Prelude.{◌≡◌, ◌⊎◌, ℕ, pos, List, [], ◌∷◌, ◌++◌, map, slice_index_or, slice_set}
use Rattle.nd_paths.specs.Order.{IsStrictlyBefore}
use Rattle.nd_paths.specs.declared.point.Pointstamp.{Pointstamp}
use Rattle.nd_delta.specs.Delta.{DeltaValue, at, plus, minus}
use Rattle.nd_delta.specs.Upright.{IsUpright}
use Rattle.nd_protocol.specs.State.{ClusterState, processor, view, queue}
use Rattle.nd_protocol.specs.Invariant.{Supports}

-- at each pointstamp c has no entry, or the entry of d
abbrev pub IsPart : DeltaValue → DeltaValue → Type 0
IsPart c d = (x : Pointstamp) → (at c x ≡ pos 0) ⊎ (at c x ≡ at d x)

-- after p has sent c, what is still unsent is upright, given the tokens and capabilities that p holds
abbrev pub StaysUpright : ClusterState → ℕ → DeltaValue → Type 0
StaysUpright s p c = IsUpright (IsStrictlyBefore s.graph) (Supports s.graph (processor s p)) (at (minus (processor s p).unsent c))

-- p sends the change c: it is subtracted from what is unsent, and appended to each queue from p
unfoldable pub sent : ClusterState → ℕ → DeltaValue → ClusterState
sent s p c =
    let q = processor s p in
    record s {
      processors = slice_set s.processors p (record q { unsent = minus q.unsent c });
      queues = slice_set s.queues p (map (λ changes. changes ++ c ∷ []) (slice_index_or s.queues p []));
    }

-- q receives the first of these changes, which are the queue from p to q
abbrev pub received_from : ClusterState → ℕ → ℕ → List DeltaValue → ClusterState
received_from s p q [] = s
received_from s p q (c ∷ rest) = record s {
  views = slice_set s.views q (plus (view s q) c);
  queues = slice_set s.queues p (slice_set (slice_index_or s.queues p []) q rest);
}

-- the front of the queue from p to q is removed and added to the view of q
unfoldable pub received : ClusterState → ℕ → ℕ → ClusterState
received s p q = received_from s p q (queue s p q)
