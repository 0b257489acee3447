-- The protocol invariant, and what it means that a pointstamp is finished (FORTE 2013).
use Rattle.std.specs.Prelude.{◌≡◌, ◌<◌, ◌≤◌, ℕ, ◌+◌, zero, suc, cond, ℤ, pos, ◌+ℤ◌, List, [], ◌∷◌, length, drop}
use Rattle.nd_paths.specs.Order.{CouldResultIn, IsStrictlyBefore}
use Rattle.nd_paths.specs.declared.point.Pointstamp.{Pointstamp}
use Rattle.nd_delta.specs.Delta.{DeltaValue, none, at, plus}
use Rattle.nd_delta.specs.Upright.{IsUpright}
use Rattle.nd_graph.specs.Graph.{Dataflow, op_at}
use Rattle.nd_graph.specs.Operators.{facts}
use Rattle.nd_processor.specs.State.{ProcessorState, in_requests, in_tokens}
use Rattle.nd_protocol.specs.State.{ClusterState, processor, view, queue, truth}

-- the number of tokens of a processor at a pointstamp, and of capabilities that it holds there at a vertex whose capabilities
-- support as tokens do
abbrev pub supporting : Dataflow → ProcessorState → Pointstamp → ℕ
supporting g q x = in_tokens q.tokens x + cond (facts (op_at g x.location)).supports (in_requests q.requests x) 0

-- the processor holds such a token or capability at the pointstamp
abbrev pub Supports : Dataflow → ProcessorState → Pointstamp → Type 0
Supports g q x = 0 < supporting g q x

-- the sum of a list of changes
abbrev pub sum_of : List DeltaValue → DeltaValue
sum_of [] = none
sum_of (c ∷ cs) = plus c (sum_of cs)

-- what q has not yet received from p, after k more changes are received: the rest of the queue, and what is unsent
abbrev pub pending : ClusterState → ℕ → ℕ → ℕ → DeltaValue
pending s p q k = plus (sum_of (drop k (queue s p q))) (processor s p).unsent

-- f 0 + ... + f (n - 1)
abbrev pub total : ℕ → (ℕ → ℤ) → ℤ
total zero f = pos 0
total (suc n) f = total n f +ℤ f n

-- each view plus all that is pending to it is the truth: what is outstanding
pub record IsSettled (s : ClusterState) : Type 0 where
  pub balance : (q : ℕ) → q < length s.processors → (x : Pointstamp) → at (truth s.processors) x ≡ (at (view s q) x +ℤ total (length s.processors) (λ p. at (pending s p q 0) x))

-- the protocol invariant: the cluster is settled, and all that is pending is upright
pub record KeepsProtocol (s : ClusterState) : Type 0 where
  pub settled : IsSettled s
  pub upright : (p q k : ℕ) → p < length s.processors → q < length s.processors → k ≤ length (queue s p q) → IsUpright (IsStrictlyBefore s.graph) (Supports s.graph (processor s p)) (at (pending s p q k))

-- nothing outstanding is at or before t
abbrev pub IsFinished : ClusterState → Pointstamp → Type 0
IsFinished s t = (x : Pointstamp) → CouldResultIn s.graph x t → at (truth s.processors) x ≡ pos 0
