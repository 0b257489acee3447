-- What a processor holds that supports: tokens, and capabilities at the vertices whose capabilities support.
use Rattle.std.proofs.Common.{◌≡◌, ℕ, ◌+◌, ◌<◌, ◌≤◌, Bool, true, false, cond, Some, refl, arith}
use Rattle.std.specs.FinMap as fin
use Rattle.nd_graph.specs.Graph.{Dataflow, action_of, op_at}
use Rattle.nd_graph.specs.Operators.{facts}
use Rattle.nd_graph.specs.declared.op.Op.{Op}
use Rattle.nd_graph.specs.declared.op.Op.TheVariants.{Opaque}
use Rattle.nd_graph.specs.declared.op.Action.TheVariants.{Identity}
use Rattle.nd_paths.specs.declared.point.Pointstamp.{Pointstamp}
use Rattle.nd_processor.specs.State.{ProcessorState, Requests, in_requests, in_tokens, held}
use Rattle.nd_protocol.specs.Invariant.{supporting, Supports}
use Rattle.nd_protocol.proofs.Requests.{request_counts}

-- an operator whose capabilities support leaves times as they are
pub supports_identity : (o : Op) → (facts o).supports ≡ true → action_of o ≡ Identity
supports_identity (Opaque ports starts) e = refl
supports_identity o e = absurd (cc)

at_most : (b : Bool) (n : ℕ) → cond b n 0 ≤ n
at_most true n = omega arith
at_most false n = omega arith

-- what supports is outstanding
pub supporting_held : (g : Dataflow) (q : ProcessorState) (x : Pointstamp) → supporting g q x ≤ held q x
supporting_held g q x =
    let part : cond (facts (op_at g x.location)).supports (in_requests q.requests x) 0 ≤ in_requests q.requests x = at_most (facts (op_at g x.location)).supports (in_requests q.requests x) in
    omega arith

counts_too : (b : Bool) (k n : ℕ) → b ≡ true → 0 < n → 0 < k + cond b n 0
counts_too true k n e some = omega arith
counts_too false k n e some = absurd (cc)

-- a capability supports at a vertex whose capabilities support
pub request_supports : (g : Dataflow) (q : ProcessorState) (x : Pointstamp) → fin.get q.requests x ≡ Some tt → (facts (op_at g x.location)).supports ≡ true → Supports g q x
request_supports g q x found supports = counts_too (facts (op_at g x.location)).supports (in_tokens q.tokens x) (in_requests q.requests x) supports (request_counts q.requests x found)

not_less : (b : Bool) (k m n : ℕ) → m ≤ n → 0 < k + cond b m 0 → 0 < k + cond b n 0
not_less true k m n le some = omega arith
not_less false k m n le some = some

-- with no fewer requests there is no less support
pub still_supports : (g : Dataflow) (q : ProcessorState) (m : Requests) (x : Pointstamp) → in_requests q.requests x ≤ in_requests m x → Supports g q x → Supports g (record q { requests = m }) x
still_supports g q m x le some = not_less (facts (op_at g x.location)).supports (in_tokens q.tokens x) (in_requests q.requests x) (in_requests m x) le some
