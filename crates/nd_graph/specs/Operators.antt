-- The facts of each operator, in one place.
use Rattle.std.specs.Prelude.{ℕ, Bool, true, false}
use Rattle.nd_graph.specs.declared.op.Op.{Op}
use Rattle.nd_graph.specs.declared.op.Op.TheVariants as op
use Rattle.nd_graph.specs.declared.op.Action.{Action}
use Rattle.nd_graph.specs.declared.op.Action.TheVariants.{Identity, Ingress, Egress, Feedback}

pub record Facts : Type 0 where
  -- what its vertices do to the times that pass through them
  pub action : Action
  -- how many output ports they have
  pub ports : ℕ
  -- whether they receive values from outside
  pub fed : Bool
  -- whether they may make requests: for notifications, or to hold capabilities
  pub asks : Bool
  -- whether they count the values that reach them
  pub counts : Bool
  -- whether a request at them is a held capability: it is never notified, and a release gives it up
  pub holds : Bool
  -- whether a capability that is held there supports what its processor has not broadcast yet, as a token does
  pub supports : Bool
  -- whether each processor holds a capability of them at the start
  pub starts : Bool

-- the facts of an operator with this action and so many ports, that does nothing else
abbrev pub plain_with : Action → ℕ → Facts
plain_with a n = record { action = a; ports = n; fed = false; asks = false; counts = false; holds = false; supports = false; starts = false }

-- the facts of most operators: one port, and nothing else
abbrev pub plain : Action → Facts
plain a = plain_with a 1

-- the facts of an operator that makes requests
abbrev pub asking : Facts
asking = record (plain Identity) { asks = true }

-- the facts of each operator
abbrev pub facts : Op → Facts
facts op.Input = record (plain Identity) { fed = true }
facts op.Ingress = plain Ingress
facts op.Egress = plain Egress
facts op.Feedback = plain Feedback
facts (op.Add k) = plain Identity
facts (op.Mul k) = plain Identity
facts (op.Below k) = plain Identity
facts (op.Split k) = plain_with Identity 2
facts op.Sum = asking
facts op.Distinct = asking
facts op.Hold = record asking { holds = true }
facts (op.Opaque ports starts) = record (plain_with Identity ports) { asks = true; holds = true; supports = true; starts = starts }
facts op.Sink = record (plain_with Identity 0) { counts = true }

-- whether a vertex with this action must be inside a loop: an egress or a feedback
abbrev pub stands_in_loop : Action → Bool
stands_in_loop Identity = false
stands_in_loop Ingress = false
stands_in_loop Egress = true
stands_in_loop Feedback = true

-- whether this action leads one loop deeper: only an ingress
abbrev pub leads_in : Action → Bool
leads_in Identity = false
leads_in Ingress = true
leads_in Egress = false
leads_in Feedback = false
