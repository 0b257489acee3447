-- What feeds, takes, notices, releases and sends have in common: their performer is written, records arrive, and everything that
-- is added is strictly after one pointstamp, the cause.
use Rattle.std.specs.Prelude.{◌≡◌, ◌⊎◌, ◌<◌, ◌≤◌, ⊤, ℕ, ℤ, pos, negsuc, true, cond, List, [], ◌∷◌, slice_set, length, All, Some, refl}
use Rattle.std.proofs.Common.{sym, ap}
use Rattle.std.proofs.lemmas.List.{set-get_or}
use Rattle.std.specs.List.{flat_map}
use Rattle.std.specs.FinMap as fin
use Rattle.nd_time.specs.Limits.{max_counter}
use Rattle.nd_graph.specs.Graph.{op_at}
use Rattle.nd_graph.specs.Operators.{facts}
use Rattle.nd_graph.specs.declared.op.Op.TheVariants as op
use Rattle.nd_map.specs.Counts.{at, added}
use Rattle.nd_processor.specs.Keys.{value_at_total, sink_total}
use Rattle.nd_paths.specs.declared.point.Pointstamp.{Pointstamp}
use Rattle.nd_paths.specs.Order.{IsStrictlyBefore}
use Rattle.nd_processor.specs.State.{ProcessorState, idle, held}
use Rattle.nd_processor.specs.declared.key.ValueAt.{ValueAt}
use Rattle.nd_protocol.specs.State.{ClusterState, processor}
use Rattle.nd_protocol.specs.Steps.{record_key, point_at, flat, epoch_of, moved_token, target_of, emitted, take_outcome, notice_outcome, moved_request, batch_time, posted_records, fed, taken, noticed, released, posted, with_records, worked}
use Rattle.nd_protocol.specs.Fitting.{ProcessorFits}
use Rattle.nd_protocol.specs.Invariant.{Supports}
use Rattle.nd_protocol.specs.Ranges.{IsSmall, TimeIsSmall, TimesAreSmall, IsValue}
use Rattle.nd_protocol.specs.Times.{GoesLater, is_kept}
use Rattle.nd_protocol.specs.declared.times.Times.{Times}
use Rattle.nd_protocol.specs.declared.batch.Batch.{Batch}
use Rattle.nd_protocol.specs.Enabled.{IsInRange}
use Rattle.nd_time.specs.Time.{Time, last_of}
use Rattle.nd_time.specs.Order.{IsAtOrBeforeBy}
use Rattle.nd_protocol.specs.declared.step.Next.{Next as Afterwards}
use Rattle.nd_protocol.specs.declared.step.Next.TheVariants as token

-- a feed, a take, a notice, a release or a send: work that others hear of through what is unsent
pub data Work : Type 1 where
  feeding : (p vertex : ℕ) (values : List ℤ) (next : Afterwards) → Work
  taking : (p edge : ℕ) (t : Time) (value : ℤ) → Work
  noticing : (p vertex : ℕ) (t : Time) → Work
  releasing : (p vertex : ℕ) (times : Times) → Work
  sending : {A : Type 0} (p vertex : ℕ) (batch : Batch A) → Work

-- the processor that executes it
abbrev pub performer : Work → ℕ
performer (feeding p vertex values _) = p
performer (taking p edge t value) = p
performer (noticing p vertex t) = p
performer (releasing p vertex times) = p
performer (sending p vertex batch) = p

-- the processors after it, without its unsent change
abbrev pub performed : ClusterState → Work → List ProcessorState
performed s (feeding p vertex values next) = fed s p vertex values next
performed s (taking p edge t value) = taken s p edge t value
performed s (noticing p vertex t) = noticed s p vertex t
performed s (releasing p vertex times) = released s p vertex times
performed s (sending p vertex batch) = posted s p vertex batch

-- the cluster after it
unfoldable pub done : ClusterState → Work → ClusterState
done s x = worked s (performer x) (performed s x)

-- the input's token, the record or the request is there
abbrev pub Finds : ClusterState → Work → Type 0
Finds s (feeding p vertex values _) = (epoch : ℕ) × (fin.get (processor s p).tokens vertex ≡ Some epoch)
Finds s (taking p edge t value) = 0 < at (processor s p).records (record_key edge t value)
Finds s (noticing p vertex t) = fin.get (processor s p).requests (point_at vertex t) ≡ Some tt
Finds s (releasing p vertex times) = fin.get (processor s p).requests (point_at vertex times.time) ≡ Some tt
Finds s (sending p vertex batch) = fin.get (processor s p).requests (point_at vertex batch.time) ≡ Some tt

-- the epoch to which a token moves is greater than its own, and fits its type
abbrev pub GoesOn : Afterwards → ℕ → Type 0
GoesOn token.Next epoch = epoch < max_counter
GoesOn token.Close epoch = ⊤
GoesOn token.Stay epoch = ⊤
GoesOn (token.To n) epoch = (epoch < n) × IsSmall n

-- the numbers of the step fit their types, what moves goes to a later epoch or time, and a capability that stays beside a later
-- one, or from which values are sent, supports
abbrev pub FitsTypes : ClusterState → Work → Type 0
FitsTypes s (feeding p vertex values next) = All IsValue values × GoesOn next (epoch_of s p vertex)
FitsTypes s (taking p edge t value) = (op_at s.graph (target_of s.graph edge) ≡ op.Feedback → last_of t.counters < max_counter) × IsInRange (take_outcome s p edge t value)
FitsTypes s (noticing p vertex t) = Unit {0}
FitsTypes s (releasing p vertex times) = GoesLater s.graph.order times.time times.to × TimesAreSmall times.time times.to × (is_kept times.to ≡ true → (facts (op_at s.graph vertex)).supports ≡ true)
FitsTypes s (sending p vertex batch) = ((facts (op_at s.graph vertex)).supports ≡ true) × IsAtOrBeforeBy s.graph.order batch.time (batch_time batch) × TimeIsSmall (batch_time batch) × All IsValue batch.values

-- what a step needs, among all that makes it enabled
pub record IsPossible (s : ClusterState) (x : Work) : Type 0 where
  pub performer_is : performer x < length s.processors
  pub finds : Finds s x
  pub numbers : FitsTypes s x

-- each record that arrives satisfies K
abbrev pub AllKeys : (ValueAt → Type 0) → List (ℕ × ValueAt) → Type 0
AllKeys K [] = Unit {0}
AllKeys K (r ∷ rs) = K r.1 × AllKeys K rs

-- its epoch, its counters and its value fit their types
abbrev pub IsSmallKey : ValueAt → Type 0
IsSmallKey k = TimeIsSmall k.point.time × IsValue k.value

-- each record is at a pointstamp that satisfies G
abbrev pub AllAt : (Pointstamp → Type 0) → List (ℕ × ValueAt) → Type 0
AllAt G [] = Unit {0}
AllAt G (r ∷ rs) = G r.1.point × AllAt G rs

-- the performer after a step, without the records that arrive
abbrev pub written : ClusterState → Work → ProcessorState
written s (feeding p vertex values next) = let q = processor s p in record q { tokens = moved_token q.tokens vertex (epoch_of s p vertex) next }
written s (taking p edge t value) =
    let q = processor s p in
    let target = target_of s.graph edge in
    let outcome = take_outcome s p edge t value in
    record q {
      records = added value_at_total q.records (record_key edge t value) (negsuc 0);
      requests = cond outcome.asks (fin.insert q.requests (point_at target t) tt) q.requests;
      items = slice_set q.items target outcome.items;
      sinks = cond outcome.counts (added sink_total q.sinks (record { vertex = target; value = value }) (pos 1)) q.sinks;
    }
written s (noticing p vertex t) =
    let q = processor s p in
    record q { requests = fin.remove q.requests (point_at vertex t); items = slice_set q.items vertex (notice_outcome s p vertex t).items }
written s (releasing p vertex times) = let q = processor s p in record q { requests = moved_request q.requests vertex times.time times.to }
written s (sending p vertex batch) = processor s p

-- the records that arrive
abbrev pub come : ClusterState → Work → List (ℕ × ValueAt)
come s (feeding p vertex values _) = flat_map (λ v. emitted s.graph (length s.processors) p vertex (flat (epoch_of s p vertex)) (0, v)) values
come s (taking p edge t value) = flat_map (emitted s.graph (length s.processors) p (target_of s.graph edge) t) (take_outcome s p edge t value).emissions
come s (noticing p vertex t) = flat_map (emitted s.graph (length s.processors) p vertex t) (notice_outcome s p vertex t).emissions
come s (releasing p vertex times) = []
come s (sending p vertex batch) = posted_records s p vertex batch

pub performed-writes : (s : ClusterState) (x : Work) → performed s x ≡ with_records (slice_set s.processors (performer x) (written s x)) (come s x)
unfolding fed taken noticed released posted
performed-writes s (feeding p vertex values _) = refl
performed-writes s (taking p edge t value) = refl
performed-writes s (noticing p vertex t) = refl
performed-writes s (releasing p vertex times) = refl
performed-writes s (sending p vertex batch) = ap (λ qs. with_records qs (posted_records s p vertex batch)) (sym (set-get_or s.processors p idle))

pub unsent-written : (s : ClusterState) (x : Work) → (written s x).unsent ≡ (processor s (performer x)).unsent
unsent-written s (feeding p vertex values _) = refl
unsent-written s (taking p edge t value) = refl
unsent-written s (noticing p vertex t) = refl
unsent-written s (releasing p vertex times) = refl
unsent-written s (sending p vertex batch) = refl

pub record HasCause (s : ClusterState) (x : Work) : Type 0 where
  pub fits : ProcessorFits s.graph (written s x)
  pub edges : AllAt (λ z. length s.graph.vertices ≤ z.location) (come s x)
  pub small : AllKeys IsSmallKey (come s x)
  pub cause : Pointstamp
  pub later : AllAt (IsStrictlyBefore s.graph cause) (come s x)
  pub grows : (z : Pointstamp) → IsStrictlyBefore s.graph cause z ⊎ (held (written s x) z ≤ held (processor s (performer x)) z)
  -- the cause is removed, or it supports
  pub goes : (held (written s x) cause < held (processor s (performer x)) cause) ⊎ Supports s.graph (processor s (performer x)) cause
  -- what supports stays, but for a cause that is removed
  pub supports : (z : Pointstamp) → Supports s.graph (processor s (performer x)) z → Supports s.graph (written s x) z ⊎ ((z ≡ cause) × (held (written s x) cause < held (processor s (performer x)) cause))
