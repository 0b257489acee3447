-- States at rest: nothing is left to do but to wait for users.
use Rattle.std.specs.Prelude.{◌≡◌, ◌⊎◌, ℕ, Bool, true, false, [], Some}
use Rattle.std.specs.FinMap as fin
use Rattle.nd_map.specs.Counts.{at}
use Rattle.nd_paths.specs.declared.point.Pointstamp.{Pointstamp}
use Rattle.nd_delta.specs.Delta.{none}
use Rattle.nd_processor.specs.declared.key.ValueAt.{ValueAt}
use Rattle.nd_protocol.specs.State.{ClusterState, processor, queue}
use Rattle.nd_protocol.specs.Enabled.{IsRefused}
use Rattle.nd_protocol.specs.declared.step.Step.{Step}
use Rattle.nd_protocol.specs.declared.step.Step.TheVariants.{Notice}
use Rattle.nd_protocol.specs.declared.refusal.Refusal.{Refusal}
use Rattle.nd_protocol.specs.declared.refusal.Refusal.TheVariants.{NotYet, CounterFull, ValueRange, CountFull, DeltaFull, QueueFull, NotNotified}
use Rattle.nd_rest.specs.Moves.{NeedsNoUser}

-- the notice of a request is refused: something before it is outstanding, or the request is a capability that is held
abbrev pub Waits : Type 0 → ClusterState → ℕ → Pointstamp → Type 0
Waits A s p x =
    let notice : Step A = Notice p x.location x.time in
    ((blocker : Pointstamp) × IsRefused s notice (NotYet blocker)) ⊎ IsRefused s notice NotNotified

-- there are no records, nothing is unsent, all queues are empty, and each request waits
pub record IsAtRest (A : Type 0) (s : ClusterState) : Type 0 where
  pub records : (p : ℕ) (k : ValueAt) → at (processor s p).records k ≡ 0
  pub unsent : (p : ℕ) → (processor s p).unsent ≡ none
  pub queues : (p q : ℕ) → queue s p q ≡ []
  pub requests : (p : ℕ) (x : Pointstamp) → fin.get (processor s p).requests x ≡ Some tt → Waits A s p x

-- ---- states that are stuck

-- the refusals by a limit: of counters, values, counts, entries of changes, and queues
abbrev pub is_limit : Refusal → Bool
is_limit CounterFull = true
is_limit ValueRange = true
is_limit CountFull = true
is_limit DeltaFull = true
is_limit QueueFull = true
is_limit _ = false

-- a limit refuses a step that needs no user
pub record IsStuck (A : Type 0) (s : ClusterState) : Type 0 where
  pub step : Step A
  pub refusal : Refusal
  pub kind : NeedsNoUser step
  pub limit : is_limit refusal ≡ true
  pub refused : IsRefused s step refusal
