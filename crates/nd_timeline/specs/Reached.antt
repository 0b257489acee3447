-- How a timeline represents its value. Only its invariant and private contracts use these definitions, apart
-- from the code.
use Rattle.std.specs.Prelude.{◌≡◌, ℕ, ◌≤◌, List, [], ◌∷◌, map, length, take, refl}
use Rattle.std.specs.Coded.{Coded, code_by, coded×, coded_ℕ, coded_list}
use Rattle.nd_time.specs.Limits.{max_kept}
use Rattle.nd_protocol.specs.State.{ClusterState, cluster_code}
use Rattle.nd_protocol.specs.Steps.{after, stepped}
use Rattle.nd_protocol.specs.Codes.{step_code}
use Rattle.nd_protocol.specs.declared.step.Step.{Step}
use Rattle.nd_steps.specs.declared.record.Record.{Record}
use Rattle.nd_cluster.specs.Records.{IsPlanned}
use Rattle.nd_timeline.specs.Timeline.{TimelineValue}

-- ---- the code

abbrev pub timeline_code : (A : Type 0) → Coded (TimelineValue A)
timeline_code A =
    code_by _ (coded× cluster_code (coded× (coded_list (step_code {A = A})) coded_ℕ))
    (λ m. (m.base, (m.kept, m.cursor))) (λ t. record { base = t.0; kept = t.1.0; cursor = t.1.1 }) (λ _. refl)

-- ---- the invariant of a timeline

-- the steps of the kept records
abbrev pub steps_of : {A : Type 0} → List (Record A) → List (Step A)
steps_of records = map (λ r. r.step) records

-- each record was planned in the state that the records before it lead to
abbrev pub ArePlanned : {A : Type 0} → ClusterState → List (Record A) → Type 0
ArePlanned s [] = Unit {0}
ArePlanned s (r ∷ rs) = IsPlanned r s × ArePlanned (stepped s r.step) rs

-- the steps up to the cursor lead from the base to the cluster, and each record was planned in the state to which the records
-- before it lead
pub record IsReached {A : Type 0} (base cluster : ClusterState) (steps : List (Record A)) (cursor : ℕ) : Type 0 where
  pub within : cursor ≤ length steps
  pub few : length steps ≤ max_kept
  pub reached : cluster ≡ after base (take cursor (steps_of steps))
  pub planned : ArePlanned base steps

-- ---- copies

-- q is a record of the same step as r, and is planned in each state in which r is
pub record IsCopy {A : Type 0} (r q : Record A) : Type 0 where
  pub step : q.step ≡ r.step
  pub planned : (s : ClusterState) → IsPlanned r s → IsPlanned q s

abbrev pub AreCopies : {A : Type 0} → List (Record A) → List (Record A) → Type 0
AreCopies [] [] = Unit {0}
AreCopies (r ∷ rs) (q ∷ qs) = IsCopy r q × AreCopies rs qs
AreCopies _ _ = ⊥
