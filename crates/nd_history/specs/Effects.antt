-- What the kept step that leads to a position changes, and why no effect is returned.
use Rattle.std.specs.Prelude.{◌≡◌, ◌⊎◌, ◌<◌, ◌≤◌, ℕ, ◌-◌, length, slice_get, Some}
use Rattle.nd_time.specs.Code.{Code}
use Rattle.nd_protocol.specs.State.{ClusterState}
use Rattle.nd_protocol.specs.Refusals as refusals
use Rattle.nd_protocol.specs.declared.refusal.Refusal.TheVariants as refusal
use Rattle.nd_steps.specs.Integers.{changed}
use Rattle.nd_steps.specs.Effect.{lists_of, effect_of, altered_count}
use Rattle.nd_timeline.specs.Timeline.{TimelineValue, cluster_of, moved_to}
use Rattle.nd_replies.specs.Faults as faults
use Rattle.nd_replies.specs.declared.fault.Fault.TheVariants as fault
use Rattle.nd_history.specs.declared.effects.StepEffect.{StepEffect}
use Rattle.nd_history.specs.declared.effects.EffectFault.{EffectFault}
use Rattle.nd_history.specs.declared.effects.EffectFault.TheVariants.{NoSuchPoint, Memory}

-- a kept step leads to the position
pub record IsLedTo {A : Type 0} (m : TimelineValue A) (i : ℕ) : Type 0 where
  pub some : 0 < i
  pub within : i ≤ length m.kept

-- the cluster at a position
abbrev pub cluster_at : {A : Type 0} → TimelineValue A → ℕ → ClusterState
cluster_at m i = cluster_of (moved_to m i)

-- the step that leads to position i, and exactly the keys and queues at which the clusters before and after it differ
pub record IsEffect {A : Type 0} (m : TimelineValue A) (i : ℕ) (e : StepEffect A) : Type 0 where
  pub step : slice_get m.kept (i - 1) ≡ Some e.step
  pub lists : lists_of e.changed ≡ effect_of (cluster_at m (i - 1)) (cluster_at m i)
  pub count : altered_count (lists_of e.changed) ≡ changed (cluster_at m (i - 1)) (cluster_at m i)

-- why no effect is returned
abbrev pub HasNoEffect : {A : Type 0} → TimelineValue A → ℕ → EffectFault → Type 0
HasNoEffect m i NoSuchPoint = (i ≡ 0) ⊎ (length m.kept < i)
HasNoEffect m i Memory = IsLedTo m i

-- the number and the name with which a reply reports the error
abbrev pub code_of_effect : EffectFault → Code
code_of_effect NoSuchPoint = faults.code_of fault.NoSuchPoint
code_of_effect Memory = refusals.code_of refusal.Memory
