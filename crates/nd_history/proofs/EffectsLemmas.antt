-- The effect of a record at a walk's cluster is that of the kept step.
use Rattle.std.proofs.Common.{◌≡◌, ◌+◌, ℕ, sym, ap, ◌∙◌}
use Rattle.nd_protocol.specs.State.{ClusterState}
use Rattle.nd_protocol.specs.Steps.{stepped}
use Rattle.nd_steps.specs.Integers.{changed}
use Rattle.nd_steps.specs.Effect.{EffectValue, effect_of}
use Rattle.nd_steps.specs.declared.record.Record.{Record}
use Rattle.nd_cluster.specs.Records.{Leads}
use Rattle.nd_timeline.specs.Timeline.{TimelineValue, cluster_of, moved_to}
use Rattle.nd_history.specs.Effects.{cluster_at}

module _ {A : Type 0} (m : TimelineValue A) (i before at : ℕ) (r : Record A) (w : ClusterState) (some : before + 1 ≡ i)
    (leads : Leads r (cluster_at m before) (cluster_at m (before + 1))) (stands : w ≡ cluster_of (moved_to m at)) (there : at ≡ before) where
  here : w ≡ cluster_at m before
  here = stands ∙ ap (cluster_at m) there

  then : stepped w r.step ≡ cluster_at m i
  then = ap (λ s. stepped s r.step) here ∙ sym leads.after ∙ ap (cluster_at m) some

  pub effect_there : (e : EffectValue) → e ≡ effect_of w (stepped w r.step) → e ≡ effect_of (cluster_at m before) (cluster_at m i)
  effect_there e is = is ∙ (λ j. effect_of (here j) (then j))

  pub count_there : (n : ℕ) → n ≡ changed w (stepped w r.step) → n ≡ changed (cluster_at m before) (cluster_at m i)
  count_there n is = is ∙ (λ j. changed (here j) (then j))
