-- A walk over a timeline's positions.
use Rattle.std.proofs.Common.{◌≡◌, ℕ, ◌+◌, take, inl, inr, subst, arith}
use Rattle.std.proofs.lemmas.Bool.{cases_lt}
use Rattle.nd_protocol.specs.State.{ClusterState}
use Rattle.nd_protocol.specs.Steps.{after}
use Rattle.nd_timeline.specs.Timeline.{TimelineValue}
use Rattle.nd_timeline.specs.Walks.{IsOn}
use Rattle.nd_timeline.specs.declared.walk.Walk.{Walk}
use Rattle.nd_history.specs.Least.{NoHit}

-- no hit at the next position
pub no_hit_more : (Hit : ℕ → Type 0) (from i : ℕ) → NoHit Hit from i → (Hit i → ⊥) → NoHit Hit from (i + 1)
no_hit_more Hit from i none here k le lt hit =
    elim (cases_lt k i) [
      | inl less ↦ none k le less hit
      | inr more ↦ let same : k ≡ i = omega (arith, lt, more) in here (subst Hit same hit)
    ]

-- what is true of a walk's cluster is true of the cluster at the walk's position
pub at_position : {A : Type 0} (m : TimelineValue A) (w : Walk A) (i : ℕ) (P : ClusterState → Type 0) → IsOn m w → w.at ≡ i → P w.cluster → P (after m.base (take i m.kept))
at_position m w i P on there true_of = subst (λ n. P (after m.base (take n m.kept))) there (subst P on.cluster true_of)
