-- Which breakpoints hold.
use Rattle.std.proofs.Common.{◌≡◌, ◌≤◌, ℕ, ◌+◌, Some, None, inl, inr, sym, ap, subst, ◌∙◌, arith}
use Rattle.std.specs.FinMap as fin
use Rattle.std.specs.Option.{unwrap_or}
use Rattle.std.proofs.lemmas.Bool.{cases_lt}
use Rattle.nd_protocol.specs.State.{ClusterState}
use Rattle.nd_breaks.specs.Breaks.{BreakMap, NoneFrom, HitAt, NoHitBelow, NoHit}
use Rattle.nd_breaks.specs.Conditions.{ConditionValue, Holds}

-- an id that is not set has no hit
pub no_hit_none : (m : BreakMap) (s : ClusterState) (id : ℕ) → fin.get m id ≡ None → HitAt m s id → ⊥
no_hit_none m s id is h = let hit : fin.get m id ≡ Some h.0 = h.1 in cc

-- a breakpoint that does not hold is no hit
pub no_hit_some : (m : BreakMap) (s : ClusterState) (id : ℕ) (b : ConditionValue) → fin.get m id ≡ Some b → (Holds s b → ⊥) → HitAt m s id → ⊥
no_hit_some m s id b is not_held h = not_held (subst (Holds s) (ap (λ o. unwrap_or o b) (sym h.1 ∙ is)) h.2)

-- no hit below the next id
pub no_hit_more : (m : BreakMap) (s : ClusterState) (id : ℕ) → NoHitBelow m s id → (HitAt m s id → ⊥) → NoHitBelow m s (id + 1)
no_hit_more m s id below here k lt h =
    elim (cases_lt k id) [
      | inl less ↦ below k less h
      | inr more ↦ let same : k ≡ id = omega (arith, lt, more) in here (subst (HitAt m s) same h)
    ]

-- no hit at any id
pub no_hit_at_all : (m : BreakMap) (s : ClusterState) (end id : ℕ) → NoneFrom m end → end ≤ id → NoHitBelow m s id → NoHit m s
no_hit_at_all m s end id past all below =
    record {
      none = λ k h.
          elim (cases_lt k id) [
            | inl less ↦ below k less h
            | inr more ↦ no_hit_none m s k (past k (omega (arith, all, more))) h
          ];
    }
