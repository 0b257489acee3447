-- What a question for what can still happen is answered.
use Rattle.std.specs.Prelude.{◌≡◌, ◌↔◌, ℕ, ◌+◌, ◌<◌, ◌≤◌, false, List, [], ◌∷◌, ◌++◌, length, All, IsTrue}
use Rattle.nd_protocol.specs.State.{ClusterState}
use Rattle.nd_protocol.specs.Steps.{after}
use Rattle.nd_protocol.specs.declared.step.Step.{Step}
use Rattle.nd_breaks.specs.Conditions.{ConditionValue, Holds}
use Rattle.nd_cluster.specs.declared.moves.Allowed.{Allowed}
use Rattle.nd_reach.specs.Ways.{IsWay, AreFirst, AreAll}
use Rattle.nd_reach.specs.declared.reached.Reached.{Reached}
use Rattle.nd_reach.specs.declared.reached.Reached.TheVariants.{Way, Nowhere}

-- the condition holds where the steps lead from s
abbrev pub HoldsAfter : {A : Type 0} → ConditionValue → ClusterState → List (Step A) → Type 0
HoldsAfter when s xs = Holds (after s xs) when

-- the condition holds at none of the states to which these ways lead
abbrev pub HoldsNowhere : {A : Type 0} → ConditionValue → ClusterState → List (List (Step A)) → Type 0
HoldsNowhere when s ways = All (λ xs. HoldsAfter when s xs → ⊥) ways

-- ---- the answer

-- The least way of the first state at which the condition holds, among the first `limit` states that are reached; or how many
-- were looked at, all of these or the first `limit`, and whether they are all that are reached.
abbrev pub IsReached : {A : Type 0} → Allowed → ConditionValue → ℕ → ClusterState → Reached A → Type 0
IsReached {A} allowed when limit s (Way steps) = record {
  earlier : List (List (Step A));
  first : AreFirst allowed s (earlier ++ steps ∷ []);
  within : length earlier < limit;
  none : HoldsNowhere when s earlier;
  there : HoldsAfter when s steps;
}
IsReached {A} allowed when limit s (Nowhere states whole) = record {
  ways : List (List (Step A));
  first : AreFirst allowed s ways;
  count : states ≡ length ways;
  within : states ≤ limit;
  none : HoldsNowhere when s ways;
  all : IsTrue whole ↔ AreAll allowed s ways;
  full : whole ≡ false → states ≡ limit;
}

-- ---- what follows of ways of any length

-- no list of moves of any length leads to a state at which the condition holds
abbrev pub IsNeverReached : (A : Type 0) → Allowed → ConditionValue → ClusterState → Type 0
IsNeverReached A allowed when s = (xs : List (Step A)) → IsWay allowed s xs → HoldsAfter when s xs → ⊥

-- no list of moves with fewer than n steps leads to a state at which the condition holds
abbrev pub IsNotReachedIn : (A : Type 0) → Allowed → ConditionValue → ClusterState → ℕ → Type 0
IsNotReachedIn A allowed when s n = (xs : List (Step A)) → IsWay allowed s xs → length xs < n → HoldsAfter when s xs → ⊥

-- The steps are a way, so each is enabled in turn, to a state at which the condition holds, and no shorter list of moves leads to one. If
-- all states that are reached were looked at, no list of moves leads to one; otherwise none that is shorter than the least way of
-- the last state that was looked at.
abbrev pub IsExact : {A : Type 0} → Allowed → ConditionValue → ClusterState → Reached A → Type 0
IsExact {A} allowed when s (Way steps) = record {
  way : IsWay allowed s steps;
  there : HoldsAfter when s steps;
  shortest : IsNotReachedIn A allowed when s (length steps);
}
IsExact {A} allowed when s (Nowhere states whole) = record {
  never : IsTrue whole → IsNeverReached A allowed when s;
  earlier : List (List (Step A));
  last : List (Step A);
  looked_at : AreFirst allowed s (earlier ++ last ∷ []);
  count : states ≡ length earlier + 1;
  not_yet : IsNotReachedIn A allowed when s (length last);
}
