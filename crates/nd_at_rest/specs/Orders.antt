-- What the state at rest tells of every order of the steps.
use Rattle.std.specs.Prelude.{◌≡◌, ◌≤◌, List, All, length}
use Rattle.nd_view.specs.View.{IsPassedBefore}
use Rattle.nd_protocol.specs.State.{ClusterState, view}
use Rattle.nd_protocol.specs.Steps.{after}
use Rattle.nd_protocol.specs.declared.step.Step.{Step}
use Rattle.nd_why.specs.Account.{Account}
use Rattle.nd_why.specs.Why.{IsFinishedBefore}
use Rattle.nd_why.specs.declared.question.Question.{Question}
use Rattle.nd_rest.specs.Moves.{AreMoves, HasNoMove, works}
use Rattle.nd_rest.specs.Rest.{IsStuck}
use Rattle.nd_rest.specs.Laws.{LeadsToRest, IsLeftToUsers, most_moves}

-- Steps xs lead from s to a state at rest. Each list of moves that leads to a state at rest leads to the same one. What is passed
-- or finished after some list of moves is so there. No list of moves has more takes and notices than xs, or is longer than these
-- allow, and one after which there is no move leads to this state, too, unless a limit refuses a step. And each reason there is
-- left to users.
pub record TellsAll {A : Type 0} (s : ClusterState) (asked : Question) (xs : List (Step A)) (accounts : List Account) : Type 0 where
  pub one_end : (ys : List (Step A)) → LeadsToRest s ys → after s ys ≡ after s xs
  pub passed : (ys : List (Step A)) → AreMoves s ys → IsPassedBefore s.graph asked.extent (view (after s ys) asked.q) asked.point
      → IsPassedBefore s.graph asked.extent (view (after s xs) asked.q) asked.point
  pub finished : (ys : List (Step A)) → AreMoves s ys → IsFinishedBefore (after s ys) asked.extent asked.point → IsFinishedBefore (after s xs) asked.extent asked.point
  pub ends : (ys : List (Step A)) → AreMoves s ys → (works ys ≤ works xs) × (length ys ≤ most_moves s xs)
  pub there : (ys : List (Step A)) → AreMoves s ys → HasNoMove A (after s ys) → (IsStuck A (after s ys) → ⊥) → after s ys ≡ after s xs
  pub left : All (IsLeftToUsers (after s xs).graph) accounts
