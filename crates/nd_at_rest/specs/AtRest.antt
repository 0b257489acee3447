-- Why a processor does not consider a pointstamp finished in the state in which the run to rest stops.
use Rattle.std.specs.Prelude.{◌≡◌, ◌↔◌, ℕ, IsTrue, List, [], length}
use Rattle.nd_view.specs.View.{IsPassedBefore}
use Rattle.nd_protocol.specs.State.{ClusterState, view}
use Rattle.nd_protocol.specs.Steps.{after}
use Rattle.nd_protocol.specs.declared.step.Step.{Step}
use Rattle.nd_why.specs.Why.{IsWhy, IsFinishedBefore}
use Rattle.nd_why.specs.declared.question.Question.{Question}
use Rattle.nd_rest.specs.Moves.{AreMoves}
use Rattle.nd_at_rest.specs.Run.{RunsToRest}
use Rattle.nd_at_rest.specs.Orders.{TellsAll}
use Rattle.nd_at_rest.specs.declared.answer.AtRest.{AtRest as Answer}
use Rattle.nd_at_rest.specs.declared.run.RestStop.TheVariants as stop

-- How many steps the run to rest from s executes, why it stops, and what `why` answers in the state in which it stops. The steps
-- are a list of moves, so what is passed or finished there can come to be so. If the run stops at rest, the answer tells of every
-- order of the steps.
pub record IsAtRestWhy {A : Type 0} (s : ClusterState) (asked : Question) (turn limit : ℕ) (answer : Answer A) : Type 0 where
  pub steps : List (Step A)
  pub run : RunsToRest s turn limit steps answer.stop
  pub ran : answer.ran ≡ length steps
  pub whole : IsWhy (after s steps) asked answer.reasons
  pub passed : (answer.reasons ≡ []) ↔ IsPassedBefore (after s steps).graph asked.extent (view (after s steps) asked.q) asked.point
  pub finished : IsTrue answer.finished ↔ IsFinishedBefore (after s steps) asked.extent asked.point
  pub moves : AreMoves s steps
  pub orders : answer.stop ≡ stop.Rest → TellsAll s asked steps answer.reasons
