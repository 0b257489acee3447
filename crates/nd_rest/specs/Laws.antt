-- The order of moves does not matter: the theorems of states at rest, as statements.
use Rattle.std.specs.Prelude.{◌≡◌, ◌≢◌, ◌<◌, ◌≤◌, ◌+◌, ◌*◌, ⊤, ℕ, List, [], All, length, sum_by, count_by, Bool, true, false, ◌∷◌}
use Rattle.nd_graph.specs.Graph.{Dataflow, op_at}
use Rattle.nd_graph.specs.Operators.{facts}
use Rattle.nd_paths.specs.declared.point.Pointstamp.{Pointstamp}
use Rattle.nd_delta.specs.Delta.{entries}
use Rattle.nd_view.specs.View.{IsPassedBefore}
use Rattle.nd_view.specs.declared.extent.Extent.{Extent}
use Rattle.nd_processor.specs.State.{ProcessorState}
use Rattle.nd_protocol.specs.State.{ClusterState, view}
use Rattle.nd_protocol.specs.Steps.{after}
use Rattle.nd_protocol.specs.Fitting.{IsState}
use Rattle.nd_protocol.specs.Invariant.{KeepsProtocol}
use Rattle.nd_protocol.specs.declared.step.Step.{Step}
use Rattle.nd_why.specs.Account.{Account}
use Rattle.nd_why.specs.Why.{IsWhy, IsFinishedBefore}
use Rattle.nd_why.specs.declared.answer.Held.{Held}
use Rattle.nd_why.specs.declared.answer.Held.TheVariants.{Records, Request, Token}
use Rattle.nd_why.specs.declared.question.Question.{Question}
use Rattle.nd_rest.specs.Moves.{AreMoves, HasNoMove, works}
use Rattle.nd_rest.specs.Rest.{IsAtRest, IsStuck}

-- moves from s that lead to a state at rest
pub record LeadsToRest {A : Type 0} (s : ClusterState) (xs : List (Step A)) : Type 0 where
  pub moves : AreMoves s xs
  pub rest : IsAtRest A (after s xs)

-- ---- one end

-- all lists of moves that lead to a state at rest lead to the same state
abbrev pub OneEnd : Type 0 → Type 0
OneEnd A = (s : ClusterState) (xs ys : List (Step A)) → IsState s → KeepsProtocol s → LeadsToRest s xs → LeadsToRest s ys → after s ys ≡ after s xs

-- ---- nothing else leads there

-- what a processor has passed after some list of moves, it has passed at rest
abbrev pub RestHasPassed : Type 0 → Type 0
RestHasPassed A = (s : ClusterState) (xs ys : List (Step A)) → IsState s → KeepsProtocol s → LeadsToRest s xs → AreMoves s ys
    → (q : ℕ) → q < length s.processors → (extent : Extent) (t : Pointstamp)
    → IsPassedBefore s.graph extent (view (after s ys) q) t → IsPassedBefore s.graph extent (view (after s xs) q) t

-- what is finished after some list of moves is finished at rest
abbrev pub RestHasFinished : Type 0 → Type 0
RestHasFinished A = (s : ClusterState) (xs ys : List (Step A)) → IsState s → KeepsProtocol s → LeadsToRest s xs → AreMoves s ys
    → (extent : Extent) (t : Pointstamp) → IsFinishedBefore (after s ys) extent t → IsFinishedBefore (after s xs) extent t

-- ---- it comes to an end

-- the list is not empty
abbrev pub is_filled : {X : Type 0} → List X → Bool
is_filled [] = false
is_filled (x ∷ xs) = true

-- how many processors have something unsent
abbrev pub senders : ClusterState → ℕ
senders s = count_by (λ (q : ProcessorState). is_filled (entries q.unsent)) s.processors

-- how many changes are in the queues
abbrev pub queued : ClusterState → ℕ
queued s = sum_by (λ row. sum_by length row) s.queues

-- the most broadcasts: one for each take and notice, and one for each processor that has something unsent
abbrev pub most_broadcasts : {A : Type 0} → ClusterState → List (Step A) → ℕ
most_broadcasts s xs = works xs + senders s

-- the most moves: takes and notices, broadcasts, receives of what is queued now, and receives of each broadcast by each processor
abbrev pub most_moves : {A : Type 0} → ClusterState → List (Step A) → ℕ
most_moves s xs = works xs + most_broadcasts s xs + queued s + length s.processors * most_broadcasts s xs

-- no list of moves has more takes and notices than one that leads to a state at rest, and none is longer than these allow
abbrev pub MovesEnd : Type 0 → Type 0
MovesEnd A = (s : ClusterState) (xs ys : List (Step A)) → IsState s → KeepsProtocol s → LeadsToRest s xs → AreMoves s ys
    → (works ys ≤ works xs) × (length ys ≤ most_moves s xs)

-- a list of moves after which there is no move leads to the state at rest, unless a limit refuses a step there
abbrev pub EndIsThere : Type 0 → Type 0
EndIsThere A = (s : ClusterState) (xs ys : List (Step A)) → IsState s → KeepsProtocol s → LeadsToRest s xs → AreMoves s ys
    → HasNoMove A (after s ys) → (IsStuck A (after s ys) → ⊥) → after s ys ≡ after s xs

-- ---- at rest

-- what is held at x is for users to end: a token, or a capability
abbrev pub IsForUsers : Dataflow → Pointstamp → Held → Type 0
IsForUsers g x (Records p value n) = ⊥
IsForUsers g x (Request p) = (facts (op_at g x.location)).holds ≡ true
IsForUsers g x (Token p) = ⊤

-- no update of the reason's pointstamp is under way, and something is held there, all of it for users to end
pub record IsLeftToUsers (g : Dataflow) (a : Account) : Type 0 where
  pub unheard : a.unheard ≡ []
  pub some : a.held ≢ []
  pub held : All (IsForUsers g a.point) a.held

-- at rest each reason why a processor does not consider everything before a point finished is for users to end
abbrev pub RestIsLeftToUsers : Type 0 → Type 0
RestIsLeftToUsers A = (s : ClusterState) → IsState s → KeepsProtocol s → IsAtRest A s
    → (asked : Question) → asked.q < length s.processors → (accounts : List Account) → IsWhy s asked accounts → All (IsLeftToUsers s.graph) accounts
