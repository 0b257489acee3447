-- What the run to rest gives.
use Rattle.std.proofs.Common.{◌≡◌, ◌⊎◌, inl, inr, ℕ, suc, length, refl, sym, ap, subst, ◌∙◌, arith}
use Rattle.std.specs.Prelude.{◌≤◌}
use Rattle.nd_protocol.specs.State.{ClusterState}
use Rattle.nd_protocol.specs.Steps.{after}
use Rattle.std.proofs.Common.{List, [], ◌∷◌, ◌<◌}
use Rattle.std.specs.Prelude.{All}
use Rattle.nd_protocol.specs.Fitting.{IsState}
use Rattle.nd_protocol.specs.Invariant.{KeepsProtocol}
use Rattle.nd_protocol.specs.declared.step.Step.{Step}
use Rattle.nd_protocol.specs.declared.step.Step.TheVariants.{Feed, Take, Notice, Release, Send, Broadcast, Receive}
use Rattle.nd_protocol.specs.declared.part.Part.TheVariants.{Points}
use Rattle.nd_protocol.specs.declared.part.Part.TheVariants.{All as Whole}
use Rattle.nd_why.specs.Account.{Account}
use Rattle.nd_why.specs.Why.{IsWhy}
use Rattle.nd_why.specs.declared.question.Question.{Question}
use Rattle.nd_cluster.specs.Candidates.{IsCandidate}
use Rattle.nd_rest.specs.Moves.{AreMoves, NeedsNoUser}
use Rattle.nd_rest.specs.Laws.{OneEnd, RestHasPassed, RestHasFinished, MovesEnd, EndIsThere, RestIsLeftToUsers, LeadsToRest, IsLeftToUsers}
use Rattle.nd_rest.specs.Rest.{IsAtRest}
use Rattle.nd_protocol.specs.Steps.{stepped}
use Rattle.nd_at_rest.specs.Orders.{TellsAll}
use Rattle.nd_at_rest.specs.Run.{AreFirst, IsIdle, IsStopOf, RunsToRest}
use Rattle.nd_at_rest.specs.Going.{HasGone}
use Rattle.nd_at_rest.specs.declared.run.RestStop.{RestStop}
use Rattle.nd_at_rest.specs.declared.run.RestStop.TheVariants as stop

module _ {A : Type 0} (s t : ClusterState) (turn limit ran : ℕ) (gone : HasGone A s turn limit t ran) (how : RestStop) (stops : IsStopOf A t how) where
  ends : how ≡ stop.Limit → (ran ≡ limit) ⊎ IsIdle A t → ran ≡ limit
  ends is (inl whole) = whole
  ends is (inr idle) = let goes : IsStopOf A t stop.Limit = subst (IsStopOf A t) is stops in absurd (goes idle)

  pub runs : RunsToRest s turn limit gone.steps how
  runs = record {
    first = gone.first;
    within = subst (λ n. n ≤ limit) (sym gone.count) gone.within;
    whole = λ is. gone.count ∙ ends is gone.idle;
    stops = subst (λ u. IsStopOf A u how) gone.leads stops;
  }

-- ---- the run is a list of moves

needs_no_user : {A : Type 0} (x : Step A) → IsCandidate x → NeedsNoUser x
needs_no_user (Receive from to) is = tt
needs_no_user (Take p edge t value) is = tt
needs_no_user (Notice p vertex t) is = tt
needs_no_user (Broadcast p Whole) is = tt
needs_no_user (Broadcast p (Points points)) is = absurd is
needs_no_user (Feed p vertex values _) is = absurd is
needs_no_user (Release p vertex times) is = absurd is
needs_no_user (Send p vertex batch) is = absurd is

pub are_moves : {A : Type 0} (s : ClusterState) (turn : ℕ) (xs : List (Step A)) → AreFirst s turn xs → AreMoves s xs
are_moves s turn [] first = tt
are_moves s turn (x ∷ xs) first = (record { kind = needs_no_user x first.0.among.0; enabled = first.0.enabled }, are_moves (stepped s x) (suc turn) xs first.1)

-- ---- what it tells of every order

module _ {A : Type 0} (end : OneEnd A) (has_passed : RestHasPassed A) (has_finished : RestHasFinished A) (moves_end : MovesEnd A) (end_there : EndIsThere A) (are_left : RestIsLeftToUsers A) where
  pub tells : (s t : ClusterState) (asked : Question) (turn limit ran : ℕ) (gone : HasGone A s turn limit t ran) (accounts : List Account) → IsState s → IsState t
      → KeepsProtocol s → KeepsProtocol t → asked.q < length s.processors → asked.q < length t.processors → IsWhy t asked accounts → IsStopOf A t stop.Rest → TellsAll s asked gone.steps accounts
  tells s t asked turn limit ran gone accounts state there keeps kept lt less why stops =
      let to_rest : LeadsToRest s gone.steps = record { moves = are_moves s turn gone.steps gone.first; rest = subst (IsAtRest A) gone.leads stops.1 } in
      record {
        one_end = λ ys h. end s gone.steps ys state keeps to_rest h;
        passed = λ ys h. has_passed s gone.steps ys state keeps to_rest h asked.q lt asked.extent asked.point;
        finished = λ ys h. has_finished s gone.steps ys state keeps to_rest h asked.extent asked.point;
        ends = λ ys h. moves_end s gone.steps ys state keeps to_rest h;
        there = λ ys h. end_there s gone.steps ys state keeps to_rest h;
        left = subst (λ (u : ClusterState). All (IsLeftToUsers u.graph) accounts) gone.leads (are_left t there kept stops.1 asked less accounts why);
      }
