-- One end: where lists of moves that lead to states at rest lead, and what is passed and finished there.
use Rattle.std.proofs.Common.{◌≡◌, inl, inr, ℕ, zero, suc, ◌+◌, ◌<◌, pos, ◌<ℤ◌, Bool, true, false, List, length, Some, refl, sym, ap, subst, ◌∙◌, arith}
use Rattle.std.proofs.lemmas.Int.{ints}
use Rattle.std.proofs.lemmas.List.{length-map}
use Rattle.std.specs.FinMap as fin
use Rattle.nd_graph.specs.Graph.{Dataflow, op_at}
use Rattle.nd_graph.specs.Operators.{facts}
use Rattle.nd_map.specs.Counts.{at}
use Rattle.nd_paths.specs.declared.point.Pointstamp.{Pointstamp}
use Rattle.nd_delta.specs.Delta.{at as in_change}
use Rattle.nd_view.specs.View.{IsBefore, IsPassedBefore}
use Rattle.nd_view.specs.declared.extent.Extent.{Extent}
use Rattle.nd_view.specs.declared.extent.Extent.TheVariants.{AtOrBefore, StrictlyBefore}
use Rattle.nd_processor.specs.State.{ProcessorState}
use Rattle.nd_protocol.specs.State.{ClusterState, processor, view, truth}
use Rattle.nd_protocol.specs.Steps.{record_key, point_at, after}
use Rattle.nd_protocol.specs.Fitting.{IsOrdered, IsState}
use Rattle.nd_protocol.specs.Invariant.{KeepsProtocol}
use Rattle.nd_protocol.specs.TruthLaws.{count, truth-count}
use Rattle.nd_protocol.specs.declared.step.Step.{Step}
use Rattle.nd_why.specs.Why.{IsFinishedBefore}
use Rattle.nd_rest.specs.Moves.{AreMoves, works}
use Rattle.nd_rest.specs.Rest.{IsAtRest}
use Rattle.nd_rest.specs.Laws.{LeadsToRest, OneEnd, RestHasPassed, RestHasFinished}
use Rattle.nd_rest.proofs.Diamond.{Leads, IsEnd}
use Rattle.nd_rest.proofs.Core.{taking, noticing, next, IsAllowed, IsEmpty, IsDownward, stays_empty}
use Rattle.nd_rest.proofs.Heard.{IsHeard, view_is_truth, same_heard}
use Rattle.nd_rest.proofs.Moving.{Laws, bare, core, nth-core, count-core, IsSound, sound_after, many_after, leads, goes_on, no_number}

-- ---- a state at rest

not_both : (b : Bool) → b ≡ true → b ≡ false → ⊥
not_both b e f = absurd (cc)

pub heard : {A : Type 0} (s : ClusterState) → IsAtRest A s → IsHeard s
heard s rest = record { unsent = rest.unsent; queues = rest.queues }

-- at rest no take is allowed, and no notice
pub rest_is_end : {A : Type 0} (s : ClusterState) → IsState s → KeepsProtocol s → IsAtRest A s → IsEnd (IsAllowed s.graph) (next s.graph) (core s.processors)
rest_is_end s state keeps rest (taking p edge t value) may =
    let none_there : at (processor s p).records (record_key edge t value) ≡ 0 = rest.records p (record_key edge t value) in
    let some : 0 < at (processor s p).records (record_key edge t value) = subst (λ (q : ProcessorState). 0 < at q.records (record_key edge t value)) (nth-core s.processors p) may.some in
    omega (arith, none_there, some)
rest_is_end s state keeps rest (noticing p vertex t) may =
    let here : p < length s.processors = subst (λ n. p < n) (length-map s.processors bare) may.here in
    let asked : fin.get (processor s p).requests (point_at vertex t) ≡ Some tt = sym (ap (λ (q : ProcessorState). fin.get q.requests (point_at vertex t)) (nth-core s.processors p)) ∙ may.asked in
    elim (rest.requests p (point_at vertex t) asked) [
      | inl early ↦
          let blocker : Pointstamp = early.0 in
          let least = early.1.fails in
          let none_there : count s.processors blocker ≡ 0 = sym (count-core s.processors blocker) ∙ may.quiet blocker least.is_one.before in
          let seen : in_change (view s p) blocker ≡ pos (count s.processors blocker) = view_is_truth s keeps.settled (heard s rest) p here blocker ∙ truth-count s.processors blocker in
          let positive : pos 0 <ℤ in_change (view s p) blocker = least.is_one.positive in
          absurd (omega (arith, ints))
      | inr holds ↦ not_both (facts (op_at s.graph vertex)).holds holds.fails may.notified
    ]

-- ---- the theorems

empty_along : {A : Type 0} (laws : Laws A) (g : Dataflow) → IsOrdered g → (D : Pointstamp → Type 0) → IsDownward g D → (n : ℕ) (c d : List ProcessorState) → Leads (IsAllowed g) (next g) n c d → IsEmpty D c → IsEmpty D d
empty_along laws g o D down zero c d same_core empty = subst (IsEmpty D) same_core empty
empty_along laws g o D down (suc n) c d way empty =
    empty_along laws g o D down n (next g c way.0) d way.2 (stays_empty laws.strictly g o D down c way.0 way.1 empty)

before_is_down : {A : Type 0} (laws : Laws A) (g : Dataflow) → IsOrdered g → (extent : Extent) (t : Pointstamp) → IsDownward g (λ x. IsBefore g extent x t)
before_is_down laws g o AtOrBefore t x y less before = laws.could g x y t less.0 before
before_is_down laws g o StrictlyBefore t x y less before = laws.strictly g x y t o.accepted less before

module _ {A : Type 0} (laws : Laws A) (s : ClusterState) (xs ys : List (Step A)) (state : IsState s) (keeps : KeepsProtocol s) (to_rest : LeadsToRest s xs) (moves : AreMoves s ys) where
  start_sound : IsSound laws s.graph s
  start_sound = record { state = state; keeps = keeps; graph = refl }

  pub at_rest_sound : IsSound laws s.graph (after s xs)
  at_rest_sound = sound_after laws s.graph s xs start_sound to_rest.moves

  pub there_sound : IsSound laws s.graph (after s ys)
  there_sound = sound_after laws s.graph s ys start_sound moves

  ends : IsEnd (IsAllowed s.graph) (next s.graph) (core (after s xs).processors)
  ends = subst (λ g. IsEnd (IsAllowed g) (next g) (core (after s xs).processors)) at_rest_sound.graph (rest_is_end (after s xs) at_rest_sound.state at_rest_sound.keeps to_rest.rest)

  -- what is left of the takes and notices of xs after ys
  pub left : (m : ℕ) × (works xs ≡ works ys + m) × Leads (IsAllowed s.graph) (next s.graph) m (core (after s ys).processors) (core (after s xs).processors)
  left = goes_on laws s.graph s ys (works xs) (core (after s xs).processors) start_sound moves (leads laws s.graph s xs start_sound to_rest.moves) ends

  pub finished_there : (extent : Extent) (t : Pointstamp) → IsFinishedBefore (after s ys) extent t → IsFinishedBefore (after s xs) extent t
  finished_there extent t finished x before =
      let g : Dataflow = s.graph in
      let D : Pointstamp → Type 0 = λ z. IsBefore g extent z t in
      let order : IsOrdered g = state.ordered in
      let then_empty : IsEmpty D (core (after s ys).processors) = λ z b.
      count-core (after s ys).processors z ∙ no_number (count (after s ys).processors z)
      (sym (truth-count (after s ys).processors z) ∙ finished z (subst (λ h. IsBefore h extent z t) (sym there_sound.graph) b)) in
      let now_empty : IsEmpty D (core (after s xs).processors) = empty_along laws g order D (before_is_down laws g order extent t) left.0 (core (after s ys).processors) (core (after s xs).processors) left.2 then_empty in
      truth-count (after s xs).processors x
      ∙ ap pos (sym (count-core (after s xs).processors x) ∙ now_empty x (subst (λ h. IsBefore h extent x t) at_rest_sound.graph before))

  many_there : (q : ℕ) → q < length s.processors → q < length (after s ys).processors
  many_there q lt = subst (λ n. q < n) (sym (many_after laws s.graph s ys start_sound moves)) lt

  finished_when : (q : ℕ) → q < length s.processors → (extent : Extent) (t : Pointstamp) → IsPassedBefore (after s ys).graph extent (view (after s ys) q) t → IsFinishedBefore (after s ys) extent t
  finished_when q lt AtOrBefore t passed = laws.passed (after s ys) there_sound.state there_sound.keeps q (many_there q lt) t passed
  finished_when q lt StrictlyBefore t passed = laws.before (after s ys) there_sound.state there_sound.keeps q (many_there q lt) t passed

  pub passed_there : (q : ℕ) → q < length s.processors → (extent : Extent) (t : Pointstamp) → IsPassedBefore s.graph extent (view (after s ys) q) t → IsPassedBefore s.graph extent (view (after s xs) q) t
  passed_there q lt extent t passed x positive =
      let finished : IsFinishedBefore (after s ys) extent t = finished_when q lt extent t (subst (λ g. IsPassedBefore g extent (view (after s ys) q) t) (sym there_sound.graph) passed) in
      let none_there : in_change (truth (after s xs).processors) x ≡ pos 0 = finished_there extent t finished x (subst (λ g. IsBefore g extent x t) (sym at_rest_sound.graph) positive.before) in
      let inside : q < length (after s xs).processors = subst (λ n. q < n) (sym (many_after laws s.graph s xs start_sound to_rest.moves)) lt in
      let seen : in_change (view (after s xs) q) x ≡ in_change (truth (after s xs).processors) x = view_is_truth (after s xs) at_rest_sound.keeps.settled (heard (after s xs) to_rest.rest) q inside x in
      let some : pos 0 <ℤ in_change (view (after s xs) q) x = positive.positive in
      omega (arith, ints)

pub no_way : (g : Dataflow) (m : ℕ) (c d : List ProcessorState) → Leads (IsAllowed g) (next g) m c d → IsEnd (IsAllowed g) (next g) c → c ≡ d
no_way g zero c d way end = way
no_way g (suc m) c d way end = absurd (end way.0 way.1)

pub one_end : {A : Type 0} → Laws A → OneEnd A
one_end laws s xs ys state keeps to_rest also =
    let there = there_sound laws s xs ys state keeps to_rest also.moves in
    let at_end = at_rest_sound laws s xs ys state keeps to_rest also.moves in
    let rest = left laws s xs ys state keeps to_rest also.moves in
    let end : IsEnd (IsAllowed s.graph) (next s.graph) (core (after s ys).processors)
    = subst (λ g. IsEnd (IsAllowed g) (next g) (core (after s ys).processors)) there.graph (rest_is_end (after s ys) there.state there.keeps also.rest) in
    same_heard (after s ys) (after s xs) there.state at_end.state there.keeps at_end.keeps (heard (after s ys) also.rest) (heard (after s xs) to_rest.rest) (there.graph ∙ sym at_end.graph)
    (no_way s.graph rest.0 (core (after s ys).processors) (core (after s xs).processors) rest.2 end)

pub rest_has_passed : {A : Type 0} → Laws A → RestHasPassed A
rest_has_passed laws s xs ys state keeps to_rest moves = passed_there laws s xs ys state keeps to_rest moves

pub rest_has_finished : {A : Type 0} → Laws A → RestHasFinished A
rest_has_finished laws s xs ys state keeps to_rest moves = finished_there laws s xs ys state keeps to_rest moves
