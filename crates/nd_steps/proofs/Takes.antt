-- A take: a record is removed from its edge, and the edge's target reacts to it.
use Rattle.std.proofs.Common.{lit<, ◌≡◌, inl, inr, ℕ, zero, suc, ◌+◌, ◌<◌, ◌≤◌, ◌^◌, negsuc, All, Bool, ◌&&◌, is_none, List, [], ◌∷◌, ◌++◌, length, lt_of_not-le, refl, sym, ap, subst, ◌∙◌, arith}
use Rattle.std.specs.List.{flat_map}
use Rattle.std.specs.FinMap as fin
use Rattle.nd_map.specs.Cases.{at_least}
use Rattle.nd_map.specs.Counts.{at as number_at}
use Rattle.nd_graph.specs.Graph.{Dataflow}
use Rattle.nd_paths.specs.declared.point.Pointstamp.{Pointstamp}
use Rattle.nd_vertex.specs.Table.{Outcome}
use Rattle.nd_vertex.specs.declared.effect.Effect.{Effect}
use Rattle.nd_processor.specs.State.{ProcessorState, idle}
use Rattle.nd_processor.specs.declared.key.ValueAt.{ValueAt}
use Rattle.nd_protocol.specs.State.{ClusterState, processor}
use Rattle.nd_protocol.specs.Steps.{emitted, point_at, target_of, take_outcome, taken, stepped}
use Rattle.nd_protocol.specs.Fitting.{IsState, ProcessorFits}
use Rattle.nd_protocol.specs.Enabled.{IsFreeBelow}
use Rattle.nd_protocol.specs.declared.refusal.Refusal.TheVariants.{NoProcessor, NoEdge, NoRecord}
use Rattle.nd_protocol.specs.declared.step.Step.{Step}
use Rattle.nd_protocol.specs.declared.step.Step.TheVariants.{Take}
use Rattle.nd_steps.specs.Changes.{at_key}
use Rattle.nd_steps.specs.Drafts.{Has, Leads, TakesSo, HasValues, AreJoined, arrivals, item_changes, ask_changes, sink_changes, taken_changes, emitted_by}
use Rattle.nd_steps.specs.Plans.{Each}
use Rattle.nd_steps.specs.Targets.{target_there}
use Rattle.nd_steps.specs.declared.change.Change.{Change}
use Rattle.nd_steps.specs.declared.slot.Slot.TheVariants.{Records, Unsent}
use Rattle.nd_steps.proofs.Destinations.{AreTo-flat, emitted-below, effect_arrives}
use Rattle.nd_steps.proofs.EachLemmas.{each-append}
use Rattle.nd_steps.proofs.FoundLemmas.{IsPlain, IsSound, sound_more, sound_items, two_plain, arrivals_plain, ask_plain, sink_plain}
use Rattle.nd_steps.proofs.ItemsLemmas.{items_move}
use Rattle.nd_steps.proofs.Moves.{moves_then}
use Rattle.nd_steps.proofs.ReachedLemmas.{reaches}
use Rattle.nd_steps.proofs.StepMoves.{StepAdds, performs}
use Rattle.nd_steps.proofs.Writes.{record_goes, request_asked, value_counts}

some_there : (n : ℕ) → (n ≡ 0 → ⊥) → 1 ≤ n
some_there zero h = absurd (h refl)
some_there (suc n) h = omega arith

module _ (s : ClusterState) (p : ℕ) (k : ValueAt) where
  abbrev q : ProcessorState
  q = processor s p

  abbrev target : ℕ
  target = target_of s.graph k.point.location

  abbrev outcome : Outcome
  outcome = take_outcome s p k.point.location k.point.time k.value

  abbrev arrived : List (ℕ × ValueAt)
  arrived = flat_map (emitted s.graph (length s.processors) p target k.point.time) outcome.emissions

  module _ {A : Type 0} where
    abbrev x : Step A
    x = Take p k.point.location k.point.time k.value

    -- the changes, as the definition of the step says them
    abbrev own : Effect A → List Change
    own effect =
        ((at_key p (Records k) (negsuc 0) ∷ at_key p (Unsent k.point) (negsuc 0) ∷ []
        ++ ask_changes p (point_at target k.point.time) (outcome.asks && is_none (fin.get q.requests (point_at target k.point.time))))
        ++ item_changes p target effect.items.items)
        ++ sink_changes p (record { vertex = target; value = k.value }) outcome.counts

    module _ (state : IsState s) (free : IsFreeBelow s x 13) where
      there : p < length s.processors
      there = lt_of_not-le (free.free NoProcessor (lit< tt))

      some : 1 ≤ number_at q.records k
      some = some_there (number_at q.records k) (free.free NoRecord (lit< tt))

      kept : target < length q.items
      kept =
          let g : Dataflow = s.graph in
          let low : length g.vertices ≤ k.point.location = at_least k.point.location (length g.vertices) (λ h. free.free NoEdge (lit< tt) (inl h)) in
          let high : k.point.location < length g.vertices + length g.edges = lt_of_not-le (λ h. free.free NoEdge (lit< tt) (inr h)) in
          let below : target < length g.vertices = target_there g k.point.location state.ordered.joined low high in
          let fit : ProcessorFits g q = state.fits.processors p idle there in
          omega (arith, fit.vertices, below)

      target_adds : (effect : Effect A) (asks : Bool) → TakesSo s p target k effect asks → StepAdds s x (own effect ++ arrivals p arrived)
      unfolding stepped taken
      target_adds effect asks so = record {
        p = p;
        there = there;
        new = taken s p k.point.location k.point.time k.value;
        is = refl;
        written = performs p s.processors _ (own effect) arrived there
            (moves_then (moves_then (moves_then (record_goes p q k some) (request_asked p _ (point_at target k.point.time) outcome.asks)) (items_move p target _ effect.items.items outcome.items kept so.does.items))
            (value_counts p _ (record { vertex = target; value = k.value }) outcome.counts))
            (AreTo-flat (length s.processors) (emitted s.graph (length s.processors) p target k.point.time)
            (λ e. emitted-below s.graph (length s.processors) p target k.point.time e there) outcome.emissions);
      }

      -- the changes, as they are found
      as_found : (g : Dataflow) (n : ℕ) → Has g n s → (effect : Effect A) (asks : Bool) → TakesSo s p target k effect asks
          → StepAdds s x (taken_changes p target k effect asks (emitted_by g n p target effect.emits.items))
      as_found g n has effect asks so =
          let asked : (outcome.asks && is_none (fin.get q.requests (point_at target k.point.time))) ≡ asks
          = sym (so.anew ∙ ap (λ b. b && is_none (fin.get q.requests (point_at target k.point.time))) so.does.asks) in
          let sink : outcome.counts ≡ effect.sink = sym so.does.sink in
          let come = effect_arrives s g n has p effect target k.point.time outcome so.does in
          subst (StepAdds s x) (λ i. taken_changes p target k (record effect { sink = sink i }) (asked i) (come i)) (target_adds effect asks so)

module _ {A : Type 0} (s : ClusterState) (g : Dataflow) (n p vertex : ℕ) (has : Has g n s) (effect : Effect A) (values : All HasValues effect.items.items) where
  abbrev rs : List (ℕ × ValueAt)
  rs = emitted_by g n p vertex effect.emits.items

  module _ (k : ValueAt) (asks : Bool) (so : TakesSo s p vertex k effect asks) where
    abbrev y : Pointstamp
    y = point_at vertex k.point.time

    abbrev found : List Change
    found = taken_changes p vertex k effect asks rs

    adds : IsState s → IsFreeBelow {A = A} s (Take p k.point.location k.point.time k.value) 13 → StepAdds {A = A} s (Take p k.point.location k.point.time k.value) found
    adds state free =
        subst (λ v. TakesSo s p v k effect asks → StepAdds {A = A} s (Take p k.point.location k.point.time k.value) (taken_changes p v k effect asks (emitted_by g n p v effect.emits.items)))
        (sym so.goes) (as_found s p k state free g n has effect asks) so

    sound : IsSound s found
    sound =
        let first : List Change = at_key p (Records k) (negsuc 0) ∷ at_key p (Unsent k.point) (negsuc 0) ∷ [] in
        let ask : List Change = ask_changes p y asks in
        let items : List Change = item_changes p vertex effect.items.items in
        let sink : List Change = sink_changes p (record { vertex = vertex; value = k.value }) effect.sink in
        let plain : Each IsPlain (first ++ ask) = each-append IsPlain first ask (two_plain p p (Records k) k.point (negsuc 0) (λ h. h) (omega arith) [] tt) (ask_plain p y asks) in
        let one : IsSound s ((first ++ ask) ++ items) = sound_items s p vertex (take_outcome s p k.point.location k.point.time k.value).items effect.items.items so.does.items values (first ++ ask) plain in
        let two : IsSound s (((first ++ ask) ++ items) ++ sink) = sound_more s ((first ++ ask) ++ items) sink one (sink_plain p (record { vertex = vertex; value = k.value }) effect.sink) in
        sound_more s (((first ++ ask) ++ items) ++ sink) (arrivals p rs) two (arrivals_plain p rs)

    pub taken_leads : (cs : List Change) → cs ≡ found → length cs ≤ 2 ^ 64 → (ds : List Change) → AreJoined cs ds → Leads {A = A} s (Take p k.point.location k.point.time k.value) ds
    taken_leads cs is few ds joins state free = reaches s (Take p k.point.location k.point.time k.value) state found (adds state free) sound cs ds is few joins
