-- A notice: a request is removed, and its vertex reacts to the notification.
use Rattle.std.proofs.Common.{lit<, ◌≡◌, ℕ, ◌<◌, ◌≤◌, ◌^◌, negsuc, All, List, [], ◌∷◌, ◌++◌, length, lt_of_not-le, refl, subst, arith}
use Rattle.std.specs.List.{flat_map}
use Rattle.nd_time.specs.Time.{Time}
use Rattle.nd_graph.specs.Graph.{Dataflow}
use Rattle.nd_paths.specs.declared.point.Pointstamp.{Pointstamp}
use Rattle.nd_vertex.specs.Table.{Outcome}
use Rattle.nd_vertex.specs.declared.effect.Effect.{Effect}
use Rattle.nd_processor.specs.State.{idle}
use Rattle.nd_processor.specs.declared.key.ValueAt.{ValueAt}
use Rattle.nd_protocol.specs.State.{ClusterState, processor}
use Rattle.nd_protocol.specs.Steps.{emitted, point_at, notice_outcome, noticed, stepped}
use Rattle.nd_protocol.specs.Fitting.{IsState, ProcessorFits}
use Rattle.nd_protocol.specs.Enabled.{IsFreeBelow}
use Rattle.nd_protocol.specs.declared.refusal.Refusal.TheVariants.{NoProcessor, NoVertex}
use Rattle.nd_protocol.specs.declared.step.Step.{Step}
use Rattle.nd_protocol.specs.declared.step.Step.TheVariants.{Notice}
use Rattle.nd_steps.specs.Changes.{at_key}
use Rattle.nd_steps.specs.Drafts.{Has, Leads, NoticesSo, HasValues, AreJoined, arrivals, item_changes, noticed_changes, emitted_by}
use Rattle.nd_steps.specs.declared.change.Change.{Change}
use Rattle.nd_steps.specs.declared.slot.Slot.TheVariants.{Request, Unsent}
use Rattle.nd_steps.proofs.Destinations.{AreTo-flat, emitted-below, effect_arrives}
use Rattle.nd_steps.proofs.FoundLemmas.{IsSound, sound_more, sound_items, two_plain, arrivals_plain}
use Rattle.nd_steps.proofs.ItemsLemmas.{items_move}
use Rattle.nd_steps.proofs.Moves.{moves_then}
use Rattle.nd_steps.proofs.ReachedLemmas.{reaches}
use Rattle.nd_steps.proofs.StepMoves.{StepAdds, performs}
use Rattle.nd_steps.proofs.Writes.{request_goes}

module _ {A : Type 0} (s : ClusterState) (g : Dataflow) (n p vertex : ℕ) (has : Has g n s) (effect : Effect A) (values : All HasValues effect.items.items) (t : Time) (so : NoticesSo s p (point_at vertex t) effect) where
  abbrev x : Step A
  x = Notice p vertex t

  abbrev y : Pointstamp
  y = point_at vertex t

  abbrev outcome : Outcome
  outcome = notice_outcome s p vertex t

  abbrev own : List Change
  own = at_key p (Request y) (negsuc 0) ∷ at_key p (Unsent y) (negsuc 0) ∷ [] ++ item_changes p vertex effect.items.items

  abbrev rs : List (ℕ × ValueAt)
  rs = emitted_by g n p vertex effect.emits.items

  abbrev found : List Change
  found = noticed_changes p y effect rs

  adds : IsState s → IsFreeBelow s x 13 → StepAdds s x found
  unfolding stepped noticed
  adds state free =
      let lt : p < length s.processors = lt_of_not-le (free.free NoProcessor (lit< tt)) in
      let below : vertex < length s.graph.vertices = lt_of_not-le (free.free NoVertex (lit< tt)) in
      let fit : ProcessorFits s.graph (processor s p) = state.fits.processors p idle lt in
      let kept : vertex < length (processor s p).items = omega (arith, fit.vertices, below) in
      let arrived : List (ℕ × ValueAt) = flat_map (emitted s.graph (length s.processors) p vertex t) outcome.emissions in
      subst (λ es. StepAdds s x (own ++ arrivals p es)) (effect_arrives s g n has p effect vertex t outcome so.does) (record {
        p = p;
        there = lt;
        new = noticed s p vertex t;
        is = refl;
        written = performs p s.processors _ own arrived lt (moves_then (request_goes p (processor s p) y so.asked) (items_move p vertex _ effect.items.items outcome.items kept so.does.items))
            (AreTo-flat (length s.processors) (emitted s.graph (length s.processors) p vertex t) (λ e. emitted-below s.graph (length s.processors) p vertex t e lt) outcome.emissions);
      })

  pub noticed_leads : (cs : List Change) → cs ≡ found → length cs ≤ 2 ^ 64 → (ds : List Change) → AreJoined cs ds → Leads s x ds
  noticed_leads cs is few ds joins state free =
      let first : List Change = at_key p (Request y) (negsuc 0) ∷ at_key p (Unsent y) (negsuc 0) ∷ [] in
      let one : IsSound s own = sound_items s p vertex outcome.items effect.items.items so.does.items values first (two_plain p p (Request y) y (negsuc 0) (λ h. h) (omega arith) [] tt) in
      reaches s x state found (adds state free) (sound_more s own (arrivals p rs) one (arrivals_plain p rs)) cs ds is few joins
