-- A release: a request is removed or kept, and a later one may be added.
use Rattle.std.proofs.Common.{lit<, ◌≡◌, ℕ, ◌<◌, ◌≤◌, ◌^◌, negsuc, Bool, true, false, cond, Option, Some, None, List, [], ◌∷◌, length, lt_of_not-le, refl, sym, subst, arith}
use Rattle.std.specs.FinMap as fin
use Rattle.nd_time.specs.Time.{Time}
use Rattle.nd_paths.specs.declared.point.Pointstamp.{Pointstamp}
use Rattle.nd_processor.specs.State.{ProcessorState}
use Rattle.nd_protocol.specs.State.{ClusterState, processor}
use Rattle.nd_protocol.specs.Steps.{point_at, moved_request, released, stepped}
use Rattle.nd_protocol.specs.Times.{is_kept}
use Rattle.nd_protocol.specs.Enabled.{IsFreeBelow}
use Rattle.nd_protocol.specs.declared.refusal.Refusal.TheVariants.{NoProcessor}
use Rattle.nd_protocol.specs.declared.step.Step.{Step}
use Rattle.nd_protocol.specs.declared.step.Step.TheVariants.{Release}
use Rattle.nd_protocol.specs.declared.times.Later.{Later}
use Rattle.nd_protocol.specs.declared.times.Times.{Times}
use Rattle.nd_steps.specs.Plans.{Each}
use Rattle.nd_steps.specs.Changes.{at_key}
use Rattle.nd_steps.specs.Drafts.{Leads, ReleasesSo, AreJoined, left_by, asks_later, gone_changes, later_changes, released_changes}
use Rattle.nd_steps.specs.declared.change.Change.{Change}
use Rattle.nd_steps.specs.declared.slot.Slot.TheVariants.{Request, Unsent}
use Rattle.nd_steps.proofs.FoundLemmas.{IsPlain, IsSound, sound_none, sound_more, two_plain, ask_plain}
use Rattle.nd_steps.proofs.Moves.{Moves, moves_then, stays}
use Rattle.nd_steps.proofs.ReachedLemmas.{reaches}
use Rattle.nd_steps.proofs.StepMoves.{StepAdds, one_written}
use Rattle.nd_steps.proofs.Writes.{request_goes, request_made}

release_moves : (p : ℕ) (q : ProcessorState) (vertex : ℕ) (t : Time) (to : Option Later) → fin.get q.requests (point_at vertex t) ≡ Some tt
    → Moves p p q (record q { requests = moved_request q.requests vertex t to })
    (released_changes p vertex (record { time = t; to = to }) (asks_later (left_by q.requests vertex (record { time = t; to = to })) vertex to))
release_moves p q vertex t None found = moves_then (request_goes p q (point_at vertex t) found) (stays p p _)
release_moves p q vertex t (Some to) found = by to.time to.keep
  where
    by : (u : Time) (keep : Bool) → Moves p p q (record q { requests = moved_request q.requests vertex t (Some (record { time = u; keep = keep })) })
        (released_changes p vertex (record { time = t; to = Some (record { time = u; keep = keep }) })
        (asks_later (left_by q.requests vertex (record { time = t; to = Some (record { time = u; keep = keep }) })) vertex (Some (record { time = u; keep = keep }))))
    by u true = request_made p q (point_at vertex u)
    by u false = moves_then (request_goes p q (point_at vertex t) found) (request_made p _ (point_at vertex u))

plain_unless : (p : ℕ) (y : Pointstamp) (kept : Bool) → Each IsPlain (cond kept [] (at_key p (Request y) (negsuc 0) ∷ at_key p (Unsent y) (negsuc 0) ∷ []))
plain_unless p y true = tt
plain_unless p y false = two_plain p p (Request y) y (negsuc 0) (λ h. h) (omega arith) [] tt

gone_plain : (p vertex : ℕ) (times : Times) → Each IsPlain (gone_changes p vertex times)
gone_plain p vertex times = plain_unless p (point_at vertex times.time) (is_kept times.to)

later_plain : (p vertex : ℕ) (to : Option Later) (asks : Bool) → Each IsPlain (later_changes p vertex to asks)
later_plain p vertex None asks = tt
later_plain p vertex (Some to) asks = ask_plain p (point_at vertex to.time) asks

module _ (s : ClusterState) (p vertex : ℕ) (times : Times) (asks : Bool) (so : ReleasesSo s p vertex times asks) where
  abbrev found : List Change
  found = released_changes p vertex times asks

  module _ {A : Type 0} where
    abbrev x : Step A
    x = Release p vertex times

    adds : IsFreeBelow s x 13 → StepAdds s x found
    unfolding stepped released
    adds free =
        let lt : p < length s.processors = lt_of_not-le (free.free NoProcessor (lit< tt)) in
        subst (λ b. StepAdds s x (released_changes p vertex times b)) (sym so.anew) (record {
          p = p;
          there = lt;
          new = released s p vertex times;
          is = refl;
          written = one_written p p s.processors _ _ lt (release_moves p (processor s p) vertex times.time times.to so.asked);
        })

    pub released_leads : (cs : List Change) → cs ≡ found → length cs ≤ 2 ^ 64 → (ds : List Change) → AreJoined cs ds → Leads s x ds
    released_leads cs is few ds joins state free =
        let gone : IsSound s (gone_changes p vertex times) = sound_more s [] (gone_changes p vertex times) (sound_none s) (gone_plain p vertex times) in
        let sound : IsSound s found = sound_more s (gone_changes p vertex times) (later_changes p vertex times.to asks) gone (later_plain p vertex times.to asks) in
        reaches s x state found (adds free) sound cs ds is few joins
