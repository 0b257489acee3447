use Rattle.std.proofs.Common.{◌<◌, [], ◌∷◌, take, sym, ap, subst, refl, ◌∙◌, arith, length-append}
use Rattle.std.proofs.lemmas.List.{length-take-le}
use Rattle.nd_time.specs.Limits.{max_kept}
use Rattle.nd_protocol.specs.Steps.{stepped}
use Rattle.nd_cluster.specs.Records.{IsPlanned}
use Rattle.nd_timeline.specs.Timeline.{TimelineValue}
use Rattle.nd_timeline.proofs.CopiesLemmas.{likewise_planned}
use Rattle.nd_timeline.proofs.KeptSteps.{extends, seen, steps_of-push, steps_of-take}
use Rattle.nd_timeline.proofs.timeline.Timeline.commit.Goals as goal

pub commit-requires : goal.commit-requires
commit-requires g c = subst (IsPlanned c.args.planned) (sym (seen c.self.inside.kept.base c.self.inside.walk.cluster c.self.inside.kept.steps.items c.self.inside.walk.at _ c.self.invariant.reached c.self.view_is)) c.requires.planned

pub keep-requires-clause-within : goal.keep-requires-clause-within
keep-requires-clause-within g c = rw c.reserve.ensures.items c.self.invariant.reached.within

pub keep-requires-clause-checkpoints : goal.keep-requires-clause-checkpoints
keep-requires-clause-checkpoints g c = rw c.reserve.ensures.items c.self.invariant.checkpoints

pub save_if_due-requires-clause-on : goal.save_if_due-requires-clause-on
save_if_due-requires-clause-on g c =
    let s = c.self.inside.walk.cluster in
    let q = c.small.result in
    let told = c.small.ensures in
    let room : c.self.inside.walk.at < max_kept = subst (λ (m : TimelineValue g.row.A.Denot). m.cursor < max_kept) (sym c.self.view_is) c.requires.room in
    let here : IsPlanned c.args.planned s
    = subst (IsPlanned c.args.planned) (sym (seen c.self.inside.kept.base s c.self.inside.kept.steps.items c.self.inside.walk.at _ c.self.invariant.reached c.self.view_is)) c.requires.planned in
    rw (c.keep.ensures.base, c.keep.ensures.steps, c.reserve.ensures.items)
    (extends c.self.inside.kept.base s c.commit.new.self c.self.inside.kept.steps.items c.self.inside.walk.at q c.self.invariant.reached room
    (likewise_planned s c.args.planned q told.step told.many (told.makes s (stepped s c.args.planned.step)) here) (c.in-Ok-commit.ensures.step ∙ ap (stepped s) (sym told.step)))

pub save_if_due-requires-clause-last : goal.save_if_due-requires-clause-last
save_if_due-requires-clause-last g c =
    rw (c.keep.ensures.steps, c.reserve.ensures.items)
    (omega (arith, length-append (take c.self.inside.walk.at c.self.inside.kept.steps.items) (c.small.result ∷ []), length-take-le c.self.inside.walk.at c.self.inside.kept.steps.items c.self.invariant.reached.within))

pub invariant_of-self-2 : goal.invariant_of-self-2
invariant_of-self-2 g c =
    let s = c.self.inside.walk.cluster in
    let q = c.small.result in
    let told = c.small.ensures in
    let room : c.self.inside.walk.at < max_kept = subst (λ (m : TimelineValue g.row.A.Denot). m.cursor < max_kept) (sym c.self.view_is) c.requires.room in
    let here : IsPlanned c.args.planned s
    = subst (IsPlanned c.args.planned) (sym (seen c.self.inside.kept.base s c.self.inside.kept.steps.items c.self.inside.walk.at _ c.self.invariant.reached c.self.view_is)) c.requires.planned in
    record {
      reached = rw (c.save_if_due.ensures.base, c.save_if_due.ensures.steps, c.keep.ensures.base, c.keep.ensures.steps, c.reserve.ensures.items)
          (extends c.self.inside.kept.base s c.commit.new.self c.self.inside.kept.steps.items c.self.inside.walk.at q c.self.invariant.reached room
          (likewise_planned s c.args.planned q told.step told.many (told.makes s (stepped s c.args.planned.step)) here) (c.in-Ok-commit.ensures.step ∙ ap (stepped s) (sym told.step)));
      checkpoints = c.save_if_due.ensures.checkpoints;
    }

pub returns-clause-ok : goal.returns-clause-ok
returns-clause-ok g c =
    rw (c.save_if_due.ensures.base, c.save_if_due.ensures.steps, c.keep.ensures.base, c.keep.ensures.steps, c.reserve.ensures.items, ← c.self.view_is)
    (rw (steps_of-push (take c.self.inside.walk.at c.self.inside.kept.steps.items) c.small.result, steps_of-take c.self.inside.walk.at c.self.inside.kept.steps.items, c.small.ensures.step) refl)
