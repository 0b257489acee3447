use Rattle.std.proofs.Common.{List, subst}
use Rattle.nd_steps.specs.declared.record.Record.{Record}
use Rattle.nd_timeline.specs.Reached.{AreCopies}
use Rattle.nd_timeline.proofs.CheckpointLemmas.{no_checkpoints}
use Rattle.nd_timeline.proofs.CopiesLemmas.{reached_copy, same_value}
use Rattle.nd_timeline.proofs.timeline.Timeline.copy.Goals as goal

pub invariant_of-result : goal.invariant_of-result
invariant_of-result g c =
    let copies : AreCopies c.self.inside.kept.steps.items c.in_ok-copied_steps.field-0.items = subst (λ (rs : List (Record g.row.A.Denot)). AreCopies rs c.in_ok-copied_steps.field-0.items) c.deref.ensures.value c.in_ok-copied_steps.ensures in
    record {
      reached = reached_copy c.self.inside.kept.base c.self.inside.walk.cluster c.in_ok-copy.field-0 c.in_ok-copy-2.field-0 c.self.inside.kept.steps.items c.in_ok-copied_steps.field-0.items c.self.inside.walk.at c.self.invariant.reached c.in_ok-copy.ensures c.in_ok-copy-2.ensures copies;
      checkpoints = no_checkpoints c.in_ok-copy.field-0 c.in_ok-copied_steps.field-0.items c.new-checkpoints.result.items c.new-checkpoints.ensures.items;
    }

pub returns : goal.returns
returns g c =
    let copies : AreCopies c.self.inside.kept.steps.items c.in_ok-copied_steps.field-0.items = subst (λ (rs : List (Record g.row.A.Denot)). AreCopies rs c.in_ok-copied_steps.field-0.items) c.deref.ensures.value c.in_ok-copied_steps.ensures in
    same_value c.self.inside.kept.base c.in_ok-copy.field-0 c.self.inside.kept.steps.items c.in_ok-copied_steps.field-0.items c.self.inside.walk.at c.args.self.now c.in_ok-copy.ensures copies c.self.view_is
