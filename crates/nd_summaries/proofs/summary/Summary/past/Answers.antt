use Rattle.std.proofs.Common.{ap, ◌∙◌}
use Rattle.std.specs.Option.{is_some}
use Rattle.nd_graph.specs.declared.op.Action.TheVariants.{Egress, Feedback}
use Rattle.nd_summaries.specs.Steps.{step}
use Rattle.nd_summaries.proofs.Stored.{egress_end, egress_last, feedback_end, feedback_last}
use Rattle.nd_summaries.proofs.summary.Summary.past.Goals as goal

pub returns-then-is_none : goal.returns-then-is_none
returns-then-is_none c =
    let done = egress_end c.args.self.now c.saturating_sub.result c.pop.new.self c.pop.result c.if-is_none.ensures (rw c.copy-next.ensures at c.pop.ensures.some) (rw c.copy-next.ensures at c.pop.ensures.parts) c.saturating_sub.ensures in
    rw c.in-Egress.is done

pub returns-in-None : goal.returns-in-None
returns-in-None c =
    let done = feedback_end c.copy-next.result c.pop-in-Feedback.new.self c.pop-in-Feedback.result (ap is_some c.in-None.is) c.pop-in-Feedback.ensures.some c.pop-in-Feedback.ensures.parts in
    rw c.in-Feedback.is (done ∙ ap (step Feedback) c.copy-next.ensures)

pub returns-else-is_none : goal.returns-else-is_none
returns-else-is_none c =
    let done = egress_last c.copy-next.result c.pop.new.self c.pop.result c.if-is_none.ensures c.pop.ensures.parts in
    rw c.in-Egress.is (done ∙ ap (step Egress) c.copy-next.ensures)

pub returns-in-Some : goal.returns-in-Some
returns-in-Some c =
    let done = feedback_last c.copy-next.result c.pop-in-Feedback.new.self c.in-Some.last c.in-Some.ensures.parts in
    rw (c.in-Feedback.is, c.push-in-Some.ensures) (done ∙ ap (step Feedback) c.copy-next.ensures)
