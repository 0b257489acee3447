use Rattle.std.proofs.Common.{◌∙◌, sym, arith}
use Rattle.nd_summaries.proofs.SummaryLemmas.{each_differ, each_same, each_past}
use Rattle.nd_summaries.proofs.summary.are_each_at_most.Goals as goal

pub returns-then-theirs-place : goal.returns-then-theirs-place
returns-then-theirs-place c =
    sym (each_differ c.args.own.now c.args.theirs.now c.loop-place.place (omega arith) (omega arith) (omega arith)) ∙ c.loop-place.invariant

pub loop-place-preserved : goal.loop-place-preserved
loop-place-preserved c =
    each_same c.args.own.now c.args.theirs.now c.loop-place.place (omega arith) (omega arith) (omega arith) ∙ c.loop-place.invariant

pub returns : goal.returns
returns c = sym (each_past c.args.own.now c.args.theirs.now c.loop-place.place (omega arith) (omega arith)) ∙ c.loop-place.invariant
