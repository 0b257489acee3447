use Rattle.std.proofs.Common.{◌∙◌, sym}
use Rattle.nd_summaries.proofs.Tests.{at_most_decided}
use Rattle.nd_summaries.proofs.summary.Summary.is_at_most.Goals as goal

pub returns : goal.returns
returns c =
    let decided = at_most_decided c.args.order c.args.self.now c.args.other.now in
    (λ yes'. decided.0 (sym c.passes.ensures ∙ yes'), λ most. c.passes.ensures ∙ decided.1 most)
