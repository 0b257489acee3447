use Rattle.nd_delta.proofs.Sums.{summed, lessened}
use Rattle.nd_delta.proofs.change.combined_at.Goals as goal

pub returns-then-minus-clause-value : goal.returns-then-minus-clause-value
returns-then-minus-clause-value g c =
    rw c.if-minus.true (lessened _ _ c.integer-here.ensures.within c.get-there.ensures.within (g.C.Change.change c.args.change.now) c.args.other.now c.args.point.now c.integer-here.ensures.value c.get-there.ensures.value)

pub returns-else-minus-clause-value : goal.returns-else-minus-clause-value
returns-else-minus-clause-value g c =
    rw c.if-minus.false (summed _ _ c.integer-here.ensures.within c.get-there.ensures.within (g.C.Change.change c.args.change.now) c.args.other.now c.args.point.now c.integer-here.ensures.value c.get-there.ensures.value)
