use Rattle.std.proofs.Common.{ap, ◌∙◌}
use Rattle.nd_delta.specs.Delta.{at, at-none}
use Rattle.nd_delta.proofs.Sums.{minus_none}
use Rattle.nd_delta.proofs.large.LargeDelta.whole.Goals as goal

pub without-requires : goal.without-requires
without-requires g c x some = absurd (some (ap (λ d. at d x) c.new.ensures ∙ at-none x))

pub returns-clause-equal : goal.returns-clause-equal
returns-clause-equal g c =
    let same = minus_none c.args.self.now in
    let is = c.new.ensures in
    simp (is, same) at c.without-2.ensures.ok
