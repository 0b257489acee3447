use Rattle.std.proofs.Common.{◌+ℤ◌, ap, ◌∙◌}
use Rattle.nd_steps.proofs.CountsReceived.{summed}
use Rattle.nd_steps.proofs.receive.count_after.Goals as goal

pub returns-clause-value : goal.returns-clause-value
returns-clause-value g c =
    let n = c.args.entry.now.1 in
    summed c.get.result n c.get.ensures.within c.requires ∙ ap (λ z. z +ℤ n) c.get.ensures.value
