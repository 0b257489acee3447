use Rattle.std.proofs.Common.{ap, ◌∙◌, sym, drop, ◌+◌}
use Rattle.nd_summaries.specs.Shared.{mixed}
use Rattle.nd_summaries.proofs.Sharing.{mixed_more, mixed_past}
use Rattle.nd_summaries.proofs.shared.mixed.Goals as goal

pub loop-number-preserved : goal.loop-number-preserved
loop-number-preserved c = record {
  value = ap (λ b. mixed b (drop (c.loop-number.number-index + 1) c.args.numbers.now)) c.mix-next.ensures.value ∙ mixed_more c.loop-number.bucket c.args.numbers.now c.loop-number.number-index c.loop-number-test.true ∙ c.loop-number.invariant.value;
  small = c.mix-next.ensures.small;
}

pub returns : goal.returns
returns c = record {
  value = sym (mixed_past c.loop-number.bucket c.args.numbers.now c.loop-number.number-index c.loop-number-test.false) ∙ c.loop-number.invariant.value;
  small = c.loop-number.invariant.small;
}
