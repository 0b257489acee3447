use Rattle.std.proofs.Common.{◌+◌, ap, refl, ◌∙◌, arith}
use Rattle.nd_view.proofs.Runs.{not_smaller_from}
use Rattle.nd_view.proofs.links.later_from.Goals as goal

pub returns-then-is_outside-clause-later : goal.returns-then-is_outside-clause-later
returns-then-is_outside-clause-later c = λ k d early late.
    not_smaller_from c.args.row.now c.requires.listed c.requires.run c.loop-k.k (c.args.epoch + 1) c.index-row-k.result c.loop-k-test.true c.index-row-k.is
    (λ less. omega (arith, less, c.if-epoch.true, c.epoch.ensures, ap (λ e. e.0.time.epoch) c.index-row-k.is)) k d (omega (arith, early)) late

pub returns-then-is_outside-clause-one : goal.returns-then-is_outside-clause-one
returns-then-is_outside-clause-one c = λ _. record {
  index = c.loop-k.k;
  entry = c.index-row-k.result;
  early = omega arith;
  is = c.index-row-k.is;
  outside = ap (λ e. e.0.time.counters) c.index-row-k.is ∙ c.if-is_outside.ensures.0 refl;
  later = omega (arith, c.if-epoch.true, c.epoch.ensures, ap (λ e. e.0.time.epoch) c.index-row-k.is);
}
