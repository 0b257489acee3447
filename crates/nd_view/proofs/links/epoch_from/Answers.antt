use Rattle.std.proofs.Common.{◌+◌, ◌-◌, ◌/◌, ap, arith}
use Rattle.nd_view.proofs.Runs.{smaller_upto, not_smaller_from}
use Rattle.nd_view.proofs.links.epoch_from.Goals as goal

pub loop-low-preserved-then-epoch : goal.loop-low-preserved-then-epoch
loop-low-preserved-then-epoch g c =
    let h = c.loop-low.invariant in
    let middle = c.loop-low.low + (c.loop-low.high - c.loop-low.low) / 2 in
    record {
      rise = omega (arith, c.loop-low-test.true);
      upto = h.upto;
      smaller = smaller_upto c.args.row.now c.requires.listed c.requires.run middle c.args.epoch c.index-row-middle.result (omega (arith, c.loop-low-test.true, h.upto)) c.index-row-middle.is
          (omega (arith, ap (λ e. e.0.time.epoch) c.index-row-middle.is, c.epoch.ensures, c.if-epoch.true));
      others = h.others;
    }

pub loop-low-preserved : goal.loop-low-preserved
loop-low-preserved g c =
    let h = c.loop-low.invariant in
    let middle = c.loop-low.low + (c.loop-low.high - c.loop-low.low) / 2 in
    record {
      rise = omega arith;
      upto = omega (arith, c.loop-low-test.true, h.upto);
      smaller = h.smaller;
      others = not_smaller_from c.args.row.now c.requires.listed c.requires.run middle c.args.epoch c.index-row-middle.result (omega (arith, c.loop-low-test.true, h.upto)) c.index-row-middle.is
          (λ less. absurd (omega (arith, ap (λ e. e.0.time.epoch) c.index-row-middle.is, c.epoch.ensures, c.if-epoch.false, less)));
    }
