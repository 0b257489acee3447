use Rattle.std.proofs.Common.{◌≤◌, ◌-◌, length}
use Rattle.nd_view.specs.Links.{AreSmaller, AreNotSmaller}
use Rattle.nd_view.proofs.links.epoch_from.Given as goal

-- the entries before low are smaller, those from high on are not
abbrev pub invariant-loop-low : goal.invariant-loop-low
invariant-loop-low g l = record {
  rise : l.low ≤ l.high;
  upto : l.high ≤ length l.row;
  smaller : AreSmaller l.row 0 l.low l.epoch;
  others : AreNotSmaller l.row l.high (length l.row) l.epoch;
}

abbrev pub decreases-loop-low : goal.decreases-loop-low
decreases-loop-low g l = l.high - l.low
