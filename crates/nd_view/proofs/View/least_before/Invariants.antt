use Rattle.std.proofs.Common.{◌≢◌, None}
use Rattle.std.specs.FinMap.{find}
use Rattle.nd_paths.specs.Point.{point_cmp}
use Rattle.nd_paths.specs.declared.point.Pointstamp.{Pointstamp}
use Rattle.nd_view.specs.View.{IsPositiveBefore}
use Rattle.nd_view.proofs.Left.{IsLeft}
use Rattle.nd_view.proofs.View.least_before.Given as goal

-- what is positive and before is among the entries left
abbrev pub invariant-loop-first : goal.invariant-loop-first
invariant-loop-first g l = record {
  left : IsLeft l.self.map l.first-iterator;
  all : (q : Pointstamp) → IsPositiveBefore l.paths l.self.map l.extent l.point q → find point_cmp q l.first-iterator ≢ None;
}
