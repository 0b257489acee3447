use Rattle.std.proofs.Common.{ℕ, ◌<◌, get_or}
use Rattle.nd_view.specs.Kept.{Kept}
use Rattle.nd_protocol.specs.Fitting.{DeltaFits, DeltaIsWithin}
use Rattle.nd_cluster.proofs.parts.views_fit.Given as goal

abbrev pub invariant-loop-view : goal.invariant-loop-view
invariant-loop-view g l = record {
  fits : (k : ℕ) (d : Kept) → k < l.view-index → DeltaFits l.graph (get_or l.views k d).map;
  within : (k : ℕ) (d : Kept) → k < l.view-index → DeltaIsWithin (get_or l.views k d).map;
}
