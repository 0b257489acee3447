use Rattle.std.proofs.Common.{◌≡◌}
use Rattle.nd_delta.specs.Delta.{DeltaValue, entries}
use Rattle.nd_view.specs.View.{IsOnFrontier, IsPartWhere}
use Rattle.nd_protocol.specs.State.{view}
use Rattle.nd_why.proofs.Taken.{IsTaken}
use Rattle.nd_why.proofs.query.frontier_before.Given as goal

abbrev pub invariant-loop-entry : goal.invariant-loop-entry
invariant-loop-entry g l =
    let known = view l.parts l.asked.q in
    record {
      frontier : DeltaValue;
      part : IsPartWhere (IsOnFrontier l.parts.graph known) known frontier;
      items : l.entry-items ≡ entries frontier;
      taken : IsTaken l.parts.graph l.asked.extent l.asked.point frontier l.before l.entry-index;
    }
