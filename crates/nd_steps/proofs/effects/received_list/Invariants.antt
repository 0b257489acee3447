use Rattle.std.proofs.Common.{◌≡◌, map, take}
use Rattle.nd_delta.specs.Delta.{entries}
use Rattle.nd_steps.specs.Alterations.{received_row}
use Rattle.nd_steps.proofs.effects.received_list.Given as goal

-- the entries so far are listed
abbrev pub invariant-loop-entry : goal.invariant-loop-entry
invariant-loop-entry g l = record {
  items : l.entry-items ≡ entries l.change;
  rows : l.rows.items ≡ map (received_row l.q l.view.map) (take l.entry-index (entries l.change));
}
