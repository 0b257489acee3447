use Rattle.std.proofs.Common.{◌≡◌, map, take}
use Rattle.nd_delta.specs.Delta.{entries}
use Rattle.nd_steps.specs.Alterations.{sent_row}
use Rattle.nd_steps.proofs.effects.sent_list.Given as goal

-- the entries so far are listed
abbrev pub invariant-loop-entry : goal.invariant-loop-entry
invariant-loop-entry g l = record {
  items : l.entry-items ≡ entries l.part;
  rows : l.rows.items ≡ map (sent_row l.p) (take l.entry-index (entries l.part));
}
