use Rattle.std.proofs.Common.{◌≡◌, take}
use Rattle.nd_view.proofs.rows.copy_rows.Given as goal

-- the rows so far
abbrev pub invariant-loop-row : goal.invariant-loop-row
invariant-loop-row g l = l.copied.items ≡ take l.row-index l.rows
