use Rattle.std.proofs.Common.{◌≡◌, ◌≤◌}
use Rattle.nd_steps.specs.Changes.{state_at}
use Rattle.nd_steps.proofs.run.make_all.Given as goal

-- the state after the changes so far
abbrev pub invariant-loop-i : goal.invariant-loop-i
invariant-loop-i g l = l.parts ≡ state_at l.fn.parts (g.C.Listing.listed l.changes) l.i

-- the same, back to the first
abbrev pub invariant-loop-j : goal.invariant-loop-j
invariant-loop-j g l = record {
  now : l.parts ≡ state_at l.fn.parts (g.C.Listing.listed l.changes) l.j;
  before : l.j ≤ l.i;
}
