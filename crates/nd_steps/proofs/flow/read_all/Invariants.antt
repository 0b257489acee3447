use Rattle.nd_steps.specs.Keyed.{taken_in}
use Rattle.nd_steps.proofs.TurnsLemmas.{AreRead, IsSeenFirst}
use Rattle.nd_steps.proofs.flow.read_all.Given as goal

-- the first changes are read, and what the very first leaves is known
abbrev pub invariant-loop-i : goal.invariant-loop-i
invariant-loop-i g l = record {
  read : AreRead l.processors (taken_in l.changes) l.i l.counts_stay l.entries_stay;
  seen : IsSeenFirst l.processors (taken_in l.changes) l.i l.first;
}
