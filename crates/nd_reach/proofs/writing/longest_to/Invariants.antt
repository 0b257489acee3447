use Rattle.std.proofs.Common.{◌≡◌, ◌<◌, length, drop}
use Rattle.nd_reach.specs.Forms.{longest, longest_of, newest_first, rows_newest}
use Rattle.nd_reach.proofs.writing.longest_to.Given as goal

abbrev pub invariant-loop-to : goal.invariant-loop-to
invariant-loop-to g l = record {
  there : l.longest < length l.cluster.processors;
  longest : longest_of (newest_first l.cluster l.from l.longest) (drop l.to (rows_newest l.cluster l.from)) ≡ longest (rows_newest l.cluster l.from);
}
