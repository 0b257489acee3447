use Rattle.std.proofs.Common.{◌≡◌, ◌≤◌, length, vec_capacity}
use Rattle.nd_history.specs.Works.{AreGathered}
use Rattle.nd_history.proofs.team.gathered.Given as goal

abbrev pub invariant-loop-work : goal.invariant-loop-work
invariant-loop-work g l = record {
  table : l.ticket.table_id ≡ l.team.word.now.table_id;
  gathered : AreGathered l.team.pieces l.yielded l.ticket.me.0 l.list.items;
  room : length l.fn.works.items ≤ vec_capacity l.list;
}
