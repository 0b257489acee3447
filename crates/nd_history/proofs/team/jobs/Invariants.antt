use Rattle.std.proofs.Common.{◌≡◌, ◌+◌, ◌-◌, ◌*◌, ◌≤◌, [], All, vec_len, vec_capacity}
use Rattle.nd_history.specs.Hands.{hand}
use Rattle.nd_history.specs.Works.{IsReady, AreNumbered}
use Rattle.nd_history.proofs.team.jobs.Given as goal

abbrev pub invariant-loop-number : goal.invariant-loop-number
invariant-loop-number g l = record {
  table : l.ticket.table_id ≡ l.team.word.now.table_id;
  me : l.ticket.me ≡ (hand (l.team.pieces + 1) ((l.workers - l.number) * (l.team.pieces + 1)) [], []);
  counted : vec_len l.jobs ≡ l.number;
  room : l.workers ≤ vec_capacity l.jobs;
  numbered : AreNumbered l.jobs.items;
  ready : All (IsReady l.team) l.jobs.items;
}
