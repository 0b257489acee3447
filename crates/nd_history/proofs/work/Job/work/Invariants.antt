use Rattle.std.proofs.Common.{◌≡◌, ◌+◌, ◌-◌, ◌<◌, [], All, length, vec_len, vec_capacity}
use Rattle.nd_timeline.specs.Walks.{IsOn}
use Rattle.nd_history.specs.Least.{HoldsAt}
use Rattle.nd_history.specs.Hands.{hand}
use Rattle.nd_history.specs.Works.{IsSearched}
use Rattle.nd_history.proofs.work.Job.work.Given as goal

abbrev pub invariant-loop : goal.invariant-loop
invariant-loop g l = record {
  table : l.ticket.table_id ≡ l.team.word.now.table_id;
  me : l.ticket.me ≡ (hand (l.team.pieces + 1) (l.team.pieces + 1 - l.counter) l.searched.claimed.items, []);
  counted : vec_len l.searched.claimed ≡ l.counter;
  even : length l.searched.found.items ≡ length l.searched.claimed.items;
  below : All (λ x. x < l.team.pieces) l.searched.claimed.items;
  claimed_room : l.team.pieces < vec_capacity l.searched.claimed;
  found_room : l.team.pieces < vec_capacity l.searched.found;
  on : IsOn l.team.scan.now.timeline.now l.walk;
  called : All (g.G.Gate.called l.team.scan.now.gate.now l.fn.self.number) l.searched.claimed.items;
  right : IsSearched (HoldsAt l.team.scan.now.timeline.now l.team.scan.now.condition.now) l.team.scan.now.positions.lo l.team.scan.now.positions.hi l.searched;
}
