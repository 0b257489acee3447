use Rattle.std.proofs.Common.{◌≡◌, ◌≤◌, length, map, vec_capacity}
use Rattle.nd_history.proofs.searches.claims.Given as goal

abbrev pub invariant-loop-searched : goal.invariant-loop-searched
invariant-loop-searched g l = record {
  each : l.lists.items ≡ map (λ s. s.claimed) l.yielded;
  room : length l.fn.works.items ≤ vec_capacity l.lists;
}
