use Rattle.std.proofs.Common.{◌≡◌, ◌<◌, ◌≤◌, ℕ, Option, Some, None, slice_get, vec_len, vec_capacity}
use Rattle.nd_history.specs.Works.{AreOfWorkers, HasResultBy}
use Rattle.nd_history.specs.declared.work.Searched.{Searched}
use Rattle.nd_history.proofs.table.results.Given as goal

abbrev pub invariant-loop : goal.invariant-loop
invariant-loop g l = record {
  counted : vec_len l.results ≡ l.counter;
  room : l.pieces ≤ vec_capacity l.results;
  empty : (j : ℕ) (r : Option (Option ℕ)) → slice_get l.results.items j ≡ Some r → r ≡ None;
}

abbrev pub invariant-loop-searched : goal.invariant-loop-searched
invariant-loop-searched g l = record {
  counted : vec_len l.results ≡ l.pieces;
  told : AreOfWorkers l.works l.results.items;
  all_in : (j k : ℕ) (r : Option ℕ) (s : Searched g.row.A.Denot) → k < l.searched-index → slice_get l.works k ≡ Some s → HasResultBy s j r → slice_get l.results.items j ≡ Some None → ⊥;
}
