use Rattle.std.proofs.Common.{◌≡◌, ◌<◌, ◌⊎◌, ℕ, Option, Some, None, length, slice_get}
use Rattle.nd_history.specs.Works.{HasResultBy}
use Rattle.nd_history.proofs.table.put.Given as goal

abbrev pub invariant-loop-k : goal.invariant-loop-k
invariant-loop-k g l = record {
  len : length l.results ≡ length l.fn.results;
  told : (j : ℕ) (r : Option ℕ) → slice_get l.results j ≡ Some (Some r) → (slice_get l.fn.results j ≡ Some (Some r)) ⊎ HasResultBy l.searched j r;
  was_empty : (j : ℕ) → slice_get l.results j ≡ Some None → slice_get l.fn.results j ≡ Some None;
  all_in : (j k : ℕ) → k < l.k → slice_get l.searched.claimed.items k ≡ Some j → slice_get l.results j ≡ Some None → ⊥;
}
