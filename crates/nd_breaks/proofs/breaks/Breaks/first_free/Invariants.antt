use Rattle.std.proofs.Common.{◌≢◌, ◌<◌, ℕ, None}
use Rattle.std.specs.FinMap as fin
use Rattle.nd_breaks.proofs.breaks.Breaks.first_free.Given as goal

abbrev pub invariant-loop-id : goal.invariant-loop-id
invariant-loop-id g l = (k : ℕ) → k < l.id → fin.get l.self k ≢ None
