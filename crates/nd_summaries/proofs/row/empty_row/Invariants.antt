use Rattle.std.proofs.Common.{◌≡◌, vec_len, replicate, []}
use Rattle.nd_summaries.proofs.row.empty_row.Given as goal

abbrev pub invariant-loop-place : goal.invariant-loop-place
invariant-loop-place g l = record { items : l.row.items ≡ replicate l._place []; len : vec_len l.row ≡ l._place }
