use Rattle.std.proofs.Common.{◌≡◌, replicate, []}
use Rattle.nd_summaries.proofs.shared.Shared.new.Given as goal

abbrev pub invariant-loop-bucket : goal.invariant-loop-bucket
invariant-loop-bucket g l = l.buckets.items ≡ replicate l._bucket []
