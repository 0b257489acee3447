use Rattle.std.proofs.Common.{◌≡◌, ◌<◌, drop}
use Rattle.nd_summaries.specs.declared.shared.TheConstants.{BUCKETS}
use Rattle.nd_summaries.specs.Shared.{mixed_all, bucket_of}
use Rattle.nd_summaries.proofs.shared.bucket_for.Given as goal

-- the summaries that are left decide
abbrev pub invariant-loop-summary : goal.invariant-loop-summary
invariant-loop-summary l = record { value : mixed_all l.bucket (drop l.summary-index l.list) ≡ bucket_of l.list; small : l.bucket < BUCKETS }
