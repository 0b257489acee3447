use Rattle.std.proofs.Common.{◌≡◌, ◌<◌, drop}
use Rattle.nd_summaries.specs.declared.shared.TheConstants.{BUCKETS}
use Rattle.nd_summaries.specs.Shared.{mixed}
use Rattle.nd_summaries.proofs.shared.mixed.Given as goal

-- the numbers that are left decide
abbrev pub invariant-loop-number : goal.invariant-loop-number
invariant-loop-number l = record { value : mixed l.bucket (drop l.number-index l.numbers) ≡ mixed l.start l.numbers; small : l.bucket < BUCKETS }
