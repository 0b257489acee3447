use Rattle.std.proofs.Common.{◌≡◌, ◌<◌, ◌+◌, ◌^◌, ℕ, sum_by}
use Rattle.nd_processor.specs.State.{in_records}
use Rattle.nd_processor.specs.declared.key.ValueAt.{ValueAt}
use Rattle.nd_processor.proofs.processor.Processor.records_at.Given as goal

-- the total so far and the counts that are left
abbrev pub invariant-loop-count : goal.invariant-loop-count
invariant-loop-count g l = record {
  all : l.total + sum_by (λ (e : ValueAt × ℕ). e.1) l.count-iterator ≡ in_records l.self.records l.point;
  few : in_records l.self.records l.point < 2 ^ 120;
}
