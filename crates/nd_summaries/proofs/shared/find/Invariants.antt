use Rattle.std.proofs.Common.{◌≡◌, take}
use Rattle.std.specs.Prelude.{All}
use Rattle.nd_summaries.specs.Shared.{named}
use Rattle.nd_summaries.proofs.shared.find.Given as goal

-- none of the numbers so far names the list
abbrev pub invariant-loop-number : goal.invariant-loop-number
invariant-loop-number g l = All (λ n. named l.lists n ≡ l.list → ⊥) (take l.number-index l.numbers)
