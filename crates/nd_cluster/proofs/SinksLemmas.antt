-- Sums of what sinks counted.
use Rattle.std.proofs.Common.{◌≡◌, ◌≤◌, ℕ, ℤ, List, length, take, ap, ◌∙◌}
use Rattle.std.proofs.lemmas.List.{take_all}
use Rattle.nd_processor.specs.State.{ProcessorState}
use Rattle.nd_cluster.specs.Sinks.{sunk}

-- the sum over all processors
pub sunk_all : (n : ℕ) (qs : List ProcessorState) (vertex : ℕ) (value : ℤ) (total : ℕ) → length qs ≤ n → total ≡ sunk (take n qs) vertex value → total ≡ sunk qs vertex value
sunk_all n qs vertex value total past is = is ∙ ap (λ rs. sunk rs vertex value) (take_all n qs past)

pub sunk_of : (qs rs : List ProcessorState) (vertex : ℕ) (value : ℤ) (total : ℕ) → qs ≡ rs → total ≡ sunk qs vertex value → total ≡ sunk rs vertex value
sunk_of qs rs vertex value total same is = is ∙ ap (λ ps. sunk ps vertex value) same
