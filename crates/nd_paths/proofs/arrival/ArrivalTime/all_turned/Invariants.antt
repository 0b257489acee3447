use Rattle.std.proofs.Common.{◌≡◌, map, take}
use Rattle.nd_paths.specs.Arrival.{turned}
use Rattle.nd_paths.proofs.arrival.ArrivalTime.all_turned.Given as goal

abbrev pub invariant-loop-summary : goal.invariant-loop-summary
invariant-loop-summary g l = l.times.items ≡ map (λ u. turned u l.time) (take l.summary-index l.summaries)
