-- What is outstanding at a pointstamp is below a bound, if the numbers are within their limits.
use Rattle.std.proofs.Common.{◌≡◌, ℕ, zero, suc, ◌+◌, ◌*◌, ◌^◌, ◌<◌, ◌≤◌, ℤ, pos, negsuc, ◌+ℤ◌, ◌≤ℤ◌, ◌<ℤ◌, List, [], ◌∷◌, length, get_or, sym, subst, arith}
use Rattle.std.proofs.lemmas.Int.{ints}
use Rattle.std.specs.Prelude.{All, unsigned_abs}
use Rattle.nd_time.specs.Limits.{max_count, max_queue, max_processors}
use Rattle.nd_paths.specs.declared.point.Pointstamp.{Pointstamp}
use Rattle.nd_delta.specs.Delta.{DeltaValue, none, at, at-none, at-plus}
use Rattle.nd_processor.specs.State.{idle}
use Rattle.nd_protocol.specs.State.{ClusterState, processor, view, queue, truth}
use Rattle.nd_protocol.specs.Fitting.{DeltaIsWithin, QueueIsWithin, IsState}
use Rattle.nd_protocol.specs.Invariant.{sum_of, pending, total, IsSettled}

at_most : (z : ℤ) (m : ℕ) → unsigned_abs z ≤ m → z ≤ℤ pos m
at_most (pos n) m h = omega (arith, ints)
at_most (negsuc n) m h = omega (arith, ints)

sum_most : (cs : List DeltaValue) (x : Pointstamp) → All DeltaIsWithin cs → at (sum_of cs) x ≤ℤ pos (length cs * max_count)
sum_most [] x within = let nothing = at-none x in omega (arith, ints)
sum_most (c ∷ cs) x within =
    let sum = at-plus c (sum_of cs) x in
    let first : at c x ≤ℤ pos max_count = at_most (at c x) max_count (within 0 c (omega arith) x) in
    let rest : at (sum_of cs) x ≤ℤ pos (length cs * max_count) = sum_most cs x (λ k d lt. within (suc k) d (omega arith)) in
    omega (arith, ints)

total_most : (n m : ℕ) (f : ℕ → ℤ) → ((p : ℕ) → p < n → f p ≤ℤ pos m) → total n f ≤ℤ pos (n * m)
total_most zero m f each = omega (arith, ints)
total_most (suc n) m f each =
    let rest : total n f ≤ℤ pos (n * m) = total_most n m f (λ p lt. each p (omega arith)) in
    let here : f n ≤ℤ pos m = each n (omega arith) in
    let more : suc n * m ≡ n * m + m = omega arith in
    omega (arith, ints)

pending_most : (s : ClusterState) → IsState s → (p : ℕ) → p < length s.processors → (x : Pointstamp) → at (pending s p 0 0) x ≤ℤ pos (65537 * max_count)
pending_most s state p lt x =
    let sender : p < length s.queues = subst (λ n. p < n) (sym state.fits.each_sender) lt in
    let receiver : 0 < length (get_or s.queues p []) = subst (λ n. 0 < n) (sym (state.fits.each_receiver p [] sender)) state.within.some in
    let limits : QueueIsWithin (queue s p 0) = state.within.queues p [] sender 0 [] receiver in
    let few : length (queue s p 0) ≤ max_queue = limits.few in
    let sent : at (sum_of (queue s p 0)) x ≤ℤ pos (length (queue s p 0) * max_count) = sum_most (queue s p 0) x limits.entries in
    let unsent : at (processor s p).unsent x ≤ℤ pos max_count = at_most (at (processor s p).unsent x) max_count ((state.within.processors p idle lt).unsent x) in
    let sum : at (pending s p 0 0) x ≡ at (sum_of (queue s p 0)) x +ℤ at (processor s p).unsent x = at-plus (sum_of (queue s p 0)) (processor s p).unsent x in
    omega (arith, ints)

pub truth_small : (s : ClusterState) → IsState s → IsSettled s → (x : Pointstamp) → at (truth s.processors) x <ℤ pos (2 ^ 63)
truth_small s state settled x =
    let first : 0 < length s.processors = state.within.some in
    let few : length s.processors ≤ max_processors = state.within.few in
    let known : at (view s 0) x ≤ℤ pos max_count = at_most (at (view s 0) x) max_count (state.within.views 0 none (subst (λ n. 0 < n) (sym state.fits.each_view) first) x) in
    let rest : total (length s.processors) (λ p. at (pending s p 0 0) x) ≤ℤ pos (length s.processors * (65537 * max_count))
    = total_most (length s.processors) (65537 * max_count) (λ p. at (pending s p 0 0) x) (λ p lt. pending_most s state p lt x) in
    let sum : at (truth s.processors) x ≡ at (view s 0) x +ℤ total (length s.processors) (λ p. at (pending s p 0 0) x) = settled.balance 0 first x in
    omega (arith, ints)
