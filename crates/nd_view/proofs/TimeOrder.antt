-- The orders of times, and the order in which they are listed.
use Rattle.std.proofs.Common.{Ordering, Less, Equal, Greater, false, true≢false, ◌≡◌, ◌≤◌, ℕ, List, [], ◌∷◌, length, IsTrue, refl, sym, ◌∙◌, inl, arith}
use Rattle.std.specs.Ordering.{nat_cmp, is_le, is_gt, ordering_then, ordering_reverse}
use Rattle.std.specs.Cmp.Lexicographic.{slice_cmp}
use Rattle.std.proofs.lemmas.Cmp.{nat_list_cmp_total, ranked, upto}
use Rattle.std.proofs.lemmas.Map.Lookups.{exact_bytes}
use Rattle.nd_time.specs.Time.{Time}
use Rattle.nd_time.specs.Order.{AreAtMost, IsAtOrBeforeBy, IsEachAtMost}
use Rattle.nd_time.specs.declared.order.TimeOrder.{TimeOrder}
use Rattle.nd_time.specs.declared.order.TimeOrder.TheVariants.{Lexicographic, Product}
use Rattle.nd_time.specs.Lexical.{at_most, compares}
use Rattle.nd_time.specs.Listing.{time_cmp}

-- one list of counters is at most another
abbrev IsUpTo : List ℕ → List ℕ → Type 0
IsUpTo xs ys = is_gt (slice_cmp nat_cmp xs ys) ≡ false

not_greater : (o : Ordering) → IsTrue (is_le o) → is_gt o ≡ false
not_greater Less h = refl
not_greater Equal h = refl
not_greater Greater h = absurd (true≢false (sym h))

less_or_equal : (o : Ordering) → is_gt o ≡ false → IsTrue (is_le o)
less_or_equal Less h = refl
less_or_equal Equal h = refl
less_or_equal Greater h = absurd (true≢false h)

-- ---- counters, by either order

then_up_to : (x y : ℕ) (o r : Ordering) → o ≡ nat_cmp x y → x ≤ y → is_gt r ≡ false → is_gt (ordering_then o r) ≡ false
then_up_to x y Less r e le h = refl
then_up_to x y Equal r e le h = h
then_up_to x y Greater r e le h = let g = ranked x y Greater e in absurd (omega arith)

each_up_to : (xs ys : List ℕ) → IsEachAtMost xs ys → IsUpTo xs ys
each_up_to [] [] h = refl
each_up_to [] (y ∷ ys) h = absurd h
each_up_to (x ∷ xs) [] h = absurd h
each_up_to (x ∷ xs) (y ∷ ys) h = then_up_to x y (nat_cmp x y) (slice_cmp nat_cmp xs ys) refl h.0 (each_up_to xs ys h.1)

counters_up_to : (order : TimeOrder) (xs ys : List ℕ) → AreAtMost order xs ys → IsUpTo xs ys
counters_up_to Lexicographic xs ys h = not_greater (slice_cmp nat_cmp xs ys) (compares xs ys h)
counters_up_to Product xs ys h = each_up_to xs ys h

each_itself : (xs : List ℕ) → IsEachAtMost xs xs
each_itself [] = tt
each_itself (x ∷ xs) = (omega arith, each_itself xs)

counters_itself : (order : TimeOrder) (xs : List ℕ) → AreAtMost order xs xs
counters_itself Lexicographic xs = inl refl
counters_itself Product xs = each_itself xs

each_through : (xs ys zs : List ℕ) → IsEachAtMost xs ys → IsEachAtMost ys zs → IsEachAtMost xs zs
each_through [] [] [] h k = tt
each_through [] [] (z ∷ zs) h k = absurd k
each_through [] (y ∷ ys) zs h k = absurd h
each_through (x ∷ xs) [] zs h k = absurd h
each_through (x ∷ xs) (y ∷ ys) [] h k = absurd k
each_through (x ∷ xs) (y ∷ ys) (z ∷ zs) h k = (omega (arith, h.0, k.0), each_through xs ys zs h.1 k.1)

counters_through : (order : TimeOrder) (xs ys zs : List ℕ) → length xs ≡ length zs → AreAtMost order xs ys → AreAtMost order ys zs → AreAtMost order xs zs
counters_through Lexicographic xs ys zs depth h k =
    at_most xs zs depth (less_or_equal (slice_cmp nat_cmp xs zs) (upto nat_list_cmp_total xs ys zs (counters_up_to Lexicographic xs ys h) (counters_up_to Lexicographic ys zs k)))
counters_through Product xs ys zs depth h k = each_through xs ys zs h k

-- ---- times, by either order

up_to : (order : TimeOrder) (s t : Time) → IsAtOrBeforeBy order s t → IsUpTo s.counters t.counters
up_to order s t h = counters_up_to order s.counters t.counters h.counters

pub before_itself : (order : TimeOrder) (t : Time) → IsAtOrBeforeBy order t t
before_itself order t = record { depth = refl; epoch = omega arith; counters = counters_itself order t.counters }

pub before_through : (order : TimeOrder) (s t u : Time) → IsAtOrBeforeBy order s t → IsAtOrBeforeBy order t u → IsAtOrBeforeBy order s u
before_through order s t u h k = record {
  depth = h.depth ∙ k.depth;
  epoch = omega (arith, h.epoch, k.epoch);
  counters = counters_through order s.counters t.counters u.counters (h.depth ∙ k.depth) h.counters k.counters;
}

-- of two orderings, one is the reverse of the other
tied : (o r : Ordering) → o ≡ ordering_reverse r → is_gt o ≡ false → is_gt r ≡ false → o ≡ Equal
tied Equal r e h k = refl
tied Greater r e h k = absurd (true≢false h)
tied Less Less e h k = absurd (cc (e))
tied Less Equal e h k = absurd (cc (e))
tied Less Greater e h k = absurd (true≢false k)

pub before_both : (order : TimeOrder) (s t : Time) → IsAtOrBeforeBy order s t → IsAtOrBeforeBy order t s → s ≡ t
before_both order s t h k =
    let epochs : s.epoch ≡ t.epoch = omega (arith, h.epoch, k.epoch) in
    let counters : s.counters ≡ t.counters = exact_bytes s.counters t.counters (tied _ _ (nat_list_cmp_total.antisymm s.counters t.counters) (up_to order s t h) (up_to order t s k)) in
    λ i. record { epoch = epochs i; counters = counters i }

-- ---- the order of listing

-- a time that is at or before another is listed no later
pub listed_before : (order : TimeOrder) (s t : Time) → IsAtOrBeforeBy order s t → is_gt (time_cmp s t) ≡ false
listed_before order s t h = then_up_to s.epoch t.epoch (nat_cmp s.epoch t.epoch) (slice_cmp nat_cmp s.counters t.counters) refl h.epoch (up_to order s t h)
