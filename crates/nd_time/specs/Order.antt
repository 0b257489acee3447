-- The two orders of timestamps. (Naiad, SOSP 2013, section 2.1, has the lexicographic one.)
use Rattle.std.specs.Prelude.{◌≡◌, ℕ, ◌≤◌, List, length}
use Rattle.std.specs.List.{AllZip}
use Rattle.nd_time.specs.declared.order.TimeOrder.{TimeOrder}
use Rattle.nd_time.specs.declared.order.TimeOrder.TheVariants.{Lexicographic, Product}
use Rattle.nd_time.specs.Time.{Time, IsLexicallyAtMost}

-- each number of xs is at most the one of ys at its place, and both lists have the same length
abbrev pub IsEachAtMost : List ℕ → List ℕ → Type 0
IsEachAtMost xs ys = AllZip (λ x y. x ≤ y) xs ys

-- the counters xs are at most ys by the order, for counters of the same depth
abbrev pub AreAtMost : TimeOrder → List ℕ → List ℕ → Type 0
AreAtMost Lexicographic xs ys = IsLexicallyAtMost xs ys
AreAtMost Product xs ys = IsEachAtMost xs ys

-- s is at or before t by the order: they have the same depth, and the epoch and the counters of s are at most those of t
pub record IsAtOrBeforeBy (order : TimeOrder) (s t : Time) : Type 0 where
  pub depth : length s.counters ≡ length t.counters
  pub epoch : s.epoch ≤ t.epoch
  pub counters : AreAtMost order s.counters t.counters

-- the same by the lexicographic order
abbrev pub IsAtOrBefore : Time → Time → Type 0
IsAtOrBefore s t = IsAtOrBeforeBy Lexicographic s t
