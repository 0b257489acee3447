-- The rule of the claim word.
use Rattle.std.specs.Prelude.{◌≡◌, ℕ, ◌+◌, ◌-◌, ◌^◌, ◌<◌, List, [], ◌∷◌, ◌++◌, length, slice_index}
use Rattle.atomic_table.specs.Seated.{TableId}
use Rattle.nd_history.specs.declared.hand.Hand.{Hand}
use Rattle.nd_history.specs.Claims.{times, once_below}

-- a seat's hand: the allowance of each worker, what is left of the seat's own, and the numbers that the seat
-- has drawn
abbrev pub hand : ℕ → ℕ → List ℕ → Hand
hand each allowance drawn = record { each = each; allowance = allowance; drawn = drawn }

-- a hand that has drawn one more number
abbrev pub drew : Hand → ℕ → Hand
drew v n = hand v.each (v.allowance - 1) (v.drawn ++ n ∷ [])

-- a hand that has given away a worker's share of its allowance
abbrev pub dealt : Hand → Hand
dealt v = hand v.each (v.allowance - v.each) v.drawn

-- the share that it gave away
abbrev pub share_of : Hand → Hand
share_of v = hand v.each v.each []

-- two hands joined
abbrev pub joined : Hand → Hand → Hand
joined v w = hand v.each (v.allowance + w.allowance) (v.drawn ++ w.drawn)

-- the sum of a function over hands
abbrev pub total : (Hand → ℕ) → List Hand → ℕ
total f [] = 0
total f (v ∷ vs) = f v + total f vs

abbrev pub allowance_of : Hand → ℕ
allowance_of v = v.allowance

-- what a hand was given: what is left of it and what was drawn
abbrev pub weight_of : Hand → ℕ
weight_of v = v.allowance + length v.drawn

abbrev pub times_in : ℕ → Hand → ℕ
times_in x v = times x v.drawn

-- the table is one claim word, and has no slots
pub record IsOneWord (table : TableId) : Type 0 where
  pub words : table.words ≡ 1
  pub slots : table.slots ≡ 0

-- the hands' lists are together the numbers below the word, each once; the word and the hands' allowances add
-- up to what was given, so the word never wraps
pub record IsClaimed (all : ℕ) (words : List ℕ) (views : List Hand) : Type 0 where
  pub one_word : words ≡ slice_index words 0 ∷ []
  pub allowed : slice_index words 0 + total allowance_of views ≡ all
  pub weighed : total weight_of views ≡ all
  pub drawn : (x : ℕ) → total (times_in x) views ≡ once_below x (slice_index words 0)
  pub fits : all < 2 ^ 64
