-- The queues of a cluster as lists: for each sender the list of its queues, one per receiver; each queue is a list of changes
-- from front to back.
use Rattle.std.specs.Prelude.{◌≡◌, ℕ, ◌<◌, ◌≤◌, ◌-◌, zero, suc, List, [], ◌∷◌, ◌++◌, length, map, take, drop, sum_by, slice_index_or, slice_set}
use Rattle.std.specs.List.{All}
use Rattle.nd_time.specs.Limits.{max_queue}
use Rattle.nd_delta.specs.Delta.{DeltaValue}

-- ---- one queue

-- the queue with a change appended at the back
abbrev pub appended : DeltaValue → List DeltaValue → List DeltaValue
appended c q = q ++ c ∷ []

-- the queue without its newest change, which is at the back
abbrev pub without_newest : List DeltaValue → List DeltaValue
without_newest q = take (length q - 1) q

-- the queue without its oldest change, which is at the front
abbrev pub without_oldest : List DeltaValue → List DeltaValue
without_oldest q = drop 1 q

-- the queue contains as many changes as the limit allows
abbrev pub IsFull : List DeltaValue → Type 0
IsFull q = max_queue ≤ length q

-- the queue has no changes
abbrev pub IsVacant : List DeltaValue → Type 0
IsVacant q = q ≡ []

-- ---- all queues

-- the queues from a processor
abbrev pub row : List (List (List DeltaValue)) → ℕ → List (List DeltaValue)
row m from = slice_index_or m from []

-- the queue from one processor to another
abbrev pub queue : List (List (List DeltaValue)) → ℕ → ℕ → List DeltaValue
queue m from to = slice_index_or (row m from) to []

-- the queues with q as the queue from one processor to another
abbrev pub with_queue : List (List (List DeltaValue)) → ℕ → ℕ → List DeltaValue → List (List (List DeltaValue))
with_queue m from to q = slice_set m from (slice_set (row m from) to q)

-- the queues with a change appended to each queue from a processor
abbrev pub pushed : List (List (List DeltaValue)) → ℕ → DeltaValue → List (List (List DeltaValue))
pushed m from c = slice_set m from (map (appended c) (row m from))

-- the queues without the newest change of each queue from a processor
abbrev pub unpushed : List (List (List DeltaValue)) → ℕ → List (List (List DeltaValue))
unpushed m from = slice_set m from (map without_newest (row m from))

-- the queues without the oldest change of one queue
abbrev pub popped : List (List (List DeltaValue)) → ℕ → ℕ → List (List (List DeltaValue))
popped m from to = with_queue m from to (without_oldest (queue m from to))

-- the queues with a change inserted at the front of one queue
abbrev pub unpopped : List (List (List DeltaValue)) → ℕ → ℕ → DeltaValue → List (List (List DeltaValue))
unpopped m from to c = with_queue m from to (c ∷ queue m from to)

-- one of the queues satisfies P
abbrev pub HasQueue : (List DeltaValue → Type 0) → List (List DeltaValue) → Type 0
HasQueue P queues = (to : ℕ) × (to < length queues) × P (slice_index_or queues to [])

-- all queues are empty
abbrev pub AreVacant : List (List (List DeltaValue)) → Type 0
AreVacant m = (from to : ℕ) → IsVacant (queue m from to)

-- the number of changes in all queues
abbrev pub queued : List (List (List DeltaValue)) → ℕ
queued m = sum_by (sum_by length) m

-- from each processor there is one queue per processor, and no queue exceeds its limit
pub record IsMesh (m : List (List (List DeltaValue))) : Type 0 where
  pub square : All (λ queues. length queues ≡ length m) m
  pub within : All (λ queues. All (λ q. length q ≤ max_queue) queues) m

-- a mesh with this number of changes in all queues
pub record IsCounted (waiting : ℕ) (m : List (List (List DeltaValue))) : Type 0 where
  pub mesh : IsMesh m
  pub count : waiting ≡ queued m

-- ---- a part of a row

-- f applied to the first k elements; the others stay as they are
abbrev pub first_mapped : {X : Type 0} → (X → X) → ℕ → List X → List X
first_mapped f zero xs = xs
first_mapped f (suc k) [] = []
first_mapped f (suc k) (x ∷ xs) = f x ∷ first_mapped f k xs
