-- What a search may return.
use Rattle.std.specs.Prelude.{◌≡◌, ℕ, ◌-◌, ◌<◌, ◌≤◌, List, length, map, min, slice_get, All, Option, Some, None}
use Rattle.nd_time.specs.Limits.{max_workers}
use Rattle.nd_breaks.specs.Conditions.{ConditionValue}
use Rattle.nd_timeline.specs.Timeline.{TimelineValue}
use Rattle.nd_history.specs.Least.{HoldsAt, NoHit}
use Rattle.nd_history.specs.Pieces.{piece_count, piece_start}
use Rattle.nd_history.specs.Claims.{AreTheNumbersBelow}
use Rattle.nd_history.specs.declared.fault.SearchFault.{SearchFault}
use Rattle.nd_history.specs.declared.fault.SearchFault.TheVariants.{BadRange, NoWorkers, NoSuchPoint, Memory, Missing}

-- there are positions to search among the kept steps, and workers to search them
pub record MaySearch (kept lo hi workers : ℕ) : Type 0 where
  pub range : lo ≤ hi
  pub some : 0 < workers
  pub within : hi ≤ kept

-- why there is nothing to search
abbrev pub CannotSearch : {A : Type 0} → ℕ → ℕ → ℕ → ℕ → SearchFault A → Type 0
CannotSearch kept lo hi workers BadRange = hi < lo
CannotSearch kept lo hi workers NoWorkers = (lo ≤ hi) × (workers ≡ 0)
CannotSearch kept lo hi workers NoSuchPoint = (lo ≤ hi) × (0 < workers) × (kept < hi)
CannotSearch kept lo hi workers Memory = ⊥
CannotSearch kept lo hi workers (Missing piece claimed) = ⊥

-- which pieces were claimed: one list for each worker, together the numbers below some number, each once
pub record AreClaims (pieces workers : ℕ) (lists : List (List ℕ)) : Type 0 where
  pub started : length lists ≡ min workers max_workers
  pub count : ℕ
  pub few : count ≤ pieces
  pub once : AreTheNumbersBelow count lists

-- a worker's list ends with this piece: the worker stopped in it
pub record IsLastClaim (piece : ℕ) (lists : List (List ℕ)) : Type 0 where
  pub who : ℕ
  pub list : List ℕ
  pub there : slice_get lists who ≡ Some list
  pub last : slice_get list (length list - 1) ≡ Some piece

-- a piece is missing: a worker stopped in it, and the pieces before it were searched without a hit
pub record IsMissing {A : Type 0} (m : TimelineValue A) (c : ConditionValue) (lo hi workers piece : ℕ) (lists : List (List ℕ)) : Type 0 where
  pub one_of_them : piece < piece_count lo hi
  pub before : NoHit (HoldsAt m c) lo (piece_start lo piece)
  pub claims : AreClaims (piece_count lo hi) workers lists
  pub stopped : IsLastClaim piece lists

-- the gate was called for each piece in each worker's list, with the numbers of the worker and the piece
abbrev pub AreCalled : (ℕ → ℕ → Type 0) → List (List ℕ) → Type 0
AreCalled Called lists = (who : ℕ) (list : List ℕ) → slice_get lists who ≡ Some list → All (Called who) list

-- one of the workers called the gate for the piece
pub record IsCalled (Called : ℕ → ℕ → Type 0) (workers piece : ℕ) : Type 0 where
  pub who : ℕ
  pub started : who < min workers max_workers
  pub called : Called who piece

-- a piece begins at the hit or before it; if there is no hit, each piece does
abbrev pub BeginsBy : ℕ → Option ℕ → ℕ → Type 0
BeginsBy lo None piece = Unit {0}
BeginsBy lo (Some i) piece = piece_start lo piece ≤ i

-- the gate was called for each piece on which the result depends
abbrev pub AnswerIsCalled : (ℕ → ℕ → Type 0) → ℕ → ℕ → ℕ → Option ℕ → Type 0
AnswerIsCalled Called lo hi workers found = (piece : ℕ) → piece < piece_count lo hi → BeginsBy lo found piece → IsCalled Called workers piece

-- if a piece is missing, the gate was called for each piece that was claimed
abbrev pub FaultIsCalled : {A : Type 0} → (ℕ → ℕ → Type 0) → SearchFault A → Type 0
FaultIsCalled Called BadRange = Unit {0}
FaultIsCalled Called NoWorkers = Unit {0}
FaultIsCalled Called NoSuchPoint = Unit {0}
FaultIsCalled Called Memory = Unit {0}
FaultIsCalled Called (Missing piece claimed) = AreCalled Called (map (λ l. l.items) claimed.items)

-- why a search returns nothing
abbrev pub SearchFails : {A : Type 0} → TimelineValue A → ConditionValue → ℕ → ℕ → ℕ → SearchFault A → Type 0
SearchFails m c lo hi workers Memory = MaySearch (length m.kept) lo hi workers
SearchFails m c lo hi workers (Missing piece claimed) =
    MaySearch (length m.kept) lo hi workers × IsMissing m c lo hi workers piece (map (λ l. l.items) claimed.items)
SearchFails m c lo hi workers fault = CannotSearch (length m.kept) lo hi workers fault
