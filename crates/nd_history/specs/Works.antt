-- What a worker is given, what it does, and the table of all results. Only private contracts use these definitions.
use Rattle.std.specs.Prelude.{◌≡◌, ℕ, ◌+◌, ◌*◌, ◌<◌, ◌≤◌, ◌⊎◌, List, [], ◌∷◌, ◌++◌, length, map, All, Option, Some, None, slice_get, vec_capacity, nat_lt, cond}
use Rattle.atomic_table.specs.Seated.{TableId}
use Rattle.nd_timeline.specs.Walks.{IsOn}
use Rattle.nd_history.specs.Least.{HoldsAt, IsLeast}
use Rattle.nd_history.specs.Pieces.{IsRange, piece_count, piece_start, piece_end}
use Rattle.nd_history.specs.Claims.{times, times_all, AreTheNumbersBelow}
use Rattle.nd_history.specs.Hands.{hand}
use Rattle.nd_history.specs.Answers.{AreClaims, AreCalled}
use Rattle.nd_history.specs.declared.hand.Hand.{Hand}
use Rattle.nd_history.specs.declared.work.Job.{Job}
use Rattle.nd_history.specs.declared.work.Work.{Work}
use Rattle.nd_history.specs.declared.work.Searched.{Searched}
use Rattle.nd_history.specs.declared.work.Team.{Team}

-- ---- results

-- a result of piece j is right: the least hit in it, or none
abbrev pub IsResult : (ℕ → Type 0) → ℕ → ℕ → ℕ → Option ℕ → Type 0
IsResult Hit lo hi j r = IsLeast Hit (piece_start lo j) (piece_end lo hi j) r

-- each result is that of the piece claimed at the same index
pub record AreFound (Hit : ℕ → Type 0) (lo hi : ℕ) (claimed : List ℕ) (found : List (Option ℕ)) : Type 0 where
  pub within : length found ≤ length claimed
  pub results : (k : ℕ) → k < length found → (j : ℕ) (r : Option ℕ) → slice_get claimed k ≡ Some j → slice_get found k ≡ Some r → IsResult Hit lo hi j r

abbrev pub IsSearched : {A : Type 0} → (ℕ → Type 0) → ℕ → ℕ → Searched A → Type 0
IsSearched Hit lo hi s = AreFound Hit lo hi s.claimed.items s.found.items

-- the worker has this result of piece j
pub record HasResultBy {A : Type 0} (s : Searched A) (j : ℕ) (r : Option ℕ) : Type 0 where
  pub place : ℕ
  pub piece : slice_get s.claimed.items place ≡ Some j
  pub result : slice_get s.found.items place ≡ Some r

-- the worker has no more results than claimed pieces
abbrev pub IsEven : {A : Type 0} → Searched A → Type 0
IsEven s = length s.found.items ≤ length s.claimed.items

-- the worker has a result of each claimed piece
abbrev pub IsComplete : {A : Type 0} → Searched A → Type 0
IsComplete s = length s.found.items ≡ length s.claimed.items

-- the worker has a result of each claimed piece except the last, in which an allocation failed
abbrev pub IsCutOff : {A : Type 0} → Searched A → Type 0
IsCutOff s = length s.claimed.items ≡ length s.found.items + 1

-- ---- workers

-- the positions at which the condition that a team searches for holds
abbrev pub hits_of : {A G : Type 0} → Team A G → ℕ → Type 0
hits_of team = HoldsAt team.scan.now.timeline.now team.scan.now.condition.now

-- what all workers share: a range of positions, the number of its pieces, and a claim word
pub record IsTeam {A G : Type 0} (team : Team A G) : Type 0 where
  pub range : IsRange team.scan.now.positions.lo team.scan.now.positions.hi
  pub count : team.pieces ≡ piece_count team.scan.now.positions.lo team.scan.now.positions.hi
  pub word : 0 < team.word.now.table_id.words

-- no claims and no results yet, and capacity for all pieces
pub record IsEmpty {A : Type 0} (pieces : ℕ) (s : Searched A) : Type 0 where
  pub nothing_claimed : s.claimed.items ≡ []
  pub nothing_found : s.found.items ≡ []
  pub claimed_room : pieces < vec_capacity s.claimed
  pub found_room : pieces < vec_capacity s.found

-- a walk over the timeline, a seat that may draw each piece and one more number, and memory for the results
pub record IsReady {A G : Type 0} (team : Team A G) (job : Job A) : Type 0 where
  pub on : IsOn team.scan.now.timeline.now job.walk
  pub table_is : job.ticket.table_id ≡ team.word.now.table_id
  pub me_is : job.ticket.me ≡ (hand (team.pieces + 1) (team.pieces + 1) [], [])
  pub empty : IsEmpty team.pieces job.searched

-- each job has its index as its number
abbrev pub AreNumbered : {A : Type 0} → List (Job A) → Type 0
AreNumbered jobs = (i : ℕ) (job : Job _) → slice_get jobs i ≡ Some job → job.number ≡ i

-- what was drawn are the claimed pieces, and then numbers that are no pieces
pub record HasDrawn {A : Type 0} (table : TableId) (pieces : ℕ) (work : Work A) : Type 0 where
  pub table_is : work.ticket.table_id ≡ table
  pub no_slots : work.ticket.me.1 ≡ []
  pub weight : work.ticket.me.0.allowance + length work.ticket.me.0.drawn ≡ pieces + 1
  pub below : All (λ x. x < pieces) work.searched.claimed.items
  pub over : List ℕ
  pub above : All (λ x. pieces ≤ x) over
  pub drawn : work.ticket.me.0.drawn ≡ work.searched.claimed.items ++ over

-- a number that is no piece was drawn
pub record HasNoPiece (pieces : ℕ) (drawn : List ℕ) : Type 0 where
  pub number : ℕ
  pub no_piece : pieces ≤ number
  pub there : 0 < times number drawn

-- no piece is left: a number that is no piece was drawn, or more numbers than there are pieces
abbrev pub NoneIsLeft : ℕ → List ℕ → Type 0
NoneIsLeft pieces drawn = HasNoPiece pieces drawn ⊎ (pieces < length drawn)

-- a worker stops if an allocation fails in a piece, or if it has all its results and no piece is left
abbrev pub HasStopped : {A : Type 0} → ℕ → Work A → Type 0
HasStopped pieces work = IsCutOff work.searched ⊎ (IsComplete work.searched × NoneIsLeft pieces work.ticket.me.0.drawn)

-- a worker's work: what it drew and found, where it stopped, and that it called the gate for each piece that it
-- claimed
pub record IsWork {A G : Type 0} (team : Team A G) (Called : ℕ → Type 0) (work : Work A) : Type 0 where
  pub drawn : HasDrawn team.word.now.table_id team.pieces work
  pub searched : IsSearched (hits_of team) team.scan.now.positions.lo team.scan.now.positions.hi work.searched
  pub stopped : HasStopped team.pieces work
  pub called : All Called work.searched.claimed.items

-- what all workers drew, one worker after the other
abbrev pub all_drawn : {A : Type 0} → List (Work A) → List ℕ
all_drawn [] = []
all_drawn (w ∷ ws) = w.ticket.me.0.drawn ++ all_drawn ws

-- the hand that joined all others has drawn what all workers drew; of that, the pieces are what they claimed
pub record AreGathered {A : Type 0} (pieces : ℕ) (works : List (Work A)) (all : Hand) (list : List (Searched A)) : Type 0 where
  pub weight : all.allowance + length all.drawn ≡ length works * (pieces + 1)
  pub drawn : all.drawn ≡ all_drawn works
  pub each : list ≡ map (λ w. w.searched) works
  pub claimed : (x : ℕ) → times_all x (map (λ s. s.claimed.items) list) ≡ cond (nat_lt x pieces) (times x all.drawn) 0

-- each worker was cut off or has all its results; and all were cut off, or each piece was claimed
pub record HaveStopped {A : Type 0} (pieces : ℕ) (works : List (Searched A)) : Type 0 where
  pub each : All (λ s. IsCutOff s ⊎ IsComplete s) works
  pub all : All IsCutOff works ⊎ AreTheNumbersBelow pieces (map (λ s. s.claimed.items) works)

-- the work of all workers of a search: what they found and claimed, where they stopped, and for what they
-- called the gate
pub record AreSearched {A : Type 0} (Hit : ℕ → Type 0) (Called : ℕ → ℕ → Type 0) (lo hi workers : ℕ) (works : List (Searched A)) : Type 0 where
  pub found : All (IsSearched Hit lo hi) works
  pub claims : AreClaims (piece_count lo hi) workers (map (λ s. s.claimed.items) works)
  pub stopped : HaveStopped (piece_count lo hi) works
  pub called : AreCalled Called (map (λ s. s.claimed.items) works)

-- ---- the table of results, by piece

-- some worker has this result of piece j
pub record HasResult {A : Type 0} (works : List (Searched A)) (j : ℕ) (r : Option ℕ) : Type 0 where
  pub who : ℕ
  pub work : Searched A
  pub there : slice_get works who ≡ Some work
  pub by : HasResultBy work j r

-- each result in the new table was in the old one, or the worker has it
abbrev pub AreOldOrOf : {A : Type 0} → Searched A → List (Option (Option ℕ)) → List (Option (Option ℕ)) → Type 0
AreOldOrOf s old new = (j : ℕ) (r : Option ℕ) → slice_get new j ≡ Some (Some r) → (slice_get old j ≡ Some (Some r)) ⊎ HasResultBy s j r

-- a piece without a result in the new table had none in the old one
abbrev pub WereEmpty : List (Option (Option ℕ)) → List (Option (Option ℕ)) → Type 0
WereEmpty old new = (j : ℕ) → slice_get new j ≡ Some None → slice_get old j ≡ Some None

-- each piece of which the worker has a result has one in the table
abbrev pub AreInBy : {A : Type 0} → Searched A → List (Option (Option ℕ)) → Type 0
AreInBy s rs = (j : ℕ) (r : Option ℕ) → HasResultBy s j r → slice_get rs j ≡ Some None → ⊥

-- each result in the table is one that a worker has
abbrev pub AreOfWorkers : {A : Type 0} → List (Searched A) → List (Option (Option ℕ)) → Type 0
AreOfWorkers works rs = (j : ℕ) (r : Option ℕ) → slice_get rs j ≡ Some (Some r) → HasResult works j r

-- each piece of which some worker has a result has one in the table
abbrev pub AreIn : {A : Type 0} → List (Searched A) → List (Option (Option ℕ)) → Type 0
AreIn works rs = (j : ℕ) (r : Option ℕ) → HasResult works j r → slice_get rs j ≡ Some None → ⊥

-- the pieces before j have results, and no hits
abbrev pub NoneBefore : List (Option (Option ℕ)) → ℕ → Type 0
NoneBefore rs j = (k : ℕ) → k < j → slice_get rs k ≡ Some (Some None)

-- the first piece with a hit; the pieces before it have results without hits
pub record IsFirstHit (rs : List (Option (Option ℕ))) (i : ℕ) : Type 0 where
  pub piece : ℕ
  pub hit : slice_get rs piece ≡ Some (Some (Some i))
  pub before : NoneBefore rs piece

-- the first hit, or none if all pieces have results
abbrev pub IsFirst : List (Option (Option ℕ)) → Option ℕ → Type 0
IsFirst rs None = NoneBefore rs (length rs)
IsFirst rs (Some i) = IsFirstHit rs i

-- the first piece without a result; the pieces before it have results without hits
pub record IsFirstGap (rs : List (Option (Option ℕ))) (j : ℕ) : Type 0 where
  pub gap : slice_get rs j ≡ Some None
  pub before : NoneBefore rs j
