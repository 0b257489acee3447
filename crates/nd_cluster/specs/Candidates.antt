-- The steps that a run could try, each with the answer of a plan.
use Rattle.std.specs.Prelude.{◌≡◌, ◌↔◌, ◌<◌, ◌+◌, ◌-◌, ℕ, ℤ, Bool, true, cond, nat_eq, List, [], ◌∷◌, ◌++◌, length, map, take, Option, Some, None, IsTrue, All, Contains}
use Rattle.std.specs.List.{flat_map, list_any, range_with_len}
use Rattle.std.specs.FinMap as fin
use Rattle.nd_time.specs.Limits.{max_told}
use Rattle.nd_map.specs.Counts.{entries}
use Rattle.nd_paths.specs.declared.point.Pointstamp.{Pointstamp}
use Rattle.nd_delta.specs.Delta.{DeltaValue}
use Rattle.nd_delta.specs.Delta.{entries as updates}
use Rattle.nd_processor.specs.declared.key.ValueAt.{ValueAt}
use Rattle.nd_protocol.specs.State.{ClusterState, processor, queue}
use Rattle.nd_protocol.specs.Enabled.{IsEnabled, IsRefused}
use Rattle.nd_protocol.specs.declared.step.Step.{Step}
use Rattle.nd_protocol.specs.declared.step.Step.TheVariants.{Feed, Take, Notice, Release, Send, Broadcast, Receive}
use Rattle.nd_protocol.specs.declared.part.Part.TheVariants.{Points}
use Rattle.nd_protocol.specs.declared.part.Part.TheVariants.{All as Whole}
use Rattle.nd_protocol.specs.declared.refusal.Refusal.{Refusal}
use Rattle.nd_cluster.specs.Drafted.{take_of, notice_of}
use Rattle.nd_cluster.specs.declared.candidate.Candidate.{Candidate}
use Rattle.nd_cluster.specs.declared.candidate.Candidates.{Candidates}

-- ---- the candidates of processor p

-- the receive of p from a sender, if the queue is not empty
abbrev pub receive_of : {A : Type 0} → ℕ → ℕ → List DeltaValue → List (Step A)
receive_of p from [] = []
receive_of p from (c ∷ cs) = Receive from p ∷ []

-- the receives from these senders
abbrev pub receives_from : {A : Type 0} → ClusterState → ℕ → List ℕ → List (Step A)
receives_from s p senders = flat_map (λ from. receive_of p from (queue s from p)) senders

abbrev pub receives : {A : Type 0} → ClusterState → ℕ → List (Step A)
receives s p = receives_from s p (range_with_len 0 (length s.processors))

-- one take for each key of records, whatever its count
abbrev pub takes : {A : Type 0} → ClusterState → ℕ → List (Step A)
takes s p = map (λ e. take_of p e.0) (entries (processor s p).records)

-- the notice of each request
abbrev pub notices : {A : Type 0} → ClusterState → ℕ → List (Step A)
notices s p = map (λ e. notice_of p e.0) (fin.entries (processor s p).requests)

-- the broadcast of all that is unsent, if anything is
abbrev pub broadcast_of : {A : Type 0} → ℕ → List (Pointstamp × ℤ) → List (Step A)
broadcast_of p [] = []
broadcast_of p (e ∷ es) = Broadcast p Whole ∷ []

abbrev pub broadcasts : {A : Type 0} → ClusterState → ℕ → List (Step A)
broadcasts s p = broadcast_of p (updates (processor s p).unsent)

-- the candidates of processor p: receives by sender, takes and notices in the order in which records and requests are listed, and
-- the broadcast
unfoldable pub candidates_of : {A : Type 0} → ClusterState → ℕ → List (Step A)
candidates_of s p = receives s p ++ (takes s p ++ (notices s p ++ broadcasts s p))

-- ---- the candidates of a cluster

-- whether a run goes through processor p: through every one, or through those that are listed
abbrev pub may_run : Option (List ℕ) → ℕ → Bool
may_run None p = true
may_run (Some listed) p = list_any (λ q. nat_eq q p) listed

-- the candidates of processor p; none if a run skips p
abbrev pub candidates_if : {A : Type 0} → ClusterState → Option (List ℕ) → ℕ → List (Step A)
candidates_if s only p = cond (may_run only p) (candidates_of s p) []

-- the candidates of these processors, one processor after the other, without the processors that a run skips
abbrev pub candidates_on : {A : Type 0} → ClusterState → Option (List ℕ) → List ℕ → List (Step A)
candidates_on s only ps = flat_map (candidates_if s only) ps

-- the candidates of all processors that a run goes through, by processor
abbrev pub candidates_among : {A : Type 0} → ClusterState → Option (List ℕ) → List (Step A)
candidates_among s only = candidates_on s only (range_with_len 0 (length s.processors))

-- the candidates of all processors, by processor
abbrev pub candidates : {A : Type 0} → ClusterState → List (Step A)
candidates s = candidates_among s None

-- ---- they are complete

-- a step that a run may choose: feeds, releases and sends are left to the users, and a broadcast sends all
abbrev pub IsCandidate : {A : Type 0} → Step A → Type 0
IsCandidate (Feed p vertex values _) = ⊥
IsCandidate (Take p edge t value) = Unit {0}
IsCandidate (Notice p vertex t) = Unit {0}
IsCandidate (Release p vertex times) = ⊥
IsCandidate (Send p vertex batch) = ⊥
IsCandidate (Broadcast p Whole) = Unit {0}
IsCandidate (Broadcast p (Points _)) = ⊥
IsCandidate (Receive from to) = Unit {0}

-- the processor that executes a step
abbrev pub performer : {A : Type 0} → Step A → ℕ
performer (Feed p vertex values _) = p
performer (Take p edge t value) = p
performer (Notice p vertex t) = p
performer (Release p vertex times) = p
performer (Send p vertex batch) = p
performer (Broadcast p part) = p
performer (Receive from to) = to

-- a candidate of a processor that a run goes through
abbrev pub IsAmong : {A : Type 0} → Option (List ℕ) → Step A → Type 0
IsAmong only x = IsCandidate x × IsTrue (may_run only (performer x))

-- all of these steps are candidates of processors that a run goes through, and each such candidate that is enabled is one of them
pub record AreComplete {A : Type 0} (s : ClusterState) (only : Option (List ℕ)) (xs : List (Step A)) : Type 0 where
  pub kinds : All (IsAmong only) xs
  pub covers : (x : Step A) → IsAmong only x → IsEnabled s x → Contains xs x

-- ---- one by one

-- the receives of p from this sender and those after it
abbrev pub receives_after : {A : Type 0} → ClusterState → ℕ → ℕ → List (Step A)
receives_after s p from = receives_from s p (range_with_len from (length s.processors - from))

-- the candidates of p that are left: the receives from this sender on, the takes and the notices of the records and requests that
-- are left, and the broadcast if `sends` is true
abbrev pub left_of : {A : Type 0} → ClusterState → ℕ → ℕ → List (ValueAt × ℕ) → List (Pointstamp × Unit {0}) → Bool → List (Step A)
left_of s p from records requests sends =
    receives_after s p from
    ++ (map (λ e. take_of p e.0) records ++ (map (λ e. notice_of p e.0) requests ++ cond sends (Broadcast p Whole ∷ []) []))

-- the next sender whose queue to p is not empty, or none
abbrev pub IsNextSender : (A : Type 0) → ClusterState → ℕ → ℕ → Option ℕ → Type 0
IsNextSender A s p from None = receives_after {A = A} s p from ≡ []
IsNextSender A s p from (Some k) = (k < length s.processors) × (receives_after {A = A} s p from ≡ Receive k p ∷ receives_after s p (k + 1))

-- ---- the list of candidates

-- the answer for step x is right: None if x is enabled, otherwise the refusal with the least number
abbrev pub IsAnswer : {A : Type 0} → ClusterState → Step A → Option Refusal → Type 0
IsAnswer s x None = IsEnabled s x
IsAnswer s x (Some r) = IsRefused s x r

abbrev pub IsAnswered : {A : Type 0} → ClusterState → Candidate A → Type 0
IsAnswered s c = IsAnswer s c.step c.refusal

-- the first of these steps, in order, each with its answer, and whether there are more
pub record AreListed {A : Type 0} (s : ClusterState) (all : List (Step A)) (listed : Candidates A) : Type 0 where
  pub steps : map (λ (c : Candidate A). c.step) listed.list ≡ take max_told all
  pub answered : All (IsAnswered s) listed.list
  pub more : IsTrue listed.more ↔ (max_told < length all)

-- if `old` lists some steps, `new` lists these and then the given steps
abbrev pub Lists : {A : Type 0} → ClusterState → List (Step A) → Candidates A → Candidates A → Type 0
Lists {A} s steps old new = (all : List (Step A)) → AreListed s all old → AreListed s (all ++ steps) new
