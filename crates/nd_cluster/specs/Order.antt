-- Which candidate comes before which from a turn on, which candidates a state has, and which one a run without a seed chooses.
use Rattle.std.specs.Prelude.{◌≡◌, ◌≢◌, ◌↔◌, ◌<◌, ◌⊎◌, ℕ, ◌+◌, ◌-◌, ◌%◌, List, [], ◌∷◌, length, Option, Some, None, All, Contains, IsTrue}
use Rattle.std.specs.FinMap as fin
use Rattle.std.specs.declared.cmp.Ordering.TheVariants.{Less}
use Rattle.nd_map.specs.Counts.{at}
use Rattle.nd_paths.specs.Point.{point_cmp}
use Rattle.nd_delta.specs.Delta.{none}
use Rattle.nd_processor.specs.Keys.{value_at_cmp}
use Rattle.nd_protocol.specs.State.{ClusterState, processor, queue}
use Rattle.nd_protocol.specs.Steps.{record_key, point_at}
use Rattle.nd_protocol.specs.Fitting.{IsState}
use Rattle.nd_protocol.specs.Enabled.{IsEnabled}
use Rattle.nd_protocol.specs.declared.step.Step.{Step}
use Rattle.nd_protocol.specs.declared.step.Step.TheVariants.{Feed, Take, Notice, Release, Send, Broadcast, Receive}
use Rattle.nd_protocol.specs.declared.part.Part.TheVariants.{Points}
use Rattle.nd_protocol.specs.declared.part.Part.TheVariants.{All as Whole}
use Rattle.nd_cluster.specs.Candidates.{may_run, performer, candidates_among, IsAmong}
use Rattle.nd_cluster.specs.Choice.{candidates_from, AreRefused, Chooses}

-- ---- the order

-- how many of n processors have their turn before processor p, if the first turn is that of processor `turn` modulo n
abbrev pub wait : ℕ → ℕ → ℕ → ℕ
wait n turn p = (p + n - turn % n) % n

-- receives come before takes, takes before notices, and notices before broadcasts; no other step is a candidate
abbrev pub rank : {A : Type 0} → Step A → ℕ
rank (Receive from to) = 0
rank (Take p edge t value) = 1
rank (Notice p vertex t) = 2
rank (Broadcast p part) = 3
rank (Feed p vertex values _) = 4
rank (Release p vertex times) = 4
rank (Send p vertex batch) = 4

-- x is listed before y, a step of the same kind: receives by their senders, takes and notices in the order in which records and
-- requests are listed
abbrev pub IsListedBefore : {A : Type 0} → Step A → Step A → Type 0
IsListedBefore (Receive from _) (Receive other _) = from < other
IsListedBefore (Take _ edge t value) (Take _ other u w) = value_at_cmp (record_key edge t value) (record_key other u w) ≡ Less
IsListedBefore (Notice _ vertex t) (Notice _ other u) = point_cmp (point_at vertex t) (point_at other u) ≡ Less
IsListedBefore _ _ = ⊥

-- x comes before y, a step of the same processor
abbrev pub ComesFirst : {A : Type 0} → Step A → Step A → Type 0
ComesFirst x y = (rank x < rank y) ⊎ ((rank x ≡ rank y) × IsListedBefore x y)

-- x comes before y in a cluster of n processors: its processor has its turn earlier, or it comes first on the same processor
abbrev pub ComesBefore : {A : Type 0} → ℕ → ℕ → Step A → Step A → Type 0
ComesBefore n turn x y = (wait n turn (performer x) < wait n turn (performer y)) ⊎ ((performer x ≡ performer y) × ComesFirst x y)

-- each element of a list is before all that follow it, in the sense of the relation
abbrev pub InOrder : {X : Type 0} → (X → X → Type 0) → List X → Type 0
InOrder R [] = Unit {0}
InOrder R (x ∷ xs) = All (R x) xs × InOrder R xs

-- ---- the candidates of a state

-- the state has the candidate: a change waits in the queue, there is such a record, such a request, or something unsent
abbrev pub Has : {A : Type 0} → ClusterState → Step A → Type 0
Has s (Receive from to) = (from < length s.processors) × (queue s from to ≢ [])
Has s (Take p edge t value) = at (processor s p).records (record_key edge t value) ≢ 0
Has s (Notice p vertex t) = fin.get (processor s p).requests (point_at vertex t) ≢ None
Has s (Broadcast p Whole) = (processor s p).unsent ≢ none
Has s (Broadcast p (Points points)) = ⊥
Has s (Feed p vertex values _) = ⊥
Has s (Release p vertex times) = ⊥
Has s (Send p vertex batch) = ⊥

-- x is a candidate of the state, of a processor that a run goes through
pub record IsOffered {A : Type 0} (s : ClusterState) (only : Option (List ℕ)) (x : Step A) : Type 0 where
  pub there : performer x < length s.processors
  pub listed : IsTrue (may_run only (performer x))
  pub has : Has s x

-- these are the candidates of the processors that a run goes through, and no other steps, in the order from a turn on
pub record AreInTurn {A : Type 0} (s : ClusterState) (turn : ℕ) (only : Option (List ℕ)) (xs : List (Step A)) : Type 0 where
  pub ordered : InOrder (ComesBefore (length s.processors) turn) xs
  pub exact : (x : Step A) → Contains xs x ↔ IsOffered s only x

-- ---- the choice

-- x is enabled, a candidate of a processor that a run goes through, and no enabled candidate of such a processor comes before it
pub record IsFirst {A : Type 0} (s : ClusterState) (turn : ℕ) (only : Option (List ℕ)) (x : Step A) : Type 0 where
  pub among : IsAmong only x
  pub enabled : IsEnabled s x
  pub first : (y : Step A) → IsAmong only y → ComesBefore (length s.processors) turn y x → IsEnabled s y → ⊥

-- the step that a run without a seed executes next; none if no candidate of a processor that it goes through is enabled
abbrev pub IsNext : {A : Type 0} → ClusterState → ℕ → Option (List ℕ) → Option (Step A) → Type 0
IsNext s turn only (Some x) = IsFirst s turn only x
IsNext {A} s turn only None = (y : Step A) → IsAmong only y → IsEnabled s y → ⊥

-- ---- laws

-- the list of candidates from a turn on is in order and complete
abbrev pub CandidatesAreInTurn : Type 0 → Type 0
CandidatesAreInTurn A = (s : ClusterState) (turn : ℕ) (only : Option (List ℕ)) → IsState s → AreInTurn {A = A} s turn only (candidates_from s turn only)

-- no candidate that a run goes through is enabled exactly if all of the list by processor are refused
abbrev pub IdleMeansRefused : Type 0 → Type 0
IdleMeansRefused A = (s : ClusterState) (turn : ℕ) (only : Option (List ℕ)) → IsNext {A = A} s turn only None ↔ AreRefused {A = A} s (candidates_among s only)

-- the choice among this list is the first enabled candidate
abbrev pub ChoiceIsFirst : Type 0 → Type 0
ChoiceIsFirst A = (s : ClusterState) (turn : ℕ) (only : Option (List ℕ)) (choice : Option (Step A)) → Chooses s (candidates_from s turn only) choice ↔ IsNext s turn only choice
