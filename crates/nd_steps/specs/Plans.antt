-- Lists of changes: what they add, and the lists that a plan makes, in which no place occurs twice.
use Rattle.std.specs.Prelude.{◌≡◌, ◌≢◌, ◌≤◌, ℕ, ◌+◌, ℤ, pos, ◌+ℤ◌, cond, List, [], ◌∷◌, length}
use Rattle.nd_processor.specs.State.{ProcessorState}
use Rattle.nd_protocol.specs.State.{ClusterState, processor}
use Rattle.nd_protocol.specs.Fitting.{IsState}
use Rattle.nd_steps.specs.Places.{Place, is_place}
use Rattle.nd_steps.specs.Integers.{standing, changed}
use Rattle.nd_steps.specs.Changes.{place_of, IsRunnable, applied}
use Rattle.nd_steps.specs.Slots.{SlotRanged}
use Rattle.nd_steps.specs.Undos.{IsGain}
use Rattle.nd_steps.specs.declared.change.Change.{Change}

-- how often a place occurs in a list of changes
abbrev pub often : Place → List Change → ℕ
often k [] = 0
often k (c ∷ cs) = cond (is_place k (place_of c)) 1 0 + often k cs

-- how much all changes together add at a place
abbrev pub total_at : Place → List Change → ℤ
total_at k [] = pos 0
total_at k (c ∷ cs) = cond (is_place k (place_of c)) c.n (pos 0) +ℤ total_at k cs

-- no place occurs twice
abbrev pub Once : List Change → Type 0
Once cs = (k : Place) → often k cs ≤ 1

-- every change of the list satisfies P
abbrev pub Each : (Change → Type 0) → List Change → Type 0
Each P [] = Unit {0}
Each P (c ∷ cs) = P c × Each P cs

-- after the change, the epoch of a token or the number of an item at its place fits its type
abbrev pub StaysRanged : ClusterState → Change → Type 0
StaysRanged s c = SlotRanged c.slot (standing s (place_of c) +ℤ c.n)

-- t differs from s, a state that a cluster may be in, in its processors only, and the changes, in any order, add the difference
pub record Reaches (s t : ClusterState) (cs : List Change) : Type 0 where
  pub state : IsState s
  pub graph : t.graph ≡ s.graph
  pub views : t.views ≡ s.views
  pub queues : t.queues ≡ s.queues
  pub count : length t.processors ≡ length s.processors
  pub items : (p : ℕ) → length (processor t p).items ≡ length (processor s p).items
  pub once : Once cs
  pub some : Each (λ c. c.n ≢ pos 0) cs
  pub small : Each (λ c. IsGain c.n) cs
  pub ranged : Each (StaysRanged s) cs
  pub totals : (k : Place) → standing t k ≡ standing s k +ℤ total_at k cs

-- the same, if s has these processors
abbrev pub ReachesIn : List ProcessorState → ClusterState → ClusterState → List Change → Type 0
ReachesIn processors s t cs = (s.processors ≡ processors) × Reaches s t cs

-- the list can be applied to s, leads to t, and is as long as the number of keys and queues at which s and t differ
pub record LeadsTo (s t : ClusterState) (cs : List Change) : Type 0 where
  pub runs : IsRunnable s cs
  pub arrives : applied s cs ≡ t
  pub small : length cs ≡ changed s t
