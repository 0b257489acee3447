-- The run to rest while it goes on.
use Rattle.std.specs.Prelude.{◌≡◌, ◌≤◌, ◌⊎◌, ℕ, Bool, true, false, List, length, None, Some}
use Rattle.nd_protocol.specs.State.{ClusterState}
use Rattle.nd_protocol.specs.Steps.{stepped, after}
use Rattle.nd_protocol.specs.declared.step.Step.{Step}
use Rattle.nd_cluster.specs.Order.{IsNext}
use Rattle.nd_at_rest.specs.Run.{AreFirst, IsIdle}

-- the first enabled candidate is executed; or there is none, and the state stays
abbrev pub Advances : Type 0 → ℕ → ClusterState → ClusterState → Bool → Type 0
Advances A turn s t true = (x : Step A) × IsNext s turn None (Some x) × (t ≡ stepped s x)
Advances A turn s t false = IsIdle A s × (t ≡ s)

-- `ran` steps were executed, and lead to the state t, in which no candidate is enabled if they are fewer than the limit
pub record HasGone (A : Type 0) (s : ClusterState) (turn limit : ℕ) (t : ClusterState) (ran : ℕ) : Type 0 where
  pub steps : List (Step A)
  pub count : length steps ≡ ran
  pub first : AreFirst s turn steps
  pub leads : t ≡ after s steps
  pub within : ran ≤ limit
  pub idle : (ran ≡ limit) ⊎ IsIdle A t
