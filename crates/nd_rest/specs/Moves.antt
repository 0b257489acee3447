-- Moves: the steps that a cluster executes with no user, and the lists of them.
use Rattle.std.specs.Prelude.{ℕ, ◌+◌, List, [], ◌∷◌, ⊤}
use Rattle.nd_protocol.specs.State.{ClusterState}
use Rattle.nd_protocol.specs.Steps.{stepped}
use Rattle.nd_protocol.specs.Enabled.{IsEnabled}
use Rattle.nd_protocol.specs.declared.part.Part.{Part}
use Rattle.nd_protocol.specs.declared.part.Part.TheVariants.{All, Points}
use Rattle.nd_protocol.specs.declared.step.Step.{Step}
use Rattle.nd_protocol.specs.declared.step.Step.TheVariants.{Feed, Take, Notice, Release, Send, Broadcast, Receive}

-- a broadcast of all that is unsent
abbrev pub IsWhole : {A : Type 0} → Part A → Type 0
IsWhole All = ⊤
IsWhole (Points points) = ⊥

-- a receive, a take, a notice, or a broadcast of all that is unsent; feeds, releases and sends are left to users
abbrev pub NeedsNoUser : {A : Type 0} → Step A → Type 0
NeedsNoUser (Receive from to) = ⊤
NeedsNoUser (Take p edge t value) = ⊤
NeedsNoUser (Notice p vertex t) = ⊤
NeedsNoUser (Broadcast p part) = IsWhole part
NeedsNoUser (Feed p vertex values _) = ⊥
NeedsNoUser (Release p vertex times) = ⊥
NeedsNoUser (Send p vertex batch) = ⊥

-- the step is a move of the state: it needs no user, and is enabled
pub record IsMove {A : Type 0} (s : ClusterState) (x : Step A) : Type 0 where
  pub kind : NeedsNoUser x
  pub enabled : IsEnabled s x

-- no step is a move of the state
abbrev pub HasNoMove : Type 0 → ClusterState → Type 0
HasNoMove A s = (x : Step A) → IsMove s x → ⊥

-- each step of the list is a move of the state to which the steps before it lead from s
abbrev pub AreMoves : {A : Type 0} → ClusterState → List (Step A) → Type 0
AreMoves s [] = ⊤
AreMoves s (x ∷ xs) = IsMove s x × AreMoves (stepped s x) xs

-- 1 for a take or a notice, 0 for any other step
abbrev pub work : {A : Type 0} → Step A → ℕ
work (Take p edge t value) = 1
work (Notice p vertex t) = 1
work _ = 0

-- how many steps of the list are takes or notices
abbrev pub works : {A : Type 0} → List (Step A) → ℕ
works [] = 0
works (x ∷ xs) = work x + works xs
