-- How the pointstamps at two locations are related.
use Rattle.std.specs.Prelude.{◌≡◌, ◌≤◌, ◌<◌, ℕ, List, []}
use Rattle.std.proofs.Common.{get_or}
use Rattle.nd_graph.specs.Graph.{Dataflow}
use Rattle.nd_paths.specs.Order.{CouldResultIn}
use Rattle.nd_paths.specs.declared.point.Pointstamp.{Pointstamp}

-- no pointstamp at the location of the first, with the first's epoch or a later one, could result in a pointstamp at the location
-- of the second, with the second's epoch or an earlier one
abbrev pub IsCut : Dataflow → Pointstamp → Pointstamp → Type 0
IsCut g first second = (s t : Pointstamp) → s.location ≡ first.location → t.location ≡ second.location → first.time.epoch ≤ s.time.epoch → t.time.epoch ≤ second.time.epoch → CouldResultIn g s t → ⊥

-- a pointstamp at one location could result in one at the other if neither has counters and the second epoch is not smaller
abbrev pub IsEpochal : Dataflow → ℕ → ℕ → Type 0
IsEpochal g from to = (s t : Pointstamp) → s.location ≡ from → t.location ≡ to → s.time.counters ≡ [] → t.time.counters ≡ [] → s.time.epoch ≤ t.time.epoch → CouldResultIn g s t

-- the entries from `first` up to `end`, excluded, are at one location
abbrev pub IsRun : {V : Type 0} → List (Pointstamp × V) → ℕ → ℕ → Type 0
IsRun es first end = (k : ℕ) (d : Pointstamp × _) → first ≤ k → k < end → (get_or es k d).0.location ≡ (get_or es first d).0.location

-- the entries from `first` up to `end`, excluded, have epochs below the given one; `AreNotSmaller`: none of them has
abbrev pub AreSmaller : {V : Type 0} → List (Pointstamp × V) → ℕ → ℕ → ℕ → Type 0
AreSmaller es first end epoch = (k : ℕ) (d : Pointstamp × _) → first ≤ k → k < end → (get_or es k d).0.time.epoch < epoch

abbrev pub AreNotSmaller : {V : Type 0} → List (Pointstamp × V) → ℕ → ℕ → ℕ → Type 0
AreNotSmaller es first end epoch = (k : ℕ) (d : Pointstamp × _) → first ≤ k → k < end → epoch ≤ (get_or es k d).0.time.epoch

-- an entry before `end` has a greater epoch than the given one, and no counters
pub record HasLater (es : List (Pointstamp × ℕ)) (end epoch : ℕ) : Type 0 where
  pub index : ℕ
  pub entry : Pointstamp × ℕ
  pub early : index < end
  pub is : entry ≡ get_or es index entry
  pub outside : entry.0.time.counters ≡ []
  pub later : epoch < entry.0.time.epoch
