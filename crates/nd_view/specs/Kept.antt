-- A view with its precursor counts, and when they are those of a graph.
use Rattle.std.specs.Prelude.{◌≡◌, ◌≢◌, ◌≤◌, ◌<◌, ◌-◌, ◌+◌, ℕ, pos, ◌<ℤ◌, List, [], length, Contains, Bool, true, false, Option, Some, None, refl}
use Rattle.std.specs.Coded.{Coded, code_by, coded×, coded_ℕ, coded_list}
use Rattle.std.specs.FinMap.{find}
use Rattle.nd_graph.specs.Graph.{Dataflow}
use Rattle.nd_map.specs.Listed.{IsListed}
use Rattle.nd_paths.specs.Order.{IsStrictlyBefore}
use Rattle.nd_paths.specs.Point.{point_cmp, point_code}
use Rattle.nd_paths.specs.declared.point.Pointstamp.{Pointstamp}
use Rattle.nd_delta.specs.Delta.{DeltaValue, at, delta_code}
use Rattle.nd_view.specs.View.{IsPrecursor, IsCount}

-- a view as it is stored: its map, and a list of precursor counts
pub record Kept : Type 0 where
  pub map : DeltaValue
  pub counts : List (Pointstamp × ℕ)

abbrev pub kept_code : Coded Kept
kept_code = code_by (DeltaValue × List (Pointstamp × ℕ)) (coded× delta_code (coded_list (coded× point_code coded_ℕ))) (λ v. (v.map, v.counts)) (λ p. record { map = p.0; counts = p.1 }) (λ _. refl)

-- the view with this map and these precursor counts
abbrev pub kept_of : DeltaValue → List (Pointstamp × ℕ) → Kept
kept_of m es = record { map = m; counts = es }

-- what is stored for q: the number of its precursors if q is positive, otherwise nothing
abbrev pub IsKeptAt : Dataflow → DeltaValue → Pointstamp → Option ℕ → Type 0
IsKeptAt g m q None = pos 0 <ℤ at m q → ⊥
IsKeptAt g m q (Some n) = (pos 0 <ℤ at m q) × IsCount (IsPrecursor g m q) m n

-- whether a number is stored for q: one is exactly if q is positive
abbrev pub IsHeldAt : DeltaValue → Pointstamp → Option ℕ → Type 0
IsHeldAt m q None = pos 0 <ℤ at m q → ⊥
IsHeldAt m q (Some n) = pos 0 <ℤ at m q

-- the precursor counts are those of the graph g
pub record IsFor (g : Dataflow) (v : Kept) : Type 0 where
  pub listed : IsListed point_cmp v.counts
  pub each : (q : Pointstamp) → IsKeptAt g v.map q (find point_cmp q v.counts)

-- the list has exactly the points whose precursor count is 0, and room for as many points as there are counts
pub record IsFrontierList (counts : List (Pointstamp × ℕ)) (frontier : List Pointstamp) (room : ℕ) : Type 0 where
  pub all : (q : Pointstamp) → find point_cmp q counts ≡ Some 0 → Contains frontier q
  pub only : (q : Pointstamp) → Contains frontier q → find point_cmp q counts ≡ Some 0
  pub enough : length counts ≤ room

-- the list is correct, except for x
pub record IsFrontierBut (counts : List (Pointstamp × ℕ)) (frontier : List Pointstamp) (x : Pointstamp) : Type 0 where
  pub all : (q : Pointstamp) → q ≢ x → find point_cmp q counts ≡ Some 0 → Contains frontier q
  pub only : (q : Pointstamp) → q ≢ x → Contains frontier q → find point_cmp q counts ≡ Some 0

-- ---- what a stored count says about the precursors of another point
-- each stored number is the precursor count of its point
abbrev pub AreKept : Dataflow → DeltaValue → List (Pointstamp × ℕ) → Type 0
AreKept g m es = (q : Pointstamp) (n : ℕ) → find point_cmp q es ≡ Some n → IsKeptAt g m q (Some n)

-- x is a precursor of t, and its epoch is below the given one
pub record IsEarlier (g : Dataflow) (m : DeltaValue) (t : Pointstamp) (below : ℕ) (x : Pointstamp) : Type 0 where
  pub precursor : IsPrecursor g m t x
  pub early : x.time.epoch < below

-- x is at the location of t with a smaller epoch, and neither has counters
abbrev pub IsNear : Pointstamp → Pointstamp → Type 0
IsNear x t = (x.location ≡ t.location) × (x.time.epoch < t.time.epoch) × (x.time.counters ≡ []) × (t.time.counters ≡ [])

-- ---- counts that must still be moved by one, because x became positive (up) or ceased to be

abbrev pub moved : Bool → ℕ → ℕ
moved true n = n + 1
moved false n = n - 1

abbrev pub IsMovable : Dataflow → DeltaValue → Pointstamp → Bool → Option ℕ → Type 0
IsMovable g m q up None = ⊥
IsMovable g m q true (Some n) = IsKeptAt g m q (Some (n + 1))
IsMovable g m q false (Some n) = (1 ≤ n) × IsKeptAt g m q (Some (n - 1))

-- the count of a positive point strictly after x lacks x (up), or still counts it; every other count is correct
pub record IsReady (g : Dataflow) (m : DeltaValue) (x : Pointstamp) (up : Bool) (q : Pointstamp) (o : Option ℕ) : Type 0 where
  pub after : pos 0 <ℤ at m q → IsStrictlyBefore g x q → IsMovable g m q up o
  pub others : ((pos 0 <ℤ at m q) × IsStrictlyBefore g x q → ⊥) → IsKeptAt g m q o
