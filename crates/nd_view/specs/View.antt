-- What a view says: passed points, blockers, precursors and the frontier (Naiad, SOSP 2013, section 2.3).
use Rattle.std.specs.Prelude.{◌≡◌, ◌≢◌, ℕ, pos, ◌<ℤ◌}
use Rattle.nd_graph.specs.Graph.{Dataflow}
use Rattle.nd_paths.specs.Order.{CouldResultIn, IsStrictlyBefore}
use Rattle.nd_paths.specs.declared.point.Pointstamp.{Pointstamp}
use Rattle.nd_delta.specs.Delta.{DeltaValue, at, size}
use Rattle.nd_view.specs.declared.extent.Extent.{Extent}
use Rattle.nd_view.specs.declared.extent.Extent.TheVariants.{AtOrBefore, StrictlyBefore}

-- x is at or before t, or strictly before t
abbrev pub IsBefore : Dataflow → Extent → Pointstamp → Pointstamp → Type 0
IsBefore g AtOrBefore x t = CouldResultIn g x t
IsBefore g StrictlyBefore x t = IsStrictlyBefore g x t

-- x is positive, and before t in this sense
pub record IsPositiveBefore (g : Dataflow) (v : DeltaValue) (extent : Extent) (t x : Pointstamp) : Type 0 where
  pub positive : pos 0 <ℤ at v x
  pub before : IsBefore g extent x t

-- what is positive, and could result in t
abbrev pub IsBlocker : Dataflow → DeltaValue → Pointstamp → Pointstamp → Type 0
IsBlocker g v t = IsPositiveBefore g v AtOrBefore t

-- what is positive, and strictly before t
abbrev pub IsPrecursor : Dataflow → DeltaValue → Pointstamp → Pointstamp → Type 0
IsPrecursor g v t = IsPositiveBefore g v StrictlyBefore t

-- nothing positive is before t
abbrev pub IsPassedBefore : Dataflow → Extent → DeltaValue → Pointstamp → Type 0
IsPassedBefore g extent v t = (x : Pointstamp) → IsPositiveBefore g v extent t x → ⊥

-- nothing positive is at or before t
abbrev pub IsPassed : Dataflow → DeltaValue → Pointstamp → Type 0
IsPassed g v t = IsPassedBefore g AtOrBefore v t

-- x is positive, and has no precursor
pub record IsOnFrontier (g : Dataflow) (v : DeltaValue) (x : Pointstamp) : Type 0 where
  pub positive : pos 0 <ℤ at v x
  pub first : (y : Pointstamp) → IsPrecursor g v x y → ⊥

-- a pointstamp of the frontier is at or before x, and before t as x is
pub record HasFrontierBefore (g : Dataflow) (v : DeltaValue) (extent : Extent) (t x : Pointstamp) : Type 0 where
  pub point : Pointstamp
  pub frontier : IsOnFrontier g v point
  pub before : IsBefore g extent point t
  pub near : CouldResultIn g point x

-- what is positive and before some t has a pointstamp of the frontier at or before it, which is before t, too
abbrev pub FrontierCovers : Dataflow → DeltaValue → Type 0
FrontierCovers g v = (extent : Extent) (t x : Pointstamp) → IsPositiveBefore g v extent t x → HasFrontierBefore g v extent t x

-- f is the part of v at the points that satisfy P
pub record IsPartWhere (P : Pointstamp → Type 0) (v f : DeltaValue) : Type 0 where
  pub all : (x : Pointstamp) → P x → at f x ≡ at v x
  pub only : (x : Pointstamp) → at f x ≢ pos 0 → P x

-- exactly n points that satisfy P have an entry in v
abbrev pub IsCount : (Pointstamp → Type 0) → DeltaValue → ℕ → Type 0
IsCount P v n = (f : DeltaValue) × IsPartWhere P v f × (size f ≡ n)
