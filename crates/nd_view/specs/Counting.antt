-- Lists of precursor counts: correct, ready to be moved by one, or still to be counted; and lists that differ at one point.
use Rattle.std.specs.Prelude.{◌≢◌, ◌↔◌, ℕ, Bool, List, Contains}
use Rattle.std.specs.FinMap.{find}
use Rattle.nd_graph.specs.Graph.{Dataflow}
use Rattle.nd_paths.specs.Point.{point_cmp}
use Rattle.nd_paths.specs.declared.point.Pointstamp.{Pointstamp}
use Rattle.nd_delta.specs.Delta.{DeltaValue}
use Rattle.nd_view.specs.View.{IsCount}
use Rattle.nd_view.specs.Kept.{IsEarlier, IsHeldAt, IsKeptAt, IsReady}

-- t has exactly `count` precursors whose epoch is below the given one
abbrev pub AreEarlier : Dataflow → DeltaValue → Pointstamp → ℕ → ℕ → Type 0
AreEarlier g m t below count = IsCount (IsEarlier g m t below) m count

-- each stored count is ready to be moved by one, because x became positive (up) or ceased to be
abbrev pub AreReady : Dataflow → DeltaValue → Pointstamp → Bool → List (Pointstamp × ℕ) → Type 0
AreReady g m x up es = (q : Pointstamp) → IsReady g m x up q (find point_cmp q es)

-- the stored counts are correct: each positive point has its precursor count, and no other point has one
abbrev pub AreCounted : Dataflow → DeltaValue → List (Pointstamp × ℕ) → Type 0
AreCounted g m es = (q : Pointstamp) → IsKeptAt g m q (find point_cmp q es)

-- exactly the positive points have a number
abbrev pub ArePositive : DeltaValue → List (Pointstamp × ℕ) → Type 0
ArePositive m es = (q : Pointstamp) → IsHeldAt m q (find point_cmp q es)

-- two lists have the same points, except for x
abbrev pub AreSameBut : Pointstamp → List Pointstamp → List Pointstamp → Type 0
AreSameBut x old new = (q : Pointstamp) → q ≢ x → (Contains new q ↔ Contains old q)
