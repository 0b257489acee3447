-- A snapshot: a timeline, and an index.
use Rattle.std.specs.Prelude.{ℕ, refl}
use Rattle.std.specs.Coded.{Coded, code_by, coded×, coded_ℕ}
use Rattle.nd_timeline.specs.Timeline.{TimelineValue}
use Rattle.nd_timeline.specs.Reached.{timeline_code}

pub record SnapshotValue (A : Type 0) : Type 0 where
  pub index : ℕ
  pub timeline : TimelineValue A

-- the snapshot of a timeline under an index
abbrev pub snapshot_of : {A : Type 0} → TimelineValue A → ℕ → SnapshotValue A
snapshot_of m index = record { index = index; timeline = m }

abbrev pub snapshot_code : (A : Type 0) → Coded (SnapshotValue A)
snapshot_code A =
    code_by _ (coded× coded_ℕ (timeline_code A))
    (λ s. (s.index, s.timeline)) (λ t. record { index = t.0; timeline = t.1 }) (λ _. refl)
