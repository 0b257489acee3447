-- A machine encoded as numbers, so that the value of a model can contain it.
use Rattle.std.specs.Prelude.{refl}
use Rattle.std.specs.Coded.{Coded, code_by, coded×, coded_ℕ}
use Rattle.std.specs.FinMap as fin
use Rattle.nd_breaks.specs.Conditions.{condition_code}
use Rattle.nd_timeline.specs.Reached.{timeline_code}
use Rattle.nd_machine.specs.Moves.{MachineValue}

abbrev pub machine_code : (A : Type 0) → Coded (MachineValue A)
machine_code A =
    code_by _ (coded× (timeline_code A) (fin.code coded_ℕ condition_code))
    (λ m. (m.timeline, m.breaks)) (λ t. record { timeline = t.0; breaks = t.1 }) (λ _. refl)
