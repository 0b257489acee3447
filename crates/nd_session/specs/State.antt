-- What callers see of a `State`: a machine, and the log of what it has answered.
use Rattle.std.specs.Prelude.{List, refl}
use Rattle.std.specs.Coded.{Coded, code_by, coded×, coded_list}
use Rattle.nd_machine.specs.Moves.{MachineValue}
use Rattle.nd_machine.specs.Codes.{machine_code}
use Rattle.nd_session.specs.Codes.{receipt_code}
use Rattle.nd_session.specs.declared.receipt.Receipt.{Receipt}

pub record StateValue (A : Type 0) : Type 0 where
  pub machine : MachineValue A
  pub log : List (Receipt A)

abbrev pub state_code : (A : Type 0) → Coded (StateValue A)
state_code A =
    code_by _ (coded× (machine_code A) (coded_list (receipt_code A)))
    (λ s. (s.machine, s.log)) (λ t. record { machine = t.0; log = t.1 }) (λ _. refl)
