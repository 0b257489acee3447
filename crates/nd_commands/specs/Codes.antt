-- Commands encoded as numbers, so that the value of a model can contain them.
use Rattle.std.specs.Prelude.{◌≡◌, ℕ, ◌⊎◌, List, Option, refl}
use Rattle.std.proofs.Common.{inl, inr}
use Rattle.std.specs.Coded.{Coded, code_by, coded×, coded⊎, coded_ℕ, coded_list, coded_option}
use base.Stored.{coded_unit}
use Rattle.nd_protocol.specs.Codes.{step_code}
use Rattle.nd_protocol.specs.declared.step.Step.{Step as ClusterStep}
use Rattle.nd_breaks.specs.Conditions.{ConditionValue, condition_code}
use Rattle.nd_commands.specs.declared.command.Command.{Command}
use Rattle.nd_commands.specs.declared.command.Command.TheVariants.{Forward, Back, Redo, Jump, Run, SetBreak, ClearBreak}

-- a command as its parts
abbrev pub CommandParts : Type 0 → Type 0
CommandParts A = (ClusterStep A ⊎ (Unit {0} ⊎ Unit {0})) ⊎ ((ℕ ⊎ (ℕ × (Option (List ℕ) × Option ℕ))) ⊎ (ConditionValue ⊎ ℕ))

module _ {A : Type 0} where
  abbrev pub command_parts : Command A → CommandParts A
  command_parts (Forward x) = inl (inl x)
  command_parts Back = inl (inr (inl tt))
  command_parts Redo = inl (inr (inr tt))
  command_parts (Jump n) = inr (inl (inl n))
  command_parts (Run limit only seed) = inr (inl (inr (limit, (only, seed))))
  command_parts (SetBreak b) = inr (inr (inl b))
  command_parts (ClearBreak id) = inr (inr (inr id))

  abbrev pub command_of : CommandParts A → Command A
  command_of (inl (inl x)) = Forward x
  command_of (inl (inr (inl _))) = Back
  command_of (inl (inr (inr _))) = Redo
  command_of (inr (inl (inl n))) = Jump n
  command_of (inr (inl (inr t))) = Run t.0 t.1.0 t.1.1
  command_of (inr (inr (inl b))) = SetBreak b
  command_of (inr (inr (inr id))) = ClearBreak id

  pub command_back : (c : Command A) → command_of (command_parts c) ≡ c
  command_back (Forward x) = refl
  command_back Back = refl
  command_back Redo = refl
  command_back (Jump n) = refl
  command_back (Run limit only seed) = refl
  command_back (SetBreak b) = refl
  command_back (ClearBreak id) = refl

  abbrev pub command_code : Coded (Command A)
  command_code =
      code_by (CommandParts A)
      (coded⊎ (coded⊎ step_code (coded⊎ coded_unit coded_unit)) (coded⊎ (coded⊎ coded_ℕ (coded× coded_ℕ (coded× (coded_option (coded_list coded_ℕ)) (coded_option coded_ℕ)))) (coded⊎ condition_code coded_ℕ)))
      command_parts command_of command_back
