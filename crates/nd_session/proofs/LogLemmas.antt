-- A log determines the machine after it.
use Rattle.std.proofs.Common.{◌≡◌, List, [], ◌∷◌, sym, subst, ◌∙◌}
use Rattle.nd_machine.specs.Moves.{MachineValue}
use Rattle.nd_machine.specs.Laws.{RepliesDetermineMachines}
use Rattle.nd_session.specs.Log.{Leads}
use Rattle.nd_session.specs.declared.receipt.Receipt.{Receipt}

module _ {A : Type 0} (tell : RepliesDetermineMachines A) where
  pub logs_determine : (m new other : MachineValue A) (log : List (Receipt A)) → Leads m log new → Leads m log other → new ≡ other
  unfolding Leads
  logs_determine m new other [] h k = h ∙ sym k
  logs_determine m new other (e ∷ es) h k =
      let same : h.mid ≡ k.mid = tell m h.mid k.mid e.command e.reply h.moves k.moves in
      logs_determine h.mid new other es h.rest (subst (λ (mid : MachineValue A). Leads mid es other) (sym same) k.rest)
