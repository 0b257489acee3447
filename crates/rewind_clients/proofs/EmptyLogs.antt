-- Lines that may be reported for any commands: those of an empty log.
use Rattle.std.proofs.Common.{◌≡◌, ◌∙◌, zero, suc, false, List, [], ◌∷◌, All, map, Some, None, Global, refl, sym, ap, subst, arith}
use Rattle.std.specs.List.{list_any}
use Rattle.std.specs.Prelude.{option_map}
use Rattle.std.proofs.lemmas.Bool.{false≢true}
use Rattle.std.proofs.lemmas.Option.{slice_get-map}
use Rattle.std.proofs.lemmas.List.{length-map}
use Rattle.serde_json.specs.Data.{Data}
use Rattle.nd_commands.specs.declared.command.Command.{Command}
use Rattle.nd_machine.specs.Moves.{MachineValue}
use Rattle.nd_session.specs.Clients.{IsHistory}
use Rattle.nd_protocol.specs.Fitting.{IsState}
use Rattle.nd_protocol.specs.Invariant.{KeepsProtocol}
use Rattle.nd_session.specs.Log.{IsStart, Leads, opening_of}
use Rattle.nd_session.specs.declared.fault.SessionFault.TheVariants.{Memory}
use Rattle.rewind_sessions.specs.Runs.{AreLines, Commands, Ended, IsServed, MayEnd, is_full}

-- ---- no client has issued a command

abbrev none-of : List (Command Global) → Ended
none-of [] = None
none-of (x ∷ xs) = Some Memory

none-served : (list : List (Command Global)) → IsServed list [] (none-of list)
none-served [] = refl
none-served (x ∷ xs) = (0, omega arith, refl)

may-none : (list : List (Command Global)) → MayEnd (none-of list)
may-none [] = tt
may-none (x ∷ xs) = tt

all-none : (commands : Commands) → All MayEnd (map none-of commands)
all-none [] k d lt = absurd (omega (arith, lt))
all-none (list ∷ commands) zero d lt = may-none list
all-none (list ∷ commands) (suc k) d lt = all-none commands k d (omega (arith, lt))

none-full : (commands : Commands) → list_any is_full (map none-of commands) ≡ false
none-full [] = refl
none-full ([] ∷ commands) = none-full commands
none-full ((x ∷ xs) ∷ commands) = none-full commands

-- there are lines that may be reported for commands
pub some-lines : (opening : MachineValue Global) (commands : Commands) (machine : MachineValue Global) → machine.timeline.base ≡ opening.timeline.base → IsHistory [] machine
    → (lines : List Data) × AreLines opening commands lines
some-lines opening commands machine begins history = (
  _,
  record {
    log = [];
    machine = machine;
    faults = map none-of commands;
    told = record {
      begins = begins;
      history = history;
      clients = length-map commands none-of;
      ended = all-none commands;
      full = λ met. absurd (false≢true (sym (none-full commands) ∙ met));
      known = λ i e at. absurd (cc at);
      served = λ c list ended at gone.
          let e : none-of list ≡ ended = cc (sym (slice_get-map none-of commands c ∙ ap (option_map none-of) at) ∙ gone) in
          subst (λ (o : Ended). IsServed list [] o) e (none-served list);
    };
    shown = refl;
  },
)

-- the history of a new machine, to which no command was given
pub opened-history : (m : MachineValue Global) → IsStart m.timeline.base → IsState m.timeline.base → KeepsProtocol m.timeline.base → IsHistory [] (opening_of m)
unfolding Leads
opened-history m start state protocol = record { start = start; state = state; protocol = protocol; legal = record { placed = λ i e at. absurd (cc at); leads = refl }; few = omega arith }
