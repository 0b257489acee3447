-- The command other than a step that a line asks for.
use Rattle.std.specs.Prelude.{codes, Result, Ok}
use Rattle.std.specs.declared.alloc.Global.{Global}
use Rattle.serde_json.specs.Data.{Data}
use Rattle.serde_json.specs.Find.{get}
use Rattle.nd_json.specs.Forms.{whole, whole_at}
use Rattle.nd_graph.specs.Graph.{Dataflow}
use Rattle.nd_commands.specs.declared.command.Command.{Command}
use Rattle.nd_commands.specs.declared.command.Command.TheVariants.{Back, Redo, Jump, Run, SetBreak, ClearBreak}
use Rattle.rewind_forms.specs.Forms.{given, after, if_any, processors_in}
use Rattle.rewind_forms.specs.Conditions.{condition_of}
use Rattle.rewind_forms.specs.Versions.{most_processors}
use Rattle.rewind_forms.specs.declared.version.Version.{Version}
use Rattle.rewind_forms.specs.declared.form.CommandForm.{CommandForm}
use Rattle.rewind_forms.specs.declared.form.CommandForm.TheVariants as form
use Rattle.rewind_forms.specs.declared.fault.LineFault.{LineFault}
use Rattle.rewind_forms.specs.declared.fault.LineFault.TheVariants.{BadShape}

abbrev pub jump_of : Data → Result (Command Global) LineFault
jump_of d = given BadShape (whole_at (codes "to") d) (λ to. Ok (Jump to))

-- a run, of some processors if they are listed, which chooses by a seed if there is one
unfoldable pub run_of : Version → Data → Result (Command Global) LineFault
run_of v d =
    given BadShape (whole_at (codes "limit") d) (λ limit.
    given BadShape (if_any whole (get (codes "seed") d)) (λ seed.
    given BadShape (if_any (processors_in (most_processors v)) (get (codes "only") d)) (λ only.
    Ok (Run limit only seed))))

unfoldable pub set_of : Version → Dataflow → Data → Result (Command Global) LineFault
set_of v g d =
    given BadShape (get (codes "when") d) (λ when.
    after (condition_of v g when) (λ condition.
    Ok (SetBreak condition)))

abbrev pub clear_of : Data → Result (Command Global) LineFault
clear_of d = given BadShape (whole_at (codes "id") d) (λ id. Ok (ClearBreak id))

-- the command of a form
abbrev pub command_of : Version → Dataflow → CommandForm → Data → Result (Command Global) LineFault
command_of v g form.Back d = Ok Back
command_of v g form.Redo d = Ok Redo
command_of v g form.Jump d = jump_of d
command_of v g form.Run d = run_of v d
command_of v g form.Break d = set_of v g d
command_of v g form.Unbreak d = clear_of d
