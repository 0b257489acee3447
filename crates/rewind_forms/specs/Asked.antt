-- What a line asks for: a step, another command, or a query.
use Rattle.std.specs.Prelude.{Result, Ok}
use Rattle.serde_json.specs.Data.{Data}
use Rattle.nd_graph.specs.Graph.{Dataflow}
use Rattle.nd_commands.specs.declared.command.Command.TheVariants.{Forward}
use Rattle.rewind_forms.specs.Forms.{given, after}
use Rattle.rewind_forms.specs.Grammar.{form_of}
use Rattle.rewind_forms.specs.Steps.{step_of}
use Rattle.rewind_forms.specs.Commands.{command_of}
use Rattle.rewind_forms.specs.Queries.{query_of}
use Rattle.rewind_forms.specs.declared.version.Version.{Version}
use Rattle.rewind_forms.specs.declared.form.LineForm.{LineForm}
use Rattle.rewind_forms.specs.declared.form.LineForm.TheVariants.{Step, Command, Query}
use Rattle.rewind_forms.specs.declared.asked.Asked.{Asked}
use Rattle.rewind_forms.specs.declared.asked.Asked.TheVariants.{Do, Look}
use Rattle.rewind_forms.specs.declared.fault.LineFault.{LineFault}
use Rattle.rewind_forms.specs.declared.fault.LineFault.TheVariants.{BadShape}

-- what a line of a form asks for, against a graph
abbrev pub asked_as : Version → Dataflow → Data → LineForm → Result Asked LineFault
asked_as v g d (Step form) = after (step_of v g form d) (λ step. Ok (Do (Forward step)))
asked_as v g d (Command form) = after (command_of v g form d) (λ command. Ok (Do command))
asked_as v g d (Query form) = after (query_of v g form d) (λ query. Ok (Look query))

-- what a line of a script of this version asks for, against a graph
unfoldable pub asked_of : Version → Dataflow → Data → Result Asked LineFault
asked_of v g d = given BadShape (form_of v d) (asked_as v g d)
