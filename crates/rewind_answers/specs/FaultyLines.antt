-- The reply to a line that is neither a command nor a query.
use Rattle.std.specs.Prelude.{ℕ, Option, Some, None}
use Rattle.serde_json.specs.Data.{Data}
use Rattle.rewind_forms.specs.LineFaults.{code_of}
use Rattle.rewind_forms.specs.declared.fault.LineFault.{LineFault}
use Rattle.rewind_forms.specs.declared.fault.LineFault.TheVariants.{Memory}
use Rattle.rewind_replies.specs.Replies.{faulty}

-- the reply to a faulty line; none if memory ran out
abbrev pub line_fault : LineFault → ℕ → Option Data
line_fault Memory n = None
line_fault e n = Some (faulty (code_of e) n)
