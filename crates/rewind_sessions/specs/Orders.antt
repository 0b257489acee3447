-- What a line after the graph's asks for in a script of several clients, and for which client.
use Rattle.std.specs.Prelude.{ℕ, Bool, true, false, codes, nat_lt, if◌then◌else◌, Option, Some, None, Result, Ok, Err}
use Rattle.serde_json.specs.Data.{Data}
use Rattle.nd_time.specs.Code.{Code, coded}
use Rattle.nd_graph.specs.Graph.{Dataflow}
use Rattle.rewind_lines.specs.Lines.{Reading, blank, too_long, no_json, json}
use Rattle.rewind_forms.specs.Grammar.{form_of}
use Rattle.rewind_forms.specs.Asked.{asked_of}
use Rattle.rewind_forms.specs.LineFaults.{code_of as code_of_line}
use Rattle.rewind_replies.specs.Replies.{faulty}
use Rattle.rewind_forms.specs.declared.version.Version.{Version}
use Rattle.rewind_forms.specs.declared.form.LineForm.{LineForm}
use Rattle.rewind_forms.specs.declared.form.LineForm.TheVariants.{Step, Command, Query}
use Rattle.rewind_forms.specs.declared.asked.Asked.{Asked}
use Rattle.rewind_forms.specs.declared.asked.Asked.TheVariants.{Do, Look}
use Rattle.rewind_forms.specs.declared.fault.LineFault.{LineFault}
use Rattle.rewind_forms.specs.declared.fault.LineFault.TheVariants.{LineTooLong, BadLine, BadShape}
use Rattle.rewind_sessions.specs.Numbers.{Named, named_of}
use Rattle.rewind_sessions.specs.declared.order.Order.{Order}
use Rattle.rewind_sessions.specs.declared.order.OrderFault.{OrderFault}
use Rattle.rewind_sessions.specs.declared.order.OrderFault.TheVariants.{Line, BadClient, OneClientOnly}

-- whether the line has the form of a query
abbrev pub is_query : Option LineForm → Bool
is_query None = false
is_query (Some (Step form)) = false
is_query (Some (Command form)) = false
is_query (Some (Query form)) = true

-- whether the line asks for a query
abbrev pub asks_query : Asked → Bool
asks_query (Do command) = false
asks_query (Look query) = true

-- what a line asks for that names an existing client; a query is refused, since queries belong to scripts of one client
abbrev pub of_client : ℕ → Bool → Result Asked LineFault → Result Order OrderFault
of_client client true asked = Err OneClientOnly
of_client client false (Ok (Do command)) = Ok (record { client = client; command = command })
of_client client false (Ok (Look query)) = Err OneClientOnly
of_client client false (Err e) = Err (Line e)

-- the form is tested before the client's number, and all names and times after both
abbrev pub among : ℕ → ℕ → Bool → Result Asked LineFault → Result Order OrderFault
among clients client query (Err BadShape) = Err (Line BadShape)
among clients client query asked = if nat_lt client clients then of_client client query asked else Err BadClient

abbrev pub order_named : Version → ℕ → Dataflow → Option Named → Result Order OrderFault
order_named version clients g None = Err (Line BadShape)
order_named version clients g (Some named) = among clients named.client (is_query (form_of version named.rest)) (asked_of version g named.rest)

-- what a line's value asks for in a script of this version, for a graph and this number of clients
unfoldable pub order_of : Version → ℕ → Dataflow → Data → Result Order OrderFault
order_of version clients g d = order_named version clients g (named_of d)

-- what a line that is not blank asks for
abbrev pub order_in : Version → ℕ → Dataflow → Reading → Result Order OrderFault
order_in version clients g blank = Err (Line BadShape)
order_in version clients g too_long = Err (Line LineTooLong)
order_in version clients g no_json = Err (Line BadLine)
order_in version clients g (json d) = order_of version clients g d

-- the number and the name of the error of a line
abbrev pub code_of : OrderFault → Code
code_of (Line e) = code_of_line e
code_of BadClient = coded 35 (codes "BadClient")
code_of OneClientOnly = coded 36 (codes "OneClientOnly")

-- the reply to a faulty line of this number
abbrev pub order_fault : OrderFault → ℕ → Data
order_fault e line = faulty (code_of e) line
