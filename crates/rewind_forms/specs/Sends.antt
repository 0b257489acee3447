-- The send that a line asks for. The shapes of its values are tested first, then the names, then the times.
use Rattle.std.specs.Prelude.{codes, Result, Ok}
use Rattle.std.specs.declared.alloc.Global.{Global}
use Rattle.serde_json.specs.Data.{Data}
use Rattle.serde_json.specs.Find.{get}
use Rattle.nd_json.specs.Forms.{small, small_at}
use Rattle.nd_graph.specs.Graph.{Dataflow}
use Rattle.nd_protocol.specs.declared.step.Step.{Step}
use Rattle.nd_protocol.specs.declared.step.Step.TheVariants.{Send}
use Rattle.rewind_forms.specs.Forms.{given, if_any, time_in, named_at, values_at}
use Rattle.rewind_forms.specs.Places.{vertex_named, time_of}
use Rattle.rewind_forms.specs.declared.fault.LineFault.{LineFault}
use Rattle.rewind_forms.specs.declared.fault.LineFault.TheVariants.{BadShape, UnknownName, BadTime}

-- both times are of the vertex
unfoldable pub send_of : Dataflow → Data → Result (Step Global) LineFault
send_of g d =
    given BadShape (small_at (codes "p") d) (λ p.
    given BadShape (named_at (codes "vertex") d) (λ named.
    given BadShape (small_at (codes "port") d) (λ port.
    given BadShape (values_at (codes "values") d) (λ values.
    given BadShape (if_any time_in (get (codes "at") d)) (λ numbers.
    given BadShape (if_any small (get (codes "dest") d)) (λ dest.
    given UnknownName (vertex_named g named.0) (λ vertex.
    given BadTime (time_of g vertex named.1) (λ time.
    given BadTime (if_any (time_of g vertex) numbers) (λ at.
    Ok (Send p vertex (record { time = time; at = at; port = port; values = values; dest = dest })))))))))))
