-- The replies that end a script before its first command.
use Rattle.std.specs.Prelude.{[], string_bytes}
use Rattle.nd_time.specs.declared.order.TimeOrder.TheVariants.{Lexicographic}
use Rattle.nd_graph.specs.Graph.{Dataflow}
use Rattle.serde_json.specs.Data.{Data}
use Rattle.rewind_replies.specs.Replies.{fault, faulty, location_fault}
use Rattle.rewind_replies.specs.declared.replies.ErrorReply.{ErrorReply}
use Rattle.rewind_replies.specs.declared.replies.ErrorReply.TheVariants.{Plain, Line, Location}

-- the graph before there is one
abbrev pub no_graph : Dataflow
no_graph = record { vertices = []; edges = []; order = Lexicographic }

-- an error's number and name, and where it is
abbrev pub error_data : ErrorReply → Data
error_data (Plain code) = fault code
error_data (Line code n) = faulty code n
error_data (Location code name) = location_fault code (string_bytes name)
