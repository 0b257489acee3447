-- The replies to the lines up to the graph's.
use Rattle.std.specs.Prelude.{List, [], ◌∷◌, ◌++◌, Option, Some, None}
use Rattle.serde_json.specs.Data.{Data}
use Rattle.rewind_replies.specs.declared.replies.GraphReply.{GraphReply}
use Rattle.rewind_replies.specs.Replies.{graph as graph_reply, version as version_reply}
use Rattle.rewind_forms.specs.Versions.{number_of}
use Rattle.rewind_forms.specs.declared.version.Version.{Version}

-- the reply to the version line, if there was one
abbrev pub version_replies : Option Version → List Data
version_replies None = []
version_replies (Some version) = version_reply (number_of version) ∷ []

-- the replies to a version line, if there was one, and to the graph
abbrev pub opening_data : Option Version → GraphReply → List Data
opening_data version reply = version_replies version ++ graph_reply reply.locations reply.processors ∷ []
