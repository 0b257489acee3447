-- What a value of the code's `Intake` stands for. Only private contracts use these definitions.
use Rattle.std.specs.Prelude.{ℕ, List, [], ◌∷◌, ◌++◌, unwrap_or, Option, Some, None}
use Rattle.serde_json.specs.Data.{Data}
use Rattle.rewind_replies.specs.Errors.{error_data}
use Rattle.rewind_replies.specs.declared.replies.ErrorReply.{ErrorReply}
use Rattle.rewind_replies.specs.Replies.{version as version_reply}
use Rattle.rewind_forms.specs.Versions.{number_of}
use Rattle.rewind_forms.specs.declared.version.Version.{Version}
use Rattle.rewind_forms.specs.declared.version.Version.TheVariants.{First}
use Rattle.rewind_answers.specs.Answers.{Phase, StartReplies, graph_of}
use Rattle.rewind_answers.specs.Stages.{logged}
use Rattle.rewind_sessions.specs.Openings.{opening_data, version_replies}
use Rattle.rewind_sessions.specs.Runs.{lists_of}
use Rattle.rewind_clients.specs.Intake.{IsBegun, nothing, opened, refused_graph, faulty_line, script}
use Rattle.rewind_clients.specs.Intake as read
use Rattle.rewind_clients.specs.declared.intake.Intake.{Intake}
use Rattle.rewind_clients.specs.declared.intake.ReadScript.{ReadScript}
use Rattle.rewind_clients.specs.declared.intake.Intake.TheVariants.{Unstarted, Refused, Faulty, Whole}

-- before the graph's line, after a version line or none
abbrev pub unstarted_view : Option Version → read.Intake
unstarted_view None = nothing
unstarted_view (Some version) = opened version (version_reply (number_of version))

-- the version of a script
abbrev pub version_of : ReadScript → Version
version_of s = unwrap_or s.opened First

-- the replies to a version line, if the script has one, and to its graph
abbrev pub opening_replies : ReadScript → List Data
opening_replies s = opening_data s.opened s.reply

abbrev pub script_view : ReadScript → read.Intake
script_view s = script (version_of s) (opening_replies s) (logged s.state) (lists_of s.commands.items)

abbrev pub intake_view : Intake → read.Intake
intake_view (Unstarted version) = unstarted_view version
intake_view (Refused e) = refused_graph (error_data e)
intake_view (Faulty e) = faulty_line (error_data e)
intake_view (Whole s) = script_view s

-- a script, or the reply to its faulty line
abbrev pub or_faulty : Option ErrorReply → ReadScript → read.Intake
or_faulty None s = script_view s
or_faulty (Some e) s = faulty_line (error_data e)

-- the result of the graph's line with the value d, after a version line or none
pub record Starts (processors clients : ℕ) (version : Option Version) (d : Data) (new : read.Intake) : Type 0 where
  pub reply : Data
  pub phase : Phase
  pub answers : StartReplies (unwrap_or version First) processors (graph_of (unwrap_or version First) d) (reply ∷ []) phase
  pub begun : IsBegun clients phase (version_replies version ++ reply ∷ []) new
