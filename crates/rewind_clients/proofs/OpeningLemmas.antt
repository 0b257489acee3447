-- The result of a version line, a blank line, or a line that is no JSON value, before the graph's line.
use Rattle.std.proofs.Common.{◌≡◌, ℕ, [], ◌∷◌, Option, Some, None, refl}
use Rattle.serde_json.specs.Data.{Data}
use Rattle.rewind_lines.specs.Lines.{blank, too_long, no_json, json}
use Rattle.rewind_forms.specs.LineFaults.{code_of}
use Rattle.rewind_replies.specs.Replies.{faulty, version as version_reply}
use Rattle.rewind_forms.specs.Versions.{number_of, version_of}
use Rattle.rewind_forms.specs.declared.version.Version.{Version}
use Rattle.rewind_forms.specs.declared.fault.LineFault.TheVariants.{LineTooLong, BadLine}
use Rattle.rewind_answers.specs.Answers.{unopened, unstarted, refused}
use Rattle.rewind_clients.specs.Intake.{ReadsLine, nothing, opened, refused_graph}
use Rattle.rewind_clients.specs.Intakes.{unstarted_view}

-- a blank line
pub reads-blank : (p c n : ℕ) (v : Option Version) → ReadsLine p c (unstarted_view v) n blank (unstarted_view v)
reads-blank p c n None = record { replies = []; phase = unopened p; answers = (refl, refl); begun = refl }
reads-blank p c n (Some v) = record { replies = []; phase = unstarted v p; answers = (refl, refl); begun = refl }

-- a line that is no JSON value
pub reads-long : (p c n : ℕ) (v : Option Version) → ReadsLine p c (unstarted_view v) n too_long (refused_graph (faulty (code_of LineTooLong) n))
reads-long p c n None = record { replies = faulty (code_of LineTooLong) n ∷ []; phase = refused; answers = (refl, refl); begun = refl }
reads-long p c n (Some v) = record { replies = faulty (code_of LineTooLong) n ∷ []; phase = refused; answers = (refl, refl); begun = refl }

pub reads-bad : (p c n : ℕ) (v : Option Version) → ReadsLine p c (unstarted_view v) n no_json (refused_graph (faulty (code_of BadLine) n))
reads-bad p c n None = record { replies = faulty (code_of BadLine) n ∷ []; phase = refused; answers = (refl, refl); begun = refl }
reads-bad p c n (Some v) = record { replies = faulty (code_of BadLine) n ∷ []; phase = refused; answers = (refl, refl); begun = refl }

-- a version line
pub reads-version : (p c n : ℕ) (d : Data) (v : Version) → Some v ≡ version_of d → ReadsLine p c nothing n (json d) (opened v (version_reply (number_of v)))
reads-version p c n d v is = record { replies = version_reply (number_of v) ∷ []; phase = unstarted v p; answers = rw (← is) (refl, refl); begun = refl }
