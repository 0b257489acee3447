-- The step that a line asks for. The shapes of its values are tested first, then the names, then the times.
use Rattle.std.specs.Prelude.{ℕ, Bool, false, List, if◌then◌else◌, Option, Some, None, option_map, option_and_then, codes, Result, Ok, Err}
use Rattle.std.specs.declared.alloc.Global.{Global}
use Rattle.std.specs.Option.{unwrap_or}
use Rattle.serde_json.specs.Data.{Data}
use Rattle.serde_json.specs.Find.{get}
use Rattle.nd_json.specs.Forms.{small, has_text, boolean_in, text_at, small_at, integer_at, list_at}
use Rattle.nd_time.specs.Time.{Time}
use Rattle.nd_graph.specs.Graph.{Dataflow}
use Rattle.nd_protocol.specs.declared.step.Step.{Step}
use Rattle.nd_protocol.specs.declared.step.Step.TheVariants.{Feed, Take, Notice, Release, Broadcast, Receive}
use Rattle.nd_protocol.specs.declared.times.Later.{Later}
use Rattle.nd_protocol.specs.declared.part.Part.TheVariants.{All, Points}
use Rattle.nd_protocol.specs.declared.step.Next.{Next as Afterwards}
use Rattle.nd_protocol.specs.declared.step.Next.TheVariants as token
use Rattle.rewind_forms.specs.Forms.{given, after, if_any, are_read, all_read, time_in, named_at, listed_point, values_at, alone}
use Rattle.rewind_forms.specs.Places.{vertex_named, edge_named, time_of, placed, listed_location, placed_point}
use Rattle.rewind_forms.specs.Sends.{send_of}
use Rattle.rewind_forms.specs.Grammar.{form_of}
use Rattle.rewind_forms.specs.Versions.{includes}
use Rattle.rewind_forms.specs.declared.version.Version.{Version}
use Rattle.rewind_forms.specs.declared.version.Version.TheVariants.{Fifth, Sixth}
use Rattle.rewind_forms.specs.declared.form.LineForm.{LineForm}
use Rattle.rewind_forms.specs.declared.form.LineForm.TheVariants as line
use Rattle.rewind_forms.specs.declared.form.StepForm.{StepForm}
use Rattle.rewind_forms.specs.declared.form.StepForm.TheVariants as form
use Rattle.rewind_forms.specs.declared.fault.LineFault.{LineFault}
use Rattle.rewind_forms.specs.declared.fault.LineFault.TheVariants.{BadShape, UnknownName, BadTime}

-- the epoch n of {"to":n} at the key "next"
unfoldable pub epoch_at : Data → Option ℕ
epoch_at d = option_and_then small (option_and_then (alone (codes "to")) (get (codes "next") d))

-- what becomes of the token after a feed, in a script of this version
unfoldable pub next_at : Version → Data → Option Afterwards
next_at v d =
    if has_text (codes "next") (codes "next") d then Some token.Next
    else (if has_text (codes "next") (codes "close") d then Some token.Close
    else (if has_text (codes "next") (codes "stay") d then Some token.Stay
    else (if includes v Fifth then option_map token.To (epoch_at d) else None)))

unfoldable pub feed_of : Version → Dataflow → Data → Result (Step Global) LineFault
feed_of v g d =
    given BadShape (small_at (codes "p") d) (λ p.
    given BadShape (text_at (codes "vertex") d) (λ name.
    given BadShape (values_at (codes "values") d) (λ values.
    given BadShape (next_at v d) (λ next.
    given UnknownName (vertex_named g name) (λ vertex.
    Ok (Feed p vertex values next))))))

unfoldable pub take_of : Dataflow → Data → Result (Step Global) LineFault
take_of g d =
    given BadShape (small_at (codes "p") d) (λ p.
    given BadShape (integer_at (codes "value") d) (λ value.
    given BadShape (named_at (codes "edge") d) (λ named.
    after (placed g (edge_named g named.0) named.1) (λ point.
    Ok (Take p point.location point.time value)))))

unfoldable pub notice_of : Dataflow → Data → Result (Step Global) LineFault
notice_of g d =
    given BadShape (small_at (codes "p") d) (λ p.
    given BadShape (named_at (codes "vertex") d) (λ named.
    after (placed g (vertex_named g named.0) named.1) (λ point.
    Ok (Notice p point.location point.time))))

-- the time at which a capability is held later, if there is one, and whether the first capability stays
abbrev pub later_of : Option Time → Option Bool → Option Later
later_of time keep = option_map (λ t. record { time = t; keep = unwrap_or keep false }) time

-- the release of a capability, which is dropped, or moves to the time at the key "to", or stays with a second one there; both times
-- are of the vertex
unfoldable pub release_of : Dataflow → Data → Result (Step Global) LineFault
release_of g d =
    given BadShape (small_at (codes "p") d) (λ p.
    given BadShape (named_at (codes "vertex") d) (λ named.
    given BadShape (if_any time_in (get (codes "to") d)) (λ numbers.
    given BadShape (if_any boolean_in (get (codes "keep") d)) (λ keep.
    given UnknownName (vertex_named g named.0) (λ vertex.
    given BadTime (time_of g vertex named.1) (λ time.
    given BadTime (if_any (time_of g vertex) numbers) (λ later.
    Ok (Release p vertex (record { time = time; to = later_of later keep })))))))))

-- the broadcast of all that is unsent
unfoldable pub broadcast_of : Data → Result (Step Global) LineFault
broadcast_of d = given BadShape (small_at (codes "p") d) (λ p. Ok (Broadcast p All))

-- the broadcast of the part that a list describes: first the shapes of all items are tested, then all names, then all times
abbrev pub part_in : Dataflow → ℕ → List Data → Result (Step Global) LineFault
part_in g p ds =
    if are_read listed_point ds then (
    if are_read (listed_location g) ds then (
    if are_read (placed_point g) ds then Ok (Broadcast p (Points (all_read (placed_point g) ds)))
    else Err BadTime) else Err UnknownName) else Err BadShape

-- the broadcast of a part
unfoldable pub part_of : Dataflow → Data → Result (Step Global) LineFault
part_of g d = given BadShape (small_at (codes "p") d) (λ p. given BadShape (list_at (codes "part") d) (part_in g p))

unfoldable pub receive_of : Data → Result (Step Global) LineFault
receive_of d =
    given BadShape (small_at (codes "from") d) (λ from.
    given BadShape (small_at (codes "to") d) (λ to.
    Ok (Receive from to)))

-- the step of a form
abbrev pub step_of : Version → Dataflow → StepForm → Data → Result (Step Global) LineFault
step_of v g form.Feed d = feed_of v g d
step_of v g form.Take d = take_of g d
step_of v g form.Notice d = notice_of g d
step_of v g form.Release d = release_of g d
step_of v g form.Send d = send_of g d
step_of v g form.Broadcast d = broadcast_of d
step_of v g form.Part d = part_of g d
step_of v g form.Receive d = receive_of d

-- the step, if the form is one of a step; otherwise a bad shape
abbrev pub read_as : Dataflow → Data → LineForm → Result (Step Global) LineFault
read_as g d (line.Step form) = step_of Sixth g form d
read_as g d (line.Command form) = Err BadShape
read_as g d (line.Query form) = Err BadShape

-- the step that a value describes in a script of version 6, or the error
unfoldable pub read_of : Dataflow → Data → Result (Step Global) LineFault
read_of g d = given BadShape (form_of Sixth d) (read_as g d)
