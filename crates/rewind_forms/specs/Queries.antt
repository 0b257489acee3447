-- The query that a line asks for. The shapes of its values are tested first, then the names, then the times.
use Rattle.std.specs.Prelude.{ℕ, Bool, true, false, codes, Option, Some, None, Result, Ok}
use Rattle.std.specs.Option.{unwrap_or}
use Rattle.serde_json.specs.Data.{Data}
use Rattle.serde_json.specs.Find.{get}
use Rattle.nd_json.specs.Forms.{boolean_in, whole, text_at, small_at, whole_at}
use Rattle.nd_graph.specs.Graph.{Dataflow}
use Rattle.nd_paths.specs.declared.point.Pointstamp.{Pointstamp}
use Rattle.nd_view.specs.declared.extent.Extent.{Extent}
use Rattle.nd_view.specs.declared.extent.Extent.TheVariants.{AtOrBefore, StrictlyBefore}
use Rattle.rewind_forms.specs.Forms.{given, after, if_any, point_at}
use Rattle.rewind_forms.specs.Places.{location_named, time_of, point_there}
use Rattle.rewind_forms.specs.Conditions.{condition_of}
use Rattle.rewind_forms.specs.Allowed.{allowed_in, nothing_allowed}
use Rattle.rewind_forms.specs.declared.version.Version.{Version}
use Rattle.rewind_forms.specs.declared.form.QueryForm.{QueryForm}
use Rattle.rewind_forms.specs.declared.form.QueryForm.TheVariants as form
use Rattle.rewind_forms.specs.declared.fault.LineFault.{LineFault}
use Rattle.rewind_forms.specs.declared.fault.LineFault.TheVariants.{BadShape, UnknownName, BadTime}
use Rattle.rewind_forms.specs.declared.queries.Query.{Query}
use Rattle.rewind_forms.specs.declared.queries.Query.TheVariants.{State, Count, Before, View, Frontier, Passed, Search, Export, Why, Changes, Step, Candidates, Effect, Turns, FrontierAt, Reach, WhyAtRest}

unfoldable pub count_of : Dataflow → Data → Result Query LineFault
count_of g d = after (point_there g d) (λ point. Ok (Count point))

-- both names are looked up before both times
unfoldable pub before_of : Dataflow → Data → Result Query LineFault
before_of g d =
    given BadShape (point_at (codes "from") d) (λ from.
    given BadShape (point_at (codes "to") d) (λ to.
    given UnknownName (location_named g from.0) (λ l.
    given UnknownName (location_named g to.0) (λ m.
    given BadTime (time_of g l from.1) (λ s.
    given BadTime (time_of g m to.1) (λ t.
    Ok (Before (record { location = l; time = s }) (record { location = m; time = t }))))))))

abbrev pub view_of : Data → Result Query LineFault
view_of d = given BadShape (small_at (codes "q") d) (λ q. Ok (View q))

abbrev pub frontier_of : Data → Result Query LineFault
frontier_of d = given BadShape (small_at (codes "q") d) (λ q. Ok (Frontier q))

unfoldable pub passed_of : Dataflow → Data → Result Query LineFault
passed_of g d =
    given BadShape (small_at (codes "q") d) (λ q.
    after (point_there g d) (λ point.
    Ok (Passed q point)))

unfoldable pub search_of : Version → Dataflow → Data → Result Query LineFault
search_of v g d =
    given BadShape (whole_at (codes "lo") d) (λ lo.
    given BadShape (whole_at (codes "hi") d) (λ hi.
    given BadShape (whole_at (codes "workers") d) (λ workers.
    given BadShape (get (codes "when") d) (λ when.
    after (condition_of v g when) (λ condition.
    Ok (Search (record { when = condition; lo = lo; hi = hi; workers = workers })))))))

unfoldable pub changes_of : Dataflow → Data → Result Query LineFault
changes_of g d =
    given BadShape (small_at (codes "q") d) (λ q.
    given BadShape (whole_at (codes "lo") d) (λ lo.
    given BadShape (whole_at (codes "hi") d) (λ hi.
    after (point_there g d) (λ point.
    Ok (Changes (record { q = q; point = point; lo = lo; hi = hi }))))))

abbrev pub kept_step_of : Data → Result Query LineFault
kept_step_of d = given BadShape (whole_at (codes "to") d) (λ to. Ok (Step to))

abbrev pub effect_of : Data → Result Query LineFault
effect_of d = given BadShape (whole_at (codes "to") d) (λ to. Ok (Effect to))

unfoldable pub turns_of : Version → Dataflow → Data → Result Query LineFault
turns_of v g d =
    given BadShape (whole_at (codes "lo") d) (λ lo.
    given BadShape (whole_at (codes "hi") d) (λ hi.
    given BadShape (get (codes "when") d) (λ when.
    after (condition_of v g when) (λ condition.
    Ok (Turns (record { when = condition; lo = lo; hi = hi }))))))

abbrev pub frontier_at_of : Dataflow → Data → Result Query LineFault
frontier_at_of g d =
    given BadShape (small_at (codes "q") d) (λ q.
    given BadShape (text_at (codes "at") d) (λ name.
    given UnknownName (location_named g name) (λ l.
    Ok (FrontierAt q l))))

-- the pointstamps that a question is about: those strictly before, if {"before":true} says so
abbrev pub extent_of : Option Bool → Extent
extent_of (Some true) = StrictlyBefore
extent_of (Some false) = AtOrBefore
extent_of None = AtOrBefore

-- the question why at the cursor, or when all that can happen has happened, which takes at most `limit` steps
abbrev pub why_asked : ℕ → Pointstamp → Extent → Option ℕ → Query
why_asked q point extent None = Why (record { q = q; point = point; extent = extent })
why_asked q point extent (Some limit) = WhyAtRest (record { asked = record { q = q; point = point; extent = extent }; limit = limit })

unfoldable pub why_of : Dataflow → Data → Result Query LineFault
why_of g d =
    given BadShape (small_at (codes "q") d) (λ q.
    given BadShape (if_any boolean_in (get (codes "before") d)) (λ strictly.
    given BadShape (if_any whole (get (codes "rest") d)) (λ limit.
    after (point_there g d) (λ point.
    Ok (why_asked q point (extent_of strictly) limit)))))

unfoldable pub reach_of : Version → Dataflow → Data → Result Query LineFault
reach_of v g d =
    given BadShape (whole_at (codes "limit") d) (λ limit.
    given BadShape (get (codes "when") d) (λ when.
    given BadShape (if_any allowed_in (get (codes "with") d)) (λ allowed.
    after (condition_of v g when) (λ condition.
    Ok (Reach (record { when = condition; limit = limit; allowed = unwrap_or allowed nothing_allowed }))))))

-- the query of a form
abbrev pub query_of : Version → Dataflow → QueryForm → Data → Result Query LineFault
query_of v g form.State d = Ok State
query_of v g form.Count d = count_of g d
query_of v g form.Before d = before_of g d
query_of v g form.View d = view_of d
query_of v g form.Frontier d = frontier_of d
query_of v g form.Passed d = passed_of g d
query_of v g form.Search d = search_of v g d
query_of v g form.Export d = Ok Export
query_of v g form.Why d = why_of g d
query_of v g form.Changes d = changes_of g d
query_of v g form.Step d = kept_step_of d
query_of v g form.Candidates d = Ok Candidates
query_of v g form.Effect d = effect_of d
query_of v g form.Turns d = turns_of v g d
query_of v g form.FrontierAt d = frontier_at_of g d
query_of v g form.Reach d = reach_of v g d
