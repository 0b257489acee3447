-- The locations of a graph, by their names, and times there.
use Rattle.std.specs.Prelude.{ℕ, false, List, [], ◌∷◌, length, nat_eq, nat_lt, if◌then◌else◌, slice_get, Option, Some, None, position, option_map, option_and_then, codes, Result, Ok}
use Rattle.std.specs.Option.{option_map_or}
use Rattle.std.specs.Str.{bytes_eq}
use Rattle.serde_json.specs.Data.{Data}
use Rattle.nd_time.specs.Time.{Time}
use Rattle.nd_graph.specs.Graph.{Dataflow, names, depths}
use Rattle.nd_paths.specs.declared.point.Pointstamp.{Pointstamp}
use Rattle.rewind_forms.specs.Forms.{given, named_at, listed_point}
use Rattle.rewind_forms.specs.declared.fault.LineFault.{LineFault}
use Rattle.rewind_forms.specs.declared.fault.LineFault.TheVariants.{BadShape, UnknownName, BadTime}

-- the location of this name
unfoldable pub location_named : Dataflow → List ℕ → Option ℕ
location_named g name = position (bytes_eq name) (names g)

-- the location of this name, if it is a vertex
unfoldable pub vertex_named : Dataflow → List ℕ → Option ℕ
vertex_named g name = option_and_then (λ l. if nat_lt l (length g.vertices) then Some l else None) (location_named g name)

-- the location of this name, if it is an edge
unfoldable pub edge_named : Dataflow → List ℕ → Option ℕ
edge_named g name = option_and_then (λ l. if nat_lt l (length g.vertices) then None else Some l) (location_named g name)

-- the time of an epoch and counters, if there are as many counters as loops around the location
unfoldable pub time_of : Dataflow → ℕ → List ℕ → Option Time
time_of g l [] = None
time_of g l (epoch ∷ counters) =
    if option_map_or (nat_eq (length counters)) (slice_get (depths g) l) false
    then Some (record { epoch = epoch; counters = counters })
    else None

-- ---- pointstamps, by a name and the numbers of a time

-- the pointstamp of a location's name and a time's numbers
unfoldable pub point_named : Dataflow → List ℕ × List ℕ → Option Pointstamp
point_named g p = option_and_then (λ l. option_map (λ t. record { location = l; time = t }) (time_of g l p.1)) (location_named g p.0)

-- the location that a value names before the numbers of a time
unfoldable pub listed_location : Dataflow → Data → Option ℕ
listed_location g d = option_and_then (λ p. location_named g p.0) (listed_point d)

-- the pointstamp of the graph that a value describes
unfoldable pub placed_point : Dataflow → Data → Option Pointstamp
placed_point g d = option_and_then (point_named g) (listed_point d)

-- the pointstamp at the location that was found for a name, with the time of these numbers; or the error
unfoldable pub placed : Dataflow → Option ℕ → List ℕ → Result Pointstamp LineFault
placed g found numbers =
    given UnknownName found (λ l.
    given BadTime (time_of g l numbers) (λ t.
    Ok (record { location = l; time = t })))

-- the pointstamp with its location's name at the key "at" and its time at the key "time"
unfoldable pub point_there : Dataflow → Data → Result Pointstamp LineFault
point_there g d = given BadShape (named_at (codes "at") d) (λ named. placed g (location_named g named.0) named.1)
