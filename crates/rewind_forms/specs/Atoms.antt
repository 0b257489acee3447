-- An atom of a condition. The shapes of its values are tested first, then the name, then the time.
use Rattle.std.specs.Prelude.{[], ◌∷◌, codes, if◌then◌else◌, Result, Ok, Err}
use Rattle.serde_json.specs.Data.{Data}
use Rattle.nd_json.specs.Forms.{text_at, small_at, whole_at, integer_at}
use Rattle.nd_graph.specs.Graph.{Dataflow}
use Rattle.nd_breaks.specs.declared.condition.Atom.{Atom}
use Rattle.nd_breaks.specs.declared.condition.Atom.TheVariants.{Passed, Count, Queue, Sink, Finished, View, Held}
use Rattle.rewind_forms.specs.Forms.{given, after, within, inner}
use Rattle.rewind_forms.specs.Places.{vertex_named, point_there}
use Rattle.rewind_forms.specs.Versions.{includes}
use Rattle.rewind_forms.specs.declared.version.Version.{Version}
use Rattle.rewind_forms.specs.declared.version.Version.TheVariants.{Ninth}
use Rattle.rewind_forms.specs.declared.fault.LineFault.{LineFault}
use Rattle.rewind_forms.specs.declared.fault.LineFault.TheVariants.{BadShape, UnknownName}

-- {"at":name,"q":n,"time":t}
unfoldable pub passed_of : Dataflow → Data → Result Atom LineFault
passed_of g d =
    given BadShape (small_at (codes "q") d) (λ q.
    after (point_there g d) (λ point.
    Ok (Passed q point)))

-- {"at":name,"at_least":n,"time":t}
unfoldable pub count_of : Dataflow → Data → Result Atom LineFault
count_of g d =
    given BadShape (whole_at (codes "at_least") d) (λ at_least.
    after (point_there g d) (λ point.
    Ok (Count point at_least)))

-- {"at_least":n,"from":n,"to":n}
abbrev pub queue_of : Data → Result Atom LineFault
queue_of d =
    given BadShape (whole_at (codes "at_least") d) (λ at_least.
    given BadShape (small_at (codes "from") d) (λ from.
    given BadShape (small_at (codes "to") d) (λ to.
    Ok (Queue from to at_least))))

-- {"at_least":n,"value":v,"vertex":name}
abbrev pub sink_of : Dataflow → Data → Result Atom LineFault
sink_of g d =
    given BadShape (whole_at (codes "at_least") d) (λ at_least.
    given BadShape (integer_at (codes "value") d) (λ value.
    given BadShape (text_at (codes "vertex") d) (λ name.
    given UnknownName (vertex_named g name) (λ vertex.
    Ok (Sink vertex value at_least)))))

-- {"at":name,"time":t}
unfoldable pub finished_of : Dataflow → Data → Result Atom LineFault
finished_of g d = after (point_there g d) (λ point. Ok (Finished point))

-- {"at":name,"at_least":n,"q":n,"time":t}
unfoldable pub view_of : Dataflow → Data → Result Atom LineFault
view_of g d =
    given BadShape (integer_at (codes "at_least") d) (λ at_least.
    given BadShape (small_at (codes "q") d) (λ q.
    after (point_there g d) (λ point.
    Ok (View q point at_least))))

-- {"at":name,"at_least":n,"p":n,"time":t}
unfoldable pub held_of : Dataflow → Data → Result Atom LineFault
held_of g d =
    given BadShape (whole_at (codes "at_least") d) (λ at_least.
    given BadShape (small_at (codes "p") d) (λ p.
    after (point_there g d) (λ point.
    Ok (Held p point at_least))))

-- the atom at the only key, which names its kind; only the kinds that every version has
unfoldable pub first_atom_of : Dataflow → Data → Result Atom LineFault
first_atom_of g d =
    within (inner (codes "passed") (codes "at" ∷ codes "q" ∷ codes "time" ∷ []) d) (passed_of g)
    (within (inner (codes "count") (codes "at" ∷ codes "at_least" ∷ codes "time" ∷ []) d) (count_of g)
    (within (inner (codes "queue") (codes "at_least" ∷ codes "from" ∷ codes "to" ∷ []) d) queue_of
    (within (inner (codes "sink") (codes "at_least" ∷ codes "value" ∷ codes "vertex" ∷ []) d) (sink_of g)
    (Err BadShape))))

-- the same, with the kinds that the fourth version adds
unfoldable pub fourth_atom_of : Dataflow → Data → Result Atom LineFault
fourth_atom_of g d =
    within (inner (codes "finished") (codes "at" ∷ codes "time" ∷ []) d) (finished_of g)
    (within (inner (codes "view") (codes "at" ∷ codes "at_least" ∷ codes "q" ∷ codes "time" ∷ []) d) (view_of g)
    (first_atom_of g d))

-- the atom at the only key in a script of this version, from the fourth on
unfoldable pub atom_of : Version → Dataflow → Data → Result Atom LineFault
atom_of v g d =
    if includes v Ninth then within (inner (codes "held") (codes "at" ∷ codes "at_least" ∷ codes "p" ∷ codes "time" ∷ []) d) (held_of g) (fourth_atom_of g d)
    else fourth_atom_of g d
