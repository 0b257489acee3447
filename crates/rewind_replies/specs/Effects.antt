-- What a step changed as a JSON value.
use Rattle.std.specs.Prelude.{ℕ, ℤ, Bool, [], ◌∷◌, map, codes, Option, option_map, unwrap_or}
use Rattle.serde_json.specs.Data.{Data, null, boolean, object, no_members, member}
use Rattle.nd_graph.specs.Graph.{Dataflow}
use Rattle.nd_paths.specs.declared.point.Pointstamp.{Pointstamp}
use Rattle.nd_processor.specs.declared.key.ValueAt.{ValueAt}
use Rattle.nd_processor.specs.declared.key.SinkKey.{SinkKey}
use Rattle.nd_state_json.specs.StateText.{row, natural, whole, place, time_data}
use Rattle.nd_steps.specs.declared.effect.Altered.{Altered}
use Rattle.nd_steps.specs.declared.effect.ItemAt.{ItemAt}
use Rattle.nd_steps.specs.Effect.{EffectValue}

-- what is there, or null
abbrev pub or_null : Option Data → Data
or_null o = unwrap_or o null

-- ---- one element: where, the value before, and the value after

-- [p,vertex,time,item,old,new]
abbrev pub item_altered : Dataflow → Altered ItemAt (Option ℤ) → Data
item_altered g a = row (natural a.p ∷ place g a.key.vertex ∷ time_data a.key.key.time ∷ whole a.key.key.item ∷ or_null (option_map whole a.old) ∷ or_null (option_map whole a.new) ∷ [])

-- [from,to,old,new]
abbrev pub queue_altered : Altered ℕ ℕ → Data
queue_altered a = row (natural a.p ∷ natural a.key ∷ natural a.old ∷ natural a.new ∷ [])

-- [p,edge,time,value,old,new]
abbrev pub record_altered : Dataflow → Altered ValueAt ℕ → Data
record_altered g a = row (natural a.p ∷ place g a.key.point.location ∷ time_data a.key.point.time ∷ whole a.key.value ∷ natural a.old ∷ natural a.new ∷ [])

-- [p,vertex,time,old,new]
abbrev pub request_altered : Dataflow → Altered Pointstamp Bool → Data
request_altered g a = row (natural a.p ∷ place g a.key.location ∷ time_data a.key.time ∷ boolean a.old ∷ boolean a.new ∷ [])

-- [p,vertex,value,old,new]
abbrev pub sink_altered : Dataflow → Altered SinkKey ℕ → Data
sink_altered g a = row (natural a.p ∷ place g a.key.vertex ∷ whole a.key.value ∷ natural a.old ∷ natural a.new ∷ [])

-- [p,vertex,old,new]
abbrev pub token_altered : Dataflow → Altered ℕ (Option ℕ) → Data
token_altered g a = row (natural a.p ∷ place g a.key ∷ or_null (option_map natural a.old) ∷ or_null (option_map natural a.new) ∷ [])

-- [p,location,time,old,new]
abbrev pub entry_altered : Dataflow → Altered Pointstamp ℤ → Data
entry_altered g a = row (natural a.p ∷ place g a.key.location ∷ time_data a.key.time ∷ whole a.old ∷ whole a.new ∷ [])

-- ---- all lists

-- The eight lists of an effect, each in its order:
-- {"items":items,"queues":queues,"records":records,"requests":requests,"sinks":sinks,"tokens":tokens,"unsent":unsent,"views":views}
abbrev pub effect_data : Dataflow → EffectValue → Data
effect_data g e =
    object (member (codes "items") (row (map (item_altered g) e.items))
    (member (codes "queues") (row (map queue_altered e.queues))
    (member (codes "records") (row (map (record_altered g) e.records))
    (member (codes "requests") (row (map (request_altered g) e.requests))
    (member (codes "sinks") (row (map (sink_altered g) e.sinks))
    (member (codes "tokens") (row (map (token_altered g) e.tokens))
    (member (codes "unsent") (row (map (entry_altered g) e.unsent))
    (member (codes "views") (row (map (entry_altered g) e.views)) no_members))))))))
