-- The steps that a run could try as a JSON value.
use Rattle.std.specs.Prelude.{List, map, codes, Option, Some, None, option_map}
use Rattle.std.specs.declared.alloc.Global.{Global}
use Rattle.serde_json.specs.Data.{Data, object, no_members, member}
use Rattle.nd_graph.specs.Graph.{Dataflow}
use Rattle.nd_state_json.specs.StateText.{row}
use Rattle.nd_cluster.specs.declared.candidate.Candidate.{Candidate}
use Rattle.nd_state_json.specs.Objects.{object_of}
use Rattle.rewind_replies.specs.Replies.{step_refused}

-- {"step":step}, or {"refused":refusal,"step":step}
abbrev pub tried : Data → Option Data → Data
tried step None = object (member (codes "step") step no_members)
tried step (Some refusal) = object (member (codes "refused") refusal (member (codes "step") step no_members))

-- a step as the object of its command line, and if it is refused, the reply that the line would get
abbrev pub candidate_data : Dataflow → Candidate Global → Data
candidate_data g c = tried (object_of g c.step) (option_map (step_refused g) c.refusal)

-- all candidates, in their order
abbrev pub candidates_data : Dataflow → List (Candidate Global) → Data
candidates_data g cs = row (map (candidate_data g) cs)
