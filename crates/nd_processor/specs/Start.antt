-- A processor in the initial state of a cluster: each input's token is at epoch 0, an opaque vertex that starts with a capability
-- holds it at the first time, and everything else is empty (FORTE 2013).
use Rattle.std.specs.Prelude.{ℕ, ◌+◌, List, [], ◌∷◌, length, replicate, if◌then◌else◌}
use Rattle.std.specs.FinMap as fin
use Rattle.std.specs.Ordering.{nat_cmp}
use Rattle.nd_map.specs.Counts.{none}
use Rattle.nd_time.specs.Time.{Time}
use Rattle.nd_graph.specs.Graph.{Dataflow}
use Rattle.nd_graph.specs.Operators.{facts}
use Rattle.nd_graph.specs.Checked.{is_input}
use Rattle.nd_graph.specs.declared.graph.Vertex.{Vertex}
use Rattle.nd_paths.specs.declared.point.Pointstamp.{Pointstamp}
use Rattle.nd_processor.specs.State.{ProcessorState, Requests, idle}

-- a token at epoch 0 for each input among these vertices, the first of which is location l
abbrev pub first_tokens : ℕ → List Vertex → fin.FinMap nat_cmp ℕ
first_tokens l [] = fin.empty
first_tokens l (v ∷ vertices) = let rest = first_tokens (l + 1) vertices in if is_input v.op then fin.insert rest l 0 else rest

-- the first pointstamp of a vertex of this depth: epoch 0, and all counters 0
abbrev pub first_point : ℕ → ℕ → Pointstamp
first_point l depth = record { location = l; time = record { epoch = 0; counters = replicate depth 0 } }

-- a request at its first pointstamp for each vertex among these that starts with a capability; the first of them is location l
abbrev pub first_requests : ℕ → List Vertex → Requests
first_requests l [] = fin.empty
first_requests l (v ∷ vertices) = let rest = first_requests (l + 1) vertices in if (facts v.op).starts then fin.insert rest (first_point l v.depth) tt else rest

-- a processor that has only its first tokens and capabilities; no vertex has items
abbrev pub start_processor : Dataflow → ProcessorState
start_processor g = record idle { tokens = first_tokens 0 g.vertices; requests = first_requests 0 g.vertices; items = replicate (length g.vertices) none }
