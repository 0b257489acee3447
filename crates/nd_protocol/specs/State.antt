-- The state of a cluster, and what is outstanding in it (Naiad, SOSP 2013, sections 2.3 and 3.3; FORTE 2013).
use Rattle.std.specs.Prelude.{ℕ, pos, ◌+ℤ◌, List, [], ◌∷◌, ◌++◌, map, slice_index_or, refl}
use Rattle.std.specs.Coded.{Coded, code_by, coded×, coded_list}
use Rattle.std.specs.List.{flat_map}
use Rattle.std.specs.FinMap as fin
use Rattle.nd_graph.specs.Graph.{Dataflow}
use Rattle.nd_graph.specs.Codes.{graph_code}
use Rattle.nd_paths.specs.declared.point.Pointstamp.{Pointstamp}
use Rattle.nd_map.specs.Counts.{entries}
use Rattle.nd_delta.specs.Delta.{DeltaValue, none, at, set, delta_code}
use Rattle.nd_processor.specs.State.{ProcessorState, idle, token_point, processor_code}

-- a cluster: its graph, its processors, the view of each, and the queues of progress updates from each processor to each
pub record ClusterState : Type 0 where
  pub graph : Dataflow
  pub processors : List ProcessorState
  pub views : List DeltaValue
  pub queues : List (List (List DeltaValue))

-- the state of processor p
abbrev pub processor : ClusterState → ℕ → ProcessorState
processor s p = slice_index_or s.processors p idle

-- the view of processor q: what it knows of the outstanding pointstamps
abbrev pub view : ClusterState → ℕ → DeltaValue
view s q = slice_index_or s.views q none

-- the changes on their way from p to q, from front to back
abbrev pub queue : ClusterState → ℕ → ℕ → List DeltaValue
queue s p q = slice_index_or (slice_index_or s.queues p []) q []

-- ---- what is outstanding

-- the records, requests and tokens of a processor, as numbers at pointstamps
abbrev pub outstanding_at : ProcessorState → List (Pointstamp × ℕ)
outstanding_at q =
    map (λ e. (e.0.point, e.1)) (entries q.records)
    ++ (map (λ x. (x, 1)) (fin.keys q.requests)
    ++ map (λ e. (token_point e.0 e.1, 1)) (fin.entries q.tokens))

-- the change that has at each pointstamp the sum of the list's numbers there
abbrev pub tally : List (Pointstamp × ℕ) → DeltaValue
tally [] = none
tally (e ∷ es) = set (tally es) e.0 (at (tally es) e.0 +ℤ pos e.1)

-- the truth: at each pointstamp the number of records, requests and tokens of all processors
unfoldable pub truth : List ProcessorState → DeltaValue
truth processors = tally (flat_map outstanding_at processors)

-- ---- codes

abbrev pub cluster_code : Coded ClusterState
cluster_code =
    code_by (Dataflow × (List ProcessorState × (List DeltaValue × List (List (List DeltaValue)))))
    (coded× graph_code (coded× (coded_list processor_code) (coded× (coded_list delta_code) (coded_list (coded_list (coded_list delta_code))))))
    (λ s. (s.graph, (s.processors, (s.views, s.queues))))
    (λ t. record { graph = t.0; processors = t.1.0; views = t.1.1.0; queues = t.1.1.1 })
    (λ _. refl)
