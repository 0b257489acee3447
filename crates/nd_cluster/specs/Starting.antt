-- Why a cluster does not start, and the number and the name of each error.
use Rattle.std.specs.Prelude.{ℕ, ◌<◌, ◌≤◌, List, sum_by, codes}
use Rattle.nd_time.specs.Code.{Code, coded}
use Rattle.nd_time.specs.Limits.{max_processors}
use Rattle.nd_map.specs.Weights.{weight}
use Rattle.nd_graph.specs.Fault.{code_of}
use Rattle.nd_graph.specs.Graph.{Dataflow}
use Rattle.nd_graph.specs.declared.fault.GraphFault.TheVariants as graph
use Rattle.nd_paths.specs.Order.{FailsAt, IsAccepted}
use Rattle.nd_summaries.specs.declared.accept.PathFault.{PathFault}
use Rattle.nd_summaries.specs.declared.accept.PathFault.TheVariants as path
use Rattle.nd_paths.specs.declared.point.Pointstamp.{Pointstamp}
use Rattle.nd_processor.specs.State.{one_at, token_point}
use Rattle.nd_cluster.specs.declared.start.StartFault.{StartFault}
use Rattle.nd_cluster.specs.declared.start.StartFault.TheVariants.{BadCount, LoopNotStrict, Memory}

-- the number and the name with which a start is refused
abbrev pub start_code : StartFault → Code
start_code BadCount = coded 48 (codes "BadCount")
start_code (LoopNotStrict l) = coded 46 (codes "LoopNotStrict")
start_code Memory = code_of graph.Memory

-- n is a number of processors that a cluster may have
pub record IsProcessorCount (n : ℕ) : Type 0 where
  pub some : 0 < n
  pub few : n ≤ max_processors

-- some closed walk from location l fails to increase a timestamp, and no closed walk from a lesser location does
pub record IsFirstFailure (g : Dataflow) (l : ℕ) : Type 0 where
  pub fails : FailsAt g l
  pub first : (k : ℕ) → k < l → FailsAt g k → ⊥

-- when each error is reported
abbrev pub IsStartFault : Dataflow → ℕ → StartFault → Type 0
IsStartFault g n BadCount = IsProcessorCount n → ⊥
IsStartFault g n (LoopNotStrict l) = IsProcessorCount n × IsFirstFailure g l
IsStartFault g n Memory = IsProcessorCount n

-- a cluster of n processors can start on a graph
pub record CanStart (g : Dataflow) (n : ℕ) : Type 0 where
  pub count : IsProcessorCount n
  pub accepted : IsAccepted g

-- the error of a graph without an order, as an error of a start
abbrev pub fault_of : PathFault → StartFault
fault_of (path.LoopNotStrict l) = LoopNotStrict l
fault_of path.Memory = Memory

-- how many of these requests are at the pointstamp x
abbrev pub requests_weigh : List (Pointstamp × Unit {0}) → Pointstamp → ℕ
requests_weigh es x = sum_by (λ e. one_at e.0 x) es

-- how many of these tokens are at the pointstamp x
abbrev pub tokens_weigh : List (ℕ × ℕ) → Pointstamp → ℕ
tokens_weigh es x = weight (λ v e. one_at (token_point v e) x) es
