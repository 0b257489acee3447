-- The laws of the order of pointstamps.
use Rattle.std.specs.Prelude.{List, Contains}
use Rattle.nd_graph.specs.Graph.{Dataflow}
use Rattle.nd_paths.specs.declared.point.Pointstamp.{Pointstamp}
use Rattle.nd_paths.specs.Order.{IsStrictlyBefore}

-- m is one of these pointstamps, and none of them is strictly before it
pub record IsMinimalAmong (g : Dataflow) (points : List Pointstamp) (m : Pointstamp) : Type 0 where
  pub among : Contains points m
  pub none : (q : Pointstamp) → Contains points q → IsStrictlyBefore g q m → ⊥
