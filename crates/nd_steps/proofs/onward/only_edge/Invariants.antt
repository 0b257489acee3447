use Rattle.std.proofs.Common.{◌≡◌, ◌++◌, ◌<◌, drop, length}
use Rattle.std.specs.Prelude.{IfSome}
use Rattle.nd_vertex.specs.Effects.{listed}
use Rattle.nd_steps.specs.Onward.{leaving}
use Rattle.nd_steps.proofs.onward.only_edge.Given as goal

-- the edge that is found and those of the rest that leave the port are all
abbrev pub invariant-loop-i : goal.invariant-loop-i
invariant-loop-i l = record {
  all : listed l.only ++ leaving l.vertex l.port l.i (drop l.i l.edges) ≡ leaving l.vertex l.port 0 l.edges;
  there : IfSome l.only (λ r. r.0 < length l.edges);
}
