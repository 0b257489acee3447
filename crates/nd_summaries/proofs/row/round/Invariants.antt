use Rattle.std.proofs.Common.{take}
use Rattle.std.specs.Prelude.{All}
use Rattle.nd_graph.specs.declared.graph.Arc.{Arc}
use Rattle.nd_summaries.specs.Steps.{step}
use Rattle.nd_summaries.specs.Row.{Grown, IsCovered, IsFollowed, listed}
use Rattle.nd_summaries.proofs.row.round.Given as goal

-- the items so far are followed
abbrev pub invariant-items : goal.invariant-items
invariant-items g l = record {
  grown : Grown l.order l.out l.fn.row l.row l.last l.next.items;
  done : All (IsFollowed l.order l.out l.row) (take l.reached-index l.last);
}

-- and the next item by the arcs so far
abbrev pub invariant-arcs : goal.invariant-arcs
invariant-arcs g l = record {
  grown : Grown l.order l.out l.fn.row l.row l.last l.next.items;
  done : All (IsFollowed l.order l.out l.row) (take l.reached-index l.last);
  here : All (λ (x : Arc). IsCovered l.order (listed l.row x.to) (step x.action l.reached.summary)) (take l.arc-index l.arcs);
}
