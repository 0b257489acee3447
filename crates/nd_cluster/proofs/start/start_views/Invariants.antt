use Rattle.std.proofs.Common.{◌≡◌, map, replicate}
use Rattle.std.specs.Prelude.{All}
use Rattle.nd_view.specs.Kept.{Kept, IsFor}
use Rattle.nd_cluster.proofs.start.start_views.Given as goal

abbrev pub invariant-loop : goal.invariant-loop
invariant-loop g l = record {
  maps : map (λ (w : Kept). w.map) l.views.items ≡ replicate l.counter l.outstanding;
  paths : All (IsFor l.paths) l.views.items;
}
