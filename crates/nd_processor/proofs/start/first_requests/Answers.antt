use Rattle.std.proofs.Common.{◌≡◌, ◌∙◌, ◌-◌, ◌<◌, ◌++◌, ℕ, List, true, length, map, drop, get_or, sym, ap, arith}
use Rattle.std.specs.FinMap.{from_entries, insert}
use Rattle.nd_graph.specs.Graph.{depth_past_vertex}
use Rattle.nd_map.specs.Maps.{from_entries-put}
use Rattle.nd_paths.specs.Point.{point_cmp, point_total, point_exact}
use Rattle.nd_processor.specs.Start.{first_requests, first_point}
use Rattle.nd_processor.proofs.Started.{requests_turn, depth_there, drop_end}
use Rattle.nd_processor.proofs.start.first_requests.Goals as goal

pub loop-l-preserved-in-Continue-1 : goal.loop-l-preserved-in-Continue-1
loop-l-preserved-in-Continue-1 g c =
    let l : ℕ = c.loop-l.l - 1 in
    let vertices = c.vertices-vertices.result.now in
    let rest : List ℕ = map (λ e. depth_past_vertex c.args.graph.now.vertices e.from) c.args.graph.now.edges in
    let within : l < length vertices = omega (arith, c.loop-l.invariant.within) in
    let depths : c.depths-depths.result.now ≡ map (λ v. v.depth) vertices ++ rest = c.depths-depths.ensures.depths ∙ ap (λ vs. map (λ v. v.depth) vs ++ rest) (sym c.vertices-vertices.ensures.vertices) in
    let deep : get_or c.depths-depths.result.now l 0 ≡ (get_or vertices l c.index-vertices-l.result).depth = ap (λ ds. get_or ds l 0) depths ∙ depth_there vertices rest l c.index-vertices-l.result within in
    record {
      within = omega arith;
      requests =
          ap from_entries c.in_ok-put.ensures.ok
          ∙ from_entries-put point_cmp point_total point_exact c.first_point.result tt c.loop-l.requests
          ∙ ap (λ m. insert m c.first_point.result tt) c.loop-l.invariant.requests
          ∙ ap (λ x. insert (first_requests c.loop-l.l (drop c.loop-l.l vertices)) x tt) c.first_point.ensures
          ∙ sym (requests_turn vertices c.loop-l.l (get_or c.depths-depths.result.now l 0) c.index-vertices-l.result true c.loop-l-test.true c.loop-l.invariant.within c.if-starts.ensures deep);
    }
