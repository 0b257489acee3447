use Rattle.std.proofs.Common.{subst, length}
use Rattle.nd_view.specs.Kept.{IsFrontierList}
use Rattle.nd_view.proofs.Fors.{frontier_of_zero, zero_of_frontier}
use Rattle.nd_view.proofs.Frontiers.{IsOrder, frontier_hinders}
use Rattle.nd_view.proofs.View.is_hindered.Goals as goal

pub returns : goal.returns
returns g c =
    let d = c.args.paths.now in
    let v = c.args.self.now in
    let listed = subst (λ k. IsFrontierList k.counts c.frontier.result.now (length k.counts)) c.self.view_is c.frontier.ensures in
    let laws = c.order_is_partial.ensures in
    let order : IsOrder d = record { reflexive = laws.reflexive; transitive = laws.transitive; strict = laws.strict; minimal = laws.minimal } in (
      λ e.
          let found = c.any_before.ensures.0 e in
          let on = frontier_of_zero d v c.requires found.1 (listed.only found.1 (found.0, found.2, found.3)) in
          (found.1, record { positive = on.positive; before = found.4 }),
      λ found.
          let first = frontier_hinders d order v c.requires c.args.extent c.args.point.now found.0 found.1 in
          let among = listed.all first.point (zero_of_frontier d v c.requires first.point first.frontier) in
          c.any_before.ensures.1 (among.0, first.point, among.1, among.2, first.before),
    )
