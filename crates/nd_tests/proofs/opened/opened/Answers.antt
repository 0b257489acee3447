use Rattle.std.proofs.Common.{◌≡◌, sym, ap, subst}
use Rattle.nd_session.specs.Log.{IsStart}
use Rattle.nd_tests.proofs.opened.opened.Goals as goal

pub new-requires-2-clause-start : goal.new-requires-2-clause-start
new-requires-2-clause-start g c =
    let can = c.in-Ok.ensures.can in
    let base : c.in-Ok-new.timeline.base ≡ c.in-Ok.cluster = ap (λ m. m.base) c.in-Ok-new.ensures in
    let begins : IsStart c.in-Ok.cluster
    = record {
      graph = c.in_ok-graph.graph;
      count = c.args.n;
      is = c.in-Ok.ensures.ok;
      accepted = can.accepted;
      some = can.count.some;
      few = can.count.few;
    } in
    subst IsStart (sym base) begins
