use Rattle.std.proofs.Common.{◌≡◌, ◌<◌, ◌≤◌, ◌∙◌, sym, subst, arith}
use Rattle.nd_time.specs.Limits.{max_processors}
use Rattle.nd_protocol.specs.Start.{start}
use Rattle.nd_protocol.specs.Fitting.{IsState, IsOrdered}
use Rattle.nd_protocol.specs.Invariant.{KeepsProtocol}
use Rattle.nd_cluster.specs.Starting.{IsProcessorCount, IsStartFault}
use Rattle.nd_cluster.proofs.Starts.{seen_start, ordered, path_fault}
use Rattle.nd_cluster.proofs.cluster.Cluster.start.Goals as goal

pub returns-in-Err-clause-fault : goal.returns-in-Err-clause-fault
returns-in-Err-clause-fault g c =
    let count : IsProcessorCount c.args.n = record { some = omega arith; few = omega arith } in
    subst (λ f. IsStartFault c.args.graph c.args.n f) (sym c.start_fault.ensures) (path_fault c.args.graph c.args.n c.in-Err.fault count c.in-Err.ensures.fault)

pub new-requires-2 : goal.new-requires-2
new-requires-2 g c = c.in-Ok-start_views.ensures.paths

pub returns-clause-ok : goal.returns-clause-ok
returns-clause-ok g c =
    c.new-2.ensures
    ∙ seen_start c.args.graph c.args.n c.in-Ok.paths c.in-Ok-start_processors.processors.items c.in-Ok-start_views.views.items c.in-Ok-new.mesh c.in-Ok-start_truth.outstanding
    c.in-Ok.ensures.graph c.in-Ok-start_processors.ensures c.in-Ok-start_views.ensures.maps c.in-Ok-start_truth.ensures c.in-Ok-new.ensures

pub invariant_of-result : goal.invariant_of-result
invariant_of-result g c =
    let o : IsOrdered c.args.graph = ordered c.args.graph c.vertices.ensures.sound c.all_arcs.ensures.agree c.in-Ok.ensures.accepted in
    let some : 0 < c.args.n = omega arith in
    let few : c.args.n ≤ max_processors = omega arith in
    let is : c.new-2.result ≡ start c.args.graph c.args.n
    = c.new-2.ensures ∙ seen_start c.args.graph c.args.n c.in-Ok.paths c.in-Ok-start_processors.processors.items c.in-Ok-start_views.views.items c.in-Ok-new.mesh c.in-Ok-start_truth.outstanding
    c.in-Ok.ensures.graph c.in-Ok-start_processors.ensures c.in-Ok-start_views.ensures.maps c.in-Ok-start_truth.ensures c.in-Ok-new.ensures in
    subst IsState (sym is) (c.starts_keep_protocol.ensures.state c.args.graph c.args.n c.vertices.ensures.sound o some few)

pub returns-clause-can : goal.returns-clause-can
returns-clause-can g c = record { count = record { some = omega arith; few = omega arith }; accepted = c.in-Ok.ensures.accepted }

pub returns-clause-protocol : goal.returns-clause-protocol
returns-clause-protocol g c =
    let o : IsOrdered c.args.graph = ordered c.args.graph c.vertices.ensures.sound c.all_arcs.ensures.agree c.in-Ok.ensures.accepted in
    subst KeepsProtocol (sym (returns-clause-ok g c)) (c.starts_keep_protocol.ensures.protocol c.args.graph c.args.n o)
