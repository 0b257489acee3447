use Rattle.std.proofs.Common.{◌≡◌, refl, sym, ap, subst, ◌∙◌, true≢false}
use Rattle.std.specs.Prelude.{All}
use Rattle.nd_graph.specs.Graph.{Dataflow}
use Rattle.nd_view.specs.Kept.{IsFor}
use Rattle.nd_protocol.specs.Fitting.{IsState}
use Rattle.nd_protocol.specs.Seen.{seen}
use Rattle.nd_cluster.proofs.cluster.Cluster.of_parts.Goals as goal

pub new-parts-requires : goal.new-parts-requires
new-parts-requires g c = subst (λ (k : Dataflow). All (IsFor k) c.args.views.items) (sym c.requires.paths) c.requires.views

pub returns-clause-some : goal.returns-clause-some
returns-clause-some g c = c.new-parts.ensures ∙ ap (λ (k : Dataflow). seen k c.args.processors.items c.args.views.items c.args.mesh) c.requires.paths

pub returns-clause-state : goal.returns-clause-state
returns-clause-state g c = c.if-not-parts_fit.ensures.0 refl

pub returns-then-not-parts_fit-clause-none : goal.returns-then-not-parts_fit-clause-none
returns-then-not-parts_fit-clause-none g c = λ _ is.
    let same : c.new-parts.result ≡ seen c.args.graph.now c.args.processors.items c.args.views.items c.args.mesh
    = c.new-parts.ensures ∙ ap (λ (k : Dataflow). seen k c.args.processors.items c.args.views.items c.args.mesh) c.requires.paths in
    true≢false (sym (c.if-not-parts_fit.ensures.1 (subst IsState (sym same) is)))

pub invariant_of-result : goal.invariant_of-result
invariant_of-result g c = returns-clause-state g c
