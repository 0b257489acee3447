use Rattle.std.proofs.Common.{◌≡◌, List, sym, ap, subst, ◌∙◌}
use Rattle.std.specs.Prelude.{All}
use Rattle.nd_delta.specs.Delta.{DeltaValue}
use Rattle.nd_view.specs.Kept.{Kept, IsFor}
use Rattle.nd_view.specs.Views.{maps}
use Rattle.nd_processor.specs.State.{ProcessorState}
use Rattle.nd_protocol.specs.State.{ClusterState}
use Rattle.nd_protocol.specs.Fitting.{IsState}
use Rattle.nd_protocol.specs.Seen.{seen}
use Rattle.nd_cluster.proofs.cluster.Cluster.saved.Goals as goal

pub returns : goal.returns
returns g c =
    let s : ClusterState = c.args.self.now in
    let ps : List ProcessorState = c.in_ok-copied_processors.field-0.items in
    let vs : List Kept = c.in_ok-copied_views.field-0.items in
    let m : List (List (List DeltaValue)) = c.in_ok-copy.field-0 in
    let own : c.self.inside.parts ≡ s = c.self.view_is in
    let processors : ps ≡ s.processors = c.in_ok-copied_processors.ensures ∙ c.processors.ensures ∙ ap (λ (t : ClusterState). t.processors) own in
    let views : vs ≡ c.views.result.now = c.in_ok-copied_views.ensures in
    let shown : maps vs ≡ s.views = ap maps views ∙ c.views.ensures.maps ∙ ap (λ (t : ClusterState). t.views) own in
    let queues : m ≡ s.queues = c.in_ok-copy.ensures.equal ∙ c.mesh.ensures ∙ ap (λ (t : ClusterState). t.queues) own in
    let value : seen s.graph ps vs m ≡ s = λ i. record { graph = s.graph; processors = processors i; views = shown i; queues = queues i } in
    record {
      value = value;
      fits = record {
        state = subst IsState (sym (value ∙ sym own)) c.self.invariant;
        paths = subst (λ (t : ClusterState). All (IsFor t.graph) vs) own (subst (λ (vs : List Kept). All (IsFor (c.self.inside.parts).graph) vs) (sym views) c.views.ensures.paths);
      };
    }
