use Rattle.std.proofs.Common.{◌≡◌, List, sym, subst, ◌∙◌}
use Rattle.std.specs.Prelude.{All}
use Rattle.nd_graph.specs.Graph.{Dataflow}
use Rattle.nd_view.specs.Kept.{Kept, IsFor}
use Rattle.nd_cluster.proofs.cluster.Cluster.restored.Goals as goal

pub new-requires : goal.new-requires
new-requires g c =
    let paths : c.in_ok-paths.paths ≡ (c.args.self.now).graph = c.in_ok-paths.ensures ∙ c.paths.ensures in
    let views : c.in_ok-views.views.items ≡ (c.args.saved.now).views.items = c.in_ok-views.ensures ∙ c.deref-2.ensures.value in
    subst (λ (vs : List Kept). All (IsFor c.in_ok-paths.paths) vs) (sym views)
    (subst (λ (k : Dataflow). All (IsFor k) (c.args.saved.now).views.items) (sym paths) c.requires.paths)
