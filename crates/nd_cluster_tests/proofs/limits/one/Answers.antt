use Rattle.std.proofs.Common.{◌≡◌, ◌<◌, ℕ, zero, suc, List, [], ◌∷◌, length, slice_index_or, sym, subst, ◌∙◌, ap, arith}
use Rattle.nd_graph.specs.Graph.{Dataflow}
use Rattle.nd_view.specs.Kept.{Kept, IsFor}
use Rattle.nd_cluster_tests.proofs.limits.one.Goals as goal

alone : (g : Dataflow) (v : Kept) → IsFor g v → (k : ℕ) (d : Kept) → k < length (v ∷ []) → IsFor g (slice_index_or (v ∷ []) k d)
alone g v h zero d lt = h
alone g v h (suc k) d lt = absurd (omega (arith, lt))

pub returns : goal.returns
returns g c =
    subst (λ (vs : List Kept). (k : ℕ) (d : Kept) → k < length vs → IsFor c.args.paths.now (slice_index_or vs k d)) (sym c.in-Ok.ensures.items) (rw c.new-views.ensures.items (alone c.args.paths.now c.args.view c.requires))
