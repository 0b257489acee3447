use Rattle.std.proofs.Common.{replicate, [], ◌∷◌, sym, ap, subst, ◌∙◌, arith}
use Rattle.std.specs.Prelude.{All}
use Rattle.std.proofs.lemmas.List.Elements.{All-append}
use Rattle.nd_view.specs.Kept.{IsFor}
use Rattle.nd_delta.specs.Delta.{plus}
use Rattle.nd_cluster.proofs.Starts.{one, from_nothing, views_turn}
use Rattle.nd_cluster.proofs.start.start_views.Goals as goal

pub apply-requires : goal.apply-requires
apply-requires g c = c.new-view.ensures.for_all _

pub loop-preserved : goal.loop-preserved
loop-preserved g c = record {
  maps = views_turn c.loop.views.items _ c.apply.new.self c.loop.counter c.args.outstanding.now c.in_ok-push.ensures.items
      (c.in-Ok.ensures.ok ∙ ap (λ m. plus m c.args.outstanding.now) c.new-view.ensures.value ∙ from_nothing c.args.outstanding.now) c.loop.invariant.maps;
  paths = subst (All (IsFor c.args.paths.now)) (sym c.in_ok-push.ensures.items) (All-append (IsFor c.args.paths.now) c.loop.views.items (c.apply.new.self ∷ []) c.loop.invariant.paths (one (IsFor c.args.paths.now) c.apply.new.self c.apply.ensures.paths));
}

pub returns-clause-maps : goal.returns-clause-maps
returns-clause-maps g c = c.loop.invariant.maps ∙ ap (λ k. replicate k c.args.outstanding.now) (omega arith)
