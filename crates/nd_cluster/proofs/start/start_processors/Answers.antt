use Rattle.std.proofs.Common.{◌≡◌, [], ◌∷◌, ◌++◌, replicate, ap, ◌∙◌, arith}
use Rattle.std.proofs.lemmas.List.{replicate_more}
use Rattle.nd_processor.specs.Start.{start_processor}
use Rattle.nd_cluster.proofs.start.start_processors.Goals as goal

pub loop-preserved : goal.loop-preserved
loop-preserved g c = c.in_ok-push.ensures.items ∙ (λ i. c.loop.invariant i ++ c.in_ok-processor.ensures i ∷ []) ∙ replicate_more c.loop.counter (start_processor c.args.graph.now)

pub returns : goal.returns
returns g c =
    let all : c.loop.counter ≡ c.args.n = omega (arith, c.loop-test.false, c.loop.auto.counter-end) in
    c.loop.invariant ∙ ap (λ n. replicate n (start_processor c.args.graph.now)) all
