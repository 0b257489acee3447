use Rattle.std.proofs.Common.{pos, ◌*◌, ap, ◌∙◌, arith}
use Rattle.std.proofs.lemmas.Int.{ints}
use Rattle.std.proofs.lemmas.List.{take_all}
use Rattle.nd_delta.specs.Delta.{at, at-none}
use Rattle.nd_cluster.specs.Starting.{tokens_weigh}
use Rattle.nd_cluster.proofs.Starts.{tokens_turn}
use Rattle.nd_cluster.proofs.start.tokens_counted.Goals as goal

pub loop-token-init : goal.loop-token-init
loop-token-init g c = λ x. ap (λ d. at d x) c.new-counted.ensures ∙ at-none x ∙ ap pos (omega arith)

pub loop-token-preserved : goal.loop-token-preserved
loop-token-preserved g c = tokens_turn c.args.tokens.now c.loop-token.token-index c.args.n _ _ c.loop-token.counted c.add.new.self c.token_point.result c.loop-token-test.true c.token_point.ensures (omega (arith, ints, c.from.ensures)) c.in-Ok.ensures.ok c.loop-token.invariant

pub returns : goal.returns
returns g c = λ x. c.loop-token.invariant x ∙ ap (λ es. pos (c.args.n * tokens_weigh es x)) (take_all c.loop-token.token-index c.args.tokens.now c.loop-token-test.false)
