use Rattle.std.proofs.Common.{◌*◌, pos, ◌+ℤ◌, ap, ◌∙◌}
use Rattle.std.specs.FinMap.{entries}
use Rattle.nd_processor.specs.State.{ProcessorState}
use Rattle.nd_cluster.specs.Starting.{requests_weigh}
use Rattle.nd_cluster.proofs.Starts.{start_counts}
use Rattle.nd_cluster.proofs.start.start_truth.Goals as goal

pub returns : goal.returns
returns g c =
    start_counts c.args.graph.now c.args.n c.count_requests.new.counted c.tokens.result.now c.requests.result
    (c.tokens.ensures ∙ ap (λ (q : ProcessorState). entries q.tokens) c.in_ok-processor.ensures)
    (c.requests.ensures.rest ∙ ap (λ (q : ProcessorState). entries q.requests) c.in_ok-processor.ensures)
    (λ x. c.in_ok-count_requests.ensures x ∙ ap (λ z. z +ℤ pos (c.args.n * requests_weigh c.requests.result x)) (c.in_ok-counted.ensures x))
