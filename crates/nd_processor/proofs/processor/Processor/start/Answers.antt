use Rattle.std.proofs.Common.{length, ap, ◌∙◌, replicate}
use Rattle.nd_map.specs.Counts.{none}
use Rattle.nd_processor.proofs.Started.{start_seen}
use Rattle.nd_processor.proofs.processor.Processor.start.Goals as goal

pub returns : goal.returns
returns g c =
    start_seen c.args.graph.now c.new.result c.in_ok-first_requests.field-0 c.in_ok-first_tokens.field-0 c.in_ok-no_items.field-0.items c.new-2.result c.new-3.result
    c.new.ensures c.in_ok-first_requests.ensures c.in_ok-first_tokens.ensures (c.in_ok-no_items.ensures ∙ ap (λ vs. replicate (length vs) none) c.vertices.ensures.vertices) c.new-2.ensures c.new-3.ensures

pub invariant_of-result : goal.invariant_of-result
invariant_of-result g c = rw c.new.ensures (record { values = λ q. tt })
