use Rattle.std.proofs.Common.{◌≡◌, ℕ, ◌+◌, length, sum_by, ap, ◌∙◌, arith}
use Rattle.std.specs.FinMap as fin
use Rattle.nd_map.specs.Counts.{entries}
use Rattle.nd_delta.specs.Delta.{size}
use Rattle.nd_processor.specs.State.{ProcessorState}
use Rattle.nd_cluster.specs.Size.{processor_size}
use Rattle.nd_cluster.proofs.Sizes.{left_of_more}
use Rattle.nd_cluster.proofs.size.after_processor.Goals as goal

pub returns : goal.returns
returns g c =
    let q : ProcessorState = c.args.processor.now in
    let records : length c.records.result ≡ length (entries q.records) = ap length c.records.ensures.rest in
    let requests : length c.requests.result ≡ length (fin.entries q.requests) = ap length c.requests.ensures.rest in
    let tokens : length c.tokens.result.now ≡ length (fin.entries q.tokens) = ap length c.tokens.ensures in
    let sinks : length c.sinks.result ≡ length (entries q.sinks) = ap length c.sinks.ensures.rest in
    let unsent : c.len.result ≡ size q.unsent = c.len.ensures ∙ ap size c.unsent.ensures in
    let taken : ℕ = length (entries q.records) + (length (fin.entries q.requests) + (length (fin.entries q.tokens) + (length (entries q.sinks) + (size q.unsent + length q.items)))) in
    left_of_more c.args.left taken c.in_ok-rest-6.rest (sum_by (λ m. length (entries m)) q.items) (processor_size q) c.after_items.result
    (omega (arith, records, requests, tokens, sinks, unsent, c.vertex_count.ensures, c.in_ok-rest.ensures, c.in_ok-rest-2.ensures, c.in_ok-rest-3.ensures, c.in_ok-rest-4.ensures, c.in_ok-rest-5.ensures, c.in_ok-rest-6.ensures))
    (omega arith) c.after_items.ensures
