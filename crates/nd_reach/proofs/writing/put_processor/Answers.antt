use Rattle.std.proofs.lemmas.Result.{on_ok_weaker}
use Rattle.nd_reach.proofs.Written.{processor_written}
use Rattle.nd_reach.proofs.writing.put_processor.Goals as goal

pub returns : goal.returns
returns g c =
    on_ok_weaker c.put_counts.result
    (λ last. processor_written c.args.processor.now c.records-2.result c.requests-2.result c.tokens.result.now c.sinks-2.result c.unsent.result.now
    c.args.bytes.now.items c.put_map.new.bytes.items c.put_map-2.new.bytes.items c.put_list.new.bytes.items c.put_items.new.bytes.items c.put_map-3.new.bytes.items c.put_counts.new.bytes.items
    c.records-2.ensures.rest c.requests-2.ensures.rest c.tokens.ensures c.sinks-2.ensures.rest c.unsent.ensures
    c.in_ok-put_map.ensures c.in_ok-put_map-2.ensures c.in_ok-put_list.ensures c.in_ok-put_items.ensures c.in_ok-put_map-3.ensures last)
    c.put_counts.ensures
