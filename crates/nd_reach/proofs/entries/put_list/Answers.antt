use Rattle.std.proofs.Common.{◌++◌, length, drop, refl, ap, ◌∙◌}
use Rattle.std.proofs.lemmas.List.{drop_all}
use Rattle.nd_reach.proofs.Written.{more_at, list_written}
use Rattle.nd_reach.proofs.entries.put_list.Goals as goal

pub loop-entry-preserved : goal.loop-entry-preserved
loop-entry-preserved g c =
    let old = c.loop-entry.bytes.items in
    more_at g.K.Formed.form c.args.entries.now c.loop-entry.entry-index c.entry-item.result old _ _ c.loop-entry-test.true c.loop-entry.invariant
    (c.in_ok-put.ensures ∙ ap (λ e. old ++ g.K.Formed.form e) c.entry-item.is)

pub returns : goal.returns
returns g c =
    list_written g.K.Formed.form c.args.entries.now (drop c.loop-entry.entry-index c.args.entries.now) (length c.args.entries.now) c.args.bytes.now.items c.put_number.new.bytes.items
    c.loop-entry.bytes.items refl (drop_all c.loop-entry.entry-index c.args.entries.now c.loop-entry-test.false) c.in_ok-put_number.ensures c.loop-entry.invariant
