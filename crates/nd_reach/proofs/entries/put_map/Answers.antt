use Rattle.std.proofs.Common.{◌≡◌, ◌∷◌, ap, sym, ◌∙◌}
use Rattle.nd_reach.proofs.Written.{to_come, one_more, list_written}
use Rattle.nd_reach.proofs.entries.put_map.Goals as goal

pub loop-key-preserved : goal.loop-key-preserved
loop-key-preserved g c =
    let old = c.loop-key.bytes.items in
    let is : c.loop-key.key-iterator ≡ (c.in-Some.key.now, c.in-Some.value.now) ∷ c.next.new.self = c.in-Some.ensures.steps in
    one_more g.K.Formed.form (c.in-Some.key.now, c.in-Some.value.now) c.next.new.self old _ _ (ap (to_come g.K.Formed.form old) (sym is) ∙ c.loop-key.invariant) c.in_ok-put.ensures

pub returns : goal.returns
returns g c =
    list_written g.K.Formed.form c.args.entries c.loop-key.key-iterator c.args.count c.args.bytes.now.items c.put_number.new.bytes.items c.loop-key.bytes.items
    c.requires c.in-None.ensures.steps.0 c.in_ok-put_number.ensures c.loop-key.invariant
