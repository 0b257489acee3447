use Rattle.std.proofs.Common.{◌++◌, length, drop, refl, ap, ◌∙◌, append_assoc}
use Rattle.std.proofs.lemmas.List.{drop_all}
use Rattle.nd_reach.specs.Bytes.{number, list}
use Rattle.nd_reach.proofs.Written.{more_at, list_written}
use Rattle.nd_reach.proofs.bytes.put_time.Goals as goal

pub loop-counter-preserved : goal.loop-counter-preserved
loop-counter-preserved g c =
    let old = c.loop-counter.bytes.items in
    more_at number c.counters-counters.result.now c.loop-counter.counter-index 0 old _ _ c.loop-counter-test.true c.loop-counter.invariant
    (c.in_ok-put_number-3.ensures ∙ ap (λ n. old ++ number n) c.from-in-loop-counter.ensures)

pub returns : goal.returns
returns g c =
    let all = c.counters-counters.result.now in
    let old = c.args.bytes.now.items in
    list_written number all (drop c.loop-counter.counter-index all) (length all) c.put_number.new.bytes.items c.put_number-2.new.bytes.items
    c.loop-counter.bytes.items refl (drop_all c.loop-counter.counter-index all c.loop-counter-test.false) c.in_ok-put_number-2.ensures c.loop-counter.invariant
    ∙ ap (λ bs. bs ++ list number all) c.in_ok-put_number.ensures
    ∙ append_assoc old (number c.from.result) (list number all)
    ∙ ap (λ n. old ++ (number n ++ list number all)) (c.from.ensures ∙ c.epoch.ensures)
    ∙ ap (λ ns. old ++ (number c.args.time.now.epoch ++ list number ns)) c.counters-counters.ensures.value
