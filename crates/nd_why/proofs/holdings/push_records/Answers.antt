use Rattle.std.proofs.Common.{◌≡◌, ◌∷◌, ◌++◌, ℕ, ap, ◌∙◌, rules, w64, to_z, of_z}
use Rattle.std.proofs.lemmas.Map.Iter.{rest_more}
use Rattle.std.specs.Map.Iter.{deref_pair}
use Rattle.nd_processor.specs.declared.key.ValueAt.{ValueAt}
use Rattle.nd_why.specs.Why.{if_at, records_at}
use Rattle.nd_why.specs.declared.answer.Held.TheVariants.{Records}
use Rattle.nd_why.proofs.Turns.{left_more}
use Rattle.nd_why.proofs.holdings.push_records.Goals as goal

pub loop-key-preserved : goal.loop-key-preserved
loop-key-preserved g c =
    let b = c.args.point.now in
    let f = λ (e : ValueAt × ℕ). if_at b e.0.point (Records c.args.p e.0.value e.1) in
    let step : c.loop-key.key-iterator ≡ (c.in-Some.key.now, c.in-Some.count.now) ∷ c.next.new.self
    = rest_more deref_pair c.loop-key.key-iterator c.next.new.self c.next.result (c.in-Some.key, c.in-Some.count) c.in-Some.is c.next.ensures.steps in
    let value : to_z w64 (of_z w64 c.in-Some.key.now.value) ≡ c.in-Some.key.now.value = search rules in
    left_more c.args.held.now.items c.loop-key.held.items c.push_if.new.held.items f c.loop-key.key-iterator (c.args.held.now.items ++ records_at c.args.p c.args.processor.now b) (c.in-Some.key.now, c.in-Some.count.now) c.next.new.self step c.loop-key.invariant
    (c.in_ok-push_if.ensures ∙ ap (λ n. c.loop-key.held.items ++ if_at b c.in-Some.key.now.point (Records c.args.p n c.in-Some.count.now)) value)
