use Rattle.std.proofs.Common.{◌≡◌, ◌∙◌, Some, ap, of_z, sym, to_z, rules, w64}
use Rattle.serde_json.specs.View.{view}
use Rattle.nd_json.specs.Forms.{integer}
use Rattle.rewind_forms.proofs.ReadInTurn.{read_start, read_more, read_nothing, read_list}
use Rattle.rewind_forms.proofs.numbers.values_of.Goals as goal

pub loop-item-init : goal.loop-item-init
loop-item-init c = read_start view integer c.args.items.now c.new-values.result c.new-values.ensures

pub returns-in_default : goal.returns-in_default
returns-in_default c =
    c.new.ensures ∙ read_nothing view integer c.args.items.now c.item-item.result c.loop-item.item-index c.loop-item.values c.loop-item-test.true c.item-item.is (sym c.integer.ensures ∙ c.in_default.is) c.loop-item.invariant

pub loop-item-preserved : goal.loop-item-preserved
loop-item-preserved c =
    let value : to_z w64 (of_z w64 c.in-Some.number) ≡ c.in-Some.number = search rules in
    rw (c.in_ok-push.ensures.ok) (read_more view integer c.args.items.now c.item-item.result c.loop-item.item-index c.loop-item.values (to_z w64 (of_z w64 c.in-Some.number))
    c.loop-item-test.true c.item-item.is (sym c.integer.ensures ∙ c.in-Some.is ∙ ap Some (sym value)) c.loop-item.invariant)

pub returns : goal.returns
returns c = read_list view integer c.args.items.now c.loop-item.item-index c.loop-item.values c.loop-item-test.false c.loop-item.invariant
