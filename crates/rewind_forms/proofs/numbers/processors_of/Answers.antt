use Rattle.std.proofs.Common.{◌∙◌, sym}
use Rattle.serde_json.specs.View.{view}
use Rattle.nd_json.specs.Forms.{small}
use Rattle.rewind_forms.proofs.ReadInTurn.{read_start, read_more, read_nothing, read_list}
use Rattle.rewind_forms.proofs.numbers.processors_of.Goals as goal

pub loop-item-init : goal.loop-item-init
loop-item-init c = read_start view small c.args.items.now c.new-processors.result c.new-processors.ensures

pub returns-in_default : goal.returns-in_default
returns-in_default c =
    c.new.ensures ∙ read_nothing view small c.args.items.now c.item-item.result c.loop-item.item-index c.loop-item.processors c.loop-item-test.true c.item-item.is (sym c.small.ensures ∙ c.in_default.is) c.loop-item.invariant

pub loop-item-preserved : goal.loop-item-preserved
loop-item-preserved c =
    rw (c.in_ok-push.ensures.ok) (read_more view small c.args.items.now c.item-item.result c.loop-item.item-index c.loop-item.processors c.in-Some.number
    c.loop-item-test.true c.item-item.is (sym c.small.ensures ∙ c.in-Some.is) c.loop-item.invariant)

pub returns : goal.returns
returns c = read_list view small c.args.items.now c.loop-item.item-index c.loop-item.processors c.loop-item-test.false c.loop-item.invariant
