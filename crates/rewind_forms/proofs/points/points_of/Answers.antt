use Rattle.std.proofs.Common.{◌∙◌, sym}
use Rattle.serde_json.specs.View.{view}
use Rattle.rewind_forms.specs.Places.{placed_point}
use Rattle.rewind_forms.proofs.ReadInTurn.{read_start, read_more, read_nothing, read_list}
use Rattle.rewind_forms.proofs.points.points_of.Goals as goal

pub loop-item-init : goal.loop-item-init
loop-item-init c = read_start view (placed_point c.args.graph.now) c.args.items.now c.new-points.result c.new-points.ensures

pub returns-in_default : goal.returns-in_default
returns-in_default c =
    c.new.ensures ∙ read_nothing view (placed_point c.args.graph.now) c.args.items.now c.item-item.result c.loop-item.item-index c.loop-item.points c.loop-item-test.true c.item-item.is (sym c.placed_point.ensures ∙ c.in_default.is) c.loop-item.invariant

pub loop-item-preserved : goal.loop-item-preserved
loop-item-preserved c =
    rw (c.in_ok-push.ensures.ok) (read_more view (placed_point c.args.graph.now) c.args.items.now c.item-item.result c.loop-item.item-index c.loop-item.points c.in-Some.point
    c.loop-item-test.true c.item-item.is (sym c.placed_point.ensures ∙ c.in-Some.is) c.loop-item.invariant)

pub returns : goal.returns
returns c = read_list view (placed_point c.args.graph.now) c.args.items.now c.loop-item.item-index c.loop-item.points c.loop-item-test.false c.loop-item.invariant
