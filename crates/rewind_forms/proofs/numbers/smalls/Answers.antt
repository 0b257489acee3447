use Rattle.std.proofs.Common.{sym, map}
use Rattle.serde_json.specs.View.{view}
use Rattle.nd_json.specs.Forms.{small}
use Rattle.rewind_forms.proofs.ReadInTurn.{every-true, every-false}
use Rattle.rewind_forms.proofs.numbers.smalls.Goals as goal

pub returns-then-are_small : goal.returns-then-are_small
returns-then-are_small c = every-true small (map view c.args.items.now) (sym c.if-are_small.ensures)

pub returns-else-are_small : goal.returns-else-are_small
returns-else-are_small c = every-false small (map view c.args.items.now) (sym c.if-are_small.ensures)
