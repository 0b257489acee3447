use Rattle.std.proofs.Common.{sym, map}
use Rattle.serde_json.specs.View.{view}
use Rattle.nd_json.specs.Forms.{integer}
use Rattle.rewind_forms.proofs.ReadInTurn.{every-true, every-false}
use Rattle.rewind_forms.proofs.numbers.integers.Goals as goal

pub returns-then-are_integers : goal.returns-then-are_integers
returns-then-are_integers c = every-true integer (map view c.args.items.now) (sym c.if-are_integers.ensures)

pub returns-else-are_integers : goal.returns-else-are_integers
returns-else-are_integers c = every-false integer (map view c.args.items.now) (sym c.if-are_integers.ensures)
