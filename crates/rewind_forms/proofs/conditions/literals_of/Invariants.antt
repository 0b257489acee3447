use Rattle.std.proofs.Common.{map}
use Rattle.serde_json.specs.View.{view}
use Rattle.rewind_forms.proofs.ConditionsLemmas.{HaveRead}
use Rattle.rewind_forms.proofs.conditions.literals_of.Given as goal

abbrev pub invariant-loop-item : goal.invariant-loop-item
invariant-loop-item l = HaveRead l.version l.graph l.quantifier (map view l.items) l.item-index l.read
