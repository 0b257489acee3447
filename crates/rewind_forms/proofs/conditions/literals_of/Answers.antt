use Rattle.std.proofs.Common.{◌≡◌, ◌∙◌, ◌<◌, ◌+◌, length, get_or, map, Result, Option, ap, sym, subst, arith}
use Rattle.std.proofs.lemmas.List.{get_or-map, length-map}
use Rattle.serde_json.specs.View.{view}
use Rattle.nd_breaks.specs.Conditions.{ConditionValue}
use Rattle.rewind_forms.specs.declared.fault.LineFault.{LineFault}
use Rattle.rewind_forms.proofs.ConditionsLemmas.{HaveRead, read_literal, read_fault}
use Rattle.rewind_forms.proofs.conditions.literals_of.Goals as goal
use Rattle.rewind_forms.proofs.conditions.literals_of.Goals.{in-Ok, in-Err}

pub loop-item-preserved : goal.loop-item-preserved
loop-item-preserved c =
    let v = c.args.version in
    let g = c.args.graph.now in
    let q = c.args.quantifier in
    let items = c.args.items.now in
    let i = c.loop-item.item-index in
    let item = c.item-item.result in
    let lt : i < length (map view items) = omega (arith, c.loop-item-test.true, length-map items view) in
    let is : view item ≡ get_or (map view items) i (view item) = ap view c.item-item.is ∙ sym (get_or-map view items i item (view item) c.loop-item-test.true) in
    let P : Result (Option ConditionValue) LineFault → Type 0 = λ r. HaveRead v g q (map view items) (i + 1) r in
    elim c.match-literal_of.branch [
      | in-Ok w ↦ subst P (sym w.read-is)
          (read_literal v g q (map view items) i (view item) lt is c.loop-item.read w.and_literal-read.result w.in-Ok.literal
          (sym c.literal_of.ensures ∙ w.in-Ok.is) w.and_literal-read.ensures.literals w.and_literal-read.ensures.quantifier c.loop-item.invariant)
      | in-Err w ↦ subst P (sym w.read-is)
          (read_fault v g q (map view items) i (view item) lt is c.loop-item.read w.in-Err.fault w.and_fault.result
          (sym c.literal_of.ensures ∙ w.in-Err.is) w.and_fault.ensures c.loop-item.invariant)
    ]
