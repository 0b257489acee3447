use Rattle.std.proofs.Common.{rules, FitsSigned, pos, ◌+ℤ◌, ◌*ℤ◌, w64, sym, subst, arith}
use Rattle.std.proofs.lemmas.Int.{to_z-of_z}
use Rattle.nd_vertex.specs.Effects.{AreEmittable}
use Rattle.nd_vertex.specs.Table.{plain_emissions}
use Rattle.nd_vertex.proofs.react.plain_output.Goals as goal

pub returns-in-None-clause-range : goal.returns-in-None-clause-range
returns-in-None-clause-range c = λ r.
    let k = c.in-Add.k in
    let range : FitsSigned w64 k = search rules in
    let all : FitsSigned w64 (c.args.value +ℤ k) = subst (λ o. AreEmittable (plain_emissions o c.args.value)) c.in-Add.is r 0 (0, pos 0) (omega arith) in
    c.in-None.ensures (subst (FitsSigned w64) (λ i. sym (to_z-of_z w64 c.args.value c.ranges.value) i +ℤ sym (to_z-of_z w64 k range) i) all)

pub returns-in-None-checked_mul-clause-range : goal.returns-in-None-checked_mul-clause-range
returns-in-None-checked_mul-clause-range c = λ r.
    let k = c.in-Mul.k in
    let range : FitsSigned w64 k = search rules in
    let all : FitsSigned w64 (c.args.value *ℤ k) = subst (λ o. AreEmittable (plain_emissions o c.args.value)) c.in-Mul.is r 0 (0, pos 0) (omega arith) in
    c.in-None-checked_mul.ensures (subst (FitsSigned w64) (λ i. sym (to_z-of_z w64 c.args.value c.ranges.value) i *ℤ sym (to_z-of_z w64 k range) i) all)
