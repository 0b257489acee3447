use Rattle.std.proofs.Common.{◌<◌, ◌-◌, IsTrue, false, length, subst, sym, arith}
use Rattle.nd_mesh.specs.Mesh.{IsVacant, IsCounted}
use Rattle.nd_mesh.proofs.Counted.{length-le-queued, counted_unpushed}
use Rattle.nd_mesh.proofs.Written.{written_unpushed, has_none}
use Rattle.nd_mesh.proofs.mesh.Mesh.unpush_all.Goals as goal

refused : IsTrue false → ⊥
refused h = absurd (cc)

pub overflow_sub-self : goal.overflow_sub-self
overflow_sub-self g c =
    let f : c.args.from < length c.self.inside.rows.items = rw c.self.view_is c.requires in
    let some = has_none c.self.inside.rows.items c.args.from f c.index.result.now c.index.ensures IsVacant (λ h. refused (c.if-has_vacant.ensures.1 h)) in
    omega (arith, c.len.ensures, length-le-queued c.self.inside.rows.items c.args.from f c.self.invariant some)

pub invariant_of-self : goal.invariant_of-self
invariant_of-self g c =
    let f : c.args.from < length c.self.inside.rows.items = rw c.self.view_is c.requires in
    let made = written_unpushed c.self.inside.rows.items c.args.from f c.index_mut.result.now c.index_mut.ensures.value c.unpush_all.new.self c.unpush_all.ensures in
    let some = has_none c.self.inside.rows.items c.args.from f c.index.result.now c.index.ensures IsVacant (λ h. refused (c.if-has_vacant.ensures.1 h)) in
    subst (IsCounted (c.self.inside.waiting - c.len.result)) (sym made)
    (counted_unpushed c.self.inside.rows.items c.args.from f c.self.invariant (c.self.inside.waiting - c.len.result) some (omega (arith, c.len.ensures)))

pub returns-clause-mesh : goal.returns-clause-mesh
returns-clause-mesh g c = (invariant_of-self g c).mesh
