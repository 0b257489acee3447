use Rattle.std.proofs.Common.{◌<◌, IsTrue, false, length, subst, sym, ap, ◌∙◌, arith}
use Rattle.nd_mesh.specs.Mesh.{unpushed, IsFull, IsCounted}
use Rattle.nd_mesh.specs.Laws.{unpushed-pushed}
use Rattle.nd_mesh.proofs.Counted.{counted_pushed}
use Rattle.nd_mesh.proofs.Written.{written_pushed, has_none}
use Rattle.nd_mesh.proofs.mesh.Mesh.push_all.Goals as goal

refused : IsTrue false → ⊥
refused h = absurd (cc)

pub invariant_of-self-2 : goal.invariant_of-self-2
invariant_of-self-2 g c =
    let f : c.args.from < length c.self.inside.rows.items = rw c.self.view_is c.requires in
    let made = written_pushed c.self.inside.rows.items c.args.from f c.index_mut.result.now c.index_mut.ensures.value c.args.change.now c.push_all.new.self c.in-Ok.ensures.ok in
    let free = has_none c.self.inside.rows.items c.args.from f c.index.result.now c.index.ensures IsFull (λ h. refused (c.if-has_full.ensures.1 h)) in
    subst (IsCounted c.in-Some.waiting) (sym made)
    (counted_pushed c.self.inside.rows.items c.args.from f c.self.invariant c.args.change.now c.in-Some.waiting free (omega (arith, c.in-Some.ensures.1, c.len.ensures)))

pub returns-clause-undone : goal.returns-clause-undone
returns-clause-undone g c =
    let f : c.args.from < length c.self.inside.rows.items = rw c.self.view_is c.requires in
    let made = written_pushed c.self.inside.rows.items c.args.from f c.index_mut.result.now c.index_mut.ensures.value c.args.change.now c.push_all.new.self c.in-Ok.ensures.ok in
    ap (λ m. unpushed m c.args.from) made ∙ unpushed-pushed c.self.inside.rows.items c.args.from c.args.change.now f ∙ c.self.view_is

pub returns-clause-mesh : goal.returns-clause-mesh
returns-clause-mesh g c = (invariant_of-self-2 g c).mesh
