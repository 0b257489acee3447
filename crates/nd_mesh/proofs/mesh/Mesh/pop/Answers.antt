use Rattle.std.proofs.Common.{◌<◌, ◌-◌, length, Some, None, subst, sym, ap, ◌∙◌}
use Rattle.nd_mesh.specs.Mesh.{unpopped, IsCounted}
use Rattle.nd_mesh.specs.Laws.{unpopped-popped}
use Rattle.nd_mesh.proofs.Counted.{counted_same, counted_popped}
use Rattle.nd_mesh.proofs.Written.{written_popped, there, front_is}
use Rattle.nd_mesh.proofs.mesh.Mesh.pop.Goals as goal

pub invariant_of-self : goal.invariant_of-self
invariant_of-self g c =
    let f : c.args.from < length c.self.inside.rows.items = rw c.self.view_is c.requires.sender in
    let t : c.args.to < length c.self.inside.rows.items = rw c.self.view_is c.requires.receiver in
    let made = written_popped c.self.inside.rows.items c.args.from f c.index_mut.result.now c.index_mut.ensures.value c.args.to c.pop.new.self c.pop.ensures.rest in
    let front = front_is c.self.inside.rows.items c.args.from f c.index_mut.result.now c.index_mut.ensures.value c.args.to c.pop.result None c.pop.ensures.value c.in_default.is in
    subst (IsCounted c.self.inside.waiting) (sym made)
    (counted_same c.self.inside.rows.items c.args.from f c.self.invariant c.args.to t front)

pub returns-in_default-clause-mesh : goal.returns-in_default-clause-mesh
returns-in_default-clause-mesh g c = (invariant_of-self g c).mesh

pub invariant_of-self-2 : goal.invariant_of-self-2
invariant_of-self-2 g c =
    let f : c.args.from < length c.self.inside.rows.items = rw c.self.view_is c.requires.sender in
    let t : c.args.to < length c.self.inside.rows.items = rw c.self.view_is c.requires.receiver in
    let made = written_popped c.self.inside.rows.items c.args.from f c.index_mut.result.now c.index_mut.ensures.value c.args.to c.pop.new.self c.pop.ensures.rest in
    let front = front_is c.self.inside.rows.items c.args.from f c.index_mut.result.now c.index_mut.ensures.value c.args.to c.pop.result (Some c.in-Some.change) c.pop.ensures.value c.in-Some.is in
    subst (IsCounted (c.self.inside.waiting - 1)) (sym made)
    (counted_popped c.self.inside.rows.items c.args.from f c.self.invariant c.args.to t c.in-Some.change front)

pub returns-clause-undone : goal.returns-clause-undone
returns-clause-undone g c =
    let f : c.args.from < length c.self.inside.rows.items = rw c.self.view_is c.requires.sender in
    let t : c.args.to < length c.self.inside.rows.items = rw c.self.view_is c.requires.receiver in
    let made = written_popped c.self.inside.rows.items c.args.from f c.index_mut.result.now c.index_mut.ensures.value c.args.to c.pop.new.self c.pop.ensures.rest in
    let in_row = there c.self.inside.rows.items c.args.from f c.index_mut.result.now c.index_mut.ensures.value c.args.to c.self.invariant.mesh t in
    let front = front_is c.self.inside.rows.items c.args.from f c.index_mut.result.now c.index_mut.ensures.value c.args.to c.pop.result (Some c.in-Some.change) c.pop.ensures.value c.in-Some.is in
    ap (λ m. unpopped m c.args.from c.args.to c.in-Some.change) made
    ∙ unpopped-popped c.self.inside.rows.items c.args.from c.args.to c.in-Some.change f in_row front
    ∙ c.self.view_is

pub returns-clause-mesh : goal.returns-clause-mesh
returns-clause-mesh g c = (invariant_of-self-2 g c).mesh
