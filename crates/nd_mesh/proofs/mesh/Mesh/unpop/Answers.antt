use Rattle.std.proofs.Common.{◌<◌, length, subst, sym, ap, ◌∙◌, arith}
use Rattle.nd_mesh.specs.Mesh.{popped, queue, IsFull, IsCounted}
use Rattle.nd_mesh.specs.Laws.{popped-unpopped}
use Rattle.nd_mesh.proofs.Counted.{counted_unpopped}
use Rattle.nd_mesh.proofs.Written.{written_unpopped, there, length_is}
use Rattle.nd_mesh.proofs.mesh.Mesh.unpop.Goals as goal

pub invariant_of-self-2 : goal.invariant_of-self-2
invariant_of-self-2 g c =
    let f : c.args.from < length c.self.inside.rows.items = rw c.self.view_is c.requires.sender in
    let t : c.args.to < length c.self.inside.rows.items = rw c.self.view_is c.requires.receiver in
    let made = written_unpopped c.self.inside.rows.items c.args.from f c.index_mut.result.now c.index_mut.ensures.value c.args.to c.args.change c.unpop.new.self c.in_default-unpop.ensures.ok in
    let long = length_is c.self.inside.rows.items c.args.from f c.index.result.now c.index.ensures c.args.to c.queue_len.result c.queue_len.ensures in
    let free : IsFull (queue c.self.inside.rows.items c.args.from c.args.to) → ⊥ = λ full. omega arith in
    subst (IsCounted c.in-Some.waiting) (sym made)
    (counted_unpopped c.self.inside.rows.items c.args.from f c.self.invariant c.args.to t c.args.change c.in-Some.waiting free c.in-Some.ensures.1)

pub returns-clause-undone : goal.returns-clause-undone
returns-clause-undone g c =
    let f : c.args.from < length c.self.inside.rows.items = rw c.self.view_is c.requires.sender in
    let t : c.args.to < length c.self.inside.rows.items = rw c.self.view_is c.requires.receiver in
    let made = written_unpopped c.self.inside.rows.items c.args.from f c.index_mut.result.now c.index_mut.ensures.value c.args.to c.args.change c.unpop.new.self c.in_default-unpop.ensures.ok in
    let in_row = there c.self.inside.rows.items c.args.from f c.index_mut.result.now c.index_mut.ensures.value c.args.to c.self.invariant.mesh t in
    ap (λ m. popped m c.args.from c.args.to) made
    ∙ popped-unpopped c.self.inside.rows.items c.args.from c.args.to c.args.change f in_row
    ∙ c.self.view_is

pub returns-clause-mesh : goal.returns-clause-mesh
returns-clause-mesh g c = (invariant_of-self-2 g c).mesh
