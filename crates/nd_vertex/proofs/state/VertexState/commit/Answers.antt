use Rattle.std.proofs.Common.{map, ap, sym, subst, ◌∙◌}
use Rattle.nd_vertex.specs.Edits.{CanEdit, edited, turned}
use Rattle.nd_vertex.proofs.EditsLemmas.{straight, can_turn, undone}
use Rattle.nd_vertex.proofs.state.VertexState.commit.Goals as goal

pub make_all-requires : goal.make_all-requires
make_all-requires g c = rw (c.deref.ensures.value, straight) c.requires

pub returns-clause-ok : goal.returns-clause-ok
returns-clause-ok g c = rw (c.deref.ensures.value, straight) at c.in_ok-make_all.ensures.ok

pub returns-clause-back : goal.returns-clause-back
returns-clause-back g c =
    subst (λ s. CanEdit s (map turned c.args.effect.now.items.items)) (sym (returns-clause-ok g c)) (can_turn c.args.self.now c.args.effect.now.items.items c.requires)

pub returns-clause-undone : goal.returns-clause-undone
returns-clause-undone g c =
    ap (λ s. edited s (map turned c.args.effect.now.items.items)) (returns-clause-ok g c) ∙ undone c.args.self.now c.args.effect.now.items.items c.requires.once c.requires.olds
