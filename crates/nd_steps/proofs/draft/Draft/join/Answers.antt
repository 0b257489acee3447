use Rattle.std.proofs.Common.{List, sym, subst, arith}
use Rattle.std.proofs.lemmas.Result.{IfOk-weaker}
use Rattle.nd_steps.specs.Drafts.{AreJoined}
use Rattle.nd_steps.specs.declared.change.Change.{Change}
use Rattle.nd_steps.proofs.DraftsLemmas.{joined_so}
use Rattle.nd_steps.proofs.draft.Draft.join.Goals as goal

pub returns-clause-joined : goal.returns-clause-joined
returns-clause-joined g c = IfOk-weaker c.join_neighbours.result _ _ (λ _ is.
    let all : List Change = c.args.self.changes.items in
    subst (λ (cs : List Change). AreJoined all cs) (sym is) (joined_so all c.sorted.result.items c.sorted.ensures.same c.sorted.ensures.order)) c.join_neighbours.ensures

pub returns-clause-few : goal.returns-clause-few
returns-clause-few g c = omega (arith, c.args.self.changes.ok, c.args.self.changes.small)
