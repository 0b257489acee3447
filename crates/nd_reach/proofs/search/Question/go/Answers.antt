use Rattle.std.proofs.Common.{rules, sym, subst, IsTrue}
use Rattle.nd_reach.specs.Found.{AreFound}
use Rattle.nd_reach.proofs.search.Question.go.Goals as goal

pub returns-in_ok-walker-clause-ok : goal.returns-in_ok-walker-clause-ok
returns-in_ok-walker-clause-ok g c =
    let h = c.requires.walked.0 in (
      h,
      λ w at. c.in_ok-walker.ensures.ok h.ways c.args.found.now.forms.keys w
          (subst (AreFound c.args.self.now.start.now h.ways c.args.found.now.forms.keys) (sym c.deref-then-not-branch.ensures.value) h.found) at,
    )

pub returns-else-not-branch-clause-ok : goal.returns-else-not-branch-clause-ok
returns-else-not-branch-clause-ok g c =
    let is : IsTrue c.in_ok-walk.field-0 = search rules in
    let h = c.requires.walked.0 in (
      h,
      c.in_ok-walk.ensures.ok is c.args.self.now.start.now h.ways c.args.found.now.forms.keys
          (subst (AreFound c.args.self.now.start.now h.ways c.args.found.now.forms.keys) (sym c.deref.ensures.value) h.found) c.requires.walked.1,
    )
