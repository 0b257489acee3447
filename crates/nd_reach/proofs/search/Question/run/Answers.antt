use Rattle.std.proofs.Common.{arith}
use Rattle.nd_reach.specs.Questions.{wanted}
use Rattle.nd_reach.proofs.Expands.{begun_on, starts, all_searched}
use Rattle.nd_reach.proofs.search.Question.run.Goals as goal

pub loop-at-init : goal.loop-at-init
loop-at-init g c =
    let h = begun_on (wanted c.args.self.now) c.begin.new.found.forms.keys c.begin.new.found.nodes.items c.in_ok-begin.field-0 c.if-branch.false c.in_ok-begin.ensures.ok in
    ((h, starts (wanted c.args.self.now) c.begin.new.found.forms.keys c.begin.new.found.nodes.items h c.in_ok-walker.walker c.in_ok-walker.ensures), omega arith)

pub returns-clause-ok : goal.returns-clause-ok
returns-clause-ok g c =
    all_searched (wanted c.args.self.now) c.loop-at.found.forms.keys c.loop-at.found.nodes.items c.loop-at.at (omega (arith, c.loop-at-test.false, c.len.ensures)) c.loop-at.invariant.0.0
