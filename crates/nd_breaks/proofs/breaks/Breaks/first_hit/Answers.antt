use Rattle.std.proofs.Common.{◌≡◌, true, false, rules}
use Rattle.nd_breaks.proofs.Hits.{no_hit_none, no_hit_some, no_hit_more, no_hit_at_all}
use Rattle.nd_breaks.proofs.breaks.Breaks.first_hit.Goals as goal
use Rattle.nd_breaks.proofs.breaks.Breaks.first_hit.Goals.{in-Some+else-holds, in_default}

pub loop-id-preserved : goal.loop-id-preserved
loop-id-preserved g c =
    no_hit_more c.args.self.now c.args.cluster.now c.loop-id.id c.loop-id.invariant
    (elim c.match-get.branch [
      | in-Some+else-holds w ↦
          no_hit_some c.args.self.now c.args.cluster.now c.loop-id.id w.in-Some.b.now (search rules)
          (λ h. let yes : w.holds.result ≡ true = w.holds.ensures.1 h in let no : w.holds.result ≡ false = w.if-holds.false in cc)
      | in_default w ↦ no_hit_none c.args.self.now c.args.cluster.now c.loop-id.id (search rules)
    ])

pub returns-clause-none : goal.returns-clause-none
returns-clause-none g c = λ _. no_hit_at_all c.args.self.now c.args.cluster.now c.end-id-end.result c.loop-id.id c.end-id-end.ensures.past c.loop-id-test.false c.loop-id.invariant

pub returns-then-holds-clause-some : goal.returns-then-holds-clause-some
returns-then-holds-clause-some g c = search rules
