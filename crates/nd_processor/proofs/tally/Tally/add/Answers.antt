use Rattle.std.proofs.Common.{◌≡◌, ◌+◌, subst, arith, rules}
use Rattle.nd_processor.proofs.Edited.{within, stays, raised, edited_kept}
use Rattle.nd_processor.specs.Kept.{IsKept, number}
use Rattle.nd_processor.proofs.tally.Tally.add.Goals as goal

pub invariant_of-self : goal.invariant_of-self
invariant_of-self g c =
    edited_kept g.K.Ord.cmp g.met.K.Ord.total c.self.inside.map c.args.key.now c.self.invariant _ c.args.n
    (record { some = c.if-n-eq0.false; within = c.if-n-gt-MAX_COUNT.false })
    (λ m e count said. raised m c.args.n e c.if-n-eq0.false (search rules) (search rules))
    c.put_or_edit.result c.put_or_edit.new.self c.put_or_edit.ensures.said c.put_or_edit.ensures.done c.put_or_edit.ensures.err

pub returns-then-n-eq0-clause-ok : goal.returns-then-n-eq0-clause-ok
returns-then-n-eq0-clause-ok g c =
    let kept = subst (IsKept g.K.Ord.cmp) c.self.view_is c.self.invariant in
    let same : number g.K.Ord.cmp c.args.self.now c.args.key.now + c.args.n ≡ number g.K.Ord.cmp c.args.self.now c.args.key.now = omega (arith, c.if-n-eq0.true) in
    stays g.K.Ord.cmp g.met.K.Ord.total c.args.self.now c.args.key.now kept _ same

pub returns-then-n-eq0-clause-full : goal.returns-then-n-eq0-clause-full
returns-then-n-eq0-clause-full g c =
    let kept = subst (IsKept g.K.Ord.cmp) c.self.view_is c.self.invariant in
    let fits = within g.K.Ord.cmp g.met.K.Ord.total c.args.self.now c.args.key.now kept in
    (λ e. absurd (cc), λ past. absurd (omega (arith, fits, past, c.if-n-eq0.true)))
