use Rattle.std.proofs.Common.{◌≡◌, ◌≤◌, ◌-◌, subst, arith, rules}
use Rattle.nd_processor.proofs.Edited.{within, stays, lowered, edited_kept}
use Rattle.nd_processor.specs.Kept.{IsKept, number}
use Rattle.nd_processor.proofs.tally.Tally.take.Goals as goal

pub returns-then-n-eq0 : goal.returns-then-n-eq0
returns-then-n-eq0 g c =
    let kept = subst (IsKept g.K.Ord.cmp) c.self.view_is c.self.invariant in
    let same : number g.K.Ord.cmp c.args.self.now c.args.key.now - c.args.n ≡ number g.K.Ord.cmp c.args.self.now c.args.key.now = omega (arith, c.if-n-eq0.true) in
    stays g.K.Ord.cmp g.met.K.Ord.total c.args.self.now c.args.key.now kept _ same

pub invariant_of-self-2 : goal.invariant_of-self-2
invariant_of-self-2 g c =
    let fits = within g.K.Ord.cmp g.met.K.Ord.total c.self.inside.map c.args.key.now c.self.invariant in
    let less : c.args.n ≤ number g.K.Ord.cmp c.self.inside.map c.args.key.now = rw c.self.view_is c.requires in
    edited_kept g.K.Ord.cmp g.met.K.Ord.total c.self.inside.map c.args.key.now c.self.invariant _ c.args.n
    (record { some = c.if-n-eq0.false; within = omega arith })
    (λ m e count said. lowered m c.args.n e count (search rules) (search rules))
    c.put_or_edit.result c.put_or_edit.new.self c.put_or_edit.ensures.said c.put_or_edit.ensures.done c.put_or_edit.ensures.err
