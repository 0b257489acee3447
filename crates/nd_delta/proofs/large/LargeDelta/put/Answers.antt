use Rattle.std.proofs.Common.{rules, arith, ◌≡◌, pos, ap, sym, ◌∙◌}
use Rattle.std.proofs.lemmas.Int.{ints}
use Rattle.nd_delta.specs.Delta.{set}
use Rattle.nd_delta.proofs.KeptLemmas.{got_none, put_kept, put_is}
use Rattle.nd_delta.proofs.large.LargeDelta.put.Goals as goal

pub returns-then-n-eq0-clause-ok : goal.returns-then-n-eq0-clause-ok
returns-then-n-eq0-clause-ok g c =
    let is : pos 0 ≡ c.args.n = omega (arith, ints, c.if-n-eq0.true) in
    c.remove.ensures ∙ ap (set c.args.self.now c.args.point.now) is

pub returns-in_err-put-clause-absent : goal.returns-in_err-put-clause-absent
returns-in_err-put-clause-absent g c =
    let absent = sym (got_none c.self.inside.map c.self.invariant c.args.self.now c.self.view_is c.args.point.now (sym c.in_err-put.ensures.absent)) in
    search rules

pub invariant_of-self-2 : goal.invariant_of-self-2
invariant_of-self-2 g c =
    put_kept c.self.inside.map c.self.invariant c.args.self.now c.self.view_is c.args.point.now c.args.n _ c.requires (λ e. absurd (omega (arith, ints, c.if-n-eq0.false))) c.in_ok-put.ensures.ok

pub returns-clause-ok : goal.returns-clause-ok
returns-clause-ok g c = put_is c.self.inside.map c.self.invariant c.args.self.now c.self.view_is c.args.point.now c.args.n _ c.requires c.in_ok-put.ensures.ok
