use Rattle.std.proofs.Common.{rules, ◌≡◌, ◌≢◌, ◌<◌, ◌≤◌, ◌+ℤ◌, pos, Some, unsigned_abs, refl, sym, arith}
use Rattle.std.proofs.lemmas.Int.{ints}
use Rattle.nd_time.specs.Limits.{max_count}
use Rattle.nd_delta.specs.Delta.{at}
use Rattle.nd_map.specs.declared.tree.Edit.TheVariants.{Keep}
use Rattle.nd_delta.proofs.KeptLemmas.{IsAdded, all_within, got_none, whole, not_past, added}
use Rattle.nd_delta.proofs.large.LargeDelta.add.Given.{Over}
use Rattle.nd_delta.proofs.large.LargeDelta.add.Goals as goal

pub returns-in_err-said-clause-full : goal.returns-in_err-said-clause-full
returns-in_err-said-clause-full g c =
    let here : pos 0 ≡ at c.args.self.now c.args.point.now = got_none c.self.inside.map c.self.invariant c.args.self.now c.self.view_is c.args.point.now (sym c.in_err-said.ensures.absent) in
    let small : unsigned_abs c.args.n ≤ max_count = not_past c.args.n c.ranges.n (λ past. let e = c.if-passes_limit.ensures.1 past in absurd (cc (e))) in
    let fits : max_count < unsigned_abs (at c.args.self.now c.args.point.now +ℤ c.args.n) → ⊥ = λ past. absurd (omega (arith, ints, past, here, small)) in
    search rules

pub returns-in_err-said-clause-no_growth : goal.returns-in_err-said-clause-no_growth
returns-in_err-said-clause-no_growth g c some = absurd (some (sym (got_none c.self.inside.map c.self.invariant c.args.self.now c.self.view_is c.args.point.now (sym c.in_err-said.ensures.absent))))

pub returns-in_err-said-clause-within : goal.returns-in_err-said-clause-within
returns-in_err-said-clause-within g c = all_within c.self.inside.map c.self.invariant c.args.self.now c.self.view_is c.args.point.now

pub returns-then-is_kept-clause-within : goal.returns-then-is_kept-clause-within
returns-then-is_kept-clause-within g c = all_within c.self.inside.map c.self.invariant c.args.self.now c.self.view_is c.args.point.now

pub returns-clause-within : goal.returns-clause-within
returns-clause-within g c = all_within c.self.inside.map c.self.invariant c.args.self.now c.self.view_is c.args.point.now

pub returns-then-is_kept-clause-full : goal.returns-then-is_kept-clause-full
returns-then-is_kept-clause-full g c =
    let es = c.self.inside.map in
    let n = c.args.n in
    let small : unsigned_abs n ≤ max_count = not_past n c.ranges.n (λ past. let e = c.if-passes_limit.ensures.1 past in absurd (cc (e))) in
    let sum = added es c.self.invariant c.args.self.now c.self.view_is c.args.point.now n (record { some = λ zero. absurd (omega (arith, ints, zero, c.if-n-eq0.false)); within = small })
    c.in_ok-said.said c.put_or_edit.new.self _ (λ z e held said. let same = whole z held.within in let also = whole n small in record { full = search rules; none = search rules; some = search rules })
    c.in_ok-said.ensures.said c.in_ok-said.ensures.done in
    (λ _. sum.full (c.if-is_kept.ensures.0 refl), λ _. refl)

-- what the edit did, if it did not keep the integer that was there
sum : (g : Over) (c : goal.Else-is_kept g) → IsAdded c.args.self.now c.args.point.now c.args.n c.in_ok-said.said c.put_or_edit.new.self
sum g c =
    let es = c.self.inside.map in
    let n = c.args.n in
    let small : unsigned_abs n ≤ max_count = not_past n c.ranges.n (λ past. let e = c.if-passes_limit.ensures.1 past in absurd (cc (e))) in
    added es c.self.invariant c.args.self.now c.self.view_is c.args.point.now n (record { some = λ zero. absurd (omega (arith, ints, zero, c.if-n-eq0.false)); within = small })
    c.in_ok-said.said c.put_or_edit.new.self _ (λ z e held said. let same = whole z held.within in let also = whole n small in record { full = search rules; none = search rules; some = search rules })
    c.in_ok-said.ensures.said c.in_ok-said.ensures.done

other : (g : Over) (c : goal.Else-is_kept g) → c.in_ok-said.said ≢ Some Keep
other g c keep = let e = c.if-is_kept.ensures.1 keep in absurd (cc (e))

pub invariant_of-self-2 : goal.invariant_of-self-2
invariant_of-self-2 g c = (sum g c).kept

pub returns-clause-ok : goal.returns-clause-ok
returns-clause-ok g c = (sum g c).sum (other g c)

pub returns-clause-full : goal.returns-clause-full
returns-clause-full g c =
    let fits = (sum g c).fits (other g c) in
    (λ e. absurd (cc), λ past. absurd (omega (arith, past, fits)))
