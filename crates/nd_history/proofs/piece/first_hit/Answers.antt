use Rattle.std.proofs.Common.{◌≡◌, ap, true, false, arith}
use Rattle.nd_breaks.specs.Conditions.{Holds}
use Rattle.nd_history.specs.Least.{HoldsAt}
use Rattle.nd_history.proofs.WalkLemmas.{no_hit_more, at_position}
use Rattle.nd_history.proofs.piece.first_hit.Goals as goal

pub loop-i-preserved : goal.loop-i-preserved
loop-i-preserved g c =
    let m = c.args.timeline.now in
    let on = c.walk_to.ensures.on in
    let there : c.walk_to.new.walk.at ≡ c.loop-i.i = ap (λ t. t.cursor) c.in-Ok.ensures.jump.3 in record {
      on = on;
      none = no_hit_more (HoldsAt m c.args.condition.now) c.args.from c.loop-i.i c.loop-i.invariant.none
          (at_position m c.walk_to.new.walk c.loop-i.i (λ s. Holds s c.args.condition.now → ⊥) on there
          (λ h. let yes : c.holds.result ≡ true = c.holds.ensures.1 h in let no : c.holds.result ≡ false = c.if-holds.false in cc));
    }

pub returns-clause-found : goal.returns-clause-found
returns-clause-found g c = λ i from to. c.loop-i.invariant.none i from (omega (arith, to, c.loop-i-test.false))
