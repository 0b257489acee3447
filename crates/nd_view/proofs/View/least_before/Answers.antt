use Rattle.std.proofs.Common.{◌≡◌, ◌≢◌, ◌∷◌, ℤ, None, pos, refl, sym, subst, ◌∙◌, arith, true≢false}
use Rattle.std.specs.Prelude.{◌<ℤ◌}
use Rattle.std.proofs.lemmas.Int.{ints}
use Rattle.std.specs.FinMap.{find}
use Rattle.std.specs.Map.Iter.{deref_pair}
use Rattle.std.proofs.lemmas.Map.Iter.{rest_more}
use Rattle.nd_map.specs.Cases.{not_zero}
use Rattle.nd_paths.specs.Point.{point_cmp}
use Rattle.nd_paths.specs.declared.point.Pointstamp.{Pointstamp}
use Rattle.nd_delta.specs.Delta.{at}
use Rattle.nd_delta.specs.Least.{IsLeast}
use Rattle.nd_view.specs.View.{IsPositiveBefore}
use Rattle.nd_view.proofs.Left.{IsLeft, left_all, left_has, left_next, left_rest, left_later, left_least}
use Rattle.nd_view.proofs.View.least_before.Goals as goal
use Rattle.nd_view.proofs.View.least_before.Goals.{else-n-gt0-via-then-n-gt0+else-is_before, else-n-gt0-via-else-n-gt0}

pub loop-first-init : goal.loop-first-init
loop-first-init g c =
    let m = c.args.self.now.map in
    let is = c.into_iter-first-iterator.ensures.into_iter_gives ∙ c.entries-first-items.ensures.rest in
    record {
      left = left_all m c.into_iter-first-iterator.result is;
      all = λ q p. left_has m c.into_iter-first-iterator.result is q (not_zero (at m q) p.positive);
    }

pub returns-then-is_before-clause-least : goal.returns-then-is_before-clause-least
returns-then-is_before-clause-least g c =
    let m = c.args.self.now.map in
    let e : Pointstamp × ℤ = (c.in-Some.first.now, c.in-Some.n.now) in
    let rest = c.next.new.self in
    let P : Pointstamp → Type 0 = IsPositiveBefore c.args.paths.now m c.args.extent c.args.point.now in
    let h = c.loop-first.invariant in
    let step : c.loop-first.first-iterator ≡ e ∷ rest = rest_more deref_pair c.loop-first.first-iterator rest c.next.result (c.in-Some.first, c.in-Some.n) c.in-Some.is c.next.ensures.steps in
    let left : IsLeft m (e ∷ rest) = subst (IsLeft m) step h.left in
    let up : pos 0 <ℤ e.1 = omega (arith, ints, c.if-n-gt0.true) in
    let here : P e.0 = record { positive = subst (λ z. pos 0 <ℤ z) (left_next m e rest left) up; before = c.if-is_before.ensures.0 refl } in
    subst (IsLeast P) (sym c.copy.ensures) (left_least m e rest left P (λ q p. subst (λ l. find point_cmp q l ≢ None) step (h.all q p)) here)

pub loop-first-preserved : goal.loop-first-preserved
loop-first-preserved g c =
    let m = c.args.self.now.map in
    let e : Pointstamp × ℤ = (c.in-Some.first.now, c.in-Some.n.now) in
    let rest = c.next.new.self in
    let P : Pointstamp → Type 0 = IsPositiveBefore c.args.paths.now m c.args.extent c.args.point.now in
    let h = c.loop-first.invariant in
    let step : c.loop-first.first-iterator ≡ e ∷ rest = rest_more deref_pair c.loop-first.first-iterator rest c.next.result (c.in-Some.first, c.in-Some.n) c.in-Some.is c.next.ensures.steps in
    let left : IsLeft m (e ∷ rest) = subst (IsLeft m) step h.left in
    let never : P e.0 → ⊥ = λ p. elim c.else-n-gt0.branch [
      | else-n-gt0-via-then-n-gt0+else-is_before w ↦ true≢false (sym (w.if-is_before.ensures.1 p.before))
      | else-n-gt0-via-else-n-gt0 w ↦ let up : pos 0 <ℤ e.1 = subst (λ z. pos 0 <ℤ z) (sym (left_next m e rest left)) p.positive in absurd (omega (arith, ints, up, w.if-n-gt0.false))
    ] in
    record {
      left = left_rest m e rest left;
      all = λ q p. left_later m e rest left q (λ same. never (subst P same p)) (subst (λ l. find point_cmp q l ≢ None) step (h.all q p));
    }
