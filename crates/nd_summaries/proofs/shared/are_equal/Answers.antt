use Rattle.std.proofs.Common.{◌<◌, ◌≤◌, ◌∙◌, sym, length, IsTrue, false, refl, arith}
use Rattle.std.proofs.lemmas.List.{take_all}
use Rattle.nd_summaries.proofs.Sharing.{same_more, same_at}
use Rattle.nd_summaries.proofs.shared.are_equal.Goals as goal

no_truth : IsTrue false → ⊥
no_truth yes' = cc

pub returns-then-not-same : goal.returns-then-not-same
returns-then-not-same c =
    let low : c.loop-place.place < length c.args.other.now = omega arith in (
      λ yes'. absurd (no_truth yes'),
      λ e. absurd (no_truth (sym c.if-not-same.true ∙ c.are_same-same.ensures.1 (same_at c.args.own.now c.args.other.now c.loop-place.place c.index-own-place.result c.index-other-place.result low c.index-own-place.is c.index-other-place.is e))),
    )

pub loop-place-preserved : goal.loop-place-preserved
loop-place-preserved c =
    let low : c.loop-place.place < length c.args.own.now = omega arith in
    let low' : c.loop-place.place < length c.args.other.now = omega arith in
    same_more c.args.own.now c.args.other.now c.loop-place.place c.index-own-place.result c.index-other-place.result low low' c.index-own-place.is c.index-other-place.is (c.are_same-same.ensures.0 c.if-not-same.false) c.loop-place.invariant

pub returns : goal.returns
returns c =
    let low : length c.args.own.now ≤ c.loop-place.place = omega arith in
    let low' : length c.args.other.now ≤ c.loop-place.place = omega arith in
    (λ _. sym (take_all c.loop-place.place c.args.own.now low) ∙ c.loop-place.invariant ∙ take_all c.loop-place.place c.args.other.now low', λ _. refl)
