use Rattle.std.proofs.Common.{IsTrue, false, refl, arith}
use Rattle.nd_paths.proofs.Places.{each_differ, each_same, each_rest, each_past}
use Rattle.nd_paths.proofs.arrival.are_each_at_most.Goals as goal

no_truth : IsTrue false → ⊥
no_truth yes' = cc

pub returns-then-theirs-place : goal.returns-then-theirs-place
returns-then-theirs-place c = (
  λ yes'. absurd (no_truth yes'),
  λ h. absurd (each_differ c.args.own.now c.args.theirs.now c.loop-place.place (omega arith) (omega arith) (omega arith) (c.loop-place.invariant.1 h)),
)

pub loop-place-preserved : goal.loop-place-preserved
loop-place-preserved c =
    let own = c.args.own.now in
    let theirs = c.args.theirs.now in
    let place = c.loop-place.place in (
      λ h. c.loop-place.invariant.0 (each_same own theirs place (omega arith) (omega arith) (omega arith) h),
      λ h. each_rest own theirs place (omega arith) (omega arith) (c.loop-place.invariant.1 h),
    )

pub returns : goal.returns
returns c = (
  λ _. c.loop-place.invariant.0 (each_past c.args.own.now c.args.theirs.now c.loop-place.place (omega arith) (omega arith)),
  λ _. refl,
)
