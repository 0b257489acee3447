use Rattle.std.proofs.Common.{◌+◌, refl, sym, arith, true≢false}
use Rattle.nd_map.specs.Cases.{not_zero}
use Rattle.nd_view.specs.Kept.{IsEarlier}
use Rattle.nd_view.proofs.Moves.{count_small}
use Rattle.nd_view.proofs.Nearest.{count_nothing, count_with, count_without}
use Rattle.nd_view.proofs.keeping.known_before.Goals as goal

pub returns-in_default : goal.returns-in_default
returns-in_default g c = count_nothing c.args.paths.now c.args.counts.now c.args.point.now

pub overflow_add-below : goal.overflow_add-below
overflow_add-below g c = omega (arith, c.epoch-below.ensures, c.epoch-below.type_inv, c.epoch-below-2.ensures, c.in-Some.ensures.1.1)

pub overflow_add-result : goal.overflow_add-result
overflow_add-result g c =
    let d = c.args.paths.now in
    let m = c.args.counts.now in
    let t = c.args.point.now in
    let near = c.in-Some.near.now in
    let counted = count_with d m c.args.kept.now t near c.requires.listed c.requires.kept c.in-Some.ensures.0 c.in-Some.ensures.1 (c.if-strictly_before.ensures.0 refl) in
    let few = count_small (IsEarlier d m t (near.0.time.epoch + 1)) m (near.1 + 1) (λ q p. not_zero _ p.precursor.positive) counted in
    omega (arith, few, c.len.ensures, c.len.type_inv)

pub returns-then-strictly_before : goal.returns-then-strictly_before
returns-then-strictly_before g c =
    rw c.epoch-below-2.ensures
    (count_with c.args.paths.now c.args.counts.now c.args.kept.now c.args.point.now c.in-Some.near.now c.requires.listed c.requires.kept c.in-Some.ensures.0 c.in-Some.ensures.1 (c.if-strictly_before.ensures.0 refl))

pub returns-else-strictly_before : goal.returns-else-strictly_before
returns-else-strictly_before g c =
    rw c.epoch-below-2.ensures
    (count_without c.args.paths.now c.args.counts.now c.args.kept.now c.args.point.now c.in-Some.near.now c.requires.listed c.requires.kept c.in-Some.ensures.0 c.in-Some.ensures.1 (λ before. absurd (true≢false (sym (c.if-strictly_before.ensures.1 before)))))
