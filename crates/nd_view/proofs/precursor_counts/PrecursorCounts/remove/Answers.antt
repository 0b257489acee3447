use Rattle.std.proofs.Common.{◌≡◌, None, Some, refl, ap, sym, ◌∙◌, arith, true≢false, vec_capacity}
use Rattle.std.specs.FinMap.{find}
use Rattle.nd_paths.specs.Point.{point_cmp}
use Rattle.nd_view.specs.Rows.{joined}
use Rattle.nd_view.proofs.Moves.{found_gone}
use Rattle.nd_view.proofs.Shifts.{size_without}
use Rattle.nd_view.proofs.Zeros.{right_but, same_without}
use Rattle.nd_view.proofs.precursor_counts.PrecursorCounts.remove.Goals as goal

pub set_right-requires-clause-room : goal.set_right-requires-clause-room
set_right-requires-clause-room g c =
    let less = size_without (joined c.self.inside.counts) (joined c.remove.new.self) c.args.point.now c.remove.ensures.was_listed c.remove.ensures.value in
    omega (arith, less, c.self.invariant.enough)

pub set_right-requires-clause-others : goal.set_right-requires-clause-others
set_right-requires-clause-others g c =
    let es = joined c.self.inside.counts in
    let p = c.args.point.now in
    right_but es (joined c.remove.new.self) c.self.inside.frontier.items p (vec_capacity c.self.inside.frontier) (λ q ne. ap (find point_cmp q) c.remove.ensures.value ∙ same_without es p q ne) c.self.invariant

pub set_right-requires-clause-zero : goal.set_right-requires-clause-zero
set_right-requires-clause-zero g c =
    let p = c.args.point.now in
    let none : find point_cmp p (joined c.remove.new.self) ≡ None = ap (find point_cmp p) c.remove.ensures.value ∙ found_gone p p (joined c.self.inside.counts) refl in
    (λ t. absurd (true≢false (sym t)), λ z. absurd (let one : None ≡ Some 0 = sym none ∙ z in cc))

pub set_right-requires-clause-fresh : goal.set_right-requires-clause-fresh
set_right-requires-clause-fresh g c = λ never among. never (c.is_zero_at-was_zero.ensures.zero.1 (c.self.invariant.only c.args.point.now among))
