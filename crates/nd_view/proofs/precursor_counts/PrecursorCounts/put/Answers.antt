use Rattle.std.proofs.Common.{ap, refl, subst, sym, ◌∙◌, arith, length, vec_capacity}
use Rattle.std.specs.Prelude.{Contains}
use Rattle.std.specs.FinMap.{find, put}
use Rattle.nd_paths.specs.Point.{point_cmp}
use Rattle.nd_view.specs.Kept.{IsFrontierBut}
use Rattle.nd_view.specs.Rows.{joined}
use Rattle.nd_view.proofs.Moves.{found_put}
use Rattle.nd_view.proofs.Shifts.{size_grown}
use Rattle.nd_view.proofs.Zeros.{right_but, same_put, zero_told}
use Rattle.nd_view.proofs.precursor_counts.PrecursorCounts.put.Goals as goal

pub set_right-requires-clause-room : goal.set_right-requires-clause-room
set_right-requires-clause-room g c =
    let more = size_grown (joined c.self.inside.counts) (joined c.put.new.self) c.args.point.now c.args.n c.put.ensures.was_listed c.in_ok-put.ensures.ok in
    let same = ap (λ rows. length (joined rows)) c.self.view_is in
    omega (arith, more, same, c.requires.most, c.in_ok-reserve.ensures.ok, c.saturating_sub.ensures, c.len-2.ensures)

pub set_right-requires-clause-others : goal.set_right-requires-clause-others
set_right-requires-clause-others g c =
    let es = joined c.self.inside.counts in
    let fs = joined c.put.new.self in
    let p = c.args.point.now in
    subst (λ l. IsFrontierBut fs l p) (sym c.reserve.ensures.items)
    (right_but es fs c.self.inside.frontier.items p (vec_capacity c.self.inside.frontier) (λ q ne. ap (find point_cmp q) c.in_ok-put.ensures.ok ∙ same_put es p c.args.n q ne) c.self.invariant)

pub set_right-requires-clause-zero : goal.set_right-requires-clause-zero
set_right-requires-clause-zero g c =
    let p = c.args.point.now in
    zero_told c.args.n (find point_cmp p (joined c.put.new.self)) (ap (find point_cmp p) c.in_ok-put.ensures.ok ∙ found_put p p c.args.n (joined c.self.inside.counts) refl)

pub set_right-requires-clause-fresh : goal.set_right-requires-clause-fresh
set_right-requires-clause-fresh g c = λ _ among.
    let p = c.args.point.now in
    let zero = c.self.invariant.only p (subst (λ l. Contains l p) c.reserve.ensures.items among) in
    let absent = ap (λ rows. find point_cmp p (joined rows)) c.self.view_is ∙ c.requires.fresh in
    cc (zero, absent)

pub returns-clause-ok : goal.returns-clause-ok
returns-clause-ok g c = c.in_ok-put.ensures.ok ∙ ap (λ rows. put point_cmp c.args.point.now c.args.n (joined rows)) c.self.view_is
