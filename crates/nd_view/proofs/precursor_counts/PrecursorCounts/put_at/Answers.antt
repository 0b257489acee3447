use Rattle.std.proofs.Common.{◌≡◌, ◌<◌, Some, ap, get_or, length, sym, subst, ◌∙◌, arith, vec_capacity}
use Rattle.std.specs.Prelude.{Contains}
use Rattle.std.specs.FinMap.{find}
use Rattle.nd_paths.specs.Point.{point_cmp}
use Rattle.nd_view.specs.Kept.{IsFrontierBut}
use Rattle.nd_view.specs.Rows.{joined, row_of}
use Rattle.nd_view.proofs.RowZeros.{IsChanged, is_found, its_point, right_as_it_is, right_others, still_there, was_found}
use Rattle.nd_view.proofs.Starts.{as_many}
use Rattle.nd_view.proofs.Zeros.{zero_told}
use Rattle.nd_view.proofs.precursor_counts.PrecursorCounts.put_at.Given.{Over}
use Rattle.nd_view.proofs.precursor_counts.PrecursorCounts.put_at.Goals as goal
use Rattle.nd_view.proofs.precursor_counts.PrecursorCounts.put_at.Goals.{After-put_at}

the_change : (g : Over) (c : After-put_at g) → IsChanged c.args.r c.args.k c.args.n c.self.inside.counts c.put_at.new.self c.index-row-k.result
the_change g c = record {
  entry = subst (λ rows. c.args.k < length (row_of rows c.args.r)) (sym c.self.view_is) c.requires.entry;
  is = c.index-row-k.is ∙ ap (λ l. get_or l c.args.k c.index-row-k.result) c.row.ensures.value;
  listed = c.put_at.ensures.was_listed;
  told = c.put_at.ensures.value;
  points = c.put_at.ensures.points;
}

pub bounds-row-k-then-was-eq0 : goal.bounds-row-k-then-was-eq0
bounds-row-k-then-was-eq0 g c = still_there (the_change g (goal.at.bounds-row-k-then-was-eq0 g c).After-put_at) c.row-then-was-eq0.result.now c.row-then-was-eq0.ensures.value

-- ---- the number was 0 or is
the_point : (g : Over) (c : goal.After-set_right-arg-1 g) → (get_or c.row-then-was-eq0.result.now c.args.k c.index-row-k-then-was-eq0.result).0 ≡ c.index-row-k.result.0
the_point g c = its_point (the_change g (goal.at.set_right-requires-clause-room g c).After-put_at) c.row-then-was-eq0.result.now c.index-row-k-then-was-eq0.result c.row-then-was-eq0.ensures.value

pub set_right-requires-clause-room : goal.set_right-requires-clause-room
set_right-requires-clause-room g c =
    let same = as_many c.self.inside.counts c.put_at.new.self c.put_at.ensures.points in
    omega (arith, same, c.self.invariant.enough)

pub set_right-requires-clause-others : goal.set_right-requires-clause-others
set_right-requires-clause-others g c =
    subst (IsFrontierBut (joined c.put_at.new.self) c.self.inside.frontier.items) (sym (the_point g c))
    (right_others (the_change g (goal.at.set_right-requires-clause-others g c).After-put_at) c.self.inside.frontier.items (vec_capacity c.self.inside.frontier) c.self.invariant)

pub set_right-requires-clause-zero : goal.set_right-requires-clause-zero
set_right-requires-clause-zero g c =
    zero_told c.args.n _ (ap (λ q. find point_cmp q (joined c.put_at.new.self)) (the_point g c) ∙ is_found (the_change g (goal.at.set_right-requires-clause-zero g c).After-put_at))

pub set_right-requires-clause-fresh : goal.set_right-requires-clause-fresh
set_right-requires-clause-fresh g c = λ never among.
    let e = c.index-row-k.result in
    let was = was_found (the_change g (goal.at.set_right-requires-clause-fresh g c).After-put_at) in
    never ((zero_told _ (find point_cmp e.0 (joined c.self.inside.counts)) (was ∙ ap (λ y. Some y.1) c.index-row-k.is)).1 (c.self.invariant.only e.0 (subst (Contains c.self.inside.frontier.items) (the_point g c) among)))

-- ---- the number was not 0 and is not
pub invariant_of-self : goal.invariant_of-self
invariant_of-self g c =
    right_as_it_is (the_change g (goal.at.invariant_of-self g c).After-put_at) c.self.inside.frontier.items (vec_capacity c.self.inside.frontier) c.self.invariant
    (λ z. c.if-was-eq0.false (sym (ap (λ y. y.1) c.index-row-k.is) ∙ z)) c.if-n-eq0.false
