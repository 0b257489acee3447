use Rattle.std.proofs.Common.{◌≡◌, ◌<◌, length, get_or, ap, sym, ◌∙◌, arith}
use lib.Seq.{length-take-le}
use Rattle.nd_view.specs.Kept.{IsHeldAt}
use Rattle.nd_view.specs.Rows.{joined, row_of}
use Rattle.nd_view.proofs.Anew.{positive_put}
use Rattle.nd_view.proofs.Starts.{same_row}
use Rattle.nd_view.proofs.Walks.{right_none, right_all, right_row, row_put, row_positive, row_kept, listed_take}
use Rattle.nd_view.proofs.keeping.count_all.Given.{Over}
use Rattle.nd_view.proofs.keeping.count_all.Goals as goal
use Rattle.nd_view.proofs.keeping.count_all.Goals.{After-row-row}

pub loop-r-init : goal.loop-r-init
loop-r-init g c = record {
  positive = c.requires;
  right = right_none c.args.paths.now c.args.counts.now (IsHeldAt c.args.counts.now) c.args.made.now c.len-r-end.ensures.listed c.requires;
}

-- the index of an entry in the row
in_row : (g : Over) (c : After-row-row g) → c.loop-k.k < length (row_of c.loop-k.made c.loop-r.r)
in_row g c =
    let same = same_row c.loop-r.made c.loop-k.made (c.loop-k.invariant.right.points ∙ sym c.loop-r.invariant.right.points) c.loop-r.r in
    omega (arith, c.loop-k-test.true, ap length c.row-k-end.ensures.value, same)

pub slice_bounds-count_before-end : goal.slice_bounds-count_before-end
slice_bounds-count_before-end g c = let lt = in_row g c in sym (length-take-le c.loop-k.k c.row-row.result.now (omega (arith, lt, ap length c.row-row.ensures.value)))

pub bounds-row-k : goal.bounds-row-k
bounds-row-k g c = let lt = in_row g c in omega (arith, lt, ap length c.row-row.ensures.value)

pub count_before-count-requires-clause-listed : goal.count_before-count-requires-clause-listed
count_before-count-requires-clause-listed g c = listed_take c.row-row.result.now c.loop-k.k c.row-row.ensures.listed

pub count_before-count-requires-clause-kept : goal.count_before-count-requires-clause-kept
count_before-count-requires-clause-kept g c =
    let m = c.args.counts.now in
    let lt = in_row g (goal.at.count_before-count-requires-clause-kept g c).After-row-row in
    rw (sym c.row-row.ensures.value) at (row_kept c.args.paths.now m (IsHeldAt m) c.args.made.now c.loop-r.r c.loop-k.k c.loop-k.made c.loop-k.invariant.right (omega (arith, lt)))

pub put_at-requires-clause-entry : goal.put_at-requires-clause-entry
put_at-requires-clause-entry g c = in_row g (goal.at.put_at-requires-clause-entry g c).After-row-row

pub loop-k-preserved : goal.loop-k-preserved
loop-k-preserved g c =
    let d = c.args.paths.now in
    let m = c.args.counts.now in
    let rows = c.loop-k.made in
    let news = c.put_at.new.self in
    let r = c.loop-r.r in
    let k = c.loop-k.k in
    let x = c.index-row-k.result in
    let n = c.count_before-count.result in
    let h = c.loop-k.invariant in
    let lt = in_row g (goal.at.loop-k-preserved g c).After-row-row in
    let is : x ≡ get_or (row_of rows r) k x = rw c.row-row.ensures.value at c.index-row-k.is in
    let up = row_positive rows h.right.moved.listed r k x lt is m h.positive in
    record {
      positive = positive_put m (joined rows) (joined news) (get_or (row_of rows r) k x).0 n (c.put_at.ensures.value x) (rw is at up) h.positive;
      right = row_put d m (IsHeldAt m) c.args.made.now r k rows h.right x lt is news n c.put_at.ensures.value c.put_at.ensures.points c.put_at.ensures.listed (up, rw (sym c.index-row-k.is) at c.count_before-count.ensures);
    }

pub loop-r-preserved : goal.loop-r-preserved
loop-r-preserved g c =
    let m = c.args.counts.now in
    let h = c.loop-k.invariant in
    let end : c.loop-k.k ≡ length (row_of c.loop-r.made c.loop-r.r) = omega (arith, c.loop-k.auto.k-end, c.loop-k-test.false, ap length c.row-k-end.ensures.value) in
    record {
      positive = h.positive;
      right = right_row c.args.paths.now m (IsHeldAt m) c.args.made.now c.loop-r.r c.loop-k.k c.loop-r.made c.loop-k.made c.loop-r.invariant.right.points (omega (arith, c.loop-r-test.true, c.len-r-end.ensures.value)) end h.right;
    }

pub returns-clause-counted : goal.returns-clause-counted
returns-clause-counted g c =
    let m = c.args.counts.now in
    right_all c.args.paths.now m (IsHeldAt m) c.args.made.now (λ q never. never) c.loop-r.r c.loop-r.made (omega (arith, c.loop-r-test.false, c.len-r-end.ensures.value)) c.loop-r.invariant.right
