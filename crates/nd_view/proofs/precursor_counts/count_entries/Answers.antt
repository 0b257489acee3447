use Rattle.std.proofs.Common.{◌≡◌, length, refl, ap, sym, arith}
use Rattle.nd_view.specs.Rows.{points_by_row}
use Rattle.nd_view.proofs.Starts.{start, start-first, next_row, all_rows}
use Rattle.nd_view.proofs.precursor_counts.count_entries.Goals as goal

pub loop-r-init : goal.loop-r-init
loop-r-init g c = sym (start-first (points_by_row c.args.counts.now))

pub loop-r-preserved : goal.loop-r-preserved
loop-r-preserved g c =
    let rows = c.args.counts.now in
    let next = next_row rows rows refl c.loop-r.r (omega (arith, c.loop-r-test.true, c.len-r-end.ensures.value)) in
    let is : c.loop-r.count ≡ start (points_by_row rows) c.loop-r.r = c.loop-r.invariant in
    omega (arith, next, is, c.in_ok-count.ensures, ap length c.row.ensures.value)

pub returns : goal.returns
returns g c =
    let rows = c.args.counts.now in
    let is : c.loop-r.count ≡ start (points_by_row rows) c.loop-r.r = c.loop-r.invariant in
    let all = all_rows rows rows refl c.loop-r.r (omega (arith, c.loop-r-test.false, c.len-r-end.ensures.value)) in
    omega (arith, all, is)
