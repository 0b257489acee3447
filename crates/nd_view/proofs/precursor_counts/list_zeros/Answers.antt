use Rattle.std.proofs.Common.{◌≡◌, ◌<◌, ◌+◌, ◌++◌, ◌∷◌, [], ap, length, refl, sym, ◌∙◌, arith, subst, vec_len, vec_capacity}
use Rattle.nd_view.specs.Rows.{joined, points_by_row, row_of}
use Rattle.nd_view.proofs.FrontierLists.{IsListedUpTo, listed_none, listed_take, listed_skip, listed_done}
use Rattle.nd_view.proofs.Starts.{start, start-first, entry_is, entry_within, next_row, last_row}
use Rattle.nd_view.proofs.precursor_counts.list_zeros.Goals as goal
use Rattle.nd_view.proofs.precursor_counts.list_zeros.Goals.{then-entry-eq0+in-Ok, else-entry-eq0}

pub loop-r-init : goal.loop-r-init
loop-r-init g c =
    let rows = c.args.counts.now in
    let ps = points_by_row rows in
    record {
      enough = omega (arith, c.requires, c.clear.ensures.capacity);
      few = omega (arith, c.clear.ensures.len);
      listed = subst (IsListedUpTo (joined rows) (start ps 0)) (sym c.clear.ensures.items) (listed_none (joined rows) (start ps 0) (start-first ps));
    }

pub returns-in_default : goal.returns-in_default
returns-in_default g c =
    let rows = c.args.counts.now in
    let within = entry_within rows (points_by_row rows) refl c.loop-r.r c.loop-entry.entry-index (rw c.row-entry-items.ensures.value at c.loop-entry-test.true) in
    absurd (omega (arith, within, c.loop-entry.invariant.enough, c.loop-entry.invariant.few, c.in_default.ensures.full))

pub loop-entry-preserved : goal.loop-entry-preserved
loop-entry-preserved g c =
    let rows = c.args.counts.now in
    let es = joined rows in
    let ps = points_by_row rows in
    let r = c.loop-r.r in
    let k = c.loop-entry.entry-index in
    let x = c.entry-item.result in
    let lt : k < length (row_of rows r) = rw c.row-entry-items.ensures.value at c.loop-entry-test.true in
    let within = entry_within rows ps refl r k lt in
    let is = entry_is rows ps refl r k x lt (rw c.row-entry-items.ensures.value at c.entry-item.is) in
    let next : start ps r + k + 1 ≡ start ps r + (k + 1) = omega arith in
    let old = c.loop-entry.frontier.items in
    let frontier = c.if-entry-eq0.frontier in
    let h = c.loop-entry.invariant in
    elim c.if-entry-eq0.branch [
      | then-entry-eq0+in-Ok w ↦
          let more : frontier.items ≡ old ++ x.0 ∷ [] = ap (λ v. v.items) w.frontier-is ∙ w.in-Ok.ensures.items ∙ ap (λ y. old ++ y ∷ []) w.copy.ensures in
          record {
            enough = omega (arith, h.enough, w.in-Ok.ensures.capacity, ap vec_capacity w.frontier-is);
            few = omega (arith, h.few, w.in-Ok.ensures.upper_bound, ap vec_len w.frontier-is);
            listed = subst (λ n. IsListedUpTo es n frontier.items) next (listed_take es c.row-entry-items.ensures.all (start ps r + k) x within is old frontier.items more w.if-entry-eq0.true h.listed);
          }
      | else-entry-eq0 w ↦ record {
        enough = omega (arith, h.enough, ap vec_capacity w.frontier-is);
        few = omega (arith, h.few, ap vec_len w.frontier-is);
        listed = subst (λ v. IsListedUpTo es (start ps r + (k + 1)) v.items) (sym w.frontier-is)
            (subst (λ n. IsListedUpTo es n old) next (listed_skip es c.row-entry-items.ensures.all (start ps r + k) x within is old w.if-entry-eq0.false h.listed));
      }
    ]

pub loop-r-preserved : goal.loop-r-preserved
loop-r-preserved g c =
    let rows = c.args.counts.now in
    let ps = points_by_row rows in
    let r = c.loop-r.r in
    let h = c.loop-entry.invariant in
    let next = next_row rows rows refl r (omega (arith, c.loop-r-test.true, c.len-r-end.ensures)) in
    let end : c.loop-entry.entry-index ≡ length (row_of rows r) = omega (arith, c.loop-entry-test.false, c.loop-entry.auto.entry-index-end, ap length c.row-entry-items.ensures.value) in
    record {
      enough = h.enough;
      few = omega (arith, h.few, end, next);
      listed = subst (λ i. IsListedUpTo (joined rows) i c.loop-entry.frontier.items) (ap (λ k. start ps r + k) end ∙ next) h.listed;
    }

pub returns : goal.returns
returns g c =
    let rows = c.args.counts.now in
    listed_done (joined rows) (start (points_by_row rows) c.loop-r.r) (vec_capacity c.loop-r.frontier) c.loop-r.frontier.items
    (last_row rows rows refl c.loop-r.r (omega (arith, c.loop-r-test.false, c.len-r-end.ensures))) c.loop-r.invariant.enough c.loop-r.invariant.listed
