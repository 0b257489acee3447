use Rattle.std.proofs.Common.{◌≡◌, ◌<◌, ◌+◌, ℕ, length, get_or, refl, ap, sym, subst, ◌∙◌, arith, true≢false}
use Rattle.nd_map.specs.Cases.{not_zero}
use Rattle.nd_map.specs.Listed.{IsListed}
use Rattle.nd_paths.specs.Order.{IsStrictlyBefore}
use Rattle.nd_paths.specs.Point.{point_cmp}
use Rattle.nd_view.specs.Links.{IsRun, AreSmaller, AreNotSmaller}
use Rattle.nd_view.specs.Kept.{IsEarlier}
use Rattle.nd_view.specs.Rows.{joined, row_of, points_by_row}
use Rattle.nd_view.specs.View.{IsPrecursor}
use Rattle.nd_view.proofs.Anew.{positive_among}
use Rattle.nd_view.proofs.Parts.{count_base, count_done, count_few}
use Rattle.nd_view.proofs.Runs.{in_run}
use Rattle.nd_view.proofs.Starts.{all_points, start, start-first, keys, next_row, last_row}
use Rattle.nd_view.proofs.Walks.{IsCounted, all_uncounted, row_counted, row_positive, row_uncounted}
use Rattle.nd_view.proofs.keeping.count_from.Given.{Over}
use Rattle.nd_view.proofs.keeping.count_from.Goals as goal
use Rattle.nd_view.proofs.keeping.count_from.Goals.{Else-epoch, then-is_strictly_before, else-is_strictly_before, then-row-gt0+then-leads+else-loop-k-test, then-row-gt0+then-leads+then-loop-k-test+then-epoch, else-row-gt0, else-row-gt0-via-then-row-gt0+else-leads, else-row-gt0-via-else-row-gt0}

pub loop-r-init : goal.loop-r-init
loop-r-init g c =
    let m = c.args.counts.now in
    let t = c.args.point.now in
    let ps = points_by_row c.args.positive.now in
    count_base m (all_points ps) (IsPrecursor c.args.paths.now m t) (IsEarlier c.args.paths.now m t c.args.known.now.below) c.args.known.now.count (start ps 0) (start-first ps) (λ q b. b.precursor) c.requires.known

-- the entries whose epochs are below the known one
pub loop-k-init : goal.loop-k-init
loop-k-init g c =
    let d = c.args.paths.now in
    let m = c.args.counts.now in
    let t = c.args.point.now in
    let below = c.args.known.now.below in
    let rows = c.args.positive.now in
    let r = c.loop-r.r in
    let small : AreSmaller (row_of rows r) 0 c.epoch_from-start.result below = rw c.row-row.ensures.value at c.epoch_from-start.ensures.smaller in
    all_uncounted d m t below rows c.row-row.ensures.all r c.loop-r.count 0 c.epoch_from-start.result (omega arith) (rw c.row-row.ensures.value at c.epoch_from-start.ensures.upto)
    (λ k e from before is p. record { precursor = p; early = let less = small k e from before in omega (arith, less, ap (λ y. y.0.time.epoch) is) })
    (subst (λ i. IsCounted d m t below rows i c.loop-r.count) (omega arith) c.loop-r.invariant)

pub is_strictly_before-requires : goal.is_strictly_before-requires
is_strictly_before-requires g c = λ yes s t from to.
    let both = in_run c.row-row.result.now c.row-row.ensures.listed c.row-row.ensures.run 0 c.loop-k.k c.index-row-0-then-leads.result c.index-row-k.result (omega arith) c.loop-k-test.true c.index-row-0-then-leads.is c.index-row-k.is in
    c.is_epochal-is_epochal.ensures.epochal yes s t (from ∙ ap (λ e. e.0.location) (sym c.index-row-k.is) ∙ sym both.0 ∙ ap (λ e. e.0.location) c.index-row-0-then-leads.is) to

-- an entry strictly before the point counts
one_more : (g : Over) (c : Else-epoch g) → IsStrictlyBefore c.args.paths.now c.index-row-k.result.0 c.args.point.now
    → IsCounted c.args.paths.now c.args.counts.now c.args.point.now c.args.known.now.below c.args.positive.now (start (points_by_row c.args.positive.now) c.loop-r.r + (c.loop-k.k + 1)) (c.loop-k.count + 1)
one_more g c before =
    let m = c.args.counts.now in
    let below = c.args.known.now.below in
    let rows = c.args.positive.now in
    let r = c.loop-r.r in
    let k = c.loop-k.k in
    let x = c.index-row-k.result in
    let listed = c.row-row.ensures.all in
    let lt : k < length (row_of rows r) = rw c.row-row.ensures.value at c.loop-k-test.true in
    let is : x ≡ get_or (row_of rows r) k x = rw c.row-row.ensures.value at c.index-row-k.is in
    let large : AreNotSmaller (row_of rows r) c.epoch_from-start.result (length (row_of rows r)) below = rw c.row-row.ensures.value at c.epoch_from-start.ensures.others in
    let late = large k x c.loop-k.auto.k lt in
    row_counted c.args.paths.now m c.args.point.now below rows listed r c.loop-k.count k x lt is c.loop-k.invariant
    (record { positive = row_positive rows listed r k x lt is m c.requires.positive; before = before }) (omega (arith, late, ap (λ e. e.0.time.epoch) is))

pub overflow_add-count : goal.overflow_add-count
overflow_add-count g c =
    let m = c.args.counts.now in
    let t = c.args.point.now in
    let ps = points_by_row c.args.positive.now in
    let more = one_more g (goal.at.overflow_add-count g c).Else-epoch (rw (sym c.index-row-k.is) at (c.if-is_strictly_before.ensures.0 refl)) in
    let few = count_few m (all_points ps) (IsPrecursor c.args.paths.now m t) (IsEarlier c.args.paths.now m t c.args.known.now.below) (c.loop-k.count + 1) (start ps c.loop-r.r + (c.loop-k.k + 1)) (λ q p. not_zero _ p.positive) more in
    omega (arith, few, c.len.ensures, c.len.type_inv)

pub loop-k-preserved : goal.loop-k-preserved
loop-k-preserved g c =
    let d = c.args.paths.now in
    let m = c.args.counts.now in
    let t = c.args.point.now in
    let below = c.args.known.now.below in
    let rows = c.args.positive.now in
    let r = c.loop-r.r in
    let k = c.loop-k.k in
    let x = c.index-row-k.result in
    let Q : ℕ → Type 0 = λ n. IsCounted d m t below rows (start (points_by_row rows) r + (k + 1)) n in
    elim c.if-is_strictly_before.branch [
      | then-is_strictly_before w ↦ subst Q (sym w.count-is) (one_more g (goal.at.loop-k-preserved g c).Else-epoch (rw (sym c.index-row-k.is) at (w.if-is_strictly_before.ensures.0 refl)))
      | else-is_strictly_before w ↦
          let lt : k < length (row_of rows r) = rw c.row-row.ensures.value at c.loop-k-test.true in
          let is : x ≡ get_or (row_of rows r) k x = rw c.row-row.ensures.value at c.index-row-k.is in
          subst Q (sym w.count-is) (row_uncounted d m t below rows c.row-row.ensures.all r c.loop-k.count k x lt is c.loop-k.invariant
          (λ p. absurd (true≢false (sym (w.if-is_strictly_before.ensures.1 (rw c.index-row-k.is at p.before))))))
    ]

pub loop-r-preserved : goal.loop-r-preserved
loop-r-preserved g c =
    let d = c.args.paths.now in
    let m = c.args.counts.now in
    let t = c.args.point.now in
    let below = c.args.known.now.below in
    let rows = c.args.positive.now in
    let ps = points_by_row rows in
    let r = c.loop-r.r in
    let row = row_of rows r in
    let ordered : IsListed point_cmp row = rw c.row-row.ensures.value at c.row-row.ensures.listed in
    let run : IsRun row 0 (length row) = rw c.row-row.ensures.value at c.row-row.ensures.run in
    let next = next_row rows rows refl r (omega (arith, c.loop-r-test.true, c.len-r-end.ensures.value)) in
    let Q : ℕ → Type 0 = λ n. IsCounted d m t below rows (start ps r + length row) n in
    let upto : ℕ → Type 0 = λ i. IsCounted d m t below rows i c.loop-r.count in
    subst (λ i. IsCounted d m t below rows i c.if-row-gt0.count) next (elim c.if-row-gt0.branch [
      | then-row-gt0+then-leads+else-loop-k-test w ↦
          let end : w.loop-k.k ≡ length row = (let upto = w.loop-k.auto.k-end (omega (arith, w.epoch_from-start.ensures.upto)) in omega (arith, upto, w.loop-k-test.false, ap length c.row-row.ensures.value)) in
          subst Q (sym w.count-is) (subst (λ k. IsCounted d m t below rows (start ps r + k) w.loop-k.count) end w.loop-k.invariant)
      | then-row-gt0+then-leads+then-loop-k-test+then-epoch w ↦
          let k = w.loop-k.k in
          let x = w.index-row-k.result in
          let before : k < length row = rw c.row-row.ensures.value at w.loop-k-test.true in
          let at : x ≡ get_or row k x = rw c.row-row.ensures.value at w.index-row-k.is in
          subst Q (sym w.count-is) (all_uncounted d m t below rows c.row-row.ensures.all r w.loop-k.count k (length row) (omega (arith, before)) (omega arith) (λ j e from inside is p.
          let rise = (in_run row ordered run k j x e from inside at is).1 in
          let early = p.before.0.before.epoch in
          absurd (omega (arith, early, rise, w.if-epoch.true, w.epoch.ensures, w.epoch-in-loop-k.ensures, ap (λ e. e.0.time.epoch) w.index-row-k.is))) w.loop-k.invariant)
      | else-row-gt0 w ↦ subst Q (sym w.count-is) (elim w.else-row-gt0.branch [
        | else-row-gt0-via-then-row-gt0+else-leads v ↦
            let first = v.index-row-0.result in
            let at : first ≡ get_or row 0 first = rw c.row-row.ensures.value at v.index-row-0.is in
            all_uncounted d m t below rows c.row-row.ensures.all r c.loop-r.count 0 (length row) (omega arith) (omega arith) (λ j e from inside is p.
            let both = in_run row ordered run 0 j first e from inside at is in
            absurd (v.if-leads.ensures (λ yes. true≢false (sym yes)) e.0 t (sym both.0 ∙ ap (λ e. e.0.location) v.index-row-0.is) refl (omega (arith, both.1, ap (λ e. e.0.time.epoch) v.index-row-0.is)) (omega arith) p.before.0))
            (subst upto (omega arith) c.loop-r.invariant)
        | else-row-gt0-via-else-row-gt0 v ↦ subst upto (omega (arith, v.if-row-gt0.false, ap length c.row-row.ensures.value)) c.loop-r.invariant
      ])
    ])

pub returns : goal.returns
returns g c =
    let m = c.args.counts.now in
    let t = c.args.point.now in
    let rows = c.args.positive.now in
    let ps = points_by_row rows in
    let past = last_row rows rows refl c.loop-r.r (omega (arith, c.loop-r-test.false, c.len-r-end.ensures.value)) in
    count_done m (all_points ps) (IsPrecursor c.args.paths.now m t) (IsEarlier c.args.paths.now m t c.args.known.now.below) c.loop-r.count (start ps c.loop-r.r)
    (λ q p. positive_among m (joined rows) (all_points ps) (keys rows ps refl) c.requires.positive (start ps c.loop-r.r) past q p.positive) c.loop-r.invariant
