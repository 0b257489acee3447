use Rattle.std.proofs.Common.{◌≡◌, ◌≢◌, ◌≤◌, ◌<◌, ◌+◌, ◌-◌, ℕ, List, length, get_or, Some, [], refl, ap, subst, sym, ◌∙◌, arith, true≢false}
use Rattle.std.specs.Prelude.{IsTrue}
use Rattle.std.proofs.lemmas.List.{get_or_default}
use Rattle.nd_map.specs.Listed.{IsListed}
use Rattle.nd_paths.specs.Order.{IsStrictlyBefore}
use Rattle.nd_paths.specs.Point.{point_cmp}
use Rattle.nd_paths.specs.declared.point.Pointstamp.{Pointstamp}
use Rattle.nd_view.specs.Links.{IsEpochal, IsRun, AreSmaller}
use Rattle.nd_view.specs.Kept.{IsKeptAt, IsMovable, IsReady, moved}
use Rattle.nd_view.specs.Rows.{IsPutIn, Row, joined, row_of, points_by_row}
use Rattle.nd_view.proofs.LinksLemmas.{after, beside_it, never_after}
use Rattle.nd_view.proofs.Runs.{in_run, two_points}
use Rattle.nd_view.proofs.Shifts.{movable, stays, ready_absent, room, some, arrived, busy}
use Rattle.nd_view.proofs.Starts.{same_row, same_row_key}
use Rattle.nd_view.proofs.Walks.{IsRightUpTo, all_skip, right_none, right_all, right_row, row_put, row_skip, row_waiting}
use Rattle.nd_view.proofs.keeping.shift.Given.{Over}
use Rattle.nd_view.proofs.keeping.shift.Goals as goal
use Rattle.nd_view.proofs.keeping.shift.Goals.{After-index-row-k, After-later_from-later, Then-is_outside, Then-is_strictly_before, then-is_outside, else-is_outside, then-is_strictly_before, else-is_strictly_before, then-end-gt0+then-leads+else-loop-k-test+else-loop-k-then-leads-test, else-end-gt0, else-end-gt0-via-then-end-gt0+else-leads, else-end-gt0-via-else-end-gt0}

pub loop-r-init : goal.loop-r-init
loop-r-init g c = right_none c.args.paths.now c.args.counts.now (IsReady c.args.paths.now c.args.counts.now c.args.point.now c.args.up) c.args.precursor_counts.now c.len-r-end.ensures.listed c.requires.ready

-- the entries with smaller epochs
pub loop-k-init : goal.loop-k-init
loop-k-init g c =
    let d = c.args.paths.now in
    let m = c.args.counts.now in
    let p = c.args.point.now in
    let rows = c.loop-r.precursor_counts in
    let r = c.loop-r.r in
    let small : AreSmaller (row_of rows r) 0 c.epoch_from-start.result p.time.epoch = rw (c.row-row.ensures.value, c.epoch.ensures) at c.epoch_from-start.ensures.smaller in
    all_skip d m (IsReady d m p c.args.up) c.args.precursor_counts.now r rows 0 c.epoch_from-start.result (omega arith) (rw c.row-row.ensures.value at c.epoch_from-start.ensures.upto)
    (λ k e from before is waiting.
    stays d m p c.args.up e.0 e.1 waiting (λ strict. let rise = strict.0.before.epoch in let less = small k e from before in absurd (omega (arith, rise, less, ap (λ y. y.0.time.epoch) is))))
    c.loop-r.invariant

-- an entry of the row is still an entry of it
in_row : (g : Over) (c : After-later_from-later g) (rows : List Row) → points_by_row rows ≡ points_by_row c.args.precursor_counts.now → (k : ℕ) → k < length c.row-row.result.now → k < length (row_of rows c.loop-r.r)
in_row g c rows points k inside =
    let same = same_row c.loop-r.precursor_counts rows (points ∙ sym c.loop-r.invariant.points) c.loop-r.r in
    omega (arith, inside, same, ap length c.row-row.ensures.value)

-- the next entry
record Next (g : Over) (c : After-later_from-later g) : Type 0 where
  rows : List Row
  k : ℕ
  h : IsRightUpTo c.args.paths.now c.args.counts.now (IsReady c.args.paths.now c.args.counts.now c.args.point.now c.args.up) c.args.precursor_counts.now c.loop-r.r k rows
  inside : k < length c.row-row.result.now
  e : Pointstamp × ℕ
  is : e ≡ get_or (row_of rows c.loop-r.r) k e

module _ (g : Over) (c : After-later_from-later g) (x : Next g c) where
  its_row : x.k < length (row_of x.rows c.loop-r.r)
  its_row = in_row g c x.rows x.h.points x.k x.inside

  -- the same entry before the walk through the row
  abbrev row_entry : Pointstamp × ℕ
  row_entry = get_or c.row-row.result.now x.k x.e

  row_is : row_entry ≡ get_or c.row-row.result.now x.k row_entry
  row_is = get_or_default c.row-row.result.now x.k x.e row_entry x.inside

  its_point : x.e.0 ≡ row_entry.0
  its_point =
      let lt : x.k < length (row_of c.loop-r.precursor_counts c.loop-r.r) = rw c.row-row.ensures.value at x.inside in
      ap (λ y. y.0) x.is ∙ same_row_key c.loop-r.precursor_counts x.rows (x.h.points ∙ sym c.loop-r.invariant.points) c.loop-r.r x.k x.e lt
      ∙ ap (λ row. (get_or row x.k x.e).0) (sym c.row-row.ensures.value)

  epochal_to : IsTrue c.is_epochal-is_epochal.result → IsEpochal c.args.paths.now c.args.point.now.location x.e.0.location
  epochal_to told = λ s t from to.
      let row = c.row-row.result.now in
      let last = c.index-row-end-then-leads.result in
      let place = (in_run row c.row-row.ensures.listed c.row-row.ensures.run x.k (length row - 1) row_entry last (omega (arith, x.inside)) (omega (arith, x.inside)) row_is c.index-row-end-then-leads.is).0 in
      c.is_epochal-is_epochal.ensures.epochal told s t from (to ∙ ap (λ q. q.location) its_point ∙ place ∙ ap (λ y. y.0.location) c.index-row-end-then-leads.is)

  waits : IsReady c.args.paths.now c.args.counts.now c.args.point.now c.args.up x.e.0 (Some x.e.1)
  waits = row_waiting c.args.paths.now c.args.counts.now (IsReady c.args.paths.now c.args.counts.now c.args.point.now c.args.up) c.args.precursor_counts.now c.loop-r.r x.k x.rows x.h x.k x.e (omega arith) its_row x.is

  ready : IsStrictlyBefore c.args.paths.now c.args.point.now x.e.0 → IsMovable c.args.paths.now c.args.counts.now x.e.0 c.args.up (Some x.e.1)
  ready = movable c.args.paths.now c.args.counts.now c.args.point.now c.args.up x.e.0 x.e.1 waits

  -- its number is right afterwards
  abbrev IsRight : List Row → Type 0
  IsRight = IsRightUpTo c.args.paths.now c.args.counts.now (IsReady c.args.paths.now c.args.counts.now c.args.point.now c.args.up) c.args.precursor_counts.now c.loop-r.r (x.k + 1)

  right_if_moved : (news : List Row) (n : ℕ) → IsStrictlyBefore c.args.paths.now c.args.point.now x.e.0 → n ≡ moved c.args.up x.e.1 → IsPutIn c.loop-r.r x.k n x.rows news
      → points_by_row news ≡ points_by_row x.rows → IsListed point_cmp (joined news) → IsRight news
  right_if_moved news n strict n_is put same listed =
      let d = c.args.paths.now in
      let m = c.args.counts.now in
      let p = c.args.point.now in
      row_put d m (IsReady d m p c.args.up) c.args.precursor_counts.now c.loop-r.r x.k x.rows x.h x.e its_row x.is news n put same listed
      (subst (λ i. IsKeptAt d m x.e.0 (Some i)) (sym n_is) (arrived d m p c.args.up x.e.0 x.e.1 (ready strict)))

  right_as_it_was : (IsStrictlyBefore c.args.paths.now c.args.point.now x.e.0 → ⊥) → IsRight x.rows
  right_as_it_was away =
      let d = c.args.paths.now in
      let m = c.args.counts.now in
      let p = c.args.point.now in
      row_skip d m (IsReady d m p c.args.up) c.args.precursor_counts.now c.loop-r.r x.k x.rows x.h x.e its_row x.is (stays d m p c.args.up x.e.0 x.e.1 waits away)

  -- an entry with a later epoch
  module _ (from : c.later_from-later.result ≤ x.k) where
    told : IsTrue c.is_epochal-is_epochal.result
    told = c.later_from-later.ensures.epochal (omega (arith, x.inside, from))

    strictly : x.e.0.time.counters ≡ [] → IsStrictlyBefore c.args.paths.now c.args.point.now x.e.0
    strictly outside =
        let more = c.later_from-later.ensures.later x.k x.e from x.inside in
        after c.args.paths.now c.args.point.now x.e.0 (epochal_to told) (c.is_epochal-is_epochal.ensures.outside told) outside
        (omega (arith, c.epoch-then-leads.ensures, ap (λ q. q.time.epoch) its_point, more))

    never : (x.e.0.time.counters ≡ [] → ⊥) → IsStrictlyBefore c.args.paths.now c.args.point.now x.e.0 → ⊥
    never = never_after c.args.paths.now c.args.point.now x.e.0 (epochal_to told) (c.is_epochal-is_epochal.ensures.outside told)

    -- an entry before it is its precursor, too
    not_alone : x.e.0.time.counters ≡ [] → (x.e.1 ≢ 0) × (moved c.args.up x.e.1 ≢ 0)
    not_alone outside =
        let d = c.args.paths.now in
        let m = c.args.counts.now in
        let p = c.args.point.now in
        let row = c.row-row.result.now in
        let old = c.loop-r.precursor_counts in
        let one = c.later_from-later.ensures.one (omega (arith, x.inside, from)) in
        let f = one.entry in
        let both = in_run row c.row-row.ensures.listed c.row-row.ensures.run one.index x.k f row_entry (omega (arith, one.early, from)) x.inside one.is row_is in
        let place : f.0.location ≡ x.e.0.location = both.0 ∙ ap (λ q. q.location) (sym its_point) in
        let less : p.time.epoch < f.0.time.epoch = omega (arith, one.later, c.epoch-then-leads.ensures) in
        let first = after d p f.0 (λ s t from to. epochal_to told s t from (to ∙ place)) (c.is_epochal-is_epochal.ensures.outside told) one.outside less in
        let lt : one.index < length (row_of old c.loop-r.r) = omega (arith, one.early, from, x.inside, ap length c.row-row.ensures.value) in
        let at : f ≡ get_or (row_of old c.loop-r.r) one.index f = one.is ∙ ap (λ l. get_or l one.index f) c.row-row.ensures.value in
        let waiting = row_waiting d m (IsReady d m p c.args.up) c.args.precursor_counts.now c.loop-r.r 0 old c.loop-r.invariant one.index f (omega arith) lt at in
        let kept = arrived d m p c.args.up f.0 f.1 (movable d m p c.args.up f.0 f.1 waiting first) in
        let ahead = beside_it d p f.0 x.e.0 first.0 place one.outside outside (omega (arith, both.1, ap (λ q. q.time.epoch) its_point))
        (λ same. two_points row c.row-row.ensures.listed one.index x.k f row_entry (omega (arith, one.early, from)) x.inside one.is row_is (same ∙ its_point)) in
        busy d m p c.args.up x.e.0 x.e.1 (ready (strictly outside)) (λ up. record { positive = c.requires.up up; before = strictly outside }) f.0
        (record { positive = kept.0; before = ahead }) (λ same. omega (arith, less, ap (λ q. q.time.epoch) same))

-- ---- the entries that are tested
abbrev tested : (g : Over) (c : After-index-row-k g) → Next g (goal.at.is_strictly_before-requires g c).After-later_from-later
tested g c = record {
  rows = c.loop-k.precursor_counts;
  k = c.loop-k.k;
  h = c.loop-k.invariant;
  inside = omega (arith, c.loop-k-test.true, c.later_from-later.ensures.upto);
  e = c.index-row-k.result;
  is = rw c.row.ensures.value at c.index-row-k.is;
}

pub bounds-row-k : goal.bounds-row-k
bounds-row-k g c =
    let lt = in_row g (goal.at.bounds-row-k g c).After-later_from-later c.loop-k.precursor_counts c.loop-k.invariant.points c.loop-k.k (omega (arith, c.loop-k-test.true, c.later_from-later.ensures.upto)) in
    omega (arith, lt, ap length c.row.ensures.value)

pub is_strictly_before-requires : goal.is_strictly_before-requires
is_strictly_before-requires g c = epochal_to g (goal.at.is_strictly_before-requires g c).After-later_from-later (tested g c)

tested_ready : (g : Over) (c : Then-is_strictly_before g) → IsMovable c.args.paths.now c.args.counts.now c.index-row-k.result.0 c.args.up (Some c.index-row-k.result.1)
tested_ready g c =
    let at = goal.at.moved_by_one-n-requires-clause-some g c in
    ready g at.After-later_from-later (tested g at.After-index-row-k) (c.if-is_strictly_before.ensures.0 refl)

pub moved_by_one-n-requires-clause-room : goal.moved_by_one-n-requires-clause-room
moved_by_one-n-requires-clause-room g c = λ up.
    let x = c.index-row-k.result in
    let fit = room c.args.paths.now c.args.counts.now c.args.point.now c.args.up x.0 x.1 (tested_ready g c) up in
    omega (arith, fit, c.len.ensures, c.len.type_inv)

pub moved_by_one-n-requires-clause-some : goal.moved_by_one-n-requires-clause-some
moved_by_one-n-requires-clause-some g c =
    let x = c.index-row-k.result in
    some c.args.paths.now c.args.counts.now c.args.point.now c.args.up x.0 x.1 (tested_ready g c)

pub put_at-requires-clause-entry : goal.put_at-requires-clause-entry
put_at-requires-clause-entry g c =
    let at = goal.at.put_at-requires-clause-entry g c in
    its_row g at.After-later_from-later (tested g at.After-index-row-k)

pub loop-k-preserved : goal.loop-k-preserved
loop-k-preserved g c =
    let at = goal.at.loop-k-preserved g c in
    let a = at.After-later_from-later in
    let x = tested g at.After-index-row-k in
    elim c.if-is_strictly_before.branch [
      | then-is_strictly_before w ↦ subst (IsRight g a x) (sym w.precursor_counts-is)
          (right_if_moved g a x w.put_at.new.self w.moved_by_one-n.result (w.if-is_strictly_before.ensures.0 refl) w.moved_by_one-n.ensures w.put_at.ensures.value w.put_at.ensures.points w.put_at.ensures.listed)
      | else-is_strictly_before w ↦ subst (IsRight g a x) (sym w.precursor_counts-is) (right_as_it_was g a x (λ before. true≢false (sym (w.if-is_strictly_before.ensures.1 before))))
    ]

-- ---- the entries after them
pub loop-k-then-leads-init : goal.loop-k-then-leads-init
loop-k-then-leads-init g c =
    let upto = c.loop-k.auto.k-end c.later_from-later.ensures.from in
    let end : c.loop-k.k ≡ c.later_from-later.result = omega (arith, upto, c.loop-k-test.false) in
    subst (λ k. IsRightUpTo c.args.paths.now c.args.counts.now (IsReady c.args.paths.now c.args.counts.now c.args.point.now c.args.up) c.args.precursor_counts.now c.loop-r.r k c.loop-k.precursor_counts) end c.loop-k.invariant

pub bounds-row-k-in-loop-k-then-leads : goal.bounds-row-k-in-loop-k-then-leads
bounds-row-k-in-loop-k-then-leads g c =
    let at = goal.at.bounds-row-k-in-loop-k-then-leads g c in
    let lt = in_row g at.After-later_from-later c.loop-k-then-leads.precursor_counts c.loop-k-then-leads.invariant.points c.loop-k-then-leads.k (omega (arith, c.loop-k-then-leads-test.true)) in
    omega (arith, lt, ap length c.row-in-loop-k-then-leads.ensures.value)

abbrev later : (g : Over) (c : Then-is_outside g) → Next g (goal.at.moved_by_one-n-requires-then-is_outside-clause-some g c).After-later_from-later
later g c = record {
  rows = c.loop-k-then-leads.precursor_counts;
  k = c.loop-k-then-leads.k;
  h = c.loop-k-then-leads.invariant;
  inside = omega (arith, c.loop-k-then-leads-test.true);
  e = c.index-row-k-in-loop-k-then-leads.result;
  is = rw c.row-in-loop-k-then-leads.ensures.value at c.index-row-k-in-loop-k-then-leads.is;
}

later_ready : (g : Over) (c : Then-is_outside g) → IsMovable c.args.paths.now c.args.counts.now c.index-row-k-in-loop-k-then-leads.result.0 c.args.up (Some c.index-row-k-in-loop-k-then-leads.result.1)
later_ready g c =
    let a = (goal.at.moved_by_one-n-requires-then-is_outside-clause-some g c).After-later_from-later in
    ready g a (later g c) (strictly g a (later g c) c.loop-k-then-leads.auto.k (c.if-is_outside.ensures.0 refl))

pub moved_by_one-n-requires-then-is_outside-clause-room : goal.moved_by_one-n-requires-then-is_outside-clause-room
moved_by_one-n-requires-then-is_outside-clause-room g c = λ up.
    let x = c.index-row-k-in-loop-k-then-leads.result in
    let fit = room c.args.paths.now c.args.counts.now c.args.point.now c.args.up x.0 x.1 (later_ready g c) up in
    omega (arith, fit, c.len.ensures, c.len.type_inv)

pub moved_by_one-n-requires-then-is_outside-clause-some : goal.moved_by_one-n-requires-then-is_outside-clause-some
moved_by_one-n-requires-then-is_outside-clause-some g c =
    let x = c.index-row-k-in-loop-k-then-leads.result in
    some c.args.paths.now c.args.counts.now c.args.point.now c.args.up x.0 x.1 (later_ready g c)

pub put_off_frontier-requires-clause-entry : goal.put_off_frontier-requires-clause-entry
put_off_frontier-requires-clause-entry g c =
    let at = goal.at.put_off_frontier-requires-clause-entry g c in
    its_row g at.After-later_from-later (later g at.Then-is_outside)

-- neither its number nor the new one is 0
off_frontier : (g : Over) (c : Then-is_outside g) → (c.index-row-k-in-loop-k-then-leads.result.1 ≢ 0) × (moved c.args.up c.index-row-k-in-loop-k-then-leads.result.1 ≢ 0)
off_frontier g c =
    let a = (goal.at.moved_by_one-n-requires-then-is_outside-clause-some g c).After-later_from-later in
    not_alone g a (later g c) c.loop-k-then-leads.auto.k (c.if-is_outside.ensures.0 refl)

pub put_off_frontier-requires-clause-was : goal.put_off_frontier-requires-clause-was
put_off_frontier-requires-clause-was g c = λ d z.
    let at = goal.at.put_off_frontier-requires-clause-was g c in
    let x = later g at.Then-is_outside in
    (off_frontier g at.Then-is_outside).0 (ap (λ y. y.1) (x.is ∙ get_or_default (row_of x.rows c.loop-r.r) x.k x.e d (its_row g at.After-later_from-later x)) ∙ z)

pub put_off_frontier-requires-clause-is : goal.put_off_frontier-requires-clause-is
put_off_frontier-requires-clause-is g c = λ z.
    (off_frontier g (goal.at.put_off_frontier-requires-clause-is g c).Then-is_outside).1 (sym c.moved_by_one-n-then-is_outside.ensures ∙ z)

pub loop-k-then-leads-preserved : goal.loop-k-then-leads-preserved
loop-k-then-leads-preserved g c =
    let a = (goal.at.loop-k-then-leads-preserved g c).After-later_from-later in
    let x : Next g a = record {
      rows = c.loop-k-then-leads.precursor_counts;
      k = c.loop-k-then-leads.k;
      h = c.loop-k-then-leads.invariant;
      inside = omega (arith, c.loop-k-then-leads-test.true);
      e = c.index-row-k-in-loop-k-then-leads.result;
      is = rw c.row-in-loop-k-then-leads.ensures.value at c.index-row-k-in-loop-k-then-leads.is;
    } in
    elim c.if-is_outside.branch [
      | then-is_outside w ↦ subst (IsRight g a x) (sym w.precursor_counts-is)
          (right_if_moved g a x w.put_off_frontier.new.self w.moved_by_one-n-then-is_outside.result (strictly g a x c.loop-k-then-leads.auto.k (w.if-is_outside.ensures.0 refl)) w.moved_by_one-n-then-is_outside.ensures
          w.put_off_frontier.ensures.value w.put_off_frontier.ensures.points w.put_off_frontier.ensures.listed)
      | else-is_outside w ↦ subst (IsRight g a x) (sym w.precursor_counts-is) (right_as_it_was g a x (never g a x c.loop-k-then-leads.auto.k (λ outside. true≢false (sym (w.if-is_outside.ensures.1 outside)))))
    ]

pub loop-r-preserved : goal.loop-r-preserved
loop-r-preserved g c =
    let d = c.args.paths.now in
    let m = c.args.counts.now in
    let p = c.args.point.now in
    let R = IsReady d m p c.args.up in
    let old = c.args.precursor_counts.now in
    let rows = c.loop-r.precursor_counts in
    let r = c.loop-r.r in
    let row = row_of rows r in
    let h = c.loop-r.invariant in
    let lt : r < length old = omega (arith, c.loop-r-test.true, c.len-r-end.ensures.value) in
    elim c.if-end-gt0.branch [
      | then-end-gt0+then-leads+else-loop-k-test+else-loop-k-then-leads-test w ↦
          let upto = w.loop-k-then-leads.auto.k-end (omega (arith, w.later_from-later.ensures.upto)) in
          let end : w.loop-k-then-leads.k ≡ length row = omega (arith, upto, w.loop-k-then-leads-test.false, ap length c.row-row.ensures.value) in
          subst (IsRightUpTo d m R old (r + 1) 0) (sym w.precursor_counts-is) (right_row d m R old r w.loop-k-then-leads.k rows w.loop-k-then-leads.precursor_counts h.points lt end w.loop-k-then-leads.invariant)
      | else-end-gt0 w ↦ subst (IsRightUpTo d m R old (r + 1) 0) (sym w.precursor_counts-is) (right_row d m R old r (length row) rows rows h.points lt refl (elim w.else-end-gt0.branch [
        | else-end-gt0-via-then-end-gt0+else-leads v ↦
            let run : IsRun row 0 (length row) = rw c.row-row.ensures.value at c.row-row.ensures.run in
            let last = v.index-row-end.result in
            let at : last ≡ get_or row (length row - 1) last = rw c.row-row.ensures.value at v.index-row-end.is in
            all_skip d m R old r rows 0 (length row) (omega arith) (omega arith) (λ k e from upto is waiting.
            let both = in_run row (rw c.row-row.ensures.value at c.row-row.ensures.listed) run k (length row - 1) e last (omega (arith, upto)) (omega (arith, upto)) is at in
            stays d m p c.args.up e.0 e.1 waiting
            (λ before. v.if-leads.ensures (λ yes. true≢false (sym yes)) p e.0 refl (both.0 ∙ ap (λ e. e.0.location) v.index-row-end.is) (omega arith) (omega (arith, both.1, ap (λ e. e.0.time.epoch) v.index-row-end.is)) before.0)) h
        | else-end-gt0-via-else-end-gt0 v ↦ subst (λ k. IsRightUpTo d m R old r k rows) (omega (arith, v.if-end-gt0.false, ap length c.row-row.ensures.value)) h
      ]))
    ]

pub returns-clause-kept : goal.returns-clause-kept
returns-clause-kept g c =
    let d = c.args.paths.now in
    let m = c.args.counts.now in
    let p = c.args.point.now in
    right_all d m (IsReady d m p c.args.up) c.args.precursor_counts.now (ready_absent d m p c.args.up) c.loop-r.r c.loop-r.precursor_counts
    (omega (arith, c.loop-r-test.false, c.len-r-end.ensures.value)) c.loop-r.invariant
