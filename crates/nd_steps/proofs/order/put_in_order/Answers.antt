use Rattle.std.proofs.Common.{◌<◌, length, get_or, ◌∙◌, sym, subst, arith}
use Rattle.std.proofs.lemmas.Result.{on_ok_weaker, IfErr-weaker}
use Rattle.nd_steps.specs.Limits.{after, ReadsAs}
use Rattle.nd_steps.specs.Turns.{IsReadable}
use Rattle.nd_steps.proofs.EachLemmas.{each_at, each_moved}
use Rattle.nd_steps.proofs.TurnsLemmas.{none_yet, one_goes, one_leaves, in_order, all_within, some_fails}
use Rattle.nd_steps.proofs.order.put_in_order.Goals as goal
use Rattle.nd_steps.proofs.order.put_in_order.Goals.{then-reading, else-reading}

pub loop-i-init : goal.loop-i-init
loop-i-init g c = none_yet c.args.processors.now c.args.changes.now

pub reading_of-reading-requires : goal.reading_of-reading-requires
reading_of-reading-requires g c =
    let P = IsReadable c.args.processors.now in
    let lt : c.loop-i.i < length c.loop-i.changes = omega (arith, c.loop-i-test.true, c.loop-i.auto.changes) in
    subst P (sym c.borrowed.ensures) (each_at P c.loop-i.changes c.loop-i.i c.index-changes-i.result (each_moved P c.args.changes.now c.loop-i.changes c.loop-i.invariant.same c.requires) lt)

pub loop-i-preserved : goal.loop-i-preserved
loop-i-preserved g c =
    let ps = c.args.processors.now in
    let all = c.args.changes.now in
    let l = c.loop-i in
    let r = c.reading_of-reading in
    let lt : l.i < length all = c.loop-i-test.true in
    let is : ReadsAs r.result (get_or l.changes l.i c.index-changes-i.result).slot (after ps (get_or l.changes l.i c.index-changes-i.result)) = subst (λ x. ReadsAs r.result x.slot (after ps x)) c.borrowed.ensures r.ensures in
    elim c.if-reading.branch [
      | then-reading w ↦ rw (w.changes-is, w.turn-is)
          (one_leaves ps all l.changes l.turn l.i l.counts_stay l.entries_stay l.invariant lt c.index-changes-i.result r.result.count_stays r.result.entry_stays is.count is.entry
          (is.leaves.0 w.if-reading.true) w.swap.new.self w.swap.ensures.permutation w.swap.ensures.after)
      | else-reading w ↦ rw (w.changes-is, w.turn-is)
          (one_goes ps all l.changes l.turn l.i l.counts_stay l.entries_stay l.invariant lt c.index-changes-i.result r.result.count_stays r.result.entry_stays is.count is.entry
          (λ some. let t = is.leaves.1 some in absurd (cc (w.if-reading.false, t))))
    ]

pub returns-clause-order : goal.returns-clause-order
returns-clause-order g c = in_order c.loop-i.invariant c.loop-i-test.false

pub returns-clause-within : goal.returns-clause-within
returns-clause-within g c = on_ok_weaker c.within.result (all_within c.loop-i.invariant.read c.loop-i-test.false) c.within.ensures.ok

pub returns-clause-refused : goal.returns-clause-refused
returns-clause-refused g c = IfErr-weaker c.within.result _ _ (some_fails c.loop-i.invariant.read c.loop-i-test.false) c.within.ensures.err
