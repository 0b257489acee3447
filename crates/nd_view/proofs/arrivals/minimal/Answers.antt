use Rattle.std.proofs.Common.{◌≡◌, ◌+◌, ◌++◌, ◌∷◌, [], ℕ, List, IsTrue, sym, ap, subst, ◌∙◌}
use Rattle.nd_time.specs.Time.{Time}
use Rattle.nd_paths.specs.Arrival.{HasAtOrBefore}
use Rattle.nd_view.proofs.MinimalTimes.{IsKeptUpTo, kept_one, kept_skip, kept_all}
use Rattle.nd_view.proofs.arrivals.minimal.Goals as goal
use Rattle.nd_view.proofs.arrivals.minimal.Goals.{then-not-has_at_or_before+in_ok-push, else-not-has_at_or_before}

pub loop-time-preserved : goal.loop-time-preserved
loop-time-preserved g c =
    let order = c.args.order in
    let ts : List Time = c.args.times.now in
    let i : ℕ = c.loop-time.time-index in
    let t : Time = c.time-item.result in
    let kept : List Time = c.loop-time.kept.items in
    elim c.if-not-has_at_or_before.branch [
      | then-not-has_at_or_before+in_ok-push w ↦
          let not : HasAtOrBefore order kept t → ⊥
          = λ has.
          let yes : IsTrue c.has_at_or_before.result = c.has_at_or_before.ensures.1 (subst (λ l. HasAtOrBefore order l t) (sym c.deref.ensures.value) has) in
          cc (yes, w.if-not-has_at_or_before.true) in
          let more : c.if-not-has_at_or_before.kept.items ≡ kept ++ t ∷ [] = ap (λ k. k.items) w.kept-is ∙ w.in_ok-push.ensures.items ∙ ap (λ s. kept ++ s ∷ []) w.copy.ensures in
          kept_one order ts c.requires i t c.loop-time-test.true c.time-item.is kept c.loop-time.invariant not c.if-not-has_at_or_before.kept.items more
      | else-not-has_at_or_before w ↦
          let yes : IsTrue c.has_at_or_before.result = cc (w.if-not-has_at_or_before.false) in
          let has : HasAtOrBefore order kept t = subst (λ l. HasAtOrBefore order l t) c.deref.ensures.value (c.has_at_or_before.ensures.0 yes) in
          subst (λ k. IsKeptUpTo order ts (i + 1) k.items) (sym w.kept-is) (kept_skip order ts c.requires i t c.loop-time-test.true c.time-item.is kept c.loop-time.invariant has)
    ]

pub returns-clause-value : goal.returns-clause-value
returns-clause-value g c = kept_all c.args.order c.args.times.now c.loop-time.time-index c.loop-time.kept.items c.loop-time-test.false c.loop-time.invariant
