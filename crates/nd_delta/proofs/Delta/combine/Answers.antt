use Rattle.std.proofs.Common.{◌≡◌, ◌||◌, Bool, sym, ap, ◌∙◌, true≢false, arith}
use Rattle.std.proofs.Math.Bool.{or_assoc, or_comm}
use Rattle.nd_paths.specs.declared.point.Pointstamp.{Pointstamp}
use Rattle.nd_delta.specs.Delta.{at, set, combined, is_point}
use Rattle.nd_delta.proofs.Sums.{kept, first_entries, split_none, next_entry, one_more, joined_is}
use Rattle.nd_delta.proofs.Delta.combine.Goals as goal
use Rattle.nd_delta.proofs.Delta.combine.Goals.{then-comes_first, else-comes_first}

pub loop-i-init : goal.loop-i-init
loop-i-init g c = split_none c.new-made.ensures

swap : (a p b : Bool) → ((a || p) || b) ≡ ((a || b) || p)
swap a p b = or_assoc a p b ∙ ap (λ o. a || o) (or_comm p b) ∙ sym (or_assoc a b p)

pub loop-i-preserved : goal.loop-i-preserved
loop-i-preserved g c =
    let mine = c.entries-mine.result.now in
    let others = c.entries-others.result.now in
    let first = λ (q : Pointstamp). first_entries mine c.loop-i.i q in
    let second = λ (q : Pointstamp). first_entries others c.loop-i.j q in
    let p = c.if-comes_first.point.now in
    let set_is : c.put.new.self ≡ set c.loop-i.made p (at (combined c.args.minus c.args.self.now c.args.other.now) p) = rw (kept c.combined_at.result c.combined_at.ensures.fits, c.combined_at.ensures.value) at c.in_ok-put.ensures.ok in
    elim c.if-comes_first.branch [
      | then-comes_first w ↦
          let x = w.index-mine-i.result in
          one_more p c.loop-i.invariant set_is (λ q.
          (λ k. first_entries mine (w.i-is k) q || first_entries others (w.j-is k) q)
          ∙ ap (λ b. b || second q) (next_entry mine c.loop-i.i x (c.comes_first.ensures.first w.if-comes_first.true) w.index-mine-i.is q)
          ∙ swap (first q) (is_point q x.0) (second q) ∙ ap (λ r. (first q || second q) || is_point q r.now) (sym w.point-is))
      | else-comes_first w ↦
          let x = w.index-others-j.result in
          one_more p c.loop-i.invariant set_is (λ q.
          (λ k. first_entries mine (w.i-is k) q || first_entries others (w.j-is k) q)
          ∙ ap (λ b. first q || b) (next_entry others c.loop-i.j x (c.comes_first.ensures.second (λ yes. true≢false (sym yes ∙ w.if-comes_first.false))) w.index-others-j.is q)
          ∙ sym (or_assoc (first q) (second q) (is_point q x.0)) ∙ ap (λ r. (first q || second q) || is_point q r.now) (sym w.point-is))
    ]

pub returns-clause-ok : goal.returns-clause-ok
returns-clause-ok g c =
    joined_is c.args.minus c.args.self.now c.args.other.now c.loop-i.i c.loop-i.j c.entries-mine.ensures.listed c.entries-others.ensures.listed
    (omega (arith, c.if-i-mine.false)) (omega (arith, c.if-j-others.false)) c.loop-i.invariant
