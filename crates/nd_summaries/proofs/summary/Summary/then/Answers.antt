use Rattle.std.proofs.Common.{◌≡◌, ◌<◌, ◌≤◌, ◌+◌, length, refl, sym, ◌∙◌, ap, arith}
use Rattle.std.specs.Prelude.{All}
use Rattle.nd_time.specs.Limits.{max_depth, max_counter}
use Rattle.nd_summaries.specs.declared.summary.Summary.{Summary}
use Rattle.nd_summaries.specs.Summary.{left_by}
use Rattle.nd_summaries.proofs.Algebra.{over, composed_over, composed_same, composed_less, effect_of_composed, limits_over, limits_same, left_by_composed}
use Rattle.nd_summaries.proofs.summary.Summary.then.Goals as goal
use Rattle.nd_summaries.proofs.summary.Summary.then.Goals.{then-other-gt-MAX_DEPTH-via-then-other-gt-MAX_DEPTH, then-other-gt-MAX_DEPTH-via-else-other-gt-MAX_DEPTH+then-other-theirs-gt-MAX_DEPTH}

pub returns-then-other-gt-MAX_DEPTH-clause-some : goal.returns-then-other-gt-MAX_DEPTH-clause-some
returns-then-other-gt-MAX_DEPTH-clause-some c = (
  λ e. absurd (cc),
  λ h.
      let size = left_by_composed c.args.self.now c.args.other.now h.0 in
      elim c.then-other-gt-MAX_DEPTH.branch [
        | then-other-gt-MAX_DEPTH-via-then-other-gt-MAX_DEPTH w ↦ absurd (omega (arith, h.1.depth, w.if-other-gt-MAX_DEPTH.true))
        | then-other-gt-MAX_DEPTH-via-else-other-gt-MAX_DEPTH+then-other-theirs-gt-MAX_DEPTH w ↦ absurd (omega (arith, h.1.depth, w.if-other-theirs-gt-MAX_DEPTH.true, ap length c.as_slice-theirs.ensures.value))
      ],
)

pub returns-then-other-self-clause-effect : goal.returns-then-other-self-clause-effect
returns-then-other-self-clause-effect c =
    effect_of_composed c.args.self.now c.args.other.now c.copy.result (c.copy.ensures ∙ sym (composed_less c.args.self.now c.args.other.now c.if-other-self.true)) (omega (arith, c.if-other-self.true))

pub returns-then-other-self-2-clause-some : goal.returns-then-other-self-2-clause-some
returns-then-other-self-2-clause-some c =
    let depth : left_by c.args.other.now ≤ max_depth = omega (arith, c.if-other-theirs-gt-MAX_DEPTH.false, ap length c.as_slice-theirs.ensures.value) in (
      λ _. (omega (arith, c.if-other-self-2.true), limits_same c.args.self.now c.args.other.now (sym c.if-other-self-2.true) (omega (arith, c.in_ok-checked_add.ensures.0)) c.copy-then-other-self-2.ensures.small depth),
      λ _. refl,
    )

pub returns-then-other-self-2-clause-effect : goal.returns-then-other-self-2-clause-effect
returns-then-other-self-2-clause-effect c =
    let s : Summary = c.args.self.now in
    let t : Summary = c.args.other.now in
    let u : Summary = record { keep = s.keep; add = c.in_ok-checked_add.field-0; constants = c.copy-then-other-self-2.result } in
    let same : u ≡ record { keep = t.keep; add = s.add + t.add; constants = t.constants } = λ i. record { keep = sym c.if-other-self-2.true i; add = c.in_ok-checked_add.ensures.1 i; constants = c.copy-then-other-self-2.ensures.value i } in
    effect_of_composed s t u (same ∙ sym (composed_same s t (sym c.if-other-self-2.true))) (omega (arith, c.if-other-self-2.true))

pub returns-clause-some : goal.returns-clause-some
returns-clause-some c =
    let s : Summary = c.args.self.now in
    let t : Summary = c.args.other.now in
    let l : s.keep < t.keep = omega (arith, c.if-other-self.false, c.if-other-self-2.false) in
    let k : t.keep ≤ left_by s = omega (arith, c.if-over-own.false, ap length c.as_slice-own.ensures.value) in
    let depth : left_by t ≤ max_depth = omega (arith, c.if-other-theirs-gt-MAX_DEPTH.false, ap length c.as_slice-theirs.ensures.value) in
    let small : All (λ x. x ≤ max_counter) (over s t).constants = rw (c.as_slice.ensures.value, c.reached.ensures, c.copy-2.ensures.value, c.as_slice-own.ensures.value) at c.in_ok-narrowed.ensures.some.0 refl in
    (λ _. (k, limits_over s t l k (omega arith) small depth), λ _. refl)

pub returns-clause-effect : goal.returns-clause-effect
returns-clause-effect c =
    let s : Summary = c.args.self.now in
    let t : Summary = c.args.other.now in
    let l : s.keep < t.keep = omega (arith, c.if-other-self.false, c.if-other-self-2.false) in
    let k : t.keep ≤ left_by s = omega (arith, c.if-over-own.false, ap length c.as_slice-own.ensures.value) in
    let is : c.in_ok-narrowed.field-0 ≡ (over s t).constants = rw (c.as_slice.ensures.value, c.reached.ensures, c.copy-2.ensures.value, c.as_slice-own.ensures.value) at c.in_ok-narrowed.ensures.value in
    let u : Summary = record { keep = s.keep; add = s.add; constants = c.in_ok-narrowed.field-0 } in
    let same : u ≡ over s t = λ i. record { keep = s.keep; add = s.add; constants = is i } in
    effect_of_composed s t u (same ∙ sym (composed_over s t l)) k
