use Rattle.std.proofs.Common.{◌≡◌, ◌<◌, length, get_or, pos, Option, Some, None, refl, sym, subst, arith, true≢false}
use Rattle.std.proofs.lemmas.Int.{ints}
use Rattle.std.specs.Prelude.{◌<ℤ◌, Contains, IfSome, IsSomeAnd}
use Rattle.nd_paths.specs.Order.{CouldResultIn, IsStrictlyBefore}
use Rattle.nd_paths.specs.declared.point.Pointstamp.{Pointstamp}
use Rattle.nd_delta.specs.Delta.{at, entries}
use Rattle.nd_delta.specs.Least.{IsLeast, all-more, all-points, at-index, least-index}
use Rattle.nd_delta.specs.Upright.{IsSupported, IsUnsupported}
use Rattle.nd_delta.proofs.After.{supported_after}
use Rattle.nd_delta.proofs.Delta.unsupported_by.Given.{Over}
use Rattle.nd_delta.proofs.Delta.unsupported_by.Goals as goal
use Rattle.nd_delta.proofs.Delta.unsupported_by.Goals.{then-entry-gt0+then-not-is_after+else-not-supports, else-entry-gt0, else-entry-gt0-via-then-entry-gt0+else-not-is_after, else-entry-gt0-via-else-entry-gt0}
use Rattle.nd_map.specs.Cases.{not_zero}

pub loop-entry-init : goal.loop-entry-init
loop-entry-init g c = record { items = c.entries-entry-items.ensures.listed; others = λ k lt. absurd (omega (arith, lt)); last = tt }

-- if there is a supported point at or before x, then x is supported
passed_on : {T : Type 0} (S B : T → Type 0) (X : Type 0) → ((w : T) → S w → B w → X) → (o : Option T) → IfSome o S → IsSomeAnd o B → X
passed_on S B X on None s b = absurd b
passed_on S B X on (Some w) s b = on w s b

pub loop-entry-preserved : goal.loop-entry-preserved
loop-entry-preserved g c =
    let m = c.args.self.now in
    let x = c.entry-item.result in
    let i = c.loop-entry.entry-index in
    let lt : i < length (entries m) = rw c.loop-entry.invariant.items at c.loop-entry-test.true in
    let is : x ≡ get_or (entries m) i x = rw c.loop-entry.invariant.items at c.entry-item.is in
    let Is = λ (y : Pointstamp). IsSupported (IsStrictlyBefore c.args.paths.now) (Contains c.args.held.now) (at m) y in
    let more = λ (h : pos 0 <ℤ at m x.0 → Is x.0). all-more (λ y. pos 0 <ℤ at m y → Is y) (entries m) i x lt is h c.loop-entry.invariant.others in
    elim c.if-entry-gt0.branch [
      | then-entry-gt0+then-not-is_after+else-not-supports w ↦
          let here : Is x.0 = w.supports.ensures.0 w.if-not-supports.false in
          record { items = c.loop-entry.invariant.items; others = more (λ _. here); last = subst (λ o. IfSome o (λ y. Is y.now)) (sym w.supported-is) here }
      | else-entry-gt0 w ↦
          record {
            items = c.loop-entry.invariant.items;
            others = more (elim w.else-entry-gt0.branch [
              | else-entry-gt0-via-then-entry-gt0+else-not-is_after v ↦ (λ _.
                  passed_on _ _ (Is x.0) (λ y s b. supported_after (CouldResultIn c.args.paths.now) c.order_is_partial.ensures.transitive c.order_is_partial.ensures.antisymmetric (Contains c.args.held.now) (at m) y.now x.0 s b)
                  c.loop-entry.supported c.loop-entry.invariant.last (v.is_after.ensures.0 v.if-not-is_after.false))
              | else-entry-gt0-via-else-entry-gt0 v ↦ (λ positive. let sign : pos 0 <ℤ x.1 = subst (λ z. pos 0 <ℤ z) (sym (at-index m i x lt is)) positive in let not = v.if-entry-gt0.false in absurd (omega (arith, ints, sign, not)))
            ]);
            last = subst (λ o. IfSome o (λ y. Is y.now)) (sym w.supported-is) c.loop-entry.invariant.last;
          }
    ]

-- what is known about an entry that is not supported
found : (g : Over) (c : goal.After-copy g) → IsUnsupported (IsStrictlyBefore c.args.paths.now) (Contains c.args.held.now) (at c.args.self.now) c.entry-item.result.0
found g c =
    let m = c.args.self.now in
    let x = c.entry-item.result in
    let i = c.loop-entry.entry-index in
    let lt : i < length (entries m) = rw c.loop-entry.invariant.items at c.loop-entry-test.true in
    let is : x ≡ get_or (entries m) i x = rw c.loop-entry.invariant.items at c.entry-item.is in
    let sign : pos 0 <ℤ x.1 = omega (arith, ints, c.if-entry-gt0.true) in
    record {
      positive = subst (λ z. pos 0 <ℤ z) (at-index m i x lt is) sign;
      alone = λ s. true≢false (sym (c.if-not-supports.ensures.1 s));
    }

pub returns-then-not-supports-clause-upright : goal.returns-then-not-supports-clause-upright
returns-then-not-supports-clause-upright g c =
    let here = found g c in
    (λ e. absurd (true≢false e), λ upright. absurd (here.alone (upright c.entry-item.result.0 here.positive)))

pub returns-then-not-supports-clause-least : goal.returns-then-not-supports-clause-least
returns-then-not-supports-clause-least g c =
    let m = c.args.self.now in
    let P = IsUnsupported (IsStrictlyBefore c.args.paths.now) (Contains c.args.held.now) (at m) in
    subst (IsLeast P) (sym c.copy.ensures)
    (least-index m P (λ y. pos 0 <ℤ at m y → IsSupported (IsStrictlyBefore c.args.paths.now) (Contains c.args.held.now) (at m) y) (λ y p. not_zero (at m y) p.positive) (λ y p h. p.alone (h p.positive)) c.loop-entry.entry-index c.entry-item.result
    (rw c.loop-entry.invariant.items at c.loop-entry-test.true) (rw c.loop-entry.invariant.items at c.entry-item.is) c.loop-entry.invariant.others (found g c))

pub returns-clause-upright : goal.returns-clause-upright
returns-clause-upright g c =
    let m = c.args.self.now in
    (λ _ x positive. all-points m (λ y. pos 0 <ℤ at m y → IsSupported (IsStrictlyBefore c.args.paths.now) (Contains c.args.held.now) (at m) y) c.loop-entry.entry-index (rw c.loop-entry.invariant.items at c.loop-entry-test.false) c.loop-entry.invariant.others x (not_zero (at m x) positive) positive, λ _. refl)
