use Rattle.std.proofs.Common.{◌≡◌, ◌≢◌, ◌+◌, ◌≤◌, ℕ, ℤ, List, [], ◌∷◌, ◌++◌, FitsSigned, to_z, of_z, w64, length, refl, sym, ap, subst, ◌∙◌, arith, rules, length-append}
use Rattle.nd_time.specs.Limits.{max_told}
use Rattle.nd_history.specs.History.{shown_at, ChangesTo, none_yet, no_change, one_change, AreAll}
use Rattle.std.proofs.lemmas.Int.{to_z-of_z}
use Rattle.nd_timeline.specs.declared.changed.Changed.{Changed}
use Rattle.nd_history.proofs.WalkLemmas.{at_position}
use Rattle.nd_history.proofs.history.history.Goals as goal
use Rattle.nd_history.proofs.history.history.Goals.{then-after-before+else-as_slice-eq-MAX_TOLD+in_ok-push, else-after-before}

one_longer : (cs ds : List Changed) (x : Changed) → length cs ≤ max_told → ds ≡ cs → length ds ≢ max_told → length (cs ++ x ∷ []) ≤ max_told
one_longer cs ds x few same room = omega (arith, ap length same, length-append cs (x ∷ []))

reached : (lo i hi : ℕ) → hi ≤ i → (lo ≤ hi → i ≤ hi) → lo ≤ hi → i ≡ hi
reached lo i hi past most ahead = let within : i ≤ hi = most ahead in omega arith

pub loop-at-init : goal.loop-at-init
loop-at-init g c =
    let Shows = g.O.Observation.Shows c.args.observation.now in
    let i : ℕ = c.args.walk.now.at in
    let shown = at_position c.args.timeline.now c.args.walk.now i (λ s. Shows s c.of-before.result) c.requires.on refl c.of-before.ensures in
    let fits : FitsSigned w64 c.of-before.result = search rules in record {
      on = c.requires.on;
      here = refl;
      before = subst (shown_at c.args.timeline.now Shows i) (sym (to_z-of_z w64 c.of-before.result fits)) shown;
      listed = subst (AreAll (shown_at c.args.timeline.now Shows) i i) (sym c.new-changes.ensures) (record { few = omega arith; all = none_yet });
    }

pub loop-at-preserved : goal.loop-at-preserved
loop-at-preserved g c =
    let Shows = g.O.Observation.Shows c.args.observation.now in
    let Sees : ℕ → ℤ → Type 0 = shown_at c.args.timeline.now Shows in
    let lo : ℕ = c.args.walk.now.at in
    let i : ℕ = c.loop-at.at in
    let n : ℤ = c.of-after.result in
    let old = c.loop-at.invariant.listed in
    let was : Sees i c.loop-at.before = subst (Sees i) c.loop-at.before-is c.loop-at.invariant.before in
    let shown : Sees (i + 1) n = at_position c.args.timeline.now c.go.new.walk (i + 1) (λ s. Shows s n) c.go.ensures.on c.in_ok-go.ensures.there c.of-after.ensures in
    let fits : FitsSigned w64 n = search rules in
    let kept : to_z w64 (of_z w64 n) ≡ n = to_z-of_z w64 n fits in record {
      on = c.go.ensures.on;
      here = c.in_ok-go.ensures.there;
      before = subst (Sees (i + 1)) (sym kept) shown;
      listed = elim c.if-after-before.branch [
        | then-after-before+else-as_slice-eq-MAX_TOLD+in_ok-push b ↦
            let differs : n ≢ c.loop-at.before = search rules in
            let x : Changed = record { position = i + 1; entry = to_z w64 (of_z w64 n) } in
            let change : ChangesTo Sees i x.entry = record { before = c.loop-at.before; was = was; is = subst (Sees (i + 1)) (sym kept) shown; differs = λ e. differs (sym kept ∙ e) } in
            subst (AreAll Sees lo (i + 1)) (sym (b.changes-is ∙ b.in_ok-push.ensures))
            (record { few = one_longer c.loop-at.changes _ x old.few b.as_slice.ensures b.if-as_slice-eq-MAX_TOLD.false; all = one_change i c.loop-at.changes x.entry old.all change })
        | else-after-before b ↦
            let equal : n ≡ c.loop-at.before = search rules in
            subst (AreAll Sees lo (i + 1)) (sym b.changes-is) (record { few = old.few; all = no_change i c.loop-at.changes n old.all (subst (Sees i) (sym equal) was) shown })
      ];
    }

pub returns-then-as_slice-eq-MAX_TOLD : goal.returns-then-as_slice-eq-MAX_TOLD
returns-then-as_slice-eq-MAX_TOLD g c =
    let Shows = g.O.Observation.Shows c.args.observation.now in
    let Sees : ℕ → ℤ → Type 0 = shown_at c.args.timeline.now Shows in
    let i : ℕ = c.loop-at.at in
    let n : ℤ = c.of-after.result in
    let was : Sees i c.loop-at.before = subst (Sees i) c.loop-at.before-is c.loop-at.invariant.before in
    let shown : Sees (i + 1) n = at_position c.args.timeline.now c.go.new.walk (i + 1) (λ s. Shows s n) c.go.ensures.on c.in_ok-go.ensures.there c.of-after.ensures in
    let fits : FitsSigned w64 n = search rules in
    let differs : n ≢ c.loop-at.before = search rules in record {
      count = ap length (sym c.as_slice.ensures) ∙ c.if-as_slice-eq-MAX_TOLD.true;
      end = i;
      within = c.loop-at-test.true;
      first = c.loop-at.invariant.listed.all;
      next = n;
      more = record { before = c.loop-at.before; was = was; is = shown; differs = differs };
    }

pub returns : goal.returns
returns g c =
    let end : c.loop-at.at ≡ c.args.hi = reached c.args.walk.now.at c.loop-at.at c.args.hi c.loop-at-test.false c.loop-at.auto.at-end c.requires.ahead in
    subst (λ k. AreAll (shown_at c.args.timeline.now (g.O.Observation.Shows c.args.observation.now)) c.args.walk.now.at k c.loop-at.changes) end c.loop-at.invariant.listed
