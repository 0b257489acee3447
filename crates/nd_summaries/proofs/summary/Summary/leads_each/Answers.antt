use Rattle.std.proofs.Common.{◌≡◌, ◌∙◌, sym, length, IsTrue, true, false, refl, arith}
use Rattle.nd_summaries.specs.Summary.{applied}
use Rattle.nd_summaries.specs.Steps.{each_at_most}
use Rattle.nd_summaries.proofs.Raised.{length-applied}
use Rattle.nd_summaries.proofs.Tests.{each_decided}
use Rattle.nd_summaries.proofs.SummaryLemmas.{each_differ, each_same, each_past}
use Rattle.nd_summaries.proofs.summary.Summary.leads_each.Goals as goal

no_truth : IsTrue false → ⊥
no_truth yes' = cc

pub returns-then-wanted-reached : goal.returns-then-wanted-reached
returns-then-wanted-reached c =
    let all = applied c.args.self.now c.args.from.now in
    let size : length all ≡ length c.args.to.now = length-applied c.args.self.now c.args.from.now c.requires.keep ∙ sym c.requires.to in
    let no = each_differ all c.args.to.now c.loop-place.place (omega (arith, size)) (omega arith) (omega arith) in
    let whole : each_at_most all c.args.to.now ≡ false = sym c.loop-place.invariant ∙ no in
    (λ yes. absurd (no_truth yes), λ h. absurd (no_truth (sym whole ∙ (each_decided all c.args.to.now).1 h)))

pub loop-place-preserved : goal.loop-place-preserved
loop-place-preserved c =
    let all = applied c.args.self.now c.args.from.now in
    let size : length all ≡ length c.args.to.now = length-applied c.args.self.now c.args.from.now c.requires.keep ∙ sym c.requires.to in
    each_same all c.args.to.now c.loop-place.place (omega (arith, size)) (omega arith) (omega arith) ∙ c.loop-place.invariant

pub returns : goal.returns
returns c =
    let all = applied c.args.self.now c.args.from.now in
    let size : length all ≡ length c.args.to.now = length-applied c.args.self.now c.args.from.now c.requires.keep ∙ sym c.requires.to in
    let whole : each_at_most all c.args.to.now ≡ true = sym c.loop-place.invariant ∙ each_past all c.args.to.now c.loop-place.place (omega (arith, size)) (omega arith) in
    (λ _. (each_decided all c.args.to.now).0 whole, λ _. refl)
