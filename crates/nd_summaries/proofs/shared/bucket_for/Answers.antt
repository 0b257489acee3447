use Rattle.std.proofs.Common.{◌≡◌, ap, ◌∙◌, sym, drop, ◌+◌, ◌∷◌, []}
use Rattle.nd_summaries.specs.declared.summary.Summary.{Summary}
use Rattle.nd_summaries.specs.Shared.{mixed, mixed_all}
use Rattle.nd_summaries.proofs.Sharing.{mixed_all_more, mixed_all_past}
use Rattle.nd_summaries.proofs.shared.bucket_for.Goals as goal

pub loop-summary-preserved : goal.loop-summary-preserved
loop-summary-preserved c =
    let s : Summary = c.summary-item.result in
    let kept : c.mix-kept.result ≡ mixed c.loop-summary.bucket (s.keep ∷ []) = c.mix-kept.ensures.value in
    let added : c.mix-added.result ≡ mixed c.mix-kept.result (s.add ∷ []) = c.mix-added.ensures.value in
    let both : c.mix-added.result ≡ mixed (mixed c.loop-summary.bucket (s.keep ∷ [])) (s.add ∷ []) = added ∙ ap (λ h. mixed h (s.add ∷ [])) kept in
    let whole : c.mixed-next.result ≡ mixed (mixed (mixed c.loop-summary.bucket (s.keep ∷ [])) (s.add ∷ [])) s.constants = c.mixed-next.ensures.value ∙ ap (mixed c.mix-added.result) c.as_slice.ensures.value ∙ ap (λ h. mixed h s.constants) both in
    record {
      value = ap (λ h. mixed_all h (drop (c.loop-summary.summary-index + 1) c.args.list.now)) whole ∙ mixed_all_more c.loop-summary.bucket c.args.list.now c.loop-summary.summary-index s c.loop-summary-test.true c.summary-item.is ∙ c.loop-summary.invariant.value;
      small = c.mixed-next.ensures.small;
    }

pub returns : goal.returns
returns c = record {
  value = sym (mixed_all_past c.loop-summary.bucket c.args.list.now c.loop-summary.summary-index c.loop-summary-test.false) ∙ c.loop-summary.invariant.value;
  small = c.loop-summary.invariant.small;
}
