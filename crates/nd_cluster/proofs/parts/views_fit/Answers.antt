use Rattle.std.proofs.Common.{refl, sym, subst, arith}
use Rattle.nd_view.specs.Kept.{Kept}
use Rattle.nd_protocol.specs.Fitting.{DeltaFits, DeltaIsWithin}
use Rattle.nd_cluster.proofs.PartsLemmas.{all_more}
use Rattle.nd_cluster.proofs.parts.views_fit.Goals as goal

pub loop-view-preserved : goal.loop-view-preserved
loop-view-preserved g c = record {
  fits = all_more (λ (v : Kept). DeltaFits c.args.graph.now v.map) c.args.views.now c.loop-view.view-index c.view-item.result c.loop-view-test.true c.view-item.is
      (c.if-not-view_fits.ensures.fits.0 refl) c.loop-view.invariant.fits;
  within = all_more (λ (v : Kept). DeltaIsWithin v.map) c.args.views.now c.loop-view.view-index c.view-item.result c.loop-view-test.true c.view-item.is
      c.if-not-view_fits.ensures.within c.loop-view.invariant.within;
}

pub returns-then-not-view_fits-clause-fits : goal.returns-then-not-view_fits-clause-fits
returns-then-not-view_fits-clause-fits g c = (
  λ t. absurd (cc (t)),
  λ all. c.if-not-view_fits.ensures.fits.1 (subst (λ (v : Kept). DeltaFits c.args.graph.now v.map) (sym c.view-item.is) (all c.loop-view.view-index c.view-item.result c.loop-view-test.true)),
)

pub returns-clause-fits : goal.returns-clause-fits
returns-clause-fits g c = (
  λ _ k d below. c.loop-view.invariant.fits k d (omega (arith, below, c.loop-view-test.false)),
  λ _. refl,
)

pub returns-clause-within : goal.returns-clause-within
returns-clause-within g c = λ _ k d below. c.loop-view.invariant.within k d (omega (arith, below, c.loop-view-test.false))
