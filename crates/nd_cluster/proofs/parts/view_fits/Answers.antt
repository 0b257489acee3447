use Rattle.std.proofs.Common.{ℤ, sym, subst}
use Rattle.std.specs.Prelude.{All}
use Rattle.nd_paths.specs.declared.point.Pointstamp.{Pointstamp}
use Rattle.nd_delta.specs.Delta.{DeltaValue, entries}
use Rattle.nd_protocol.specs.Fitting.{IsAtLocation}
use Rattle.nd_cluster.proofs.PartsLemmas.{change_from, change_to}
use Rattle.nd_cluster.proofs.parts.view_fits.Goals as goal

pub returns-clause-fits : goal.returns-clause-fits
returns-clause-fits g c =
    let AreAt = λ (m : DeltaValue). All (λ (e : Pointstamp × ℤ). IsAtLocation c.args.graph.now e.0) (entries m) in (
      λ t. change_from c.args.graph.now c.args.view.now.map (subst AreAt c.counts.ensures (c.counts_fit.ensures.fits.0 t)),
      λ fits. c.counts_fit.ensures.fits.1 (subst AreAt (sym c.counts.ensures) (change_to c.args.graph.now c.args.view.now.map fits)),
    )
