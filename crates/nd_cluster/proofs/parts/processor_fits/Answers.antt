use Rattle.std.proofs.Common.{◌≡◌, ℤ, length, refl, sym, ap, subst, arith}
use Rattle.std.specs.Prelude.{All}
use Rattle.nd_paths.specs.declared.point.Pointstamp.{Pointstamp}
use Rattle.nd_delta.specs.Delta.{DeltaValue, entries}
use Rattle.nd_protocol.specs.Fitting.{IsAtLocation}
use Rattle.nd_cluster.proofs.PartsLemmas.{change_from, change_to, records_to, requests_to, tokens_to, items_to, sinks_to, processor_from}
use Rattle.nd_cluster.proofs.parts.processor_fits.Goals as goal

pub returns-then-not-records_fit : goal.returns-then-not-records_fit
returns-then-not-records_fit g c = (λ t. absurd (cc (t)), λ fits. c.if-not-records_fit.ensures.1 (records_to c.args.graph.now c.args.processor.now fits))

pub returns-then-not-requests_fit : goal.returns-then-not-requests_fit
returns-then-not-requests_fit g c = (λ t. absurd (cc (t)), λ fits. c.if-not-requests_fit.ensures.1 (requests_to c.args.graph.now c.args.processor.now fits))

pub returns-then-not-tokens_fit : goal.returns-then-not-tokens_fit
returns-then-not-tokens_fit g c = (λ t. absurd (cc (t)), λ fits. c.if-not-tokens_fit.ensures.1 (tokens_to c.args.graph.now c.args.processor.now fits))

pub returns-then-not-items_fit : goal.returns-then-not-items_fit
returns-then-not-items_fit g c = (λ t. absurd (cc (t)), λ fits. c.if-not-items_fit.ensures.1 (items_to c.args.graph.now c.args.processor.now fits))

pub returns-then-not-sinks_fit : goal.returns-then-not-sinks_fit
returns-then-not-sinks_fit g c = (λ t. absurd (cc (t)), λ fits. c.if-not-sinks_fit.ensures.1 (sinks_to c.args.graph.now c.args.processor.now fits))

pub returns : goal.returns
returns g c =
    let gr = c.args.graph.now in
    let q = c.args.processor.now in
    let AreAt = λ (m : DeltaValue). All (λ (e : Pointstamp × ℤ). IsAtLocation gr e.0) (entries m) in
    let vertices : length q.items ≡ length gr.vertices = omega (arith, c.if-vertex_count-vertices.false, c.vertex_count.ensures, ap length c.vertices.ensures.vertices) in (
      λ t. processor_from gr q vertices (c.if-not-records_fit.ensures.0 refl) (c.if-not-requests_fit.ensures.0 refl) (c.if-not-tokens_fit.ensures.0 refl)
          (c.if-not-items_fit.ensures.0 refl) (c.if-not-sinks_fit.ensures.0 refl) (change_from gr q.unsent (subst AreAt c.unsent.ensures (c.counts_fit.ensures.fits.0 t))),
      λ fits. c.counts_fit.ensures.fits.1 (subst AreAt (sym c.unsent.ensures) (change_to gr q.unsent fits.unsent)),
    )
