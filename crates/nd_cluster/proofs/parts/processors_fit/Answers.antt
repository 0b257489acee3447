use Rattle.std.proofs.Common.{refl, arith}
use Rattle.nd_protocol.specs.Fitting.{ProcessorFits, ProcessorIsWithin}
use Rattle.nd_cluster.proofs.PartsLemmas.{all_more}
use Rattle.nd_cluster.proofs.parts.processors_fit.Goals as goal

pub loop-processor-preserved : goal.loop-processor-preserved
loop-processor-preserved g c = record {
  fits = all_more (ProcessorFits c.args.graph.now) c.args.processors.now c.loop-processor.processor-index c.processor-item.result c.loop-processor-test.true c.processor-item.is
      (c.if-not-processor_fits.ensures.0 refl) c.loop-processor.invariant.fits;
  within = all_more ProcessorIsWithin c.args.processors.now c.loop-processor.processor-index c.processor-item.result c.loop-processor-test.true c.processor-item.is
      c.is_within.ensures c.loop-processor.invariant.within;
}

pub returns-clause-within : goal.returns-clause-within
returns-clause-within g c = λ _ k d lt. c.loop-processor.invariant.within k d (omega (arith, lt, c.loop-processor-test.false))
