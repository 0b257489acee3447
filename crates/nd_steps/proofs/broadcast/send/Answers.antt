use Rattle.std.proofs.Common.{◌<◌, length, sym, subst}
use Rattle.nd_delta.specs.Delta.{IsPartOf}
use Rattle.nd_processor.specs.State.{ProcessorState}
use Rattle.nd_protocol.specs.State.{ClusterState}
use Rattle.nd_steps.proofs.SentLemmas.{processor_seen, sent_seen}
use Rattle.nd_steps.proofs.broadcast.send.Goals as goal

pub take_part-requires : goal.take_part-requires
take_part-requires g c =
    let a = c.parts.inside in
    let t = c.args.parts.now in
    let lt : c.args.p < length a.processors.items = subst (λ (s : ClusterState). c.args.p < length s.processors) (sym c.parts.view_is) c.requires.sends.there in
    let is = processor_seen t a.paths a.processors.items a.views.items a.mesh c.parts.view_is c.args.p c.index_mut-processor.result.now lt c.index_mut-processor.ensures.value in
    subst (λ (q : ProcessorState). IsPartOf c.args.part.now q.unsent) (sym is) c.requires.sends.part

pub returns-clause-ok : goal.returns-clause-ok
returns-clause-ok g c =
    let a = c.parts.inside in
    sent_seen c.args.parts.now a.paths a.processors.items a.views.items a.mesh c.parts.view_is c.args.p c.args.part.now c.index_mut-processor.result.now c.take_part.new.self
    c.requires.sends.there c.index_mut-processor.ensures.value c.take_part.ensures.taken _ c.in-Ok.ensures.ok
