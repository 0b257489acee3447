use Rattle.std.proofs.Common.{◌≡◌, ◌<◌, ℤ, length, vec_len, FitsSigned, to_z, of_z, sym, ap, subst, ◌∙◌, rules}
use Rattle.std.specs.Int.{w128}
use Rattle.std.proofs.lemmas.Int.{to_z-of_z}
use Rattle.std.proofs.lemmas.Result.{IfErr-weaker}
use Rattle.nd_processor.specs.State.{ProcessorState}
use Rattle.nd_protocol.specs.State.{ClusterState, processor}
use Rattle.nd_steps.specs.Changes.{at_key, FitsIn}
use Rattle.nd_steps.specs.Slots.{stands}
use Rattle.nd_steps.specs.Borrowed.{slot_of}
use Rattle.nd_steps.proofs.SentLemmas.{processor_seen, made_seen, unmade_seen}
use Rattle.nd_steps.proofs.run.add.Goals as goal

-- the number as it is passed on
kept : (n : ℤ) → FitsSigned w128 n → to_z w128 (of_z w128 n) ≡ n
kept n fits = to_z-of_z w128 n fits

pub index_mut-processor-requires : goal.index_mut-processor-requires
index_mut-processor-requires g c =
    let a = c.parts.inside in
    let p = c.args.p in
    let counted : length a.processors.items ≡ vec_len a.processors = search rules in
    subst (λ n. p < n) counted (subst (λ (t : ClusterState). p < length t.processors) (sym c.parts.view_is) c.requires.owner)

pub make_in-requires : goal.make_in-requires
make_in-requires g c =
    let a = c.parts.inside in
    let d = at_key c.args.p (slot_of c.args.key.now) c.args.n in
    let lt : d.p < length a.processors.items = subst (λ (t : ClusterState). d.p < length t.processors) (sym c.parts.view_is) c.requires.owner in
    let is = processor_seen c.args.parts.now a.paths a.processors.items a.views.items a.mesh c.parts.view_is d.p c.index_mut-processor.result.now lt c.index_mut-processor.ensures.value in
    subst (λ (q : ProcessorState). FitsIn q d.slot (to_z w128 (of_z w128 d.n))) (sym is) (subst (FitsIn (processor c.args.parts.now d.p) d.slot) (sym (kept d.n (search rules))) c.requires.inside)

pub returns-clause-ok : goal.returns-clause-ok
returns-clause-ok g c =
    let a = c.parts.inside in
    let d = at_key c.args.p (slot_of c.args.key.now) c.args.n in
    made_seen c.make_in.result c.args.parts.now a.paths a.processors.items a.views.items a.mesh c.parts.view_is d c.index_mut-processor.result.now c.make_in.new.processor (to_z w128 (of_z w128 d.n)) (kept d.n (search rules)) c.requires.owner
    c.index_mut-processor.ensures.value c.make_in.ensures.ok

pub returns-clause-err : goal.returns-clause-err
returns-clause-err g c =
    let a = c.parts.inside in
    unmade_seen c.make_in.result c.args.parts.now a.paths a.processors.items a.views.items a.mesh c.parts.view_is c.args.p c.index_mut-processor.result.now c.make_in.new.processor
    c.index_mut-processor.ensures.value c.make_in.ensures.err

pub returns-clause-absent : goal.returns-clause-absent
returns-clause-absent g c =
    let a = c.parts.inside in
    let t = c.args.parts.now in
    let d = at_key c.args.p (slot_of c.args.key.now) c.args.n in
    let q = c.index_mut-processor.result.now in
    let lt : d.p < length a.processors.items = subst (λ (t : ClusterState). d.p < length t.processors) (sym c.parts.view_is) c.requires.owner in
    let is : q ≡ processor t d.p = processor_seen t a.paths a.processors.items a.views.items a.mesh c.parts.view_is d.p q lt c.index_mut-processor.ensures.value in
    IfErr-weaker c.make_in.result _ _ (λ _ e. sym (ap (λ r. stands r d.slot) is) ∙ e) c.make_in.ensures.absent
