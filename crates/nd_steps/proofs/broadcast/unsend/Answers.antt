use Rattle.std.proofs.Common.{◌≡◌, ◌<◌, List, length, get_or, set, vec_len, refl, sym, ap, subst, ◌∙◌, rules}
use Rattle.std.proofs.lemmas.List.{set-get_or}
use Rattle.nd_delta.specs.Delta.{plus, IsApart}
use Rattle.nd_processor.specs.State.{ProcessorState, idle}
use Rattle.nd_mesh.specs.Mesh.{unpushed}
use Rattle.nd_protocol.specs.State.{ClusterState, processor}
use Rattle.nd_protocol.specs.Seen.{seen}
use Rattle.nd_steps.proofs.Ends.{IsNewest, newest_there}
use Rattle.nd_steps.proofs.SentLemmas.{on_err, processor_seen, sender_stored, row_there, is_apart, is_newest, sent_back}
use Rattle.nd_steps.proofs.broadcast.unsend.Goals as goal

pub index_mut-processor-requires : goal.index_mut-processor-requires
index_mut-processor-requires g c =
    let a = c.parts.inside in
    let h = c.requires in
    let counted : length a.processors.items ≡ vec_len a.processors = search rules in
    subst (λ n. c.args.p < n) counted (sender_stored c.args.parts.now a.paths a.processors.items a.views.items a.mesh c.parts.view_is h.0 c.args.p c.args.part.now h.1 h.2)

pub put_part-requires : goal.put_part-requires
put_part-requires g c =
    let a = c.parts.inside in
    let h = c.requires in
    let lt = sender_stored c.args.parts.now a.paths a.processors.items a.views.items a.mesh c.parts.view_is h.0 c.args.p c.args.part.now h.1 h.2 in
    let is = processor_seen c.args.parts.now a.paths a.processors.items a.views.items a.mesh c.parts.view_is c.args.p c.index_mut-processor.result.now lt c.index_mut-processor.ensures.value in
    subst (λ (q : ProcessorState). IsApart c.args.part.now q.unsent) (sym is) (is_apart h.0 c.args.parts.now c.args.p c.args.part.now h.1 h.2)

pub returns-in_err-put_part-clause-err : goal.returns-in_err-put_part-clause-err
returns-in_err-put_part-clause-err g c =
    let a = c.parts.inside in
    let p = c.args.p in
    let h = c.requires in
    let lt = sender_stored c.args.parts.now a.paths a.processors.items a.views.items a.mesh c.parts.view_is h.0 p c.args.part.now h.1 h.2 in
    let is : c.index_mut-processor.result.now ≡ get_or a.processors.items p idle
    = processor_seen c.args.parts.now a.paths a.processors.items a.views.items a.mesh c.parts.view_is p c.index_mut-processor.result.now lt c.index_mut-processor.ensures.value
    ∙ ap (λ (t : ClusterState). processor t p) (sym c.parts.view_is) in
    on_err c.from_residual.result (
    (λ i. seen a.paths (set a.processors.items p ((c.in_err-put_part.ensures.err ∙ is) i)) a.views.items a.mesh)
    ∙ ap (λ (ps : List ProcessorState). seen a.paths ps a.views.items a.mesh) (set-get_or a.processors.items p idle) ∙ c.parts.view_is
    )

pub unpush_all-requires : goal.unpush_all-requires
unpush_all-requires g c =
    let h = c.requires in
    subst (λ (t : ClusterState). c.args.p < length t.queues) (sym c.parts.view_is) (row_there h.0 c.args.parts.now c.args.p c.args.part.now h.1 h.2)

pub returns-in_default-clause-ok : goal.returns-in_default-clause-ok
returns-in_default-clause-ok g c =
    let h = c.requires in
    let newest : IsNewest c.parts.inside.mesh c.args.p c.args.part.now
    = subst (λ (t : ClusterState). IsNewest t.queues c.args.p c.args.part.now) (sym c.parts.view_is) (is_newest h.0 c.args.parts.now c.args.p c.args.part.now h.1 h.2) in
    let lt : c.args.p < length c.parts.inside.mesh
    = subst (λ (t : ClusterState). c.args.p < length t.queues) (sym c.parts.view_is) (row_there h.0 c.args.parts.now c.args.p c.args.part.now h.1 h.2) in
    absurd (newest_there c.parts.inside.mesh c.args.p c.args.part.now lt newest (c.in_default.ensures.empty.0 refl))

pub returns-clause-ok : goal.returns-clause-ok
returns-clause-ok g c = λ s state sends.
    let a = c.parts.inside in
    let t = c.args.parts.now in
    let p = c.args.p in
    let d = c.args.part.now in
    let q = c.index_mut-processor.result.now in
    let lt = sender_stored t a.paths a.processors.items a.views.items a.mesh c.parts.view_is s p d state sends in
    let is : q ≡ processor t p = processor_seen t a.paths a.processors.items a.views.items a.mesh c.parts.view_is p q lt c.index_mut-processor.ensures.value in
    (λ i. seen a.paths (set a.processors.items p (c.in_ok-put_part.ensures.ok i)) a.views.items (c.in-Ok.ensures.ok i))
    ∙ (λ i. record (c.parts.view_is i) { processors = set (c.parts.view_is i).processors p (record (is i) { unsent = plus (is i).unsent d }); queues = unpushed (c.parts.view_is i).queues p })
    ∙ sent_back s t p d state sends
