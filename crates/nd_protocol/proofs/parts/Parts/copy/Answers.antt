use Rattle.std.specs.Prelude.{List, All}
use Rattle.std.proofs.Common.{◌≡◌, ◌∙◌, sym, ap, subst}
use Rattle.nd_graph.specs.Graph.{Dataflow}
use Rattle.nd_delta.specs.Delta.{DeltaValue}
use Rattle.nd_processor.specs.State.{ProcessorState}
use Rattle.nd_view.specs.Kept.{Kept, IsFor}
use Rattle.nd_protocol.specs.Seen.{seen}
use Rattle.nd_protocol.proofs.parts.Parts.copy.Goals as goal

pub invariant_of-result : goal.invariant_of-result
invariant_of-result g c =
    let a = c.self.inside in
    let views : a.views.items ≡ c.in_ok-copied_views.field-0.items = sym (c.in_ok-copied_views.ensures ∙ c.deref-2.ensures.value) in
    subst (λ (k : Dataflow). All (IsFor k) c.in_ok-copied_views.field-0.items) (sym c.in_ok-copy.ensures)
    (subst (λ (vs : List Kept). All (IsFor a.paths) vs) views c.self.invariant)

pub returns : goal.returns
returns g c =
    let a = c.self.inside in
    ap (λ (k : Dataflow). seen k c.in_ok-copied_processors.field-0.items c.in_ok-copied_views.field-0.items c.in_ok-copy-2.field-0) c.in_ok-copy.ensures
    ∙ ap (λ (ps : List ProcessorState). seen a.paths ps c.in_ok-copied_views.field-0.items c.in_ok-copy-2.field-0) (c.in_ok-copied_processors.ensures ∙ c.deref.ensures.value)
    ∙ ap (λ (vs : List Kept). seen a.paths a.processors.items vs c.in_ok-copy-2.field-0) (c.in_ok-copied_views.ensures ∙ c.deref-2.ensures.value)
    ∙ ap (λ (queues : List (List (List DeltaValue))). seen a.paths a.processors.items a.views.items queues) c.in_ok-copy-2.ensures.equal
    ∙ c.self.view_is
