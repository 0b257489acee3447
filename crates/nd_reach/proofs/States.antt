-- The forms of states tell them apart.
use Rattle.std.proofs.Common.{◌≡◌, List, [], ◌++◌, length, sym, subst, ◌∙◌}
use Rattle.std.specs.Prelude.{All}
use Rattle.std.specs.List.{flat_map}
use Rattle.std.proofs.lemmas.List.{append-nil}
use Rattle.nd_delta.specs.Delta.{DeltaValue}
use Rattle.nd_protocol.specs.Fitting.{ProcessorFits}
use Rattle.nd_reach.specs.Forms.{form, processor_form, change_form, row_form, FormsDetermineStates}
use Rattle.nd_reach.proofs.Lists.{told_each, told_all}
use Rattle.nd_reach.proofs.Parts.{tells_change, told_processor}
use Rattle.nd_reach.proofs.Rows.{told_row}

pub forms_determine : FormsDetermineStates
unfolding form
forms_determine s t is_s is_t graph n e =
    let fits = subst (λ g. All (ProcessorFits g) t.processors) (sym graph) is_t.fits.processors in
    let rows = subst (λ k. All (λ (row : List (List DeltaValue)). length row ≡ k) t.queues) (sym n) is_t.fits.each_receiver in
    let processors = told_each (ProcessorFits s.graph) processor_form (λ p q r u i j h. told_processor p q r u (i.vertices ∙ sym j.vertices) h)
    s.processors t.processors (flat_map change_form s.views ++ flat_map row_form s.queues) (flat_map change_form t.views ++ flat_map row_form t.queues)
    is_s.fits.processors fits n e in
    let views = told_all tells_change s.views t.views (flat_map row_form s.queues) (flat_map row_form t.queues)
    (is_s.fits.each_view ∙ n ∙ sym is_t.fits.each_view) processors.1 in
    let queues = told_each (λ (row : List (List DeltaValue)). length row ≡ length s.processors) row_form (λ x y r u i j h. told_row x y r u (i ∙ sym j) h)
    s.queues t.queues [] [] is_s.fits.each_receiver rows (is_s.fits.each_sender ∙ n ∙ sym is_t.fits.each_sender)
    (append-nil (flat_map row_form s.queues) ∙ views.1 ∙ sym (append-nil (flat_map row_form t.queues))) in
    λ i. record { graph = graph i; processors = processors.0 i; views = views.0 i; queues = queues.0 i }
