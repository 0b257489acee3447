use Rattle.std.proofs.Common.{◌≡◌, ℤ, FitsSigned, OnOk, to_z, of_z, sym, subst, ◌∙◌, rules}
use Rattle.std.specs.Int.{w128}
use Rattle.std.proofs.lemmas.Int.{to_z-of_z}
use Rattle.nd_processor.specs.State.{ProcessorState, idle}
use Rattle.nd_steps.specs.Changes.{own, FitsIn}
use Rattle.nd_steps.specs.Effect.{lists_of}
use Rattle.nd_steps.specs.Alterations.{beside, altered_at}
use Rattle.std.proofs.lemmas.List.{get_or_default}
use Rattle.nd_steps.proofs.effect.Effect.add.Goals as goal

pub add_at-requires : goal.add_at-requires
add_at-requires g c =
    let change = c.args.change.now in
    let fits : FitsSigned w128 change.n = search rules in
    let here : own c.args.processors.now change ≡ c.index-processors-change.result
    = get_or_default c.args.processors.now change.p idle c.index-processors-change.result c.requires.owner ∙ sym c.index-processors-change.is in
    let whole : change.n ≡ to_z w128 (of_z w128 change.n) = sym (to_z-of_z w128 change.n fits) in
    subst (λ (e : ProcessorState × ℤ). FitsIn e.0 change.slot e.1) (λ i. (here i, whole i)) c.requires.inside

pub returns : goal.returns
returns g c =
    let change = c.args.change.now in
    let fits : FitsSigned w128 change.n = search rules in
    let here : own c.args.processors.now change ≡ c.index-processors-change.result
    = get_or_default c.args.processors.now change.p idle c.index-processors-change.result c.requires.owner ∙ sym c.index-processors-change.is in
    let whole : to_z w128 (of_z w128 change.n) ≡ change.n = to_z-of_z w128 change.n fits in
    subst (λ (e : ProcessorState × ℤ). OnOk c.add_at.result (lists_of c.add_at.new.self ≡ beside (lists_of c.args.self.now) (altered_at e.0 change.p change.slot e.1)))
    (λ i. (sym here i, whole i)) c.add_at.ensures
