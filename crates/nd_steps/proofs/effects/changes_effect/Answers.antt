use Rattle.std.proofs.Common.{◌≤◌, List, length, sym, subst, ◌∙◌}
use Rattle.nd_processor.specs.State.{ProcessorState}
use Rattle.nd_protocol.specs.State.{ClusterState}
use Rattle.nd_steps.specs.Integers.{changed}
use Rattle.nd_steps.specs.Changes.{Fits}
use Rattle.nd_steps.specs.Plans.{Each}
use Rattle.nd_steps.specs.Alterations.{only, beside, altered_by}
use Rattle.nd_steps.specs.declared.change.Change.{Change}
use Rattle.nd_steps.proofs.AlterationsLemmas.{can_be_made, effect_is}
use Rattle.nd_steps.proofs.effects.changes_effect.Goals as goal

pub add_all-requires : goal.add_all-requires
add_all-requires g c =
    let run = c.requires.1 in
    subst (λ (e : List ProcessorState × List Change). Each (Fits (only e.0)) e.1)
    (λ i. (sym c.processors.ensures i, sym c.deref.ensures.value i))
    (can_be_made c.args.parts.now c.requires.0 c.args.changes.now c.in_ok-changes.changes.items run.runs run.exact c.in_ok-changes.ensures.same c.in_ok-changes.ensures.order)

pub returns : goal.returns
returns g c = λ t run.
    let first = c.requires.1 in
    let s = c.args.parts.now in
    let exact : length c.args.changes.now ≤ changed s t = subst (λ (u : ClusterState). length c.args.changes.now ≤ changed s u) (sym first.runs.1 ∙ run.1) first.exact in
    c.in_ok-add_all.ensures
    ∙ (λ i. beside (c.new-effect.ensures i) (altered_by (c.processors.ensures i) (c.deref.ensures.value i)))
    ∙ effect_is s t c.args.changes.now c.in_ok-changes.changes.items run exact c.in_ok-changes.ensures.same c.in_ok-changes.ensures.order
