use Rattle.std.proofs.Common.{◌≡◌, [], ◌∷◌, ◌++◌, map, ap, ◌∙◌}
use Rattle.nd_delta.specs.Delta.{entries}
use Rattle.nd_protocol.specs.State.{view}
use Rattle.nd_steps.specs.Alterations.{received_row, shorter_row}
use Rattle.nd_steps.proofs.ExchangedLemmas.{received_effect_is}
use Rattle.nd_steps.proofs.effects.received_effect.Goals as goal

pub returns : goal.returns
returns g c =
    let s = c.args.parts.now in
    let to = c.args.to in
    let views : c.in_ok-effect.field-0.items ≡ map (received_row to (view s to)) (entries c.args.change.now)
    = c.in_ok-effect.ensures ∙ ap (λ v. map (received_row to v) (entries c.args.change.now)) c.view.ensures.map in
    let queues : c.push.new.self.items ≡ shorter_row s.queues c.args.from to ∷ []
    = c.in_ok-push.ensures.items ∙ (λ i. (c.new-effect.ensures i).queues ++ c.shorter.ensures i ∷ []) ∙ ap (λ m. shorter_row m c.args.from to ∷ []) c.mesh.ensures in
    (λ i. record (c.new-effect.ensures i) { views = views i; queues = queues i })
    ∙ received_effect_is s c.args.from to c.args.change.now c.requires.state.fits c.requires.receives.from_there c.requires.receives.to_there c.requires.receives.front
