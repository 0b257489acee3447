use Rattle.std.proofs.Common.{◌≡◌, length, ap, ◌∙◌}
use Rattle.nd_steps.specs.Alterations.{longer_rows}
use Rattle.nd_steps.proofs.ExchangedLemmas.{sent_effect_is}
use Rattle.nd_steps.proofs.effects.sent_effect.Goals as goal

pub returns : goal.returns
returns g c =
    let s = c.args.parts.now in
    let queues : c.in_ok-effect-2.field-0.items ≡ longer_rows s.queues c.args.p (length s.queues)
    = c.in_ok-effect-2.ensures ∙ ap (λ m. longer_rows m c.args.p (length m)) c.mesh.ensures in
    (λ i. record (c.new-effect.ensures i) { unsent = c.in_ok-effect.ensures i; queues = queues i })
    ∙ sent_effect_is s c.args.p c.args.part.now c.requires.state.fits c.requires.sends.there c.requires.sends.part
