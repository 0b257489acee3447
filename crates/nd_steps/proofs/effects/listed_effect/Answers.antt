use Rattle.std.proofs.Common.{ap, subst, ◌∙◌}
use Rattle.std.proofs.lemmas.Result.{IfOk-weaker}
use Rattle.nd_steps.specs.Records.{MakesBy, Sends, Receives}
use Rattle.nd_steps.specs.Effect.{effect_of}
use Rattle.nd_steps.specs.declared.record.Changes.{Changes}
use Rattle.nd_steps.proofs.effects.listed_effect.Goals as goal

pub returns-in-Sent : goal.returns-in-Sent
returns-in-Sent g c = IfOk-weaker c.sent_effect.result _ _ (λ e is t makes.
    let s = c.args.parts.now in
    let sends : Sends s c.in-Sent.p c.in-Sent.part t = subst (λ (m : Changes g.row.A.Denot). MakesBy {A = g.row.A.Denot} s c.args.planned.now.step m t) c.in-Sent.is makes in
    is ∙ ap (effect_of s) sends.1) c.sent_effect.ensures

pub returns-in-Received : goal.returns-in-Received
returns-in-Received g c = IfOk-weaker c.received_effect.result _ _ (λ e is t makes.
    let s = c.args.parts.now in
    let receives : Receives s c.in-Received.from c.in-Received.to c.in-Received.change t = subst (λ (m : Changes g.row.A.Denot). MakesBy {A = g.row.A.Denot} s c.args.planned.now.step m t) c.in-Received.is makes in
    is ∙ ap (effect_of s) receives.1) c.received_effect.ensures
