use Rattle.std.proofs.Common.{ap, sym, subst, ◌∙◌, arith}
use Rattle.std.proofs.lemmas.Result.{IfOk-weaker}
use Rattle.nd_protocol.specs.Steps.{stepped}
use Rattle.nd_steps.specs.Integers.{changed}
use Rattle.nd_steps.specs.Records.{Makes}
use Rattle.nd_steps.specs.Effect.{effect_of, MakesExactly}
use Rattle.nd_cluster.proofs.cluster.Cluster.effect.Goals as goal

pub record_effect-requires-clause-makes : goal.record_effect-requires-clause-makes
record_effect-requires-clause-makes g c =
    let s = c.args.self.now in
    let r = c.args.planned.now in
    (stepped s r.step, subst (λ u. MakesExactly u r (stepped s r.step)) (sym c.self.view_is) (record { makes = c.requires.makes; exact = omega (arith, c.requires.small) }))

pub returns-clause-effect : goal.returns-clause-effect
returns-clause-effect g c = IfOk-weaker c.record_effect.result _ _ (λ e is.
    let s = c.args.self.now in
    let r = c.args.planned.now in
    is (stepped s r.step) (subst (λ u. Makes u r (stepped s r.step)) (sym c.self.view_is) c.requires.makes)
    ∙ ap (λ u. effect_of u (stepped s r.step)) c.self.view_is) c.record_effect.ensures.effect

pub returns-clause-count : goal.returns-clause-count
returns-clause-count g c = IfOk-weaker c.record_effect.result _ _ (λ e is.
    let s = c.args.self.now in
    let r = c.args.planned.now in
    is (stepped s r.step) (subst (λ u. Makes u r (stepped s r.step)) (sym c.self.view_is) c.requires.makes)
    ∙ ap (λ u. changed u (stepped s r.step)) c.self.view_is) c.record_effect.ensures.count
