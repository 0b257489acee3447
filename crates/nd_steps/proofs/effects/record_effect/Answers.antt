use Rattle.std.proofs.Common.{ap, ◌∙◌}
use Rattle.std.proofs.lemmas.Result.{IfOk-weaker}
use Rattle.nd_steps.specs.Effect.{altered_count}
use Rattle.nd_steps.proofs.CountLemmas.{as_many_as_changed}
use Rattle.nd_steps.proofs.effects.record_effect.Goals as goal

pub returns-clause-count : goal.returns-clause-count
returns-clause-count g c = IfOk-weaker c.listed_effect.result _ _ (λ e is t makes. ap altered_count (is t makes) ∙ as_many_as_changed c.args.parts.now t) c.listed_effect.ensures
