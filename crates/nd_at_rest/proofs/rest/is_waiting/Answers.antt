use Rattle.nd_at_rest.proofs.Refused.{enabled_goes, refused_goes}
use Rattle.nd_at_rest.proofs.rest.is_waiting.Goals as goal

pub returns-in_default : goal.returns-in_default
returns-in_default g c = (λ e. absurd (cc (e)), λ waits. absurd (enabled_goes c.args.cluster.now c.args.step.now c.in_default.ensures.enabled waits))

pub returns-in_default-refusal : goal.returns-in_default-refusal
returns-in_default-refusal g c =
    let refused = c.in-Err.ensures.refused c.in_default-refusal.not-Memory in
    (λ e. absurd (cc (e)), λ waits. absurd (refused_goes c.args.cluster.now c.args.step.now c.in-Err.refusal refused c.in_default-refusal.not-NotYet c.in_default-refusal.not-NotNotified waits))
