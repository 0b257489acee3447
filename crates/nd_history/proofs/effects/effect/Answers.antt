use Rattle.std.proofs.Common.{◌≡◌, ◌+◌, ◌-◌, Some, sym, ap, ◌∙◌, arith}
use Rattle.nd_steps.specs.Effect.{lists_of, altered_count}
use Rattle.nd_history.proofs.EffectsLemmas.{effect_there, count_there}
use Rattle.nd_history.proofs.effects.effect.Goals as goal

pub returns-clause-effect : goal.returns-clause-effect
returns-clause-effect g c =
    let m = c.args.timeline.now in
    let i = c.args.i in
    let w = c.in_ok-walk.walk in
    let r = c.in-Some-record.record.now in
    let e = c.in_ok-changed.changed in
    let next : i - 1 + 1 ≡ i = omega arith in
    record {
      step = c.in-Some.ensures.some ∙ ap Some (sym c.in_ok-step.ensures);
      lists = effect_there m i (i - 1) w.at r w.cluster next c.in-Some-record.ensures.leads c.in_ok-walk.ensures.on.cluster c.in_ok-walk.ensures.there (lists_of e) c.in_ok-changed.ensures.effect;
      count = count_there m i (i - 1) w.at r w.cluster next c.in-Some-record.ensures.leads c.in_ok-walk.ensures.on.cluster c.in_ok-walk.ensures.there (altered_count (lists_of e)) c.in_ok-changed.ensures.count;
    }
