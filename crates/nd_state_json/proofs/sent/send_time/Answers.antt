use Rattle.std.proofs.Common.{◌∙◌, rules}
use Rattle.std.proofs.lemmas.Result.{on_ok_weaker}
use Rattle.nd_state_json.proofs.Shown.{time-sent}
use Rattle.nd_state_json.proofs.sent.send_time.Goals as goal

pub returns : goal.returns
returns g c =
    on_ok_weaker c.end_seq.result
    (time-sent c.args.time.now c.from.result _ c.counters-counters.result.now _ _ _ _ _ (c.from.ensures ∙ c.epoch.ensures) c.counters-counters.ensures.value (search rules)
    c.in_ok-begin_seq.ensures c.in_ok-u64.ensures c.in_ok-send_counters.ensures) c.end_seq.ensures
