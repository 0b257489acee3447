use Rattle.std.proofs.Common.{ap, map, rules}
use Rattle.std.proofs.lemmas.List.{drop_all}
use Rattle.nd_state_json.specs.SentLaws.{sent-all}
use Rattle.nd_state_json.specs.StateText.{natural}
use Rattle.nd_state_json.proofs.sent.send_counters.Goals as goal

pub returns : goal.returns
returns g c = sent-all _ (map natural c.args.counters.now) _ _ (ap (map natural) (drop_all c.loop-counter.counter-index c.args.counters.now (search rules))) c.loop-counter.invariant
