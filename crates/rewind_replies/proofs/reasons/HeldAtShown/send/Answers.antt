use Rattle.std.proofs.Common.{get_or, pos, rules}
use Rattle.std.proofs.lemmas.List.{get_or_default}
use Rattle.std.proofs.lemmas.Result.{on_ok_weaker}
use Rattle.nd_state_json.specs.SentLaws.{sent-more, sent-list}
use Rattle.nd_why.specs.declared.answer.Held.TheVariants.{Records}
use Rattle.rewind_replies.specs.Reasons.{held_data}
use Rattle.rewind_replies.proofs.reasons.HeldAtShown.send.Goals as goal

pub loop-held-preserved : goal.loop-held-preserved
loop-held-preserved g c =
    let all = c.args.self.now.held.now in
    let i = c.loop-held.held-index in
    let one = get_or all i (Records 0 (pos 0) 0) in
    sent-more (held_data (g.N.Names.graph c.args.names.now) c.args.self.now.point.now.location) all i one _ _ _ _ c.loop-held-test.true (get_or_default all i (Records 0 (pos 0) 0) one c.loop-held-test.true)
    c.loop-held.invariant c.in_ok-send_held.ensures

pub returns : goal.returns
returns g c =
    on_ok_weaker c.end_seq.result
    (sent-list (held_data (g.N.Names.graph c.args.names.now) c.args.self.now.point.now.location) c.args.self.now.held.now c.loop-held.held-index _ _ _ _ _ (search rules) (search rules)
    c.loop-held.invariant c.in_ok-begin_seq.ensures) c.end_seq.ensures
