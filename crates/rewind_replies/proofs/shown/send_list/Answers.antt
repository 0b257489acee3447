use Rattle.std.proofs.Common.{rules}
use Rattle.std.proofs.lemmas.Result.{on_ok_weaker}
use Rattle.nd_state_json.specs.SentLaws.{sent-list}
use Rattle.rewind_replies.proofs.shown.send_list.Goals as goal

pub returns : goal.returns
returns g c =
    on_ok_weaker c.end_seq.result
    (sent-list (g.T.Shown.shown (g.N.Names.graph c.args.names.now)) c.args.items.now c.loop-item.item-index _ _ _ _ _ (search rules) (search rules) c.loop-item.invariant c.in_ok-begin_seq.ensures) c.end_seq.ensures
