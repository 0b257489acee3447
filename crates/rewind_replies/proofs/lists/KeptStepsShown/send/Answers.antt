use Rattle.std.proofs.Common.{◌≡◌, get_or, rules, arith, sym}
use Rattle.std.proofs.lemmas.Option.{get_or_from_slice_get}
use Rattle.std.proofs.lemmas.Result.{on_ok_weaker}
use Rattle.nd_state_json.specs.SentLaws.{sent-more, sent-list}
use Rattle.nd_state_json.specs.Objects.{object_of}
use Rattle.rewind_replies.proofs.lists.KeptStepsShown.send.Goals as goal

pub loop-i-preserved : goal.loop-i-preserved
loop-i-preserved g c =
    let object = object_of (g.N.Names.graph c.args.names.now) in
    let steps = c.args.self.now.0.now.kept in
    let i = c.loop-i.i in
    let step = c.in-Some.step.now in
    let is : get_or steps i step ≡ step = get_or_from_slice_get steps i step step c.in-Some.ensures.some in
    sent-more object steps i step _ _ _ _ (omega (arith, c.loop-i-test.true, c.kept-i-end.ensures)) (sym is) c.loop-i.invariant c.in_ok-send.ensures

pub returns : goal.returns
returns g c =
    on_ok_weaker c.end_seq.result
    (sent-list (object_of (g.N.Names.graph c.args.names.now)) c.args.self.now.0.now.kept c.loop-i.i _ _ _ _ _ (omega (arith, c.loop-i-test.false, c.kept-i-end.ensures)) (search rules)
    c.loop-i.invariant c.in_ok-begin_seq.ensures) c.end_seq.ensures
