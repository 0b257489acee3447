use Rattle.std.proofs.Common.{map, w64, OnOk, rules, subst, ◌∙◌}
use Rattle.std.proofs.lemmas.Int.{to_z-of_z}
use Rattle.serde_json.specs.Data.{Data}
use Rattle.serde_json.specs.Events.{SendsValue}
use Rattle.nd_state_json.specs.StateText.{row, whole, point_data}
use Rattle.rewind_replies.specs.Reasons.{held_data, reason_members, unheard_data}
use Rattle.rewind_replies.proofs.reasons.ReasonShown.send.Goals as goal

pub returns : goal.returns
returns g c =
    let graph = g.N.Names.graph c.args.names.now in
    let view = to_z-of_z w64 c.view.result (search rules) ∙ c.view.ensures in
    subst (λ (d : Data). OnOk c.send.result (SendsValue d (g.S.Serializer.written c.args.out.now) (g.S.Serializer.written c.send.new.out)))
    (λ i. reason_members (row (map (held_data graph (c.point-point.ensures i).location) (c.held.ensures i))) (point_data graph (c.point-point.ensures i))
    (row (map unheard_data (c.unheard-unheard.ensures i))) (whole (view i)))
    c.send.ensures
