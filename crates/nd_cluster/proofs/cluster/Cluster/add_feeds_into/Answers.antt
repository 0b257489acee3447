use Rattle.std.proofs.Common.{List, [], ◌∷◌, subst}
use Rattle.std.proofs.lemmas.Result.{on_ok_weaker}
use Rattle.nd_protocol.specs.declared.step.Step.{Step}
use Rattle.nd_steps.specs.declared.record.Record.{Record}
use Rattle.nd_cluster.specs.Moves.{AddsPlanned}
use Rattle.nd_cluster.proofs.MovesLemmas.{adds_both}
use Rattle.nd_cluster.proofs.cluster.Cluster.add_feeds_into.Goals as goal

pub returns : goal.returns
returns g c =
    let s = c.args.self.now in
    let old : List (Record g.row.A.Denot) = c.args.moves.now.items in
    let mid : List (Record g.row.A.Denot) = c.add_move.new.moves.items in
    let new : List (Record g.row.A.Denot) = c.add_move-2.new.moves.items in
    let to_next : Step g.row.A.Denot = c.feed_of_nothing.result in
    let to_close : Step g.row.A.Denot = c.feed_of_nothing-2.result in
    on_ok_weaker c.add_move-2.result
    (λ (later : AddsPlanned s (to_close ∷ []) mid new). subst (λ (xs : List (Step g.row.A.Denot)). AddsPlanned s xs old new) (λ i. c.feed_of_nothing.ensures i ∷ c.feed_of_nothing-2.ensures i ∷ [])
    (adds_both s old mid new (to_next ∷ []) (to_close ∷ []) c.in_ok-add_move.ensures later))
    c.add_move-2.ensures
