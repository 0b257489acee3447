use Rattle.std.proofs.Common.{List, ◌++◌, subst}
use Rattle.nd_protocol.specs.declared.step.Step.{Step}
use Rattle.nd_steps.specs.declared.record.Record.{Record}
use Rattle.nd_cluster.specs.Candidates.{candidates}
use Rattle.nd_cluster.specs.Moves.{AddsPlanned, feeds_if, releases_if, tries}
use Rattle.nd_cluster.proofs.MovesLemmas.{adds_both, all_planned}
use Rattle.nd_cluster.proofs.cluster.Cluster.moves.Goals as goal

pub returns : goal.returns
returns g c =
    let s = c.args.self.now in
    let none : List (Record g.row.A.Denot) = c.new-moves.result.items in
    let first : List (Record g.row.A.Denot) = c.add_candidates.new.moves.items in
    let second : List (Record g.row.A.Denot) = c.add_feeds.new.moves.items in
    let third : List (Record g.row.A.Denot) = c.add_releases.new.moves.items in
    let fed : List (Step g.row.A.Denot) = feeds_if c.args.allowed s in
    let released : List (Step g.row.A.Denot) = releases_if c.args.allowed s in
    let users : AddsPlanned s (fed ++ released) first third = adds_both s first second third fed released c.in_ok-add_feeds.ensures c.in_ok-add_releases.ensures in
    let all : AddsPlanned s (tries c.args.allowed s) none third = adds_both s none first third (candidates s) (fed ++ released) c.in_ok-add_candidates.ensures users in
    all_planned s (tries c.args.allowed s) third (subst (λ (rs : List (Record g.row.A.Denot)). AddsPlanned s (tries c.args.allowed s) rs third) c.new-moves.ensures.items all)
