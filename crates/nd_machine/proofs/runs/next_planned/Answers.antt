use Rattle.std.proofs.Common.{Option, IfOk, IfSome, subst}
use Rattle.std.specs.Prelude.{◌↔◌, IsNone, option_copied, option_map}
use Rattle.std.proofs.lemmas.Result.{IfOk-weaker}
use Rattle.nd_protocol.specs.State.{ClusterState}
use Rattle.nd_protocol.specs.declared.step.Step.{Step}
use Rattle.nd_steps.specs.declared.record.Record.{Record}
use Rattle.nd_cluster.specs.Records.{IsPlanned}
use Rattle.nd_cluster.specs.Candidates.{candidates_among}
use Rattle.nd_cluster.specs.Choice.{AreRefused, Chooses, candidates_by}
use Rattle.nd_cluster.specs.Order.{IsNext}
use Rattle.nd_machine.specs.Seeds.{IsChosen}
use Rattle.nd_timeline.specs.Timeline.{cluster_of}
use Rattle.nd_machine.proofs.RunLemmas.{by_turn, by_lot}
use Rattle.nd_machine.proofs.runs.next_planned.Goals as goal

-- the step of a record, if there is a record
abbrev step_in : {A : Type 0} → Option (Record A) → Option (Step A)
step_in {A} r = option_map (λ (r : Record A). r.step) r

pub returns-in-None-clause-chosen : goal.returns-in-None-clause-chosen
returns-in-None-clause-chosen g c =
    let s = cluster_of c.args.timeline.now in
    let k = c.cluster-cluster.result.now in
    let only = option_copied c.args.only in
    IfOk-weaker c.first_planned.result (λ (r : Option (Record g.row.A.Denot)). IsNext k c.at-at.result only (step_in r)) (λ (r : Option (Record g.row.A.Denot)). IsChosen s c.args.timeline.now.cursor only c.args.seed (step_in r))
    (λ r h. by_turn s k c.args.timeline.now.cursor c.at-at.result only c.args.seed (step_in r) c.cluster-cluster.ensures.value c.at-at.ensures.value c.in-None.is h)
    c.first_planned.ensures.first

pub returns-in-None-clause-planned : goal.returns-in-None-clause-planned
returns-in-None-clause-planned g c =
    subst (λ (k : ClusterState). IfOk c.first_planned.result (λ (r : Option (Record g.row.A.Denot)). IfSome r (λ r. IsPlanned r k))) c.cluster-cluster.ensures.value c.first_planned.ensures.planned

pub returns-in-None-clause-none : goal.returns-in-None-clause-none
returns-in-None-clause-none g c =
    let only = option_copied c.args.only in
    subst (λ (k : ClusterState). IfOk c.first_planned.result (λ (r : Option (Record g.row.A.Denot)). IsNone r ↔ AreRefused {A = g.row.A.Denot} k (candidates_among k only)))
    c.cluster-cluster.ensures.value c.first_planned.ensures.none

pub returns-in-Some-clause-chosen : goal.returns-in-Some-clause-chosen
returns-in-Some-clause-chosen g c =
    let s = cluster_of c.args.timeline.now in
    let k = c.cluster-cluster.result.now in
    let only = option_copied c.args.only in
    IfOk-weaker c.drawn_planned.result (λ (r : Option (Record g.row.A.Denot)). Chooses k (candidates_by k c.mix.result only) (step_in r)) (λ (r : Option (Record g.row.A.Denot)). IsChosen s c.args.timeline.now.cursor only c.args.seed (step_in r))
    (λ r h. by_lot s k c.args.timeline.now.cursor c.at-at.result only c.args.seed (step_in r) c.cluster-cluster.ensures.value c.at-at.ensures.value c.in-Some.seed c.mix.result c.in-Some.is c.mix.ensures.value h)
    c.drawn_planned.ensures.chosen

pub returns-in-Some-clause-planned : goal.returns-in-Some-clause-planned
returns-in-Some-clause-planned g c =
    subst (λ (k : ClusterState). IfOk c.drawn_planned.result (λ (r : Option (Record g.row.A.Denot)). IfSome r (λ r. IsPlanned r k))) c.cluster-cluster.ensures.value c.drawn_planned.ensures.planned

pub returns-in-Some-clause-none : goal.returns-in-Some-clause-none
returns-in-Some-clause-none g c =
    let only = option_copied c.args.only in
    subst (λ (k : ClusterState). IfOk c.drawn_planned.result (λ (r : Option (Record g.row.A.Denot)). IsNone r ↔ AreRefused {A = g.row.A.Denot} k (candidates_among k only)))
    c.cluster-cluster.ensures.value c.drawn_planned.ensures.none
