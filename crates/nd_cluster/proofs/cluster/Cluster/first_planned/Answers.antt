use Rattle.std.proofs.Common.{IfSome}
use Rattle.std.specs.Prelude.{◌↔◌, IsNone, option_copied, option_map}
use Rattle.std.proofs.lemmas.Result.{IfOk-weaker}
use Rattle.nd_steps.specs.declared.record.Record.{Record}
use Rattle.nd_cluster.specs.Records.{IsPlanned}
use Rattle.nd_cluster.specs.Candidates.{candidates_among}
use Rattle.nd_cluster.specs.Choice.{AreRefused, Chooses, Finds, candidates_from}
use Rattle.nd_cluster.specs.Order.{IsNext}
use Rattle.nd_cluster.proofs.CandidatesLemmas.{complete_among, complete_from}
use Rattle.nd_cluster.proofs.ChoiceLemmas.{none_exactly}
use Rattle.nd_cluster.proofs.cluster.Cluster.first_planned.Goals as goal

pub returns-clause-chosen : goal.returns-clause-chosen
returns-clause-chosen g c =
    let s = c.args.self.now in
    let all = candidates_from {A = g.row.A.Denot} s c.args.turn (option_copied c.args.only) in
    IfOk-weaker c.first_from.result (Finds s all) (λ found. Chooses s all (option_map (λ (r : Record g.row.A.Denot). r.step) found)) (λ found h. h.0) c.first_from.ensures

pub returns-clause-first : goal.returns-clause-first
returns-clause-first g c =
    let s = c.args.self.now in
    let only = option_copied c.args.only in
    IfOk-weaker c.first_from.result (Finds s (candidates_from s c.args.turn only)) (λ found. IsNext s c.args.turn only (option_map (λ (r : Record g.row.A.Denot). r.step) found))
    (λ found h. (c.candidates_are_in_turn.ensures.first s c.args.turn only (option_map (λ (r : Record g.row.A.Denot). r.step) found)).0 h.0) c.first_from.ensures

pub returns-clause-planned : goal.returns-clause-planned
returns-clause-planned g c =
    let s = c.args.self.now in
    IfOk-weaker c.first_from.result (Finds s (candidates_from s c.args.turn (option_copied c.args.only))) (λ found. IfSome found (λ r. IsPlanned r s)) (λ found h. h.1) c.first_from.ensures

pub returns-clause-complete : goal.returns-clause-complete
returns-clause-complete g c = complete_from {A = g.row.A.Denot} c.args.self.now (option_copied c.args.only) c.args.turn

pub returns-clause-none : goal.returns-clause-none
returns-clause-none g c =
    let s = c.args.self.now in
    let only = option_copied c.args.only in
    let all = candidates_from {A = g.row.A.Denot} s c.args.turn only in
    IfOk-weaker c.first_from.result (Finds s all) (λ found. IsNone found ↔ AreRefused {A = g.row.A.Denot} s (candidates_among s only))
    (λ found h. none_exactly s only all (candidates_among s only) found (complete_from s only c.args.turn) (complete_among s only) h) c.first_from.ensures
