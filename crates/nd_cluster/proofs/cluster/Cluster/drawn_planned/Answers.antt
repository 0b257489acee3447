use Rattle.std.proofs.Common.{◌≡◌, ◌%◌, ◌∙◌, List, length, IfSome, subst}
use Rattle.std.specs.Prelude.{◌↔◌, IsNone, option_copied, option_map}
use Rattle.std.proofs.lemmas.Result.{IfOk-weaker}
use Rattle.nd_protocol.specs.declared.step.Step.{Step}
use Rattle.nd_steps.specs.declared.record.Record.{Record}
use Rattle.nd_cluster.specs.Records.{IsPlanned}
use Rattle.nd_cluster.specs.Candidates.{candidates_among}
use Rattle.nd_cluster.specs.Choice.{AreRefused, Chooses, Finds, candidates_by, turned_by}
use Rattle.nd_cluster.proofs.CandidatesLemmas.{complete_among}
use Rattle.nd_cluster.proofs.ChoiceLemmas.{complete_turned, none_exactly}
use Rattle.nd_cluster.proofs.cluster.Cluster.drawn_planned.Goals as goal

pub returns-clause-chosen : goal.returns-clause-chosen
returns-clause-chosen g c =
    let s = c.args.self.now in
    let only = option_copied c.args.only in
    let steps : List (Step g.row.A.Denot) = c.deref.result.now in
    let same : steps ≡ candidates_among s only = c.deref.ensures.value ∙ c.in-Ok.ensures.all in
    IfOk-weaker c.first_by_lot.result (Finds s (turned_by c.args.lot steps)) (λ found. Chooses s (candidates_by s c.args.lot only) (option_map (λ (r : Record g.row.A.Denot). r.step) found))
    (λ found h. subst (λ (xs : List (Step g.row.A.Denot)). Chooses s (turned_by c.args.lot xs) (option_map (λ (r : Record g.row.A.Denot). r.step) found)) same h.0) c.first_by_lot.ensures

pub returns-clause-planned : goal.returns-clause-planned
returns-clause-planned g c =
    let s = c.args.self.now in
    let steps : List (Step g.row.A.Denot) = c.deref.result.now in
    IfOk-weaker c.first_by_lot.result (Finds s (turned_by c.args.lot steps)) (λ found. IfSome found (λ r. IsPlanned r s)) (λ found h. h.1) c.first_by_lot.ensures

pub returns-clause-none : goal.returns-clause-none
returns-clause-none g c =
    let s = c.args.self.now in
    let only = option_copied c.args.only in
    let steps : List (Step g.row.A.Denot) = c.deref.result.now in
    let same : steps ≡ candidates_among s only = c.deref.ensures.value ∙ c.in-Ok.ensures.all in
    let all : List (Step g.row.A.Denot) = candidates_among s only in
    IfOk-weaker c.first_by_lot.result (Finds s (turned_by c.args.lot steps)) (λ found. IsNone found ↔ AreRefused {A = g.row.A.Denot} s all)
    (λ found h.
    none_exactly s only (turned_by c.args.lot all) all found (complete_turned s only (c.args.lot % length all) all (complete_among s only)) (complete_among s only)
    (subst (λ (xs : List (Step g.row.A.Denot)). Finds s (turned_by c.args.lot xs) found) same h)) c.first_by_lot.ensures
