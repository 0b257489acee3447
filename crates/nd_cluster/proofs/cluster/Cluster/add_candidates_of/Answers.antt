use Rattle.std.proofs.Common.{◌≡◌, List, [], ◌∷◌, sym, subst, ◌∙◌}
use Rattle.nd_protocol.specs.declared.step.Step.{Step}
use Rattle.nd_steps.specs.declared.record.Record.{Record}
use Rattle.nd_cluster.specs.Candidates.{candidates_of}
use Rattle.nd_cluster.specs.Moves.{AddsPlanned}
use Rattle.nd_cluster.proofs.MovesLemmas.{adds_none, adds_both}
use Rattle.nd_cluster.proofs.cluster.Cluster.add_candidates_of.Goals as goal

pub loop-step-init : goal.loop-step-init
loop-step-init g c = λ new rest.
    let same : c.into_iter-step-iterator.result ≡ candidates_of {A = g.row.A.Denot} c.args.self.now c.args.p = c.into_iter-step-iterator.ensures.into_iter_gives ∙ c.candidates_of-step-items.ensures in
    subst (λ (xs : List (Step g.row.A.Denot)). AddsPlanned c.args.self.now xs c.args.moves.now.items new) same rest

pub loop-step-preserved : goal.loop-step-preserved
loop-step-preserved g c = λ new rest.
    let s = c.args.self.now in
    let here : List (Record g.row.A.Denot) = c.loop-step.moves.items in
    c.loop-step.invariant new
    (subst (λ (xs : List (Step g.row.A.Denot)). AddsPlanned s xs here new) (sym c.in-Some.ensures.steps)
    (adds_both s here c.add_move.new.moves.items new (c.in-Some.step ∷ []) c.next.new.self c.in_ok-add_move.ensures rest))

pub returns : goal.returns
returns g c =
    let s = c.args.self.now in
    let here : List (Record g.row.A.Denot) = c.loop-step.moves.items in
    c.loop-step.invariant here (subst (λ (xs : List (Step g.row.A.Denot)). AddsPlanned s xs here here) (sym c.in-None.ensures.steps.0) (adds_none s here))
