use Rattle.std.proofs.Common.{◌∙◌}
use Rattle.nd_history.specs.Least.{HoldsAt}
use Rattle.nd_history.proofs.AnswersLemmas.{IsSurvey, survey, is_least, answer_called, fault_called, gap}
use Rattle.nd_history.proofs.searches.search_in.Goals as goal

-- what the workers found, in a table with an answer
answered : (g : _) (c : goal.After-drop-works-in-Ok-1 g) → IsSurvey (HoldsAt c.args.timeline.now c.args.condition.now) (g.G.Gate.called c.args.gate.now) c.args.lo c.args.hi c.args.workers c.in_ok-works.works.items c.as_slice-2.result.now
answered g c =
    let at = c.in_ok-positions.ensures in
    survey _ _ _ _ _ _ _ _ _ _ _ at.positions.0 at.positions.1 c.as_slice.ensures.value c.as_slice-2.ensures.value at.may.range at.may.some
    c.in_ok-works.ensures c.in_ok-results.ensures.told c.in_ok-results.ensures.all_in (c.as_slice-2.ensures.len ∙ (c.in_ok-results.ensures.len ∙ c.pieces.ensures))

pub returns-in-Ok-clause-found : goal.returns-in-Ok-clause-found
returns-in-Ok-clause-found g c = is_least c.args.timeline.now c.args.condition.now _ _ _ _ _ _ (answered g c) c.in-Ok.found c.in-Ok.ensures

pub returns-in-Ok-clause-called : goal.returns-in-Ok-clause-called
returns-in-Ok-clause-called g c = answer_called c.args.timeline.now c.args.condition.now _ _ _ _ _ _ (answered g c) c.in-Ok.found c.in-Ok.ensures

-- what the workers found, in a table with a gap
unanswered : (g : _) (c : goal.After-drop-results-in-Err-1 g) → IsSurvey (HoldsAt c.args.timeline.now c.args.condition.now) (g.G.Gate.called c.args.gate.now) c.args.lo c.args.hi c.args.workers c.in_ok-works.works.items c.as_slice-2.result.now
unanswered g c =
    let at = c.in_ok-positions.ensures in
    survey _ _ _ _ _ _ _ _ _ _ _ at.positions.0 at.positions.1 c.as_slice.ensures.value c.as_slice-2.ensures.value at.may.range at.may.some
    c.in_ok-works.ensures c.in_ok-results.ensures.told c.in_ok-results.ensures.all_in (c.as_slice-2.ensures.len ∙ (c.in_ok-results.ensures.len ∙ c.pieces.ensures))

pub returns-in_ok-claims-in-Err-clause-fails : goal.returns-in_ok-claims-in-Err-clause-fails
returns-in_ok-claims-in-Err-clause-fails g c =
    (c.in_ok-positions.ensures.may, gap c.args.timeline.now c.args.condition.now _ _ _ _ _ _ (unanswered g c) _ c.in_ok-claims-in-Err.ensures c.in-Err.piece c.in-Err.ensures)

pub returns-in_ok-claims-in-Err-clause-fault_called : goal.returns-in_ok-claims-in-Err-clause-fault_called
returns-in_ok-claims-in-Err-clause-fault_called g c = fault_called c.args.timeline.now c.args.condition.now _ _ _ _ _ _ (unanswered g c) _ c.in_ok-claims-in-Err.ensures
