use Rattle.nd_state_json.proofs.StatesTold.{values_determine}
use Rattle.nd_state_json.proofs.laws.values_determine_states.Goals as goal

pub returns : goal.returns
returns c = values_determine
