use Rattle.nd_reach.proofs.States.{forms_determine}
use Rattle.nd_reach.proofs.laws.forms_determine_states.Goals as goal

pub returns : goal.returns
returns c = forms_determine
