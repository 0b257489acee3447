use Rattle.nd_protocol.proofs.Bounds.{truth_small}
use Rattle.nd_protocol.proofs.laws.truth_is_small.Goals as goal

pub returns : goal.returns
returns c = truth_small
