use Rattle.nd_rest.proofs.Resting.{rest_is_left_to_users}
use Rattle.nd_rest.proofs.laws.rest_is_left_to_users.Goals as goal

pub returns : goal.returns
returns g c = rest_is_left_to_users g.row.A.Denot
