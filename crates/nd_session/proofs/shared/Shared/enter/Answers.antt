use Rattle.std.proofs.Common.{refl}
use Rattle.nd_session.proofs.shared.Shared.enter.Goals as goal

pub returns-clause-next : goal.returns-clause-next
returns-clause-next g c = refl
