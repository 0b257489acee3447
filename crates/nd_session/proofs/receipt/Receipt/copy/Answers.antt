use Rattle.std.proofs.Common.{refl}
use Rattle.nd_session.proofs.receipt.Receipt.copy.Goals as goal

pub returns : goal.returns
returns g c = rw (c.in_ok-copy.ensures, c.copy-2.ensures) refl
