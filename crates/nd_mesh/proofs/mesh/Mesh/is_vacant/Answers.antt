use Rattle.std.proofs.Common.{IsTrue, subst}
use Rattle.std.specs.Prelude.{◌↔◌, nat_eq}
use Rattle.nd_mesh.specs.Mesh.{AreVacant}
use Rattle.nd_mesh.proofs.Counted.{counted_vacant}
use Rattle.nd_mesh.proofs.mesh.Mesh.is_vacant.Goals as goal

pub returns-clause-vacant : goal.returns-clause-vacant
returns-clause-vacant g c =
    subst (λ m. IsTrue (nat_eq c.self.inside.waiting 0) ↔ AreVacant m) c.self.view_is
    (counted_vacant c.self.inside.rows.items c.self.invariant)
