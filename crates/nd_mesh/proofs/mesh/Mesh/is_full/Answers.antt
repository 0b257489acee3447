use Rattle.std.proofs.Common.{[], ◌<◌, length, sym, subst}
use Rattle.std.specs.Prelude.{IsTrue, ◌↔◌}
use Rattle.std.proofs.lemmas.List.{get_or_read}
use Rattle.nd_mesh.specs.Mesh.{row, HasQueue, IsFull}
use Rattle.nd_mesh.proofs.mesh.Mesh.is_full.Goals as goal

pub returns-clause-full : goal.returns-clause-full
returns-clause-full g c =
    subst (λ m. IsTrue c.has_full.result ↔ HasQueue IsFull (row m c.args.from)) c.self.view_is
    (rw (get_or_read c.self.inside.rows.items c.args.from c.index.result.now (subst (λ m. c.args.from < length m) (sym c.self.view_is) c.requires) c.index.ensures []) at c.has_full.ensures)
