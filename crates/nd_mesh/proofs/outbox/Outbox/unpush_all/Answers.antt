use Rattle.nd_mesh.specs.Mesh.{without_newest}
use Rattle.nd_mesh.proofs.Firsts.{first_mapped-end}
use Rattle.nd_mesh.proofs.outbox.Outbox.unpush_all.Goals as goal

pub returns : goal.returns
returns g c = first_mapped-end without_newest c.len.result c.args.self.now c.drop_first_newest.new.self c.drop_first_newest.ensures c.len.ensures
