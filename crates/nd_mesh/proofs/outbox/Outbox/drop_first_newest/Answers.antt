use Rattle.std.proofs.Common.{length, [], ap, ◌∙◌, add-one, arith}
use Rattle.nd_mesh.specs.Mesh.{without_newest}
use Rattle.nd_mesh.proofs.Firsts.{length-first_mapped, set-first_mapped}
use Rattle.nd_mesh.proofs.outbox.Outbox.drop_first_newest.Goals as goal

pub drop_newest-requires : goal.drop_newest-requires
drop_newest-requires g c =
    let long = ap length c.loop-to.invariant ∙ length-first_mapped without_newest c.loop-to.to c.args.self.now in
    omega arith

pub loop-to-preserved : goal.loop-to-preserved
loop-to-preserved g c =
    rw (c.drop_newest.ensures, c.loop-to.invariant, add-one)
    (set-first_mapped without_newest c.loop-to.to c.args.self.now [] (omega arith))
