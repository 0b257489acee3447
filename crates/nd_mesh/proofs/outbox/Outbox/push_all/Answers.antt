use Rattle.std.proofs.Common.{length, [], ap, ◌∙◌, add-one, arith}
use Rattle.nd_mesh.specs.Mesh.{appended, without_newest}
use Rattle.nd_mesh.specs.Laws.{without_newest-appended}
use Rattle.nd_mesh.proofs.Firsts.{length-first_mapped, set-first_mapped, first_mapped-end, first_mapped-back}
use Rattle.nd_mesh.proofs.outbox.Outbox.push_all.Goals as goal

pub append-requires : goal.append-requires
append-requires g c =
    let long = ap length c.loop-to.invariant ∙ length-first_mapped (appended c.args.change.now) c.loop-to.to c.args.self.now in
    omega arith

pub drop_first_newest-requires : goal.drop_first_newest-requires
drop_first_newest-requires g c =
    let long = ap length c.in_default.ensures.err ∙ ap length c.loop-to.invariant ∙ length-first_mapped (appended c.args.change.now) c.loop-to.to c.args.self.now in
    omega arith

pub returns-in_default-clause-err : goal.returns-in_default-clause-err
returns-in_default-clause-err g c =
    rw (c.drop_first_newest.ensures, c.in_default.ensures.err, c.loop-to.invariant)
    (first_mapped-back (appended c.args.change.now) without_newest (without_newest-appended c.args.change.now) c.loop-to.to c.args.self.now)

pub loop-to-preserved : goal.loop-to-preserved
loop-to-preserved g c =
    rw (c.in-Ok.ensures.ok, c.loop-to.invariant, add-one)
    (set-first_mapped (appended c.args.change.now) c.loop-to.to c.args.self.now [] (omega arith))

pub returns-clause-ok : goal.returns-clause-ok
returns-clause-ok g c =
    first_mapped-end (appended c.args.change.now) c.loop-to.to c.args.self.now c.loop-to.self c.loop-to.invariant (omega arith)
