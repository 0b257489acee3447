use Rattle.std.proofs.Common.{◌+◌, subst}
use Rattle.nd_at_rest.specs.Going.{Advances}
use Rattle.nd_at_rest.proofs.Steps.{not_gone, gone_on}
use Rattle.nd_at_rest.proofs.run.advance_all.Goals as goal

pub loop-ran-init : goal.loop-ran-init
loop-ran-init g c = (not_gone c.args.cluster.now c.args.turn, λ keeps. keeps)

pub loop-ran-preserved : goal.loop-ran-preserved
loop-ran-preserved g c =
    let went = subst (Advances g.row.A.Denot (c.args.turn + c.loop-ran.ran) c.loop-ran.cluster c.advance.new.cluster) c.if-not-branch.false c.in_ok-advance.ensures.goes in
    (gone_on c.args.cluster.now c.args.turn c.loop-ran.ran c.loop-ran.cluster c.advance.new.cluster c.loop-ran.invariant.0 went, λ keeps. c.in_ok-advance.ensures.protocol (c.loop-ran.invariant.1 keeps))
