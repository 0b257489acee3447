use Rattle.std.proofs.Common.{subst}
use Rattle.nd_cluster.specs.Choice.{Tries}
use Rattle.nd_cluster.proofs.MovesLemmas.{adds_one, adds_refused}
use Rattle.nd_cluster.proofs.cluster.Cluster.add_move.Goals as goal

pub returns-in_default : goal.returns-in_default
returns-in_default g c =
    adds_refused {A = g.row.A.Denot} c.args.self.now c.args.step c.args.moves.now.items (subst (Tries c.args.self.now c.args.step) c.in_default.is c.in_ok-record.ensures)

pub returns : goal.returns
returns g c =
    adds_one c.args.self.now c.args.step c.in-Some.record c.args.moves.now.items c.push.new.self.items (subst (Tries c.args.self.now c.args.step) c.in-Some.is c.in_ok-record.ensures) c.in-Ok.ensures.items
