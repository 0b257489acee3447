use Rattle.std.proofs.Common.{◌≡◌, ◌≢◌, rules}
use Rattle.nd_cluster.proofs.Releases.{asks_same, asks_other}
use Rattle.nd_cluster.proofs.cluster.Cluster.release_asks.Goals as goal

pub returns-then-eq : goal.returns-then-eq
returns-then-eq g c =
    let same : c.in-Some.to.time ≡ c.args.times.now.time = search rules in
    asks_same c.args.self.now c.args.p c.args.vertex c.args.times.now c.requires.kept c.in-Some.to c.in-Some.is same

pub returns : goal.returns
returns g c =
    let other : c.in-Some.to.time ≢ c.args.times.now.time = search rules in
    asks_other c.args.self.now c.args.p c.args.vertex c.args.times.now c.requires.kept c.in-Some.to c.in-Some.is other c.is_asked.result c.is_asked.ensures
