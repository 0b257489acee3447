use Rattle.std.proofs.Common.{◌≡◌, ◌≤◌, length, FitsSigned, w64, ap, subst, rules, arith}
use Rattle.std.proofs.lemmas.Int.{to_z-of_z}
use Rattle.nd_time.specs.Limits.{max_processors}
use Rattle.nd_cluster.specs.Sinks.{sunk}
use Rattle.nd_cluster.proofs.SinksLemmas.{sunk_of}
use Rattle.nd_cluster.proofs.cluster.Cluster.sink_count.Goals as goal

pub count_sinks-requires : goal.count_sinks-requires
count_sinks-requires g c =
    let few : length c.args.self.now.processors ≤ max_processors = c.processors.ensures.state.within.few in
    let many : length c.processors.result.now ≡ length c.args.self.now.processors = ap length c.processors.ensures.value in
    omega (arith, few, many)

pub returns : goal.returns
returns g c =
    let range : FitsSigned w64 c.args.value = search rules in
    sunk_of c.processors.result.now c.args.self.now.processors c.args.vertex c.args.value c.count_sinks.result
    c.processors.ensures.value
    (subst (λ v. c.count_sinks.result ≡ sunk c.processors.result.now c.args.vertex v) (to_z-of_z w64 c.args.value range) c.count_sinks.ensures)
