use Rattle.std.proofs.Common.{◌≡◌, FitsSigned, w64, subst, take, rules}
use Rattle.std.proofs.lemmas.Int.{to_z-of_z}
use Rattle.nd_cluster.specs.Sinks.{sunk}
use Rattle.nd_cluster.proofs.SinksLemmas.{sunk_all}
use Rattle.nd_cluster.proofs.sinks.count_sinks.Goals as goal

pub returns : goal.returns
returns g c =
    let range : FitsSigned w64 c.args.value = search rules in
    sunk_all c.loop-processor.processor-index c.args.processors.now c.args.vertex c.args.value c.loop-processor.total c.loop-processor-test.false
    (subst (λ v. c.loop-processor.total ≡ sunk (take c.loop-processor.processor-index c.args.processors.now) c.args.vertex v) (to_z-of_z w64 c.args.value range) c.loop-processor.invariant.sum)
