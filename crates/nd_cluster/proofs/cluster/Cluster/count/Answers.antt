use Rattle.std.proofs.Common.{◌≡◌, ◌≤◌, ◌^◌, pos, length, sym, ap, ◌∙◌, arith}
use Rattle.std.specs.Prelude.{◌<ℤ◌, List}
use Rattle.std.proofs.lemmas.Int.{ints}
use Rattle.nd_time.specs.Limits.{max_processors}
use Rattle.nd_delta.specs.Delta.{at}
use Rattle.nd_processor.specs.State.{ProcessorState}
use Rattle.nd_protocol.specs.State.{truth}
use Rattle.nd_protocol.specs.TruthLaws.{count, truth-count}
use Rattle.nd_cluster.proofs.cluster.Cluster.count.Goals as goal

pub count_all-requires : goal.count_all-requires
count_all-requires g c =
    let few : length c.args.self.now.processors ≤ max_processors = c.processors.ensures.state.within.few in
    let many : length c.processors.result.now ≡ length c.args.self.now.processors = ap length c.processors.ensures.value in
    omega (arith, few, many)

pub returns-clause-value : goal.returns-clause-value
returns-clause-value g c =
    let x = c.args.point.now in
    ap pos (c.count_all.ensures ∙ ap (λ (qs : List ProcessorState). count qs x) c.processors.ensures.value) ∙ sym (truth-count c.args.self.now.processors x)

pub returns-clause-small : goal.returns-clause-small
returns-clause-small g c = λ settled.
    let s = c.args.self.now in
    let x = c.args.point.now in
    let small : at (truth s.processors) x <ℤ pos (2 ^ 63) = c.truth_is_small.ensures s c.processors.ensures.state settled x in
    let is : pos c.count_all.result ≡ at (truth s.processors) x = returns-clause-value g c in
    omega (arith, ints, small, is)
