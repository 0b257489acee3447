use Rattle.std.proofs.Common.{◌≡◌, replicate, ap, ◌∙◌, arith}
use Rattle.nd_map.specs.Counts.{none}
use Rattle.nd_processor.proofs.start.no_items.Goals as goal

pub returns : goal.returns
returns g c =
    let all : c.loop.counter ≡ c.args.n = omega (arith, c.loop-test.false, c.loop.auto.counter-end) in
    c.loop.invariant ∙ ap (λ k. replicate k none) all
