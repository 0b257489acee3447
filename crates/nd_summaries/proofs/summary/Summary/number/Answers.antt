use Rattle.std.proofs.Common.{◌∙◌, sym, arith}
use Rattle.nd_summaries.proofs.SummaryLemmas.{at_constant, at_last, at_outer}
use Rattle.nd_summaries.proofs.summary.Summary.number.Goals as goal

pub returns-then-self-place : goal.returns-then-self-place
returns-then-self-place c =
    let at' = at_constant c.args.self.now c.args.counters.now c.args.place c.requires.keep c.if-self-place.true in
    rw c.as_slice.ensures.value at (c.from.ensures) ∙ sym at'

pub returns-then-place-self : goal.returns-then-place-self
returns-then-place-self c =
    let at' = at_last c.args.self.now c.args.counters.now c.args.place c.requires.keep c.if-place-self.true in
    cc

pub returns-else-place-self : goal.returns-else-place-self
returns-else-place-self c =
    let at' = at_outer c.args.self.now c.args.counters.now c.args.place c.requires.keep (omega arith) in
    cc
