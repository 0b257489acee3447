use Rattle.std.proofs.Common.{◌≡◌, ◌∙◌, sym, ap, get_or, length, nat_lt, true, arith}
use Rattle.std.specs.Ordering.{is_le}
use Rattle.nd_summaries.specs.Summary.{applied}
use Rattle.nd_summaries.proofs.Stored.{lexical_decided}
use Rattle.nd_summaries.proofs.Raised.{length-applied}
use Rattle.nd_summaries.proofs.SummaryLemmas.{same_at, differ_at, same_past}
use Rattle.nd_summaries.proofs.summary.Summary.leads_lexically.Goals as goal

pub returns-then-reached-wanted : goal.returns-then-reached-wanted
returns-then-reached-wanted c =
    let all = applied c.args.self.now c.args.from.now in
    let size : length all ≡ length c.args.to.now = length-applied c.args.self.now c.args.from.now c.requires.keep ∙ sym c.requires.to in
    let place = c.loop-place.place in
    let differs = differ_at all c.args.to.now place (omega (arith, size)) (omega arith) (λ same. c.if-reached-wanted.true (c.number-reached.ensures ∙ same ∙ sym c.from-wanted.ensures)) in
    let decides = ap (λ n. nat_lt n c.from-wanted.result) c.number-reached.ensures ∙ ap (nat_lt (get_or all place 0)) c.from-wanted.ensures ∙ differs ∙ ap is_le c.loop-place.invariant in
    lexical_decided (nat_lt c.number-reached.result c.from-wanted.result) all c.args.to.now size decides

pub loop-place-preserved : goal.loop-place-preserved
loop-place-preserved c =
    let all = applied c.args.self.now c.args.from.now in
    let size : length all ≡ length c.args.to.now = length-applied c.args.self.now c.args.from.now c.requires.keep ∙ sym c.requires.to in
    same_at all c.args.to.now c.loop-place.place (omega (arith, size)) (omega arith) (cc) ∙ c.loop-place.invariant

pub returns : goal.returns
returns c =
    let all = applied c.args.self.now c.args.from.now in
    let size : length all ≡ length c.args.to.now = length-applied c.args.self.now c.args.from.now c.requires.keep ∙ sym c.requires.to in
    lexical_decided true all c.args.to.now size (sym (same_past all c.args.to.now c.loop-place.place (omega (arith, size)) (omega arith)) ∙ ap is_le c.loop-place.invariant)
