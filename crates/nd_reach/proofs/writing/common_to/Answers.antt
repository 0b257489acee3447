use Rattle.std.proofs.Common.{◌≡◌, ◌<◌, ◌≤◌, length, min, sym, ap, ◌∙◌, arith}
use Rattle.std.proofs.lemmas.List.{length-reverse}
use Rattle.nd_protocol.specs.State.{queue}
use Rattle.nd_reach.specs.Forms.{in_common, newest_first}
use Rattle.nd_reach.proofs.Queues.{common_more, common_less, common_all, common_itself}
use Rattle.nd_reach.proofs.writing.common_to.Goals as goal

pub returns-then-longest-to-clause-common : goal.returns-then-longest-to-clause-common
returns-then-longest-to-clause-common g c =
    let s = c.args.cluster.now in
    c.queue_len-len.ensures ∙ sym (length-reverse (queue s c.args.from c.args.to)) ∙ sym (common_itself (newest_first s c.args.from c.args.to))
    ∙ ap (λ q. in_common (newest_first s c.args.from q) (newest_first s c.args.from c.args.to)) (sym c.if-longest-to.true)

pub returns-then-not-are_equal-clause-common : goal.returns-then-not-are_equal-clause-common
returns-then-not-are_equal-clause-common g c =
    let s = c.args.cluster.now in
    let xs = newest_first s c.args.from c.args.longest in
    let ys = newest_first s c.args.from c.args.to in
    let first : c.loop-i.i < length xs = omega (arith, length-reverse (queue s c.args.from c.args.longest)) in
    let second : c.loop-i.i < length ys = omega (arith, length-reverse (queue s c.args.from c.args.to)) in
    common_less xs ys c.loop-i.i c.newest-first.result.now c.newest.result.now first second c.newest-first.ensures c.newest.ensures c.if-not-are_equal.ensures c.loop-i.invariant

pub loop-i-preserved : goal.loop-i-preserved
loop-i-preserved g c =
    let s = c.args.cluster.now in
    let xs = newest_first s c.args.from c.args.longest in
    let ys = newest_first s c.args.from c.args.to in
    let first : c.loop-i.i < length xs = omega (arith, length-reverse (queue s c.args.from c.args.longest)) in
    let second : c.loop-i.i < length ys = omega (arith, length-reverse (queue s c.args.from c.args.to)) in
    common_more xs ys c.loop-i.i c.newest-first.result.now c.newest.result.now first second c.newest-first.ensures c.newest.ensures c.if-not-are_equal.ensures c.loop-i.invariant

pub returns-clause-common : goal.returns-clause-common
returns-clause-common g c =
    let s = c.args.cluster.now in
    let xs = newest_first s c.args.from c.args.longest in
    let ys = newest_first s c.args.from c.args.to in
    let done : min (length ys) (length xs) ≤ c.loop-i.i = omega (arith, length-reverse (queue s c.args.from c.args.longest), length-reverse (queue s c.args.from c.args.to)) in
    let same : c.min.result ≡ c.loop-i.i = omega arith in
    same ∙ common_all xs ys c.loop-i.i done c.loop-i.invariant
