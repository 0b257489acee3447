use Rattle.std.proofs.Common.{◌≡◌, ◌++◌, ◌<◌, [], length, reverse, get_or, sym, ap, ◌∙◌, arith}
use Rattle.std.proofs.lemmas.List.{get_or-map, length-map}
use Rattle.nd_reach.specs.Forms.{queue_form, longest, newest_first, rows_newest}
use Rattle.nd_reach.proofs.Written.{more_at}
use Rattle.nd_reach.proofs.writing.put_row.Goals as goal

pub loop-to-preserved : goal.loop-to-preserved
loop-to-preserved g c =
    let s = c.args.cluster.now in
    let i = c.loop-to.to in
    let all = rows_newest s c.args.from in
    let old = c.loop-to.bytes.items in
    let wide = c.n-to-end.ensures.state.fits.each_receiver c.args.from [] (omega (arith, c.n-to-end.ensures.state.fits.each_sender)) in
    let some : i < length all = omega (arith, wide, c.loop-to-test.true, c.n-to-end.ensures.value, length-map (get_or s.queues c.args.from []) reverse) in
    let is : get_or all i [] ≡ newest_first s c.args.from i = get_or-map reverse (get_or s.queues c.args.from []) i [] [] (omega (arith, wide, c.loop-to-test.true, c.n-to-end.ensures.value)) in
    more_at (queue_form (longest all)) all i [] old c.put_queue.new.bytes.items _ some c.loop-to.invariant
    (c.in_ok-put_queue.ensures
    ∙ ap (λ xs. old ++ queue_form xs (newest_first s c.args.from i)) c.longest_to-longest.ensures.longest
    ∙ ap (λ ys. old ++ queue_form (longest all) ys) (sym is))
