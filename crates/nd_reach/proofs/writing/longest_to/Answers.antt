use Rattle.std.proofs.Common.{◌≡◌, ◌<◌, ◌≤◌, [], length, reverse, get_or, sym, ap, ◌∙◌, arith}
use Rattle.std.proofs.lemmas.List.{get_or-map, length-map}
use Rattle.nd_reach.specs.Forms.{longer_of, longest_of, newest_first, rows_newest}
use Rattle.nd_reach.proofs.Queues.{longest_first, longest_more, longest_all}
use Rattle.nd_reach.proofs.writing.longest_to.Goals as goal

pub loop-to-init : goal.loop-to-init
loop-to-init g c =
    let s = c.args.cluster.now in
    let wide = c.n-to-end.ensures.state.fits.each_receiver c.args.from [] (omega (arith, c.n-to-end.ensures.state.fits.each_sender)) in
    let some : 0 < length (rows_newest s c.args.from) = omega (arith, wide, length-map (get_or s.queues c.args.from []) reverse) in
    let is : get_or (rows_newest s c.args.from) 0 [] ≡ newest_first s c.args.from 0 = get_or-map reverse (get_or s.queues c.args.from []) 0 [] [] (omega (arith, wide)) in
    record {
      there = omega arith;
      longest = ap (λ xs. longest_of xs (rows_newest s c.args.from)) (sym is) ∙ longest_first (rows_newest s c.args.from) 0 some;
    }

pub loop-to-preserved : goal.loop-to-preserved
loop-to-preserved g c =
    let s = c.args.cluster.now in
    let i = c.loop-to.to in
    let wide = c.n-to-end.ensures.state.fits.each_receiver c.args.from [] (omega (arith, c.n-to-end.ensures.state.fits.each_sender)) in
    let some : i < length (rows_newest s c.args.from) = omega (arith, wide, c.loop-to-test.true, c.n-to-end.ensures.value, length-map (get_or s.queues c.args.from []) reverse) in
    let is : get_or (rows_newest s c.args.from) i [] ≡ newest_first s c.args.from i = get_or-map reverse (get_or s.queues c.args.from []) i [] [] (omega (arith, wide, c.loop-to-test.true, c.n-to-end.ensures.value)) in
    record {
      there = c.longer_to-longest.ensures.there;
      longest = longest_more (rows_newest s c.args.from) i (newest_first s c.args.from c.loop-to.longest) (newest_first s c.args.from c.longer_to-longest.result) some c.loop-to.invariant.longest
          (c.longer_to-longest.ensures.longer ∙ ap (longer_of (newest_first s c.args.from c.loop-to.longest)) (sym is));
    }

pub returns : goal.returns
returns g c =
    let s = c.args.cluster.now in
    let wide = c.n-to-end.ensures.state.fits.each_receiver c.args.from [] (omega (arith, c.n-to-end.ensures.state.fits.each_sender)) in
    let all : length (rows_newest s c.args.from) ≤ c.loop-to.to = omega (arith, wide, c.loop-to-test.false, c.n-to-end.ensures.value, length-map (get_or s.queues c.args.from []) reverse) in
    record {
      there = c.loop-to.invariant.there;
      longest = longest_all (rows_newest s c.args.from) c.loop-to.to (newest_first s c.args.from c.loop-to.longest) all c.loop-to.invariant.longest;
    }
