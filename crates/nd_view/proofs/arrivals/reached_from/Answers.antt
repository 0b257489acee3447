use Rattle.nd_view.proofs.ReachedTimes.{reached_one, reached_all}
use Rattle.nd_view.proofs.arrivals.reached_from.Goals as goal

pub loop-entry-preserved : goal.loop-entry-preserved
loop-entry-preserved g c =
    let own = c.in_ok-reached.reached.items in
    reached_one c.args.paths.now c.args.entries.now c.args.location c.loop-entry.entry-index c.entry-item.result c.loop-entry-test.true c.entry-item.is c.loop-entry.times.items own c.append.new.self.items c.in_ok-append.ensures.items
    c.in_ok-reached.ensures.each c.in_ok-reached.ensures.least c.loop-entry.invariant

pub returns-clause-value : goal.returns-clause-value
returns-clause-value g c = reached_all c.args.paths.now c.args.entries.now c.args.location c.loop-entry.entry-index c.loop-entry.times.items c.loop-entry-test.false c.loop-entry.invariant
