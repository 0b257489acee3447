use Rattle.nd_summaries.proofs.Cuts.{short_walk}
use Rattle.nd_summaries.proofs.laws.short_walks_suffice.Goals as goal

pub returns : goal.returns
returns g c = λ order from to walk low h. short_walk order c.args.graph.now from to walk c.all_arcs.ensures.agree c.all_arcs.ensures.shallow low h
