use Rattle.nd_reach.proofs.going.+walker_at.Given as goal

abbrev pub decreases-walker_at : goal.decreases-walker_at
decreases-walker_at g l = l.k
