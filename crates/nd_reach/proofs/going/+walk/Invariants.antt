use Rattle.nd_reach.proofs.going.+walk.Given as goal

abbrev pub decreases-walk : goal.decreases-walk
decreases-walk g l = l.most
