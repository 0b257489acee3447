use Rattle.nd_view.proofs.Points.{rest_listed, rest_within, first_within}
use Rattle.nd_view.proofs.adding.first_and_rest.Goals as goal

pub returns-clause-listed : goal.returns-clause-listed
returns-clause-listed c = rest_listed c.args.entries.now c.in-Some.first.now c.in-Some.rest.now c.in-Some.ensures.cases.0 c.requires.listed

pub returns-clause-within : goal.returns-clause-within
returns-clause-within c = rest_within c.args.entries.now c.in-Some.first.now c.in-Some.rest.now c.in-Some.ensures.cases.0 c.requires.listed c.requires.within

pub returns-clause-first : goal.returns-clause-first
returns-clause-first c = first_within c.args.entries.now c.in-Some.first.now c.in-Some.rest.now c.in-Some.ensures.cases.0 c.requires.listed c.requires.within
