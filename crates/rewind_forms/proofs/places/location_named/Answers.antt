use Rattle.rewind_forms.proofs.NamesLemmas.{named-within}
use Rattle.rewind_forms.proofs.places.location_named.Goals as goal

pub returns-clause-there : goal.returns-clause-there
returns-clause-there c = rw c.location_of.ensures (named-within c.args.graph.now _)
