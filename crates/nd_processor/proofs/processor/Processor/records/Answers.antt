use Rattle.std.proofs.Common.{◌<◌, ◌^◌, length, subst, ◌∙◌}
use Rattle.nd_processor.proofs.Seen.{records_entries, records_within}
use Rattle.nd_processor.proofs.processor.Processor.records.Goals as goal

pub returns-clause-rest : goal.returns-clause-rest
returns-clause-rest g c = c.iter.ensures.rest ∙ records_entries c.self.inside.records c.self.inside.requests c.self.inside.tokens c.self.inside.items.items c.self.inside.sinks c.self.inside.unsent c.args.self.now c.self.view_is c.iter.ensures.kept

pub returns-clause-fits : goal.returns-clause-fits
returns-clause-fits g c = subst (λ es. length es < 2 ^ 63) (records_entries c.self.inside.records c.self.inside.requests c.self.inside.tokens c.self.inside.items.items c.self.inside.sinks c.self.inside.unsent c.args.self.now c.self.view_is c.iter.ensures.kept) c.iter.ensures.fits

pub returns-clause-within : goal.returns-clause-within
returns-clause-within g c = records_within c.self.inside.records c.self.inside.requests c.self.inside.tokens c.self.inside.items.items c.self.inside.sinks c.self.inside.unsent c.args.self.now c.self.view_is c.iter.ensures.kept
