use Rattle.std.proofs.Common.{◌<◌, ◌^◌, length, subst, ◌∙◌}
use Rattle.nd_processor.proofs.Seen.{requests_listed}
use Rattle.nd_processor.proofs.processor.Processor.requests.Goals as goal

pub returns-clause-rest : goal.returns-clause-rest
returns-clause-rest g c = c.iter.ensures.rest ∙ requests_listed c.self.inside.records c.self.inside.requests c.self.inside.tokens c.self.inside.items.items c.self.inside.sinks c.self.inside.unsent c.args.self.now c.self.view_is c.iter.ensures.listed

pub returns-clause-fits : goal.returns-clause-fits
returns-clause-fits g c = subst (λ es. length es < 2 ^ 63) (requests_listed c.self.inside.records c.self.inside.requests c.self.inside.tokens c.self.inside.items.items c.self.inside.sinks c.self.inside.unsent c.args.self.now c.self.view_is c.iter.ensures.listed) c.iter.ensures.fits
