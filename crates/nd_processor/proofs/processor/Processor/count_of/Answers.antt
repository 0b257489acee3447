use Rattle.std.proofs.Common.{◌∙◌}
use Rattle.nd_processor.proofs.Seen.{records_at}
use Rattle.nd_processor.proofs.processor.Processor.count_of.Goals as goal

pub returns-clause-value : goal.returns-clause-value
returns-clause-value g c = c.count_of.ensures.value ∙ records_at c.self.inside.records c.self.inside.requests c.self.inside.tokens c.self.inside.items.items c.self.inside.sinks c.self.inside.unsent c.args.self.now c.self.view_is c.args.key.now
