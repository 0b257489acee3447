use Rattle.std.proofs.Common.{◌∙◌}
use Rattle.nd_processor.proofs.Seen.{tokens_get}
use Rattle.nd_processor.proofs.processor.Processor.token.Goals as goal

pub returns : goal.returns
returns g c = c.get.ensures.value ∙ tokens_get c.self.inside.records c.self.inside.requests c.self.inside.tokens c.self.inside.items.items c.self.inside.sinks c.self.inside.unsent c.args.self.now c.self.view_is c.args.vertex
