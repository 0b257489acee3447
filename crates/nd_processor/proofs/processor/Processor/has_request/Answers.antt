use Rattle.std.proofs.Common.{◌∙◌}
use Rattle.nd_processor.proofs.Seen.{asked, requests_get}
use Rattle.nd_processor.proofs.processor.Processor.has_request.Goals as goal

pub returns : goal.returns
returns g c = asked c.get.result _ c.is_some.result c.is_some.ensures (c.get.ensures.value ∙ requests_get c.self.inside.records c.self.inside.requests c.self.inside.tokens c.self.inside.items.items c.self.inside.sinks c.self.inside.unsent c.args.self.now c.self.view_is c.args.point.now)
