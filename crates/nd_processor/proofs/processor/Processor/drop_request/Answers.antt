use Rattle.std.proofs.Common.{Some, None}
use Rattle.nd_processor.proofs.Seen.{requests_without, requests_back}
use Rattle.nd_processor.proofs.processor.Processor.drop_request.Goals as goal

pub returns-clause-dropped : goal.returns-clause-dropped
returns-clause-dropped g c = requests_without c.self.inside.records c.self.inside.requests c.self.inside.tokens c.self.inside.items.items c.self.inside.sinks c.self.inside.unsent c.args.self.now c.self.view_is c.args.point.now c.remove.new.self c.remove.ensures.value

pub returns-clause-undone : goal.returns-clause-undone
returns-clause-undone g c = λ there. requests_back c.self.inside.records c.self.inside.requests c.self.inside.tokens c.self.inside.items.items c.self.inside.sinks c.self.inside.unsent c.args.self.now c.self.view_is c.args.point.now (Some tt) None _ there (requests_without c.self.inside.records c.self.inside.requests c.self.inside.tokens c.self.inside.items.items c.self.inside.sinks c.self.inside.unsent c.args.self.now c.self.view_is c.args.point.now c.remove.new.self c.remove.ensures.value)
