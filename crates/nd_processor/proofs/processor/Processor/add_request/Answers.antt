use Rattle.std.proofs.Common.{Some, None, sym, ◌∙◌}
use Rattle.nd_processor.proofs.Seen.{requests_get, requests_put, requests_back}
use Rattle.nd_processor.proofs.processor.Processor.add_request.Goals as goal

pub returns-in_default-clause-absent : goal.returns-in_default-clause-absent
returns-in_default-clause-absent g c = sym (requests_get c.self.inside.records c.self.inside.requests c.self.inside.tokens c.self.inside.items.items c.self.inside.sinks c.self.inside.unsent c.args.self.now c.self.view_is c.args.point.now) ∙ c.in_default.ensures.absent

pub returns-clause-ok : goal.returns-clause-ok
returns-clause-ok g c = requests_put c.self.inside.records c.self.inside.requests c.self.inside.tokens c.self.inside.items.items c.self.inside.sinks c.self.inside.unsent c.args.self.now c.self.view_is c.args.point.now tt c.put.new.self c.in-Ok.ensures.ok

pub returns-clause-undone : goal.returns-clause-undone
returns-clause-undone g c = λ absent. requests_back c.self.inside.records c.self.inside.requests c.self.inside.tokens c.self.inside.items.items c.self.inside.sinks c.self.inside.unsent c.args.self.now c.self.view_is c.args.point.now None (Some tt) _ absent (requests_put c.self.inside.records c.self.inside.requests c.self.inside.tokens c.self.inside.items.items c.self.inside.sinks c.self.inside.unsent c.args.self.now c.self.view_is c.args.point.now tt c.put.new.self c.in-Ok.ensures.ok)
