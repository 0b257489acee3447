use Rattle.std.proofs.Common.{ap, ◌∙◌}
use Rattle.nd_processor.proofs.Seen.{unsent_back, unsent_changed}
use Rattle.nd_delta.specs.Delta.{plus, minus, minus-plus}
use Rattle.nd_processor.proofs.processor.Processor.put_part.Goals as goal

pub returns-clause-ok : goal.returns-clause-ok
returns-clause-ok g c = unsent_changed c.self.inside.records c.self.inside.requests c.self.inside.tokens c.self.inside.items.items c.self.inside.sinks c.self.inside.unsent c.args.self.now c.self.view_is (λ u. plus u c.args.part.now) _ c.in_ok-put_part.ensures.ok

pub returns-clause-undone : goal.returns-clause-undone
returns-clause-undone g c = unsent_back c.self.inside.records c.self.inside.requests c.self.inside.tokens c.self.inside.items.items c.self.inside.sinks c.self.inside.unsent c.args.self.now c.self.view_is _ (ap (λ u. minus u c.args.part.now) c.in_ok-put_part.ensures.ok ∙ minus-plus c.self.inside.unsent c.args.part.now)
