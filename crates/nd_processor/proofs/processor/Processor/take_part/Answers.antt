use Rattle.std.proofs.Common.{ap, ◌∙◌}
use Rattle.nd_processor.proofs.Seen.{unsent_back}
use Rattle.nd_delta.specs.Delta.{plus, plus-minus}
use Rattle.nd_processor.proofs.processor.Processor.take_part.Goals as goal

pub returns-clause-undone : goal.returns-clause-undone
returns-clause-undone g c = unsent_back c.self.inside.records c.self.inside.requests c.self.inside.tokens c.self.inside.items.items c.self.inside.sinks c.self.inside.unsent c.args.self.now c.self.view_is _ (ap (λ u. plus u c.args.part.now) c.take_part.ensures ∙ plus-minus c.self.inside.unsent c.args.part.now)
