use Rattle.std.proofs.Common.{◌∙◌, w64}
use Rattle.std.proofs.lemmas.Int.{to_z-of_z}
use Rattle.nd_processor.proofs.Seen.{sinks_at}
use Rattle.nd_processor.proofs.processor.Processor.sink_count.Goals as goal

pub returns-clause-value : goal.returns-clause-value
returns-clause-value g c = rw (to_z-of_z w64 c.args.value c.ranges.value) at c.count_of.ensures.value ∙ sinks_at c.self.inside.records c.self.inside.requests c.self.inside.tokens c.self.inside.items.items c.self.inside.sinks c.self.inside.unsent c.args.self.now c.self.view_is (record { vertex = c.args.vertex; value = c.args.value })
