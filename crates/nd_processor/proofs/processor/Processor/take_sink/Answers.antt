use Rattle.std.proofs.Common.{w64}
use Rattle.std.proofs.lemmas.Int.{to_z-of_z}
use Rattle.nd_processor.proofs.Seen.{sinks_there, sinks_taken, sinks_less_undone}
use Rattle.nd_processor.proofs.processor.Processor.take_sink.Goals as goal

pub take-requires : goal.take-requires
take-requires g c = rw (to_z-of_z w64 c.args.value c.ranges.value) (sinks_there c.self.inside.records c.self.inside.requests c.self.inside.tokens c.self.inside.items.items c.self.inside.sinks c.self.inside.unsent c.args.self.now c.self.view_is (record { vertex = c.args.vertex; value = c.args.value }) c.args.n c.requires)

pub returns-clause-taken : goal.returns-clause-taken
returns-clause-taken g c = sinks_taken c.self.inside.records c.self.inside.requests c.self.inside.tokens c.self.inside.items.items c.self.inside.sinks c.self.inside.unsent c.args.self.now c.self.view_is (record { vertex = c.args.vertex; value = c.args.value }) c.args.n c.take.new.self c.requires (rw (to_z-of_z w64 c.args.value c.ranges.value) at c.take.ensures)

pub returns-clause-undone : goal.returns-clause-undone
returns-clause-undone g c = sinks_less_undone c.self.inside.records c.self.inside.requests c.self.inside.tokens c.self.inside.items.items c.self.inside.sinks c.self.inside.unsent c.args.self.now c.self.view_is (record { vertex = c.args.vertex; value = c.args.value }) c.args.n c.take.new.self c.requires (rw (to_z-of_z w64 c.args.value c.ranges.value) at c.take.ensures)
