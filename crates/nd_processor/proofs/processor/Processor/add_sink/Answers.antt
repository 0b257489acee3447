use Rattle.std.proofs.Common.{w64}
use Rattle.std.proofs.lemmas.Int.{to_z-of_z}
use Rattle.nd_processor.proofs.Seen.{on_ok, sinks_added, sinks_more_undone, sinks_full, sinks_absent}
use Rattle.nd_processor.proofs.processor.Processor.add_sink.Goals as goal

pub returns-clause-ok : goal.returns-clause-ok
returns-clause-ok g c = on_ok c.add.result (sinks_added c.self.inside.records c.self.inside.requests c.self.inside.tokens c.self.inside.items.items c.self.inside.sinks c.self.inside.unsent c.args.self.now c.self.view_is (record { vertex = c.args.vertex; value = c.args.value }) c.args.n c.add.new.self) (rw (to_z-of_z w64 c.args.value c.ranges.value) at c.add.ensures.ok)

pub returns-clause-undone : goal.returns-clause-undone
returns-clause-undone g c = on_ok c.add.result (sinks_more_undone c.self.inside.records c.self.inside.requests c.self.inside.tokens c.self.inside.items.items c.self.inside.sinks c.self.inside.unsent c.args.self.now c.self.view_is (record { vertex = c.args.vertex; value = c.args.value }) c.args.n c.add.new.self) (rw (to_z-of_z w64 c.args.value c.ranges.value) at c.add.ensures.ok)

pub returns-clause-full : goal.returns-clause-full
returns-clause-full g c = sinks_full c.self.inside.records c.self.inside.requests c.self.inside.tokens c.self.inside.items.items c.self.inside.sinks c.self.inside.unsent c.args.self.now c.self.view_is (record { vertex = c.args.vertex; value = c.args.value }) c.args.n (rw (to_z-of_z w64 c.args.value c.ranges.value) at c.add.ensures.full)

pub returns-clause-memory : goal.returns-clause-memory
returns-clause-memory g c = λ e. sinks_absent c.self.inside.records c.self.inside.requests c.self.inside.tokens c.self.inside.items.items c.self.inside.sinks c.self.inside.unsent c.args.self.now c.self.view_is (record { vertex = c.args.vertex; value = c.args.value }) ((rw (to_z-of_z w64 c.args.value c.ranges.value) at c.add.ensures.memory) e)
