use Rattle.std.proofs.Common.{rules}
use Rattle.nd_processor.proofs.Recorded.{added_records}
use Rattle.nd_processor.proofs.Seen.{on_ok, records_added, records_more_undone, records_full, records_absent}
use Rattle.nd_processor.proofs.processor.Processor.add_records.Goals as goal

pub invariant_of-self : goal.invariant_of-self
invariant_of-self g c = added_records c.self.inside.records c.args.key.now c.self.invariant _ c.add.new.self c.add.result c.add.ensures.ok c.add.ensures.err (search rules)

pub returns-clause-ok : goal.returns-clause-ok
returns-clause-ok g c = on_ok c.add.result (records_added c.self.inside.records c.self.inside.requests c.self.inside.tokens c.self.inside.items.items c.self.inside.sinks c.self.inside.unsent c.args.self.now c.self.view_is c.args.key.now c.args.n c.add.new.self) c.add.ensures.ok

pub returns-clause-undone : goal.returns-clause-undone
returns-clause-undone g c = on_ok c.add.result (records_more_undone c.self.inside.records c.self.inside.requests c.self.inside.tokens c.self.inside.items.items c.self.inside.sinks c.self.inside.unsent c.args.self.now c.self.view_is c.args.key.now c.args.n c.add.new.self) c.add.ensures.ok

pub returns-clause-full : goal.returns-clause-full
returns-clause-full g c = records_full c.self.inside.records c.self.inside.requests c.self.inside.tokens c.self.inside.items.items c.self.inside.sinks c.self.inside.unsent c.args.self.now c.self.view_is c.args.key.now c.args.n c.add.ensures.full

pub returns-clause-memory : goal.returns-clause-memory
returns-clause-memory g c = λ e. records_absent c.self.inside.records c.self.inside.requests c.self.inside.tokens c.self.inside.items.items c.self.inside.sinks c.self.inside.unsent c.args.self.now c.self.view_is c.args.key.now (c.add.ensures.memory e)
