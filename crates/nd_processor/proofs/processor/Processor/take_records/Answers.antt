use Rattle.nd_processor.proofs.Recorded.{taken_records}
use Rattle.nd_processor.proofs.Seen.{records_there, records_taken, records_less_undone}
use Rattle.nd_processor.proofs.processor.Processor.take_records.Goals as goal

pub take-requires : goal.take-requires
take-requires g c = records_there c.self.inside.records c.self.inside.requests c.self.inside.tokens c.self.inside.items.items c.self.inside.sinks c.self.inside.unsent c.args.self.now c.self.view_is c.args.key.now c.args.n c.requires

pub invariant_of-self : goal.invariant_of-self
invariant_of-self g c = taken_records c.self.inside.records c.args.key.now c.self.invariant c.args.n c.take.new.self c.take.ensures

pub returns-clause-taken : goal.returns-clause-taken
returns-clause-taken g c = records_taken c.self.inside.records c.self.inside.requests c.self.inside.tokens c.self.inside.items.items c.self.inside.sinks c.self.inside.unsent c.args.self.now c.self.view_is c.args.key.now c.args.n c.take.new.self c.requires c.take.ensures

pub returns-clause-undone : goal.returns-clause-undone
returns-clause-undone g c = records_less_undone c.self.inside.records c.self.inside.requests c.self.inside.tokens c.self.inside.items.items c.self.inside.sinks c.self.inside.unsent c.args.self.now c.self.view_is c.args.key.now c.args.n c.take.new.self c.requires c.take.ensures
