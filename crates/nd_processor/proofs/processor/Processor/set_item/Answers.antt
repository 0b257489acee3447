use Rattle.std.proofs.Common.{w64}
use Rattle.std.proofs.lemmas.Int.{to_z-of_z}
use Rattle.nd_processor.proofs.Seen.{on_err, items_back, items_kept, items_long, items_set}
use Rattle.nd_vertex.specs.Items.{item_key}
use Rattle.nd_processor.proofs.processor.Processor.set_item.Goals as goal

pub returns-clause-undone : goal.returns-clause-undone
returns-clause-undone g c = items_back c.self.inside.records c.self.inside.requests c.self.inside.tokens c.self.inside.items.items c.self.inside.sinks c.self.inside.unsent c.args.self.now c.self.view_is c.args.vertex (item_key c.args.time.now c.args.item) c.args.old c.args.new c.index_mut.result.now c.set.new.self c.requires.in_range c.requires.there (items_long c.self.inside.records c.self.inside.requests c.self.inside.tokens c.self.inside.items.items c.self.inside.sinks c.self.inside.unsent c.args.self.now c.self.view_is c.args.vertex c.requires.in_range) c.index_mut.ensures.value (rw (to_z-of_z w64 c.args.item c.ranges.item) at c.in_ok-set.ensures.ok)

pub returns-in_err-set-clause-err : goal.returns-in_err-set-clause-err
returns-in_err-set-clause-err g c = on_err c.from_residual.result (items_kept c.self.inside.records c.self.inside.requests c.self.inside.tokens c.self.inside.items.items c.self.inside.sinks c.self.inside.unsent c.args.self.now c.self.view_is c.args.vertex c.index_mut.result.now c.set.new.self c.index_mut.ensures.value c.in_err-set.ensures.err)

pub returns-clause-ok : goal.returns-clause-ok
returns-clause-ok g c = items_set c.self.inside.records c.self.inside.requests c.self.inside.tokens c.self.inside.items.items c.self.inside.sinks c.self.inside.unsent c.args.self.now c.self.view_is c.args.vertex (item_key c.args.time.now c.args.item) c.args.new c.index_mut.result.now c.set.new.self (items_long c.self.inside.records c.self.inside.requests c.self.inside.tokens c.self.inside.items.items c.self.inside.sinks c.self.inside.unsent c.args.self.now c.self.view_is c.args.vertex c.requires.in_range) c.index_mut.ensures.value (rw (to_z-of_z w64 c.args.item c.ranges.item) at c.in_ok-set.ensures.ok)
