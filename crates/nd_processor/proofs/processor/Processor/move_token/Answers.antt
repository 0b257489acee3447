use Rattle.std.proofs.Common.{◌≡◌, None, sym, ap, ◌∙◌}
use Rattle.nd_processor.proofs.Seen.{tokens_get, tokens_put, tokens_without, tokens_back}
use Rattle.nd_processor.specs.Edits.{with_value}
use Rattle.nd_processor.proofs.processor.Processor.move_token.Goals as goal

pub returns-in_default-clause-ok : goal.returns-in_default-clause-ok
returns-in_default-clause-ok g c = let is : c.args.new ≡ None = cc in tokens_without c.self.inside.records c.self.inside.requests c.self.inside.tokens c.self.inside.items.items c.self.inside.sinks c.self.inside.unsent c.args.self.now c.self.view_is c.args.vertex c.remove.new.self c.remove.ensures.value ∙ ap (λ e. record c.args.self.now { tokens = with_value c.args.self.now.tokens c.args.vertex e }) (sym is)

pub returns-in_default-clause-undone : goal.returns-in_default-clause-undone
returns-in_default-clause-undone g c = tokens_back c.self.inside.records c.self.inside.requests c.self.inside.tokens c.self.inside.items.items c.self.inside.sinks c.self.inside.unsent c.args.self.now c.self.view_is c.args.vertex c.args.old c.args.new _ c.requires (returns-in_default-clause-ok g c)

pub returns-in_default-put-clause-absent : goal.returns-in_default-put-clause-absent
returns-in_default-put-clause-absent g c = sym c.requires ∙ sym (tokens_get c.self.inside.records c.self.inside.requests c.self.inside.tokens c.self.inside.items.items c.self.inside.sinks c.self.inside.unsent c.args.self.now c.self.view_is c.args.vertex) ∙ c.in_default-put.ensures.absent

pub returns-clause-ok : goal.returns-clause-ok
returns-clause-ok g c = tokens_put c.self.inside.records c.self.inside.requests c.self.inside.tokens c.self.inside.items.items c.self.inside.sinks c.self.inside.unsent c.args.self.now c.self.view_is c.args.vertex c.in-Some.epoch c.put.new.self c.in-Ok.ensures.ok ∙ ap (λ e. record c.args.self.now { tokens = with_value c.args.self.now.tokens c.args.vertex e }) (sym c.in-Some.is)

pub returns-clause-undone : goal.returns-clause-undone
returns-clause-undone g c = tokens_back c.self.inside.records c.self.inside.requests c.self.inside.tokens c.self.inside.items.items c.self.inside.sinks c.self.inside.unsent c.args.self.now c.self.view_is c.args.vertex c.args.old c.args.new _ c.requires (returns-clause-ok g c)
