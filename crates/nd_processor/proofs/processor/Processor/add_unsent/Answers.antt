use Rattle.std.proofs.Common.{rules, ◌≡◌, Err, neg_ℤ, ap, ◌∙◌, w64}
use Rattle.std.proofs.lemmas.Int.{to_z-of_z}
use Rattle.nd_processor.proofs.Seen.{unsent_back, unsent_changed, unsent_full}
use Rattle.nd_processor.specs.Edits.{more_unsent}
use Rattle.nd_processor.specs.EditsLaws.{unsent-back}
use Rattle.nd_processor.proofs.processor.Processor.add_unsent.Goals as goal

pub returns-clause-ok : goal.returns-clause-ok
returns-clause-ok g c = unsent_changed c.self.inside.records c.self.inside.requests c.self.inside.tokens c.self.inside.items.items c.self.inside.sinks c.self.inside.unsent c.args.self.now c.self.view_is (λ u. more_unsent u c.args.point.now c.args.n) _ (rw (to_z-of_z w64 c.args.n c.ranges.n) at c.in_ok-add.ensures.ok)

pub returns-clause-undone : goal.returns-clause-undone
returns-clause-undone g c = unsent_back c.self.inside.records c.self.inside.requests c.self.inside.tokens c.self.inside.items.items c.self.inside.sinks c.self.inside.unsent c.args.self.now c.self.view_is _ (ap (λ u. more_unsent u c.args.point.now (neg_ℤ c.args.n)) (rw (to_z-of_z w64 c.args.n c.ranges.n) at c.in_ok-add.ensures.ok) ∙ unsent-back c.self.inside.unsent c.args.point.now c.args.n)

pub returns-in_err-add-clause-full : goal.returns-in_err-add-clause-full
returns-in_err-add-clause-full g c =
    let same : c.from_residual.result ≡ Err c.in_err-add.field-0.0 = search rules in
    unsent_full c.self.inside.records c.self.inside.requests c.self.inside.tokens c.self.inside.items.items c.self.inside.sinks c.self.inside.unsent c.args.self.now c.self.view_is c.args.point.now c.args.n (rw same (rw (to_z-of_z w64 c.args.n c.ranges.n) at c.in_err-add.ensures.full))

pub returns-clause-full : goal.returns-clause-full
returns-clause-full g c = unsent_full c.self.inside.records c.self.inside.requests c.self.inside.tokens c.self.inside.items.items c.self.inside.sinks c.self.inside.unsent c.args.self.now c.self.view_is c.args.point.now c.args.n (rw (to_z-of_z w64 c.args.n c.ranges.n) at c.in_ok-add.ensures.full)
