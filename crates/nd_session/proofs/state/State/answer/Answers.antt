use Rattle.std.proofs.Common.{rules, length, ap}
use Rattle.nd_session.specs.declared.receipt.Receipt.{Receipt}
use Rattle.nd_session.specs.Log.{IsPlaced}
use Rattle.nd_session.specs.Faults.{ApplyFails}
use Rattle.nd_session.specs.State.{StateValue}
use Rattle.nd_session.proofs.Logs.{refused, kept_grows, legal_grows, placed_last}
use Rattle.nd_session.proofs.state.State.answer.Goals as goal

pub returns-in_err-reserve-clause-fails : goal.returns-in_err-reserve-clause-fails
returns-in_err-reserve-clause-fails g c = refused (ApplyFails c.args.self.now.log) c.from_residual.result c.from_residual.ensures.1 (search rules)

pub returns-in_err-put-clause-fails : goal.returns-in_err-put-clause-fails
returns-in_err-put-clause-fails g c = refused (ApplyFails c.args.self.now.log) c.from_residual-in_err-put.result c.from_residual-in_err-put.ensures.1 (search rules)

abbrev entry : (g : _) → goal.After-push_reserved g → Receipt g.row.A.Denot
entry g c = record { index = c.len-index.result; client = c.args.client; number = c.count-number.result; command = c.args.command; reply = c.apply-reply.result }

placed : (g : _) (c : goal.After-push_reserved g) → IsPlaced c.self.inside.log.items (length c.self.inside.log.items) (entry g c)
placed g c = placed_last c.self.inside.log.items (entry g c) (search rules) (search rules)

pub invariant_of-self-2 : goal.invariant_of-self-2
invariant_of-self-2 g c =
    rw (c.push_reserved.ensures.items, c.reserve.ensures.items)
    (kept_grows c.self.inside.machine c.apply-reply.new.self c.self.inside.log.items c.self.inside.counts c.put.new.self (entry g c)
    c.self.invariant
    (search rules)
    (search rules)
    (search rules)
    (placed g c)
    (search rules))

pub returns-clause-legal : goal.returns-clause-legal
returns-clause-legal g c =
    rw (c.push_reserved.ensures.items, c.reserve.ensures.items, ← ap (λ (v : StateValue g.row.A.Denot). v.machine) c.self.view_is)
    (legal_grows _ c.self.inside.machine c.apply-reply.new.self c.self.inside.log.items (entry g c) c.self.invariant.legal (placed g c) (search rules))
