use Rattle.std.proofs.Common.{◌<◌, rules, arith, subst, ap, length, Result, IfErr}
use Rattle.nd_time.specs.Limits.{max_log}
use Rattle.nd_session.specs.declared.fault.SessionFault.{SessionFault}
use Rattle.nd_session.specs.declared.receipt.Receipt.{Receipt}
use Rattle.nd_session.specs.Faults.{ApplyFails}
use Rattle.nd_session.proofs.Logs.{passed_on, placed_last}
use Rattle.nd_session.proofs.state.State.apply.Goals as goal

pub returns-in_err-reply-clause-fails : goal.returns-in_err-reply-clause-fails
returns-in_err-reply-clause-fails g c =
    passed_on (ApplyFails (c.args.self.now).log) c.from_residual-in_err-reply.result c.in_err-reply.field-0.0 c.from_residual-in_err-reply.ensures.1 c.in_err-reply.ensures.fails

-- LogFull is returned only if the log was full
pub returns-in_err-reply-clause-full : goal.returns-in_err-reply-clause-full
returns-in_err-reply-clause-full g c =
    let room : length (c.args.self.now).log < max_log = search rules in (
      (λ is. subst (λ (r : Result (Receipt g.row.A.Denot) (SessionFault g.row.A.Denot)). IfErr r (ApplyFails (c.args.self.now).log)) is (returns-in_err-reply-clause-fails g c)),
      (λ full. absurd (omega (arith, full, room))),
    )

pub returns-clause-entry : goal.returns-clause-entry
returns-clause-entry g c = rw (c.log.ensures.value, c.count-number.ensures, c.in_ok-asked.ensures) c.in_ok-reply.ensures.entry

pub returns-clause-placed : goal.returns-clause-placed
returns-clause-placed g c = placed_last c.args.self.now.log _ (ap length c.log.ensures.value) c.count-number.ensures
