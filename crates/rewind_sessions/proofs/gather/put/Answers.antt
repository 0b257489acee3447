use Rattle.std.proofs.lemmas.Result.{err_from_is_err_and}
use Rattle.rewind_sessions.proofs.OutboxLemmas.{added}
use Rattle.rewind_sessions.proofs.gather.put.Goals as goal

pub returns-in_err-flush-clause-err : goal.returns-in_err-flush-clause-err
returns-in_err-flush-clause-err g c =
    let p = err_from_is_err_and c.from_residual-in_err-flush.result c.from_residual-in_err-flush.ensures.1 in
    rw (p.1, p.2) (λ replies before h. c.in_err-flush.ensures.err _ before (added replies _ _ _ _ before _ c.in_ok-text.ensures c.in_ok-add_text.ensures.ok h))

pub returns-in_ok-flush-clause-ok : goal.returns-in_ok-flush-clause-ok
returns-in_ok-flush-clause-ok g c = λ replies before h. c.in_ok-flush.ensures.ok _ before (added replies _ _ _ _ before _ c.in_ok-text.ensures c.in_ok-add_text.ensures.ok h)

pub returns-else-is_full-clause-ok : goal.returns-else-is_full-clause-ok
returns-else-is_full-clause-ok g c = λ replies before h. added replies _ _ _ _ before _ c.in_ok-text.ensures c.in_ok-add_text.ensures.ok h
