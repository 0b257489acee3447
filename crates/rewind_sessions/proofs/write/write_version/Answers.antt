use Rattle.std.proofs.Common.{[]}
use Rattle.std.proofs.lemmas.Result.{err_from_is_err_and}
use Rattle.rewind_sessions.proofs.OutboxLemmas.{all-written, none-gathered}
use Rattle.rewind_sessions.proofs.write.write_version.Goals as goal

pub returns-in_err-put_version-clause-err : goal.returns-in_err-put_version-clause-err
returns-in_err-put_version-clause-err g c =
    let p = err_from_is_err_and c.from_residual.result c.from_residual.ensures.1 in
    rw (p.1, p.2) (λ before told. c.in_err-put_version.ensures.err [] before (none-gathered _ before _ c.new-outbox.ensures told))

pub returns-in_err-flush-clause-err : goal.returns-in_err-flush-clause-err
returns-in_err-flush-clause-err g c =
    let p = err_from_is_err_and c.from_residual-in_err-flush.result c.from_residual-in_err-flush.ensures.1 in
    rw (p.1, p.2) (λ before told.
    c.in_err-flush.ensures.err _ before (c.in_ok-put_version.ensures.ok [] before (none-gathered _ before _ c.new-outbox.ensures told)))

pub returns-clause-ok : goal.returns-clause-ok
returns-clause-ok g c = λ before told.
    all-written _ _ before _ (c.in_ok-flush.ensures.ok _ before (c.in_ok-put_version.ensures.ok [] before (none-gathered _ before _ c.new-outbox.ensures told))) c.in_ok-flush.ensures.none
