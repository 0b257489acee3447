use Rattle.std.proofs.Common.{[], refl}
use Rattle.std.proofs.lemmas.Result.{err_from_is_err_and}
use Rattle.rewind_sessions.proofs.OutboxLemmas.{all-written, none-gathered}
use Rattle.rewind_sessions.proofs.RunsLemmas.{stops-put}
use Rattle.rewind_sessions.proofs.write.write_reply.Goals as goal

pub returns-in_err-put-clause-err : goal.returns-in_err-put-clause-err
returns-in_err-put-clause-err g c =
    let p = err_from_is_err_and c.from_residual.result c.from_residual.ensures.1 in
    rw (p.1, p.2) (λ before told.
    stops-put [] [] _ _ _ before _ _ (c.in_err-put.ensures.err [] before (none-gathered _ before _ c.new-outbox.ensures told)) refl)

pub returns-in_err-flush-clause-err : goal.returns-in_err-flush-clause-err
returns-in_err-flush-clause-err g c =
    let p = err_from_is_err_and c.from_residual-in_err-flush.result c.from_residual-in_err-flush.ensures.1 in
    rw (p.1, p.2) (λ before told.
    c.in_err-flush.ensures.err _ before (c.in_ok-put.ensures.ok [] before (none-gathered _ before _ c.new-outbox.ensures told)))

pub returns-clause-ok : goal.returns-clause-ok
returns-clause-ok g c =
    λ before told.
    all-written _ _ before _ (c.in_ok-flush.ensures.ok _ before (c.in_ok-put.ensures.ok [] before (none-gathered _ before _ c.new-outbox.ensures told))) c.in_ok-flush.ensures.none
