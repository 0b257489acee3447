use Rattle.std.proofs.Common.{[], map}
use Rattle.std.proofs.lemmas.Result.{err_from_is_err_and}
use Rattle.rewind_sessions.specs.Runs.{entry_data, faults_data}
use Rattle.rewind_sessions.specs.Gathered.{stops-more}
use Rattle.rewind_sessions.proofs.OutboxLemmas.{all-written, none-gathered}
use Rattle.rewind_sessions.proofs.write.write_log.Goals as goal

pub returns-in_err-put_log-clause-err : goal.returns-in_err-put_log-clause-err
returns-in_err-put_log-clause-err g c =
    let p = err_from_is_err_and c.from_residual.result c.from_residual.ensures.1 in
    rw (p.1, p.2) (λ before told.
    stops-more (map (entry_data c.args.graph.now) c.args.log.now) (faults_data 0 c.args.faults.now) before _ _
    (c.in_err-put_log.ensures.err [] before (none-gathered _ before _ c.new-outbox.ensures told)))

pub returns-in_err-put_faults-clause-err : goal.returns-in_err-put_faults-clause-err
returns-in_err-put_faults-clause-err g c =
    let p = err_from_is_err_and c.from_residual-in_err-put_faults.result c.from_residual-in_err-put_faults.ensures.1 in
    rw (p.1, p.2) (λ before told.
    c.in_err-put_faults.ensures.err _ before (c.in_ok-put_log.ensures.ok [] before (none-gathered _ before _ c.new-outbox.ensures told)))

pub returns-in_err-flush-clause-err : goal.returns-in_err-flush-clause-err
returns-in_err-flush-clause-err g c =
    let p = err_from_is_err_and c.from_residual-in_err-flush.result c.from_residual-in_err-flush.ensures.1 in
    rw (p.1, p.2) (λ before told.
    c.in_err-flush.ensures.err _ before (c.in_ok-put_faults.ensures.ok _ before (c.in_ok-put_log.ensures.ok [] before (none-gathered _ before _ c.new-outbox.ensures told))))

pub returns-clause-ok : goal.returns-clause-ok
returns-clause-ok g c = λ before told.
    all-written _ _ before _
    (c.in_ok-flush.ensures.ok _ before (c.in_ok-put_faults.ensures.ok _ before (c.in_ok-put_log.ensures.ok [] before (none-gathered _ before _ c.new-outbox.ensures told))))
    c.in_ok-flush.ensures.none
