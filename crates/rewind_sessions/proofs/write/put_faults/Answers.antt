use Rattle.std.proofs.Common.{◌+◌, List, drop, subst}
use Rattle.std.proofs.lemmas.List.{take_all}
use Rattle.std.proofs.lemmas.Result.{err_from_is_err_and}
use Rattle.serde_json.specs.Data.{Data}
use Rattle.rewind_sessions.specs.Gathered.{Gathered, StopsIn, stops-more}
use Rattle.rewind_sessions.specs.Runs.{faults_data}
use Rattle.rewind_sessions.proofs.RunsLemmas.{faults-one, faults-step}
use Rattle.rewind_sessions.proofs.write.put_faults.Goals as goal

pub returns-in_err-put_fault-clause-err : goal.returns-in_err-put_fault-clause-err
returns-in_err-put_fault-clause-err g c =
    let p = err_from_is_err_and c.from_residual.result c.from_residual.ensures.1 in
    let i = c.loop-client.client in
    rw (p.1, p.2) (λ replies before h.
    subst (λ (ds : List Data). StopsIn ds before (g.T.Sink.contents c.put_fault.new.sink) c.in_err-put_fault.field-0.0) (faults-step replies c.args.faults.now i _ c.loop-client-test.true c.index-faults-client.is)
    (stops-more _ (faults_data (i + 1) (drop (i + 1) c.args.faults.now)) before _ _ (c.in_err-put_fault.ensures.err _ before (c.loop-client.invariant.gathered replies before h))))

pub loop-client-preserved : goal.loop-client-preserved
loop-client-preserved g c = record {
  gathered = λ replies before h.
      subst (λ (ds : List Data). Gathered ds c.put_fault.new.outbox before (g.T.Sink.contents c.put_fault.new.sink))
      (faults-one replies c.args.faults.now c.loop-client.client _ c.loop-client-test.true c.index-faults-client.is)
      (c.in_ok-put_fault.ensures.ok _ before (c.loop-client.invariant.gathered replies before h));
  sound = c.in_ok-put_fault.ensures.failed;
}

pub returns-clause-ok : goal.returns-clause-ok
returns-clause-ok g c = λ replies before h.
    rw (take_all c.loop-client.client c.args.faults.now c.loop-client-test.false) at (c.loop-client.invariant.gathered replies before h)
