use Rattle.std.proofs.Common.{◌∙◌, ◌+◌, List, ◌++◌, map, drop, take, subst, ap, refl}
use Rattle.std.proofs.lemmas.List.{take_all}
use Rattle.std.proofs.lemmas.Result.{err_from_is_err_and}
use Rattle.serde_json.specs.Data.{Data}
use Rattle.rewind_sessions.specs.Gathered.{Gathered}
use Rattle.rewind_sessions.specs.Runs.{entry_data}
use Rattle.rewind_sessions.proofs.RunsLemmas.{map-one, map-rest, stops-put}
use Rattle.rewind_sessions.proofs.write.put_log.Goals as goal

pub returns-in_err-put-clause-err : goal.returns-in_err-put-clause-err
returns-in_err-put-clause-err g c =
    let p = err_from_is_err_and c.from_residual.result c.from_residual.ensures.1 in
    let f = entry_data c.args.graph.now in
    let i = c.loop-entry.entry-index in
    let log = c.args.log.now in
    rw (p.1, p.2) (λ replies before h.
    stops-put (replies ++ map f (take i log)) (map f (drop (i + 1) log)) _ _ _ before _ _ (c.in_err-put.ensures.err _ before (c.loop-entry.invariant.gathered replies before h))
    (ap (λ (ds : List Data). ds ++ map f (drop (i + 1) log)) (map-one f replies log i _ _ c.loop-entry-test.true c.entry-item.is refl) ∙ map-rest f replies log (i + 1)))

pub loop-entry-preserved : goal.loop-entry-preserved
loop-entry-preserved g c =
    let f = entry_data c.args.graph.now in
    let i = c.loop-entry.entry-index in
    record {
      gathered = λ replies before h.
          subst (λ (rs : List Data). Gathered rs c.put.new.outbox before (g.T.Sink.contents c.put.new.sink))
          (map-one f replies c.args.log.now i _ _ c.loop-entry-test.true c.entry-item.is refl)
          (c.in_ok-put.ensures.ok _ before (c.loop-entry.invariant.gathered replies before h));
      sound = c.in_ok-put.ensures.failed;
    }

pub returns-clause-ok : goal.returns-clause-ok
returns-clause-ok g c = λ replies before h.
    rw (take_all c.loop-entry.entry-index c.args.log.now c.loop-entry-test.false) at (c.loop-entry.invariant.gathered replies before h)
