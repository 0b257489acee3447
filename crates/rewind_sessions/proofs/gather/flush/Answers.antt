use Rattle.std.proofs.lemmas.Result.{on_err_weaker}
use Rattle.rewind_sessions.proofs.OutboxLemmas.{flush-ok, front-written}
use Rattle.rewind_sessions.proofs.gather.flush.Goals as goal

pub returns-clause-ok : goal.returns-clause-ok
returns-clause-ok g c = flush-ok _ _ _ _ c.flush.result c.flush.ensures.ok c.flush.ensures.none

pub returns-clause-err : goal.returns-clause-err
returns-clause-err g c = on_err_weaker c.flush.result (λ w replies before h. front-written replies _ before _ _ w.0 h w.1) c.flush.ensures.err
