use Rattle.std.proofs.Common.{◌∙◌, ◌++◌, ◌∷◌, [], ap, subst}
use Rattle.std.proofs.lemmas.List.{append-nil}
use Rattle.std.proofs.lemmas.Result.{err_from_is_err_and}
use Rattle.nd_time.specs.Code.{Code}
use Rattle.rewind_sessions.specs.Gathered.{Gathered}
use Rattle.rewind_sessions.specs.Runs.{client_fault}
use Rattle.rewind_sessions.proofs.RunsLemmas.{stops-put}
use Rattle.rewind_sessions.proofs.write.put_fault.Goals as goal

pub returns-in_err-put-clause-err : goal.returns-in_err-put-clause-err
returns-in_err-put-clause-err g c =
    let p = err_from_is_err_and c.from_residual.result c.from_residual.ensures.1 in
    rw (p.1, p.2, c.in-Some.is) (λ replies before h.
    stops-put replies [] _ _ _ before _ _ (c.in_err-put.ensures.err replies before h)
    (append-nil _ ∙ ((λ i. replies ++ client_fault c.args.client (record { number = c.number.ensures i; name = c.name.ensures i }) ∷ []) ∙ ap (λ (e : Code). replies ++ client_fault c.args.client e ∷ []) c.code-code.ensures)))

pub returns-clause-ok : goal.returns-clause-ok
returns-clause-ok g c = rw c.in-Some.is (λ replies before h.
    let told = (λ i. record { number = c.number.ensures i; name = c.name.ensures i }) ∙ c.code-code.ensures in
    subst (λ (e : Code). Gathered (replies ++ client_fault c.args.client e ∷ []) c.put.new.outbox before (g.T.Sink.contents c.put.new.sink)) told (c.in_ok-put.ensures.ok replies before h))
