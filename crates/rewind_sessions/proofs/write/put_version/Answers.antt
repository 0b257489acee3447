use Rattle.std.proofs.Common.{◌∙◌, ◌++◌, ◌∷◌, [], ℕ, ap, subst}
use Rattle.std.proofs.lemmas.List.{append-nil}
use Rattle.std.proofs.lemmas.Result.{err_from_is_err_and}
use Rattle.rewind_replies.specs.Replies.{version}
use Rattle.rewind_sessions.specs.Gathered.{Gathered}
use Rattle.rewind_sessions.proofs.RunsLemmas.{stops-put}
use Rattle.rewind_sessions.proofs.write.put_version.Goals as goal

pub returns-in_err-put-clause-err : goal.returns-in_err-put-clause-err
returns-in_err-put-clause-err g c =
    let p = err_from_is_err_and c.from_residual.result c.from_residual.ensures.1 in
    rw (p.1, p.2, c.in-Some.is) (λ replies before h.
    stops-put replies [] _ _ _ before _ _ (c.in_err-put.ensures.err replies before h)
    (append-nil _ ∙ ap (λ (n : ℕ). replies ++ version n ∷ []) c.number.ensures))

pub returns-clause-ok : goal.returns-clause-ok
returns-clause-ok g c = rw c.in-Some.is (λ replies before h.
    subst (λ (n : ℕ). Gathered (replies ++ version n ∷ []) c.put.new.outbox before (g.T.Sink.contents c.put.new.sink)) c.number.ensures (c.in_ok-put.ensures.ok replies before h))
