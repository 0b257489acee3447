use Rattle.std.proofs.Common.{[], ◌∷◌, ◌++◌, refl}
use Rattle.std.proofs.lemmas.Result.{IfErr-weaker, IfOk-weaker, err_from_is_err_and}
use Rattle.std.proofs.Math.Seq.{take-length}
use Rattle.rewind_lines.specs.Cuts.{whole_lines-newline}
use Rattle.rewind_lines.specs.Lines.{lines_of}
use Rattle.rewind_run.proofs.AnsweredLaws.{answered-flush, ends-stopped, ends-write}
use Rattle.rewind_run.proofs.run.Run.finish.Goals as goal

pub returns-in_err-flush-clause-err : goal.returns-in_err-flush-clause-err
returns-in_err-flush-clause-err g c =
    let p = err_from_is_err_and c.from_residual.result c.from_residual.ensures.1 in
    let w = c.in_err-flush.ensures.err in
    rw (p.1, p.2) (λ n done before a.
    ends-write n w.0 (lines_of done) before a.sent _ _ c.end_line-ended.new.self (λ _. done ++ 10 ∷ []) c.end_line-ended.result
    (IfOk-weaker c.end_line-ended.result _ _ (λ _ h. h n done a.sent a.stands) c.end_line-ended.ensures.ok)
    (IfErr-weaker c.end_line-ended.result _ _ (λ _ h. h n done a.sent a.stands) c.end_line-ended.ensures.err)
    (λ _. rw (whole_lines-newline done) (take-length (lines_of done))) a.written w.1)

pub returns-clause-ok : goal.returns-clause-ok
returns-clause-ok g c =
    IfOk-weaker c.end_line-ended.result _ _ (λ _ h n done before a.
    answered-flush n (done ++ 10 ∷ []) before a.sent _ _ c.end_line-ended.new.self _ (h n done a.sent a.stands) a.written c.in_ok-flush.ensures.ok c.in_ok-flush.ensures.none refl refl refl)
    c.end_line-ended.ensures.ok

pub returns-clause-err : goal.returns-clause-err
returns-clause-err g c =
    IfErr-weaker c.end_line-ended.result _ _ (λ e h n done before a.
    ends-stopped n (lines_of done) before a.sent _ _ c.end_line-ended.new.self e (h n done a.sent a.stands) a.written c.in_ok-flush.ensures.ok)
    c.end_line-ended.ensures.err
