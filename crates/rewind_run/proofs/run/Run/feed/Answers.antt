use Rattle.std.proofs.Common.{ℕ, ◌≤◌, List, ◌++◌, length, drop, take, refl, arith, subst, length-drop}
use Rattle.std.proofs.lemmas.List.{take_all, take_rest}
use Rattle.std.proofs.lemmas.Result.{IfErr-weaker, IfOk-weaker, err_from_is_err_and}
use Rattle.rewind_lines.specs.Lines.{whole_lines_of}
use Rattle.rewind_run.specs.States.{Answered, EndsEarly}
use Rattle.rewind_run.specs.declared.run.Run.{Run}
use Rattle.rewind_lines.specs.Cuts.{up_to, up_to-more}
use Rattle.rewind_run.proofs.AnsweredLaws.{answered-flush, ends-stopped, feeds-write}
use Rattle.rewind_run.proofs.run.Run.feed.Goals as goal

pub returns-in_err-flush-clause-err : goal.returns-in_err-flush-clause-err
returns-in_err-flush-clause-err g c =
    let p = err_from_is_err_and c.from_residual.result c.from_residual.ensures.1 in
    let w = c.in_err-flush.ensures.err in
    let bytes = c.args.bytes.now in
    let from = c.parts.from in
    let ok = rw (take_rest bytes from) at c.gather-gathered.ensures.ok in
    let err = rw (take_rest bytes from) at c.gather-gathered.ensures.err in
    rw (p.1, p.2) (λ n done before s.
    let a = c.parts.invariant.answered n done before s in
    feeds-write n w.0 from done bytes before a.sent _ _ c.gather-gathered.new.self c.gather-gathered.result
    (IfOk-weaker c.gather-gathered.result _ _ (λ _ h. h n (done ++ take from bytes) a.sent a.stands) ok)
    (IfErr-weaker c.gather-gathered.result _ _ (λ _ h. h n (done ++ take from bytes) a.sent a.stands) err)
    a.written w.1)

pub returns-in_err-from-clause-err : goal.returns-in_err-from-clause-err
returns-in_err-from-clause-err g c =
    let p = err_from_is_err_and c.from_residual-in_err-from.result c.from_residual-in_err-from.ensures.1 in
    let bytes = c.args.bytes.now in
    let from = c.parts.from in
    let err = rw (take_rest bytes from) at c.in_err-from.ensures.err in
    rw (p.1, p.2) (λ n done before s.
    let a = c.parts.invariant.answered n done before s in
    subst (λ (xs : List ℕ). EndsEarly n (whole_lines_of xs) before (g.T.Sink.contents c.flush.new.sink) c.in_err-from.field-0.0) (up_to done bytes from)
    (ends-stopped n (whole_lines_of ((done ++ take from bytes) ++ drop from bytes)) before a.sent _ _ c.gather-gathered.new.self c.in_err-from.field-0.0
    (err n (done ++ take from bytes) a.sent a.stands) a.written c.in_ok-flush.ensures.ok))

pub parts-preserved : goal.parts-preserved
parts-preserved g c =
    let bytes = c.args.bytes.now in
    let from = c.parts.from in
    let m = c.in_ok-from.field-0 in
    let ok = rw (take_rest bytes from) at c.in_ok-from.ensures.ok in
    let fits : m ≤ length (drop from bytes) = rw (take_rest bytes from) at c.in_ok-from.ensures.within in
    let i = c.in_ok-from.ensures.counts in
    let j = c.parts.invariant in
    record {
      within = omega (arith, length-drop from bytes);
      answered = λ n done before s.
          let a = c.parts.invariant.answered n done before s in
          let next : Run = record c.gather-gathered.new.self { outbox = c.flush.new.self } in
          subst (λ (xs : List ℕ). Answered n xs before (g.T.Sink.contents c.flush.new.sink) next) (up_to-more done bytes from m)
          (answered-flush n ((done ++ take from bytes) ++ take m (drop from bytes)) before a.sent (g.T.Sink.contents c.parts.sink) (g.T.Sink.contents c.flush.new.sink) c.gather-gathered.new.self next
          (ok n (done ++ take from bytes) a.sent a.stands) a.written c.in_ok-flush.ensures.ok c.in_ok-flush.ensures.none refl refl refl);
      none_waits = c.in_ok-flush.ensures.none;
      number = let x = i.0 in let y = j.number in omega arith;
      replied = let x = i.1 in let y = j.replied in omega arith;
      sound = c.in_ok-flush.ensures.failed;
    }

pub returns-clause-ok : goal.returns-clause-ok
returns-clause-ok g c = λ n done before s.
    subst (λ (xs : List ℕ). Answered n (done ++ xs) before (g.T.Sink.contents c.parts.sink) c.parts.self)
    (take_all c.parts.from c.args.bytes.now c.parts-test.false) (c.parts.invariant.answered n done before s)
