use Rattle.std.proofs.Common.{◌∙◌, ℕ, ◌+◌, [], ◌∷◌, ◌++◌, ap, refl}
use Rattle.std.proofs.lemmas.Result.{err_from_is_err_and}
use Rattle.rewind_lines.specs.Front.{held_of}
use Rattle.rewind_run.proofs.StandLaws.{adds-none, adds-reply, stopped-memory-here, stopped-refused, stands-next}
use Rattle.rewind_run.proofs.run.Run.end_line.Goals as goal

pub returns-in_err-reading-clause-err : goal.returns-in_err-reading-clause-err
returns-in_err-reading-clause-err g c =
    let p = err_from_is_err_and c.from_residual.result c.from_residual.ensures.1 in
    rw (p.1, p.2) (λ n done sent s. stopped-memory-here n done sent c.args.self.now _ s refl)

pub returns-in_err-count-clause-err : goal.returns-in_err-count-clause-err
returns-in_err-count-clause-err g c =
    let p = err_from_is_err_and c.from_residual-in_err-count.result c.from_residual-in_err-count.ensures.1 in
    rw (p.1, p.2) (λ n done sent s. stopped-memory-here n done sent c.args.self.now _ s c.in_err-count.ensures.err)

pub returns-then-is_last-clause-err : goal.returns-then-is_last-clause-err
returns-then-is_last-clause-err g c = λ n done sent s.
    stopped-refused n done sent c.args.self.now _ _ _ _ s refl (c.in_ok-reading.ensures.reading _ done s.held) (rw c.if-is_last.true at c.in_ok-count.ensures.answers)

pub returns-clause-ok : goal.returns-clause-ok
returns-clause-ok g c = λ n done sent s.
    stands-next n done sent c.args.self.now _ _ _ _ s refl (c.in_ok-reading.ensures.reading _ done s.held) (rw c.if-is_last.false at c.in_ok-count.ensures.answers)
    (λ l d h. c.begin_next.ensures.next l d (c.in_ok-count.ensures.lines ∙ h) ∙ ap (λ (n : ℕ). held_of n (d ++ 10 ∷ [])) c.limit-limit.ensures) (ap (λ k. k + c.in_ok-count.count) c.in_ok-count.ensures.replied)

pub returns-in_err-reading-clause-adds : goal.returns-in_err-reading-clause-adds
returns-in_err-reading-clause-adds g c = adds-none _ _ refl

pub returns-in_err-count-clause-adds : goal.returns-in_err-count-clause-adds
returns-in_err-count-clause-adds g c = adds-none _ _ c.in_err-count.ensures.err

pub returns-then-is_last-clause-adds : goal.returns-then-is_last-clause-adds
returns-then-is_last-clause-adds g c = adds-reply _ _ _ _ _ _ _ c.in_ok-count.ensures.answers c.in_ok-count.ensures.one

pub returns-clause-adds : goal.returns-clause-adds
returns-clause-adds g c = adds-reply _ _ _ _ _ _ _ c.in_ok-count.ensures.answers c.in_ok-count.ensures.one
