use Rattle.std.proofs.Common.{rules, ◌≡◌, ◌∙◌, ℕ, ◌+◌, ◌≤◌, List, ◌++◌, length, drop, take, None, refl, sym, ap, arith, subst, length-drop}
use Rattle.std.proofs.lemmas.List.{take_all, take_rest}
use Rattle.std.proofs.lemmas.Result.{err_from_is_err_and}
use Rattle.rewind_lines.specs.Cuts.{up_to, up_to-newline}
use Rattle.rewind_run.specs.States.{Stands}
use Rattle.rewind_run.specs.declared.run.Run.{Run}
use Rattle.rewind_run.proofs.StandLaws.{stands-on, stopped-memory, stopped-newline, waits-few}
use Rattle.rewind_run.proofs.run.Run.gather.Goals as goal

pub returns-in_err-n-clause-err : goal.returns-in_err-n-clause-err
returns-in_err-n-clause-err g c =
    let p = err_from_is_err_and c.from_residual.result c.from_residual.ensures.1 in
    let bytes = c.args.bytes.now in
    let from = c.lines.from in
    rw (p.1, p.2) (λ n done sent s.
    stopped-memory n (done ++ take from bytes) (drop from bytes) (done ++ bytes) sent c.lines.self _ (up_to done bytes from) (c.lines.invariant.stands n done sent s) refl)

pub returns-in_err-end_line-clause-err : goal.returns-in_err-end_line-clause-err
returns-in_err-end_line-clause-err g c =
    let p = err_from_is_err_and c.from_residual-in_err-end_line.result c.from_residual-in_err-end_line.ensures.1 in
    let bytes = c.args.bytes.now in
    let from = c.lines.from in
    let n = c.in-Some.n in
    let w = rw (c.in-Some.is, take_rest bytes from) at c.in_ok-n.ensures.whole in
    rw (p.1, p.2) (λ k done sent s.
    let begun = done ++ take from bytes in
    stopped-newline k (begun ++ w.0) (drop (from + n) bytes) (done ++ bytes) sent _ _
    (ap (λ xs. xs ++ drop (from + n) bytes) (up_to-newline done bytes w.0 from n w.1.split) ∙ up_to done bytes (from + n))
    (c.in_err-end_line.ensures.err k (begun ++ w.0) sent (stands-on k begun w.0 sent c.lines.self _ w.1.one_line (c.lines.invariant.stands k done sent s) w.2 refl refl refl)))

pub returns-then-is_full-clause-ok : goal.returns-then-is_full-clause-ok
returns-then-is_full-clause-ok g c = λ k done sent s.
    let bytes = c.args.bytes.now in
    let from = c.lines.from in
    let w = rw (c.in-Some.is, take_rest bytes from) at c.in_ok-n.ensures.whole in
    let begun = done ++ take from bytes in
    subst (λ (xs : List ℕ). Stands k xs sent c.end_line.new.self) (up_to-newline done bytes w.0 from c.in-Some.n w.1.split)
    (c.in_ok-end_line.ensures.ok k (begun ++ w.0) sent (stands-on k begun w.0 sent c.lines.self _ w.1.one_line (c.lines.invariant.stands k done sent s) w.2 refl refl refl))

pub lines-preserved : goal.lines-preserved
lines-preserved g c =
    let bytes = c.args.bytes.now in
    let from = c.lines.from in
    let n = c.in-Some.n in
    let w = rw (c.in-Some.is, take_rest bytes from) at c.in_ok-n.ensures.whole in
    let i = c.lines.invariant in
    let fits : n ≤ length (drop from bytes) = w.1.within in
    let counts = c.in_ok-end_line.ensures.counts in
    let same = c.take.ensures.number in
    let some = w.1.some in
    record {
      within = omega (arith, length-drop from bytes);
      stands = λ k done sent s.
          let begun = done ++ take from bytes in
          subst (λ (xs : List ℕ). Stands k xs sent c.end_line.new.self) (up_to-newline done bytes w.0 from n w.1.split)
          (c.in_ok-end_line.ensures.ok k (begun ++ w.0) sent (stands-on k begun w.0 sent c.lines.self _ w.1.one_line (i.stands k done sent s) w.2 refl refl refl));
      number = let x = i.number in let y = counts.0 in omega arith;
      replied = let x = i.replied in let y = counts.1 in omega arith;
      few = search rules;
    }

pub returns-clause-ok : goal.returns-clause-ok
returns-clause-ok g c = λ k done sent s.
    let bytes = c.args.bytes.now in
    let from = c.lines.from in
    let none : c.in_ok-n.field-0 ≡ None = grind arith in
    let p = rw (none, take_rest bytes from) at c.in_ok-n.ensures.part in
    let all : (done ++ take from bytes) ++ drop from bytes ≡ done ++ take (length bytes) bytes = up_to done bytes from ∙ ap (λ xs. done ++ xs) (sym (take_all (length bytes) bytes (omega arith))) in
    let next : Run = record c.lines.self { lines = c.take.new.self } in
    subst (λ (xs : List ℕ). Stands k xs sent next) all (stands-on k (done ++ take from bytes) (drop from bytes) sent c.lines.self next p.0 (c.lines.invariant.stands k done sent s) p.1 refl refl refl)

pub returns-in_err-n-clause-few : goal.returns-in_err-n-clause-few
returns-in_err-n-clause-few g c = waits-few c.lines.self.outbox c.lines.invariant.few

pub returns-in_err-end_line-clause-few : goal.returns-in_err-end_line-clause-few
returns-in_err-end_line-clause-few g c = record { before = c.lines.self.outbox; few = c.lines.invariant.few; more = c.end_line.ensures.adds }

pub returns-then-is_full-clause-few : goal.returns-then-is_full-clause-few
returns-then-is_full-clause-few g c = record { before = c.lines.self.outbox; few = c.lines.invariant.few; more = c.end_line.ensures.adds }

pub returns-clause-few : goal.returns-clause-few
returns-clause-few g c = waits-few c.lines.self.outbox c.lines.invariant.few
