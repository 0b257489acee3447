use Rattle.std.proofs.Common.{◌≡◌, ℕ, ◌+◌, ◌≤◌, List, ◌++◌, length, drop, take, None, refl, arith, subst, length-drop}
use Rattle.std.proofs.lemmas.List.{take_rest}
use Rattle.rewind_lines.specs.Cuts.{up_to, up_to-newline}
use Rattle.rewind_clients.specs.Readers.{StandsAt}
use Rattle.rewind_clients.specs.declared.reader.Reader.{Reader}
use Rattle.rewind_clients.proofs.ReadersLemmas.{stands-on}
use Rattle.rewind_clients.proofs.reader.Reader.feed.Goals as goal

pub lines-preserved : goal.lines-preserved
lines-preserved c =
    let bytes = c.args.bytes.now in
    let from = c.lines.from in
    let n = c.in-Some.n in
    let w = rw (c.in-Some.is, take_rest bytes from) at c.in_ok-n.ensures.whole in
    let i = c.lines.invariant in
    let fits : n ≤ length (drop from bytes) = w.1.within in
    let count = c.in_ok-end_line.ensures.number in
    let same = c.take.ensures.number in
    record {
      within = omega (arith, length-drop from bytes);
      stands = λ o done s.
          subst (λ (xs : List ℕ). StandsAt o xs c.end_line.new.self) (up_to-newline done bytes w.0 from n w.1.split)
          (c.in_ok-end_line.ensures.ok o ((done ++ take from bytes) ++ w.0) (stands-on o (done ++ take from bytes) w.0 c.lines.self _ w.1.one_line (i.stands o done s) w.2 refl refl));
      number = let x = i.number in let y = w.1.some in omega arith;
    }

pub returns-clause-ok : goal.returns-clause-ok
returns-clause-ok c = λ o done s.
    let bytes = c.args.bytes.now in
    let from = c.lines.from in
    let none : c.in_ok-n.field-0 ≡ None = grind arith in
    let p = rw (none, take_rest bytes from) at c.in_ok-n.ensures.part in
    let next : Reader = record c.lines.self { lines = c.take.new.self } in
    subst (λ (xs : List ℕ). StandsAt o xs next) (up_to done bytes from)
    (stands-on o (done ++ take from bytes) (drop from bytes) c.lines.self next p.0 (c.lines.invariant.stands o done s) p.1 refl refl)
