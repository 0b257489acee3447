use Rattle.std.proofs.Common.{◌∙◌, ◌+◌, ◌≤◌, length, ap, arith}
use Rattle.std.proofs.lemmas.Bool.{eq-eqb, ne_eqb}
use Rattle.std.proofs.lemmas.List.{length-take}
use Rattle.std.proofs.lemmas.Result.{err_from_is_err_and}
use Rattle.rewind_clients.proofs.ReadersLemmas.{fails-long, fails-piece, fails-read, going-on, read-whole}
use Rattle.rewind_clients.proofs.reader.read_script.Goals as goal

pub returns-in_err-n-clause-err : goal.returns-in_err-n-clause-err
returns-in_err-n-clause-err g c =
    let p = err_from_is_err_and c.from_residual-in_err-n.result c.from_residual-in_err-n.ensures.1 in
    rw (p.1, p.2) (λ input told. fails-read _ _ _ input _ _ c.reads.reader (c.reads.invariant.going input told) c.in_err-n.ensures.err)

pub returns-in_err-end_line-clause-err : goal.returns-in_err-end_line-clause-err
returns-in_err-end_line-clause-err g c =
    let p = err_from_is_err_and c.from_residual-in_err-end_line.result c.from_residual-in_err-end_line.ensures.1 in
    rw (p.1, p.2) (λ input told. fails-piece _ _ _ input _ _ c.reads.reader _ _ (c.reads.invariant.going input told) c.in_ok-n.ensures.bytes (omega (arith, c.if-n-eq0.true)))

pub returns-then-n-eq0-clause-whole : goal.returns-then-n-eq0-clause-whole
returns-then-n-eq0-clause-whole g c = λ input told.
    read-whole _ _ _ input _ _ c.reads.reader _ _ _ (c.reads.invariant.going input told) c.in_ok-n.ensures.bytes c.if-n-eq0.true (c.in_ok-n.ensures.end c.if-n-eq0.true) (λ p done s. c.in_ok-end_line.ensures.ok p done s)

pub returns-then-n-eq0-clause-ended : goal.returns-then-n-eq0-clause-ended
returns-then-n-eq0-clause-ended g c = c.in_ok-n.ensures.ended ∙ eq-eqb c.in_ok-n.n 0 c.if-n-eq0.true

pub returns-then-n-left-clause-err : goal.returns-then-n-left-clause-err
returns-then-n-left-clause-err g c =
    let one : c.in_ok-n.n ≤ c.reads.left + 1 = omega (arith, c.in_ok-n.ensures.within, c.min-most.ensures) in
    let within : c.in_ok-n.n ≤ length c.read_into.new.chunk = omega (arith, c.in_ok-n.ensures.within, c.min-most.ensures, c.read_into.auto.chunk, c.reads.invariant.chunk) in
    λ input told. fails-long _ _ _ input _ _ c.reads.reader _ _ (c.reads.invariant.going input told) c.in_ok-n.ensures.bytes c.if-n-left.true one within

pub returns-in_err-feed-clause-err : goal.returns-in_err-feed-clause-err
returns-in_err-feed-clause-err g c =
    let p = err_from_is_err_and c.from_residual-in_err-feed.result c.from_residual-in_err-feed.ensures.1 in
    rw (p.1, p.2) (λ input told. fails-piece _ _ _ input _ _ c.reads.reader _ _ (c.reads.invariant.going input told) c.in_ok-n.ensures.bytes c.if-n-left.false)

pub reads-preserved : goal.reads-preserved
reads-preserved g c =
    let fed = rw c.front.ensures at c.in_ok-feed.ensures.ok in
    let piece : length c.front.result.now ≤ c.in_ok-n.n =
    let same = ap length c.front.ensures in omega (arith, length-take c.in_ok-n.n c.read_into.new.chunk) in
    let n = c.in_ok-feed.ensures.number in
    let x = c.reads.invariant.number in
    let z = c.reads.invariant.given in
    let w = c.in_ok-n.ensures.given in
    let u : c.in_ok-n.n ≤ c.reads.left = c.if-n-left.false in
    let within : c.in_ok-n.n ≤ length c.read_into.new.chunk = omega (arith, c.in_ok-n.ensures.within, c.min-most.ensures, c.read_into.auto.chunk, c.reads.invariant.chunk) in
    record {
      number = omega arith;
      chunk = c.read_into.auto.chunk ∙ c.reads.invariant.chunk;
      going = λ input told. going-on _ _ _ _ input _ _ c.reads.reader _ _ _ (c.reads.invariant.going input told) c.in_ok-n.ensures.bytes u within (omega arith) (λ p done s. fed p done s);
      given = omega arith;
      goes_on = c.in_ok-n.ensures.ended ∙ ne_eqb c.in_ok-n.n 0 c.if-n-eq0.false;
      unfailed = c.in_ok-n.ensures.failed;
    }
