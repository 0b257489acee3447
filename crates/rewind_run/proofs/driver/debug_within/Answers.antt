use Rattle.std.proofs.Common.{◌∙◌, ◌==◌, ◌+◌, ◌≤◌, length, take, sym, ap, arith}
use Rattle.std.proofs.lemmas.Bool.{ne_eqb}
use Rattle.std.proofs.lemmas.List.{length-take}
use Rattle.std.proofs.lemmas.Result.{err_from_is_err_and}
use Rattle.rewind_run.proofs.DriverLaws.{ends-first, ends-last, ends-long, ends-ok, ends-piece-over, ends-piece-under, ends-read, going-on, not-read, one-client, takes-run}
use Rattle.rewind_run.proofs.driver.debug_within.Goals as goal

pub returns-in_err-room-clause-run : goal.returns-in_err-room-clause-run
returns-in_err-room-clause-run g c =
    let p = err_from_is_err_and c.from_residual.result c.from_residual.ensures.1 in
    rw (p.1, p.2) (λ input before told had. ends-first _ _ input before _ _ told had)

pub returns-in_err-n-clause-run : goal.returns-in_err-n-clause-run
returns-in_err-n-clause-run g c =
    let p = err_from_is_err_and c.from_residual-in_err-n.result c.from_residual-in_err-n.ensures.1 in
    rw (p.1, p.2) (λ input before told had. ends-read _ _ _ input before _ _ _ c.reads.run (c.reads.invariant.going input before told had) c.in_err-n.ensures.err)

pub returns-in_err-finish-clause-run : goal.returns-in_err-finish-clause-run
returns-in_err-finish-clause-run g c =
    let p = err_from_is_err_and c.from_residual-in_err-finish.result c.from_residual-in_err-finish.ensures.1 in
    rw (p.1, p.2) (λ input before told had.
    ends-last _ _ _ input before _ _ _ _ c.reads.run _ _ (c.reads.invariant.going input before told had) c.in_ok-n.ensures.bytes (ap (λ k. take k c.read_into.new.chunk) c.if-n-eq0.true)
    (c.in_ok-n.ensures.end c.if-n-eq0.true) (λ done a. c.in_err-finish.ensures.err _ done before a))

pub returns-in_err-finish-clause-takes : goal.returns-in_err-finish-clause-takes
returns-in_err-finish-clause-takes g c =
    let p = err_from_is_err_and c.from_residual-in_err-finish.result c.from_residual-in_err-finish.ensures.1 in
    rw (p.1, p.2) (takes-run _ c.reads.left _ _ _ c.in_ok-n.n c.min-most.result _ c.in_err-finish.ensures.kind c.reads.invariant.given c.in_ok-n.ensures.given c.in_ok-n.ensures.within (omega (arith, c.min-most.ensures)))

pub returns-in_err-finish-clause-read : goal.returns-in_err-finish-clause-read
returns-in_err-finish-clause-read g c =
    let p = err_from_is_err_and c.from_residual-in_err-finish.result c.from_residual-in_err-finish.ensures.1 in
    rw (p.1, p.2) (c.in_ok-n.ensures.failed ∙ sym (not-read _ c.in_err-finish.ensures.kind))

pub returns-in_err-finish-clause-one_client : goal.returns-in_err-finish-clause-one_client
returns-in_err-finish-clause-one_client g c =
    let p = err_from_is_err_and c.from_residual-in_err-finish.result c.from_residual-in_err-finish.ensures.1 in
    rw (p.1, p.2) (one-client _ c.in_err-finish.ensures.kind)

pub returns-then-n-eq0-clause-run : goal.returns-then-n-eq0-clause-run
returns-then-n-eq0-clause-run g c = λ input before told had. rw c.replied.ensures
    (ends-ok _ _ _ input before _ _ _ _ c.reads.run _ _ (c.reads.invariant.going input before told had) c.in_ok-n.ensures.bytes (ap (λ k. take k c.read_into.new.chunk) c.if-n-eq0.true)
    (c.in_ok-n.ensures.end c.if-n-eq0.true) (λ done a. c.in_ok-finish.ensures.ok _ done before a))

pub returns-then-n-eq0-clause-ended : goal.returns-then-n-eq0-clause-ended
returns-then-n-eq0-clause-ended g c = c.in_ok-n.ensures.ended ∙ ap (λ k. k == 0) c.if-n-eq0.true

pub returns-in_err-feed-clause-run : goal.returns-in_err-feed-clause-run
returns-in_err-feed-clause-run g c =
    let p = err_from_is_err_and c.from_residual-in_err-feed.result c.from_residual-in_err-feed.ensures.1 in
    let fed = rw c.front.ensures at c.in_err-feed.ensures.err in
    let one : c.in_ok-n.n ≤ c.reads.left + 1 = omega (arith, c.in_ok-n.ensures.within, c.min-most.ensures) in
    let within : c.in_ok-n.n ≤ length c.read_into.new.chunk = omega (arith, c.in_ok-n.ensures.within, c.min-most.ensures, c.read_into.auto.chunk, c.reads.invariant.chunk) in
    rw (p.1, p.2) (λ input before told had.
    ends-piece-over _ _ _ input before _ _ _ _ c.reads.run _ _ _ (c.reads.invariant.going input before told had) c.in_ok-n.ensures.bytes c.if-n-left.true one within (λ done a. fed _ done before a))

pub returns-in_err-feed-clause-takes : goal.returns-in_err-feed-clause-takes
returns-in_err-feed-clause-takes g c =
    let p = err_from_is_err_and c.from_residual-in_err-feed.result c.from_residual-in_err-feed.ensures.1 in
    rw (p.1, p.2) (takes-run _ c.reads.left _ _ _ c.in_ok-n.n c.min-most.result _ c.in_err-feed.ensures.kind c.reads.invariant.given c.in_ok-n.ensures.given c.in_ok-n.ensures.within (omega (arith, c.min-most.ensures)))

pub returns-in_err-feed-clause-read : goal.returns-in_err-feed-clause-read
returns-in_err-feed-clause-read g c =
    let p = err_from_is_err_and c.from_residual-in_err-feed.result c.from_residual-in_err-feed.ensures.1 in
    rw (p.1, p.2) (c.in_ok-n.ensures.failed ∙ sym (not-read _ c.in_err-feed.ensures.kind))

pub returns-in_err-feed-clause-one_client : goal.returns-in_err-feed-clause-one_client
returns-in_err-feed-clause-one_client g c =
    let p = err_from_is_err_and c.from_residual-in_err-feed.result c.from_residual-in_err-feed.ensures.1 in
    rw (p.1, p.2) (one-client _ c.in_err-feed.ensures.kind)

pub returns-then-n-left-clause-run : goal.returns-then-n-left-clause-run
returns-then-n-left-clause-run g c =
    let fed = rw c.front.ensures at c.in_ok-feed.ensures.ok in
    let one : c.in_ok-n.n ≤ c.reads.left + 1 = omega (arith, c.in_ok-n.ensures.within, c.min-most.ensures) in
    let within : c.in_ok-n.n ≤ length c.read_into.new.chunk = omega (arith, c.in_ok-n.ensures.within, c.min-most.ensures, c.read_into.auto.chunk, c.reads.invariant.chunk) in
    λ input before told had.
    ends-long _ _ _ input before _ _ _ _ c.reads.run _ _ _ (c.reads.invariant.going input before told had) c.in_ok-n.ensures.bytes c.if-n-left.true one within (λ done a. fed _ done before a)

pub returns-in_err-feed-2-clause-run : goal.returns-in_err-feed-2-clause-run
returns-in_err-feed-2-clause-run g c =
    let p = err_from_is_err_and c.from_residual-in_err-feed-2.result c.from_residual-in_err-feed-2.ensures.1 in
    let fed = rw c.front-in-reads.ensures at c.in_err-feed-2.ensures.err in
    let within : c.in_ok-n.n ≤ length c.read_into.new.chunk = omega (arith, c.in_ok-n.ensures.within, c.min-most.ensures, c.read_into.auto.chunk, c.reads.invariant.chunk) in
    rw (p.1, p.2) (λ input before told had.
    ends-piece-under _ _ _ input before _ _ _ _ c.reads.run _ _ _ (c.reads.invariant.going input before told had) c.in_ok-n.ensures.bytes c.if-n-left.false within (λ done a. fed _ done before a))

pub returns-in_err-feed-2-clause-takes : goal.returns-in_err-feed-2-clause-takes
returns-in_err-feed-2-clause-takes g c =
    let p = err_from_is_err_and c.from_residual-in_err-feed-2.result c.from_residual-in_err-feed-2.ensures.1 in
    rw (p.1, p.2) (takes-run _ c.reads.left _ _ _ c.in_ok-n.n c.min-most.result _ c.in_err-feed-2.ensures.kind c.reads.invariant.given c.in_ok-n.ensures.given c.in_ok-n.ensures.within (omega (arith, c.min-most.ensures)))

pub returns-in_err-feed-2-clause-read : goal.returns-in_err-feed-2-clause-read
returns-in_err-feed-2-clause-read g c =
    let p = err_from_is_err_and c.from_residual-in_err-feed-2.result c.from_residual-in_err-feed-2.ensures.1 in
    rw (p.1, p.2) (c.in_ok-n.ensures.failed ∙ sym (not-read _ c.in_err-feed-2.ensures.kind))

pub returns-in_err-feed-2-clause-one_client : goal.returns-in_err-feed-2-clause-one_client
returns-in_err-feed-2-clause-one_client g c =
    let p = err_from_is_err_and c.from_residual-in_err-feed-2.result c.from_residual-in_err-feed-2.ensures.1 in
    rw (p.1, p.2) (one-client _ c.in_err-feed-2.ensures.kind)

pub reads-preserved : goal.reads-preserved
reads-preserved g c =
    let fed = rw c.front-in-reads.ensures at c.in_ok-feed-2.ensures.ok in
    let piece : length c.front-in-reads.result.now ≤ c.in_ok-n.n =
    let same = ap length c.front-in-reads.ensures in omega (arith, length-take c.in_ok-n.n c.read_into.new.chunk) in
    let n = c.in_ok-feed-2.ensures.counts.0 in
    let m = c.in_ok-feed-2.ensures.counts.1 in
    let x = c.reads.invariant.number in
    let y = c.reads.invariant.replied in
    let z = c.reads.invariant.given in
    let w = c.in_ok-n.ensures.given in
    let u : c.in_ok-n.n ≤ c.reads.left = c.if-n-left.false in
    let within : c.in_ok-n.n ≤ length c.read_into.new.chunk = omega (arith, c.in_ok-n.ensures.within, c.min-most.ensures, c.read_into.auto.chunk, c.reads.invariant.chunk) in
    record {
      number = omega arith;
      replied = omega arith;
      chunk = c.read_into.auto.chunk ∙ c.reads.invariant.chunk;
      going = λ input before told had.
          going-on _ _ _ _ input before _ _ _ _ c.reads.run _ _ _ (c.reads.invariant.going input before told had) c.in_ok-n.ensures.bytes u within (omega arith)
          (λ done a. fed _ done before a);
      none_waits = c.in_ok-feed-2.ensures.none_waits;
      given = omega arith;
      goes_on = c.in_ok-n.ensures.ended ∙ ne_eqb c.in_ok-n.n 0 c.if-n-eq0.false;
      unfailed = c.in_ok-n.ensures.failed;
      sound = c.in_ok-feed-2.ensures.failed;
    }
