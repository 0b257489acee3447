use Rattle.std.proofs.Common.{◌<◌, ◌≤◌, ◌+◌, ◌-◌, Some, None, refl, sym, subst, arith}
use Rattle.std.specs.Prelude.{option_copied}
use Rattle.std.specs.List.{range_with_len}
use Rattle.nd_cluster.specs.Candidates.{candidates_if, candidates_on}
use Rattle.nd_cluster.specs.Choice.{Chooses, Finds}
use Rattle.nd_cluster.proofs.CandidatesLemmas.{next_of, none_left}
use Rattle.nd_cluster.proofs.ChoiceLemmas.{chooses_later, chooses_sooner}
use Rattle.nd_cluster.proofs.cluster.Cluster.first_between.Goals as goal

pub loop-p-init : goal.loop-p-init
loop-p-init g c = λ choice h. h

pub loop-p-preserved : goal.loop-p-preserved
loop-p-preserved g c = λ choice h.
    let s = c.args.self.now in
    let only = option_copied c.args.only in
    let p = c.loop-p.p in
    let more : p < c.args.hi = omega (arith, c.loop-p-test.true) in
    let none : Finds {A = g.row.A.Denot} s (candidates_if s only p) None = subst (Finds s (candidates_if s only p)) c.in_default.is c.in_ok-record.ensures in
    c.loop-p.invariant choice
    (subst (λ xs. Chooses s xs choice) (sym (next_of (candidates_if s only) p c.args.hi more))
    (chooses_later s (candidates_if s only p) (candidates_on s only (range_with_len (p + 1) (c.args.hi - (p + 1)))) choice none.0 h))

pub returns-in-Some : goal.returns-in-Some
returns-in-Some g c =
    let s = c.args.self.now in
    let only = option_copied c.args.only in
    let p = c.loop-p.p in
    let r = c.in-Some.record in
    let more : p < c.args.hi = omega (arith, c.loop-p-test.true) in
    let found : Finds {A = g.row.A.Denot} s (candidates_if s only p) (Some r) = subst (Finds s (candidates_if s only p)) c.in-Some.is c.in_ok-record.ensures in (
      c.loop-p.invariant (Some r.step)
          (subst (λ xs. Chooses s xs (Some r.step)) (sym (next_of (candidates_if s only) p c.args.hi more))
          (chooses_sooner s (candidates_if s only p) (candidates_on s only (range_with_len (p + 1) (c.args.hi - (p + 1)))) r.step found.0)),
      found.1,
    )

pub returns : goal.returns
returns g c =
    let s = c.args.self.now in
    let only = option_copied c.args.only in
    let all : c.args.hi ≤ c.loop-p.p = omega (arith, c.loop-p-test.false) in
    (c.loop-p.invariant None (subst (λ xs. Chooses {A = g.row.A.Denot} s xs None) (sym (none_left (candidates_if s only) c.loop-p.p c.args.hi all)) refl), tt)
