use Rattle.std.proofs.Common.{rules, ◌≡◌, ◌∙◌, ◌+◌, ◌*◌, ℕ, List, All, vec_len, cond, nat_lt, min, map, length, sym, ap, subst, arith}
use Rattle.nd_history.specs.declared.work.Work.{Work}
use Rattle.nd_history.specs.declared.work.Searched.{Searched}
use Rattle.nd_history.specs.Least.{HoldsAt}
use Rattle.nd_history.specs.Claims.{times, AreTheNumbersBelow}
use Rattle.nd_history.specs.Works.{IsReady, IsSearched, HasDrawn, HasStopped, HaveStopped}
use Rattle.nd_history.proofs.Elements.{all_mapped, length_twice}
use Rattle.nd_history.proofs.Joined.{each_work, all_of}
use Rattle.nd_history.proofs.WorksLemmas.{have_stopped}
use Rattle.nd_history.proofs.AnswersLemmas.{called_lists}
use Rattle.nd_history.proofs.Lists.{below_min}
use Rattle.nd_history.proofs.team.search_all.Goals as goal

pub map_vec-requires-after_bounds : goal.map_vec-requires-after_bounds
map_vec-requires-after_bounds g c κs within =
    λ i x lt is.
    ((record { range = c.requires.range; count = c.pieces-pieces.ensures; word = omega (arith, c.in_ok-board.ensures.word.words) }, subst (IsReady _) (sym is) (c.in_ok-jobs.ensures.all i x lt)), (c.type_bounds.send-A, record { shared = c.type_bounds.sync-A.shared }, record { shared = c.type_bounds.sync-G.shared }, c.type_bounds.frees-A-Allocator))

pub gathered-requires-clause-all : goal.gathered-requires-clause-all
gathered-requires-clause-all g c κs within =
    let table = c.in_ok-board.board.shared.table_id in
    let p : ℕ = c.pieces-pieces.result in
    let works : List (Work g.row.A.Denot) = c.in_ok-works.works.items in
    let each = each_work _ _ _ (g.G.Gate.called c.args.scan.now.gate.now) c.in_ok-jobs.jobs.items works (search rules) c.in_ok-works.ensures.each (λ job w met. met) c.in_ok-jobs.ensures.numbered in
    let all : All (HasDrawn table p) works = all_of (HasDrawn table p) works (λ who w at. (each who w at).drawn) in
    λ k d lt. all k d lt

pub end_board-requires-clause-whole : goal.end_board-requires-clause-whole
end_board-requires-clause-whole g c =
    let works = c.in_ok-works.works in
    let same : length works.items ≡ vec_len works = search rules in
    let all : length works.items ≡ c.min-workers.result = same ∙ (c.in_ok-works.ensures.len ∙ c.in_ok-jobs.ensures.len) in
    c.in_ok-list.ensures.gathered.weight ∙ (ap (λ (n : ℕ). n * (c.pieces-pieces.result + 1)) all ∙ sym (ap (λ p. p.1) c.in_ok-board.ensures.key))

pub returns : goal.returns
returns g c =
    let A : Type 0 = g.row.A.Denot in
    let n : ℕ = c.end_board.result in
    let p : ℕ = c.pieces-pieces.result in
    let lo : ℕ = c.args.scan.now.positions.lo in
    let hi : ℕ = c.args.scan.now.positions.hi in
    let Hit : ℕ → Type 0 = HoldsAt c.args.scan.now.timeline.now c.args.scan.now.condition.now in
    let Called : ℕ → ℕ → Type 0 = g.G.Gate.called c.args.scan.now.gate.now in
    let works : List (Work A) = c.in_ok-works.works.items in
    let list : List (Searched A) = c.in_ok-list.list.items in
    let all = c.in_ok-list.ensures.gathered in
    let each = each_work _ _ _ Called c.in_ok-jobs.jobs.items works (search rules) c.in_ok-works.ensures.each (λ job w met. met) c.in_ok-jobs.ensures.numbered in
    let same : length works ≡ vec_len c.in_ok-works.works = search rules in
    let team : length works ≡ min c.args.workers 64 = same ∙ (c.in_ok-works.ensures.len ∙ (c.in_ok-jobs.ensures.len ∙ c.min-workers.ensures)) in
    let once : AreTheNumbersBelow (min n p) (map (λ s. s.claimed.items) list) = λ x. all.claimed x ∙ (ap (λ (k : ℕ). cond (nat_lt x p) k 0) (c.end_board.ensures.each x) ∙ below_min x n p) in
    record {
      found = all_mapped (λ (w : Work A). w.searched) (λ (s : Searched A). IsSearched Hit lo hi s) works list all.each
          (all_of (λ (w : Work A). IsSearched Hit lo hi w.searched) works (λ who w at. (each who w at).searched));
      claims = record {
        started = length_twice (λ (w : Work A). w.searched) (λ (s : Searched A). s.claimed.items) works list all.each ∙ team;
        count = min n p;
        few = omega (arith, c.pieces-pieces.ensures);
        once = once;
      };
      stopped = subst (λ (m : ℕ). HaveStopped m list) c.pieces-pieces.ensures
          (have_stopped p n works list all.each (all_of (HasStopped p) works (λ who w at. (each who w at).stopped))
          (λ x. ap (times x) (sym all.drawn) ∙ c.end_board.ensures.each x) (c.end_board.ensures.count ∙ ap length all.drawn) once);
      called = called_lists Called works list all.each (λ who w at. (each who w at).called);
    }
