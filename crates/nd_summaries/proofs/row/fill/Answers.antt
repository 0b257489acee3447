use Rattle.std.proofs.Common.{◌≡◌, ◌≤◌, ◌*◌, ◌-◌, ◌∙◌, List, [], sym, ap, subst, length, get_or, arith, rules}
use Rattle.std.specs.Vec.{vec_len}
use Rattle.std.proofs.lemmas.Bool.Decides.{Decides-eqb}
use Rattle.std.proofs.lemmas.List.{length-replicate}
use Rattle.nd_time.specs.Limits.{max_counter}
use Rattle.nd_graph.specs.Graph.{arcs, depths}
use Rattle.nd_summaries.specs.declared.summary.Summary.{Summary}
use Rattle.nd_summaries.specs.Row.{CanFollow, IsRound, Reaches}
use Rattle.nd_summaries.specs.Steps.{identity, keeps}
use Rattle.nd_summaries.proofs.Rows.{can_follow, rounds_start, round_more, rounds_closed, rounds_all}
use Rattle.nd_summaries.proofs.row.fill.Goals as goal

pub rounds-init : goal.rounds-init
rounds-init g c =
    let at' : get_or c.depths-depths.result.now c.args.from 0 ≡ get_or (depths c.args.graph.now) c.args.from 0 = ap (λ ds. get_or ds c.args.from 0) c.depths-depths.ensures.depths in
    let start : c.identity-start.result ≡ identity (get_or (depths c.args.graph.now) c.args.from 0) = c.identity-start.ensures ∙ ap identity at' in
    let says = subst (λ s. Reaches c.args.order c.args.row.now c.reach.new.row [] c.reach.new.next.items c.args.from s) start
    (subst (λ q. Reaches c.args.order c.args.row.now c.reach.new.row q c.reach.new.next.items c.args.from c.identity-start.result) c.new-last.ensures.items c.in_ok-reach.ensures) in
    rounds_start c.args.order c.args.graph.now c.all_arcs.ensures.agree c.all_arcs.ensures.shallow c.args.from c.args.row.now c.reach.new.row c.reach.new.next.items c.requires.empty c.requires.from says

pub reach-requires : goal.reach-requires
reach-requires g c =
    omega (arith, c.requires.from, ap length c.requires.empty, length-replicate {A = List Summary} (length (depths c.args.graph.now)) [])

pub round-requires : goal.round-requires
round-requires g c =
    let low : c.rounds._round ≤ max_counter - 1 = omega (arith, c.rounds-test.true, ap length c.depths-depths.ensures.depths, c.depths-depths.ensures.each, c.depths-depths.ensures.few) in
    let can = can_follow c.args.order c.args.graph.now c.all_arcs.ensures.agree c.all_arcs.ensures.shallow c.args.from c.rounds.row c.rounds.last.items c.rounds._round c.rounds.invariant low in
    subst (λ xs. CanFollow xs (length c.rounds.row) c.deref.result.now) (sym c.requires.out) (subst (λ q. CanFollow (arcs c.args.graph.now) (length c.rounds.row) q) (sym c.deref.ensures.value) can)

pub rounds-preserved : goal.rounds-preserved
rounds-preserved g c =
    let says = subst (λ q. IsRound c.args.order (arcs c.args.graph.now) c.rounds.row c.round.new.row q c.in_ok-next.next.items) c.deref.ensures.value
    (subst (λ xs. IsRound c.args.order xs c.rounds.row c.round.new.row c.deref.result.now c.in_ok-next.next.items) c.requires.out c.in_ok-next.ensures) in
    round_more c.args.order c.args.graph.now c.all_arcs.ensures.agree c.all_arcs.ensures.shallow c.args.from c.rounds.row c.round.new.row c.rounds.last.items c.in_ok-next.next.items c.rounds._round c.rounds.invariant says

pub returns-then-is_empty : goal.returns-then-is_empty
returns-then-is_empty g c =
    let counted : length c.rounds.last.items ≡ vec_len c.rounds.last = search rules in
    let none : vec_len c.rounds.last ≡ 0 = (Decides-eqb (vec_len c.rounds.last) 0).0 (sym c.if-is_empty.ensures) in
    rounds_closed c.args.order c.args.graph.now c.all_arcs.ensures.agree c.all_arcs.ensures.shallow c.args.from c.rounds.row c.rounds.last.items c.rounds._round c.rounds.invariant (counted ∙ none)

pub returns : goal.returns
returns g c =
    let enough : keeps * length (depths c.args.graph.now) ≤ c.rounds._round = omega (arith, c.rounds-test.false, ap length c.depths-depths.ensures.depths) in
    rounds_all c.args.order c.args.graph.now c.all_arcs.ensures.agree c.all_arcs.ensures.shallow c.args.from c.rounds.row c.rounds.last.items c.rounds._round c.rounds.invariant enough
