use Rattle.std.proofs.Common.{◌≡◌, ◌<◌, ◌∙◌, ℕ, sym, subst, length, get_or, take, refl, arith, List}
use Rattle.std.specs.Prelude.{All, Contains}
use Rattle.std.proofs.lemmas.List.{take_all}
use Rattle.std.proofs.lemmas.List.Elements.{All-more, All-weaker, Contains-get_or}
use Rattle.nd_graph.specs.declared.graph.Arc.{Arc}
use Rattle.nd_graph.specs.declared.op.Action.TheVariants.{Identity}
use Rattle.nd_summaries.specs.declared.row.Reached.{Reached}
use Rattle.nd_summaries.specs.Steps.{step}
use Rattle.nd_summaries.specs.Row.{Grown, IsCovered, IsFollowed, Reaches, listed, leaving}
use Rattle.nd_summaries.proofs.Rows.{Grown-none, Reaches-grown, Reaches-kept, Reaches-here, followed_on, followed_more, arc_leaving}
use Rattle.nd_summaries.proofs.row.round.Goals as goal

-- the arc that leaves an item of the last round, and the item
one : (xs : List Arc) (last : List Reached) (r : Reached) (as' : List Arc) (i j : ℕ) (d : Arc) → j < length last → r ≡ get_or last j r → as' ≡ leaving r.location xs → i < length as' → Contains last r × Contains xs (get_or as' i d) × ((get_or as' i d).from ≡ r.location)
one xs last r as' i j d low is e low' =
    let in' = subst (Contains last) (sym is) (Contains-get_or last j r low) in
    let both = arc_leaving xs r.location i d as' e low' in
    (in', both.0, both.1)

pub past-summary-requires-clause-room : goal.past-summary-requires-clause-room
past-summary-requires-clause-room g c =
    let d : Arc = record { from = 0; action = Identity; to = 0 } in
    let x : Arc = get_or c.leaving-arcs.result.now c.arcs.arc-index d in
    let it = one c.args.out.now c.args.last.now c.reached-item.result c.leaving-arcs.result.now c.arcs.arc-index c.items.reached-index d c.items-test.true c.reached-item.is c.leaving-arcs.ensures c.arcs-test.true in
    (c.requires c.reached-item.result x it.0 it.1 it.2).1.0

pub past-summary-requires-clause-within : goal.past-summary-requires-clause-within
past-summary-requires-clause-within g c =
    let d : Arc = record { from = 0; action = Identity; to = 0 } in
    let x : Arc = get_or c.leaving-arcs.result.now c.arcs.arc-index d in
    let it = one c.args.out.now c.args.last.now c.reached-item.result c.leaving-arcs.result.now c.arcs.arc-index c.items.reached-index d c.items-test.true c.reached-item.is c.leaving-arcs.ensures c.arcs-test.true in
    (c.requires c.reached-item.result x it.0 it.1 it.2).1.1

pub reach-requires : goal.reach-requires
reach-requires g c =
    let d : Arc = record { from = 0; action = Identity; to = 0 } in
    let x : Arc = get_or c.leaving-arcs.result.now c.arcs.arc-index d in
    let it = one c.args.out.now c.args.last.now c.reached-item.result c.leaving-arcs.result.now c.arcs.arc-index c.items.reached-index d c.items-test.true c.reached-item.is c.leaving-arcs.ensures c.arcs-test.true in
    let can = c.requires c.reached-item.result x it.0 it.1 it.2 in
    omega (arith, can.0, c.arcs.invariant.grown.long)

pub items-init : goal.items-init
items-init g c = record {
  grown = subst (λ next. Grown c.args.order c.args.out.now c.args.row.now c.args.row.now c.args.last.now next) (sym c.new-next.ensures.items) (Grown-none c.args.order c.args.out.now c.args.row.now c.args.last.now);
  done = λ k d low. absurd (omega arith);
}

pub arcs-init : goal.arcs-init
arcs-init g c = record { grown = c.items.invariant.grown; done = c.items.invariant.done; here = λ k d low. absurd (omega arith) }

pub arcs-preserved : goal.arcs-preserved
arcs-preserved g c =
    let d : Arc = record { from = 0; action = Identity; to = 0 } in
    let xs : List Arc = c.args.out.now in
    let last : List Reached = c.args.last.now in
    let r : Reached = c.reached-item.result in
    let x : Arc = get_or c.leaving-arcs.result.now c.arcs.arc-index d in
    let it = one xs last r c.leaving-arcs.result.now c.arcs.arc-index c.items.reached-index d c.items-test.true c.reached-item.is c.leaving-arcs.ensures c.arcs-test.true in
    let can = c.requires r x it.0 it.1 it.2 in
    let low : x.to < length c.arcs.row = omega (arith, can.0, c.arcs.invariant.grown.long) in
    let says : Reaches c.args.order c.arcs.row c.reach.new.row c.arcs.next.items c.reach.new.next.items x.to (step x.action r.summary) = subst (λ s. Reaches c.args.order c.arcs.row c.reach.new.row c.arcs.next.items c.reach.new.next.items x.to s) c.past-summary.ensures c.in_ok-reach.ensures in
    let kept = Reaches-kept c.args.order c.arcs.row c.reach.new.row c.arcs.next.items c.reach.new.next.items x.to (step x.action r.summary) low says in
    record {
      grown = Reaches-grown c.args.order xs c.args.row.now c.arcs.row c.reach.new.row last c.arcs.next.items c.reach.new.next.items x.to (step x.action r.summary) low c.arcs.invariant.grown (r, x, it.0, it.1, it.2, refl) says;
      done = All-weaker (IsFollowed c.args.order xs c.arcs.row) (IsFollowed c.args.order xs c.reach.new.row) (λ q h. followed_on c.args.order xs c.arcs.row c.reach.new.row kept q h) (take c.items.reached-index last) c.arcs.invariant.done;
      here = All-more (λ y. IsCovered c.args.order (listed c.reach.new.row y.to) (step y.action r.summary)) c.leaving-arcs.result.now c.arcs.arc-index d c.arcs-test.true
          (All-weaker (λ y. IsCovered c.args.order (listed c.arcs.row y.to) (step y.action r.summary)) (λ y. IsCovered c.args.order (listed c.reach.new.row y.to) (step y.action r.summary)) (λ y h. kept y.to (step y.action r.summary) h) (take c.arcs.arc-index c.leaving-arcs.result.now) c.arcs.invariant.here)
          (Reaches-here c.args.order c.arcs.row c.reach.new.row c.arcs.next.items c.reach.new.next.items x.to (step x.action r.summary) low says);
    }

pub items-preserved : goal.items-preserved
items-preserved g c =
    let xs : List Arc = c.args.out.now in
    let r : Reached = c.reached-item.result in
    let all : take c.arcs.arc-index c.leaving-arcs.result.now ≡ leaving r.location xs = take_all c.arcs.arc-index c.leaving-arcs.result.now c.arcs-test.false ∙ c.leaving-arcs.ensures in
    record {
      grown = c.arcs.invariant.grown;
      done = followed_more c.args.order xs c.arcs.row c.args.last.now c.items.reached-index r c.items-test.true c.reached-item.is c.arcs.invariant.done
          (subst (λ ys. All (λ y. IsCovered c.args.order (listed c.arcs.row y.to) (step y.action r.summary)) ys) all c.arcs.invariant.here);
    }

pub returns : goal.returns
returns g c = record {
  grown = c.items.invariant.grown;
  followed = subst (λ rs. All (IsFollowed c.args.order c.args.out.now c.items.row) rs) (take_all c.items.reached-index c.args.last.now c.items-test.false) c.items.invariant.done;
}
