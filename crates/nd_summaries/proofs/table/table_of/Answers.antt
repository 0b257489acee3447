use Rattle.std.proofs.Common.{◌≡◌, ◌∙◌, ◌<◌, ℕ, sym, ap, subst, length, arith}
use Rattle.nd_graph.specs.Graph.{depths}
use Rattle.nd_time.specs.declared.order.TimeOrder.{TimeOrder}
use Rattle.nd_summaries.specs.Walk.{FailsBy}
use Rattle.nd_summaries.specs.Row.{IsRow}
use Rattle.nd_summaries.specs.Table.{IsTable}
use Rattle.nd_summaries.proofs.Fails.{shown_fails, fails_shown}
use Rattle.nd_summaries.proofs.Made.{Made-more, Made-table}
use Rattle.nd_summaries.proofs.table.table_of.Goals as goal

pub loop-location-init : goal.loop-location-init
loop-location-init g c = record {
  indexed = c.in_ok-shared.ensures.indexed;
  made = record {
    count = ap length c.new-rows.ensures.items;
    small = λ a low. absurd (omega arith);
    minimal = λ a low. absurd (omega arith);
    none = λ a low f. absurd (omega arith);
  };
}

pub loop-location-preserved : goal.loop-location-preserved
loop-location-preserved g c =
    let row = subst (IsRow c.order-order.result c.args.graph.now c.loop-location.location) (sym c.deref-in-loop-location.ensures.value) c.in_ok-row.ensures in
    let row' = subst (IsRow c.order-order.result c.args.graph.now c.loop-location.location) (sym c.deref.ensures.value) c.in_ok-row.ensures in
    let fine : FailsBy c.order-order.result c.args.graph.now c.loop-location.location → ⊥ = λ f. c.if-shows_fail.ensures (fails_shown c.order-order.result c.args.graph.now c.all_arcs.ensures.agree c.loop-location.location c.deref.result.now row' f) in
    record {
      indexed = c.in_ok-numbers.ensures.indexed;
      made = Made-more c.order-order.result c.args.graph.now c.loop-location.shared.lists.items c.numbers.new.self.lists.items c.loop-location.rows.items c.push.new.self.items c.in_ok-numbers.numbers c.deref-in-loop-location.result.now c.loop-location.location
          c.loop-location.invariant.made c.in_ok-numbers.ensures.extends c.in_ok-numbers.ensures.named row fine c.in-Ok.ensures.items;
    }

pub returns-then-shows_fail : goal.returns-then-shows_fail
returns-then-shows_fail g c =
    let row = subst (IsRow c.order-order.result c.args.graph.now c.loop-location.location) (sym c.deref.ensures.value) c.in_ok-row.ensures in
    record {
      table = tt;
      fault = subst (λ (o : TimeOrder). FailsBy o c.args.graph.now c.loop-location.location × ((k : ℕ) → k < c.loop-location.location → FailsBy o c.args.graph.now k → ⊥)) c.order-order.ensures (
        shown_fails c.order-order.result c.args.graph.now c.all_arcs.ensures.agree c.loop-location.location c.deref.result.now row c.if-shows_fail.ensures,
        λ k low f. c.loop-location.invariant.made.none k low f,
      );
    }

pub shows_fail-requires : goal.shows_fail-requires
shows_fail-requires g c = ap length c.deref.ensures.value ∙ c.in_ok-row.ensures.long

pub returns : goal.returns
returns g c =
    let size : c.loop-location.location ≡ length (depths c.args.graph.now) = omega (arith, c.loop-location-test.false, c.loop-location.auto.location-end, ap length c.depths-depths.ensures.depths) in
    let table = Made-table c.order-order.result c.args.graph.now c.loop-location.shared.lists.items c.loop-location.shared.buckets.items c.loop-location.rows.items c.loop-location.location c.all_arcs.ensures.agree c.all_arcs.ensures.shallow size c.loop-location.invariant.indexed c.loop-location.invariant.made in
    record {
      table = subst (λ (o : TimeOrder). IsTable o c.args.graph.now c.into_lists-lists.result.items c.loop-location.rows.items) c.order-order.ensures (subst (λ lists. IsTable c.order-order.result c.args.graph.now lists c.loop-location.rows.items) (sym c.into_lists-lists.ensures) table);
      fault = tt;
    }
