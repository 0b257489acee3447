use Rattle.std.proofs.Common.{◌≡◌, ◌≤◌, ◌<◌, ◌+◌, length, get_or, refl, true≢false, sym, subst, unsigned_abs}
use Rattle.nd_time.specs.Limits.{max_count}
use Rattle.nd_graph.specs.Graph.{Dataflow}
use Rattle.nd_delta.specs.Delta.{DeltaValue, entries}
use Rattle.nd_view.specs.Kept.{IsFor}
use Rattle.nd_view.specs.View.{IsBefore, IsOnFrontier, IsPartWhere, FrontierCovers}
use Rattle.nd_protocol.specs.State.{view}
use Rattle.nd_why.proofs.Taken.{IsTaken, within_limit, taken_none, taken_skip, taken_one, taken_all}
use Rattle.nd_why.proofs.Turns.{small}
use Rattle.nd_why.proofs.query.frontier_before.Goals as goal
use Rattle.nd_why.proofs.query.frontier_before.Goals.{then-is_before+in_ok-put, else-is_before}

pub frontier-requires : goal.frontier-requires
frontier-requires g c = subst (λ (k : Dataflow). IsFor k c.view.result.now) (sym c.paths-paths.ensures) c.view.ensures.paths

pub loop-entry-init : goal.loop-entry-init
loop-entry-init g c = record {
  frontier = c.in_ok-frontier.frontier;
  part = subst (λ (e : Dataflow × DeltaValue). IsPartWhere (IsOnFrontier e.0 e.1) e.1 c.in_ok-frontier.frontier) (λ i. (c.paths-paths.ensures i, c.view.ensures.map i)) c.in_ok-frontier.ensures.value;
  items = c.entries-entry-items.ensures.listed;
  taken = taken_none c.args.parts.now.graph c.args.asked.now.extent c.args.asked.now.point c.in_ok-frontier.frontier c.new-before.result c.new-before.ensures;
}

pub put-requires : goal.put-requires
put-requires g c =
    let f = c.in_ok-frontier.frontier in
    let x = c.entry-item.result in
    let listed = c.entries-entry-items.ensures.listed in
    let within : unsigned_abs x.1 ≤ max_count = within_limit f c.loop-entry.entry-index x c.entries-entry-items.ensures.within (rw listed at c.loop-entry-test.true) (rw listed at c.entry-item.is) in
    subst (λ z. unsigned_abs z ≤ max_count) (sym (small x.1 within)) within

pub loop-entry-preserved : goal.loop-entry-preserved
loop-entry-preserved g c =
    let v = c.loop-entry.invariant in
    let i = c.loop-entry.entry-index in
    let x = c.entry-item.result in
    let lt : i < length (entries v.frontier) = rw v.items at c.loop-entry-test.true in
    let is : x ≡ get_or (entries v.frontier) i x = rw v.items at c.entry-item.is in
    let listed = c.entries-entry-items.ensures.listed in
    let within : unsigned_abs x.1 ≤ max_count = within_limit c.in_ok-frontier.frontier i x c.entries-entry-items.ensures.within (rw listed at c.loop-entry-test.true) (rw listed at c.entry-item.is) in
    elim c.if-is_before.branch [
      | then-is_before+in_ok-put w ↦ record {
        frontier = v.frontier;
        part = v.part;
        items = v.items;
        taken = subst (λ d. IsTaken c.args.parts.now.graph c.args.asked.now.extent c.args.asked.now.point v.frontier d (i + 1)) (sym w.before-is)
            (taken_one c.args.parts.now.graph c.args.asked.now.extent c.args.asked.now.point v.frontier c.loop-entry.before w.put.new.self i x lt is (subst (λ (k : Dataflow). IsBefore k c.args.asked.now.extent x.0 c.args.asked.now.point) c.paths-paths.ensures (w.if-is_before.ensures.0 refl)) (rw (small x.1 within) at w.in_ok-put.ensures.ok) v.taken);
      }
      | else-is_before w ↦ record {
        frontier = v.frontier;
        part = v.part;
        items = v.items;
        taken = subst (λ d. IsTaken c.args.parts.now.graph c.args.asked.now.extent c.args.asked.now.point v.frontier d (i + 1)) (sym w.before-is)
            (taken_skip c.args.parts.now.graph c.args.asked.now.extent c.args.asked.now.point v.frontier c.loop-entry.before i x lt is (λ could. true≢false (sym (w.if-is_before.ensures.1 (subst (λ (k : Dataflow). IsBefore k c.args.asked.now.extent x.0 c.args.asked.now.point) (sym c.paths-paths.ensures) could)))) v.taken);
      }
    ]

pub returns-clause-part : goal.returns-clause-part
returns-clause-part g c =
    let v = c.loop-entry.invariant in
    taken_all c.args.parts.now.graph c.args.asked.now.extent c.args.asked.now.point v.frontier (view c.args.parts.now c.args.asked.now.q) c.loop-entry.before c.loop-entry.entry-index (rw v.items at c.loop-entry-test.false) v.part v.taken

pub returns-clause-covers : goal.returns-clause-covers
returns-clause-covers g c =
    let asked = c.args.asked.now in
    subst (λ (e : Dataflow × DeltaValue). FrontierCovers e.0 e.1) (λ i. (c.paths-paths.ensures i, c.view.ensures.map i)) c.frontier.ensures.covers asked.extent asked.point
