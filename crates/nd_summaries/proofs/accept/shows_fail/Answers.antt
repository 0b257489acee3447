use Rattle.std.proofs.Common.{◌<◌, ◌∙◌, sym, subst, length, get_or, arith}
use Rattle.std.specs.Prelude.{Contains}
use Rattle.std.proofs.lemmas.List.{take_all}
use Rattle.std.proofs.lemmas.List.Elements.{All-contains, Contains-get_or}
use Rattle.nd_graph.specs.declared.graph.Arc.{Arc}
use Rattle.nd_graph.specs.declared.op.Action.TheVariants.{Identity}
use Rattle.nd_graph.specs.Graph.{ArcAgrees, arcs, depths}
use Rattle.nd_summaries.specs.Row.{Closes, ShowsFail}
use Rattle.nd_summaries.proofs.Fails.{listed_at, shows_more}
use Rattle.nd_summaries.proofs.accept.shows_fail.Goals as goal
use Rattle.nd_summaries.proofs.accept.shows_fail.Goals.{else-arc-location-via-then-arc-location+else-closes, else-arc-location-via-else-arc-location}

pub returns-then-closes : goal.returns-then-closes
returns-then-closes g c =
    let d : Arc = record { from = 0; action = Identity; to = 0 } in
    let x : Arc = get_or c.all_arcs-arc-items.result.now c.loop-arc.arc-index d in
    let in' = subst (λ xs. Contains xs x) c.all_arcs-arc-items.ensures.arcs (Contains-get_or c.all_arcs-arc-items.result.now c.loop-arc.arc-index d c.loop-arc-test.true) in
    let ends = All-contains (ArcAgrees (depths c.args.graph.now)) (arcs c.args.graph.now) x c.all_arcs-arc-items.ensures.agree in' in
    let low : x.from < length c.args.row.now = omega (arith, ends.from, c.requires) in
    let same = listed_at c.args.row.now x.from c.index-row-arc.result low c.index-row-arc.is in
    (x, in', c.if-arc-location.true, subst (λ l. Closes l x) same c.if-closes.ensures)

pub loop-arc-preserved : goal.loop-arc-preserved
loop-arc-preserved g c =
    let d : Arc = record { from = 0; action = Identity; to = 0 } in
    let x : Arc = get_or c.all_arcs-arc-items.result.now c.loop-arc.arc-index d in
    let in' = subst (λ xs. Contains xs x) c.all_arcs-arc-items.ensures.arcs (Contains-get_or c.all_arcs-arc-items.result.now c.loop-arc.arc-index d c.loop-arc-test.true) in
    let ends = All-contains (ArcAgrees (depths c.args.graph.now)) (arcs c.args.graph.now) x c.all_arcs-arc-items.ensures.agree in' in
    let low : x.from < length c.args.row.now = omega (arith, ends.from, c.requires) in
    shows_more c.all_arcs-arc-items.result.now c.args.location c.args.row.now c.loop-arc.arc-index d c.loop-arc-test.true c.loop-arc.invariant
    (λ to closes. elim c.else-arc-location.branch [
      | else-arc-location-via-then-arc-location+else-closes w ↦ w.if-closes.ensures (subst (λ l. Closes l x) (sym (listed_at c.args.row.now x.from w.index-row-arc.result low w.index-row-arc.is)) closes)
      | else-arc-location-via-else-arc-location w ↦ w.if-arc-location.false to
    ])

pub returns : goal.returns
returns g c =
    let all = take_all c.loop-arc.arc-index c.all_arcs-arc-items.result.now c.loop-arc-test.false ∙ c.all_arcs-arc-items.ensures.arcs in
    λ shows. c.loop-arc.invariant (subst (λ xs. ShowsFail xs c.args.location c.args.row.now) (sym all) shows)
