use Rattle.std.proofs.Common.{◌≡◌, ◌∙◌, refl, subst, sym, map, arith}
use Rattle.std.specs.Prelude.{All, List}
use Rattle.std.proofs.lemmas.Result.{IfOk-weaker}
use Rattle.nd_time.specs.Time.{Time}
use Rattle.nd_graph.specs.Graph.{Dataflow}
use Rattle.nd_summaries.specs.Walk.{LeadsBefore}
use Rattle.nd_summaries.specs.Laws.{SomeTurns}
use Rattle.nd_summaries.specs.Summary.{AreMinimalSummaries}
use Rattle.nd_paths.specs.Order.{Fits}
use Rattle.nd_paths.specs.Arrival.{TurnsInto, CoverAll, turned}
use Rattle.nd_paths.proofs.Arrivals.{each_turned, all_covered, fits_size}
use Rattle.nd_paths.proofs.paths.Paths.reached.Goals as goal

pub all_turned-requires : goal.all_turned-requires
all_turned-requires g c =
    let view : c.deref-2.result.now ≡ c.args.self.now = c.deref-2.ensures ∙ c.self.view_is in
    let same : c.graph-graph.result.now ≡ c.deref-2.result.now = c.graph-graph.ensures.value ∙ sym view in
    let fits = subst (λ (v : Dataflow). Fits v c.args.point.now) same (c.if-not-fits.ensures.0 refl) in
    record {
      keep = λ k d l. omega (arith, (c.summaries-summaries.ensures.fit k d l).0, (fits_size c.deref-2.result.now c.args.point.now fits).1);
      deep = c.summaries-summaries.ensures.few;
    }

pub returns-clause-each : goal.returns-clause-each
returns-clause-each g c =
    let graph : Dataflow = c.args.self.now in
    let view : c.deref-2.result.now ≡ graph = c.deref-2.ensures ∙ c.self.view_is in
    let fits = subst (λ (v : Dataflow). Fits v c.args.point.now) c.graph-graph.ensures.value (c.if-not-fits.ensures.0 refl) in
    let minimal = subst (λ (v : Dataflow). AreMinimalSummaries v.order v c.args.point.now.location c.args.to c.summaries-summaries.result.now) view c.summaries-summaries.ensures.minimal in
    let each = each_turned graph c.args.point.now c.args.to c.summaries-summaries.result.now minimal fits in
    IfOk-weaker c.all_turned.result (λ v. v.items ≡ map (λ u. turned u c.args.point.now.time) c.summaries-summaries.result.now) (λ v. All (TurnsInto graph c.args.point.now c.args.to) v.items)
    (λ v is. subst (λ (ts : List Time). All (TurnsInto graph c.args.point.now c.args.to) ts) (sym is) each) c.all_turned.ensures

pub returns-clause-least : goal.returns-clause-least
returns-clause-least g c =
    let graph : Dataflow = c.args.self.now in
    let view : c.deref-2.result.now ≡ graph = c.deref-2.ensures ∙ c.self.view_is in
    let view' : c.deref.result.now ≡ graph = c.deref.ensures ∙ c.self.view_is in
    let M : Dataflow → Type 0 = λ v. AreMinimalSummaries v.order v c.args.point.now.location c.args.to c.summaries-summaries.result.now in
    let minimal : M graph = subst M view c.summaries-summaries.ensures.minimal in
    let decide = λ (t : Time). subst (λ (v : Dataflow). LeadsBefore v.order v c.args.point.now.location c.args.point.now.time c.args.to t → SomeTurns v.order c.summaries-summaries.result.now c.args.point.now.time t) view'
    (c.summaries_decide.ensures c.args.point.now.location c.args.to c.summaries-summaries.result.now c.args.point.now.time t (subst M (sym view') minimal)) in
    let covers = all_covered graph c.args.point.now c.args.to c.summaries-summaries.result.now minimal decide in
    IfOk-weaker c.all_turned.result (λ v. v.items ≡ map (λ u. turned u c.args.point.now.time) c.summaries-summaries.result.now) (λ v. CoverAll graph c.args.point.now c.args.to v.items)
    (λ v is. subst (λ (ts : List Time). CoverAll graph c.args.point.now c.args.to ts) (sym is) covers) c.all_turned.ensures
