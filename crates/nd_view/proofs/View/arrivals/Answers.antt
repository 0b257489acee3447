use Rattle.std.proofs.Common.{◌≢◌, [], Result, Ok, Err, OnErr, refl, ap, ◌∙◌, subst}
use Rattle.std.proofs.lemmas.Result.{IfOk-weaker, on_err_weaker}
use Rattle.nd_view.specs.Arrivals.{AreReached, AreMinimal}
use Rattle.nd_delta.specs.Delta.{entries}
use Rattle.nd_view.proofs.ArrivalLemmas.{are_arrivals, are_exact, entry_of_time, entry_on_frontier}
use Rattle.nd_view.proofs.Frontiers.{IsOrder}
use Rattle.nd_view.proofs.View.arrivals.Given.{Over}
use Rattle.nd_view.proofs.View.arrivals.Goals as goal

of_err : {X E Q : Type 0} (r : Result X E) → Q → OnErr r Q
of_err (Ok x) q = tt
of_err (Err e) q = q

order : (g : Over) (c : goal.After-drop-frontier-inside-2 g) → IsOrder c.args.paths.now
order g c = let laws = c.order_is_partial.ensures in record { reflexive = laws.reflexive; transitive = laws.transitive; strict = laws.strict; minimal = laws.minimal }

-- the times reached from the frontier
reached : (g : Over) (c : goal.After-drop-frontier-inside-2 g) → AreReached c.args.paths.now (entries c.in_ok-frontier.frontier) c.args.location c.in_ok-times.times.items
reached g c = subst (λ es. AreReached c.args.paths.now es c.args.location c.in_ok-times.times.items) c.entries.ensures.listed c.in_ok-times.ensures.value

pub returns-clause-value : goal.returns-clause-value
returns-clause-value g c =
    IfOk-weaker c.minimal.result _ _ (λ w least.
    are_arrivals c.args.paths.now (order g c) c.walks_lead_on.ensures c.args.self.now c.requires c.in_ok-frontier.frontier c.in_ok-frontier.ensures.value c.args.location c.in_ok-times.times.items c.sort_unstable.new.self.items
    (reached g c) c.sort_unstable.ensures.permutation w.items (subst (λ o. AreMinimal o c.sort_unstable.new.self.items w.items) (c.order.ensures ∙ ap (λ d. d.order) c.graph.ensures.value) (subst (λ l. AreMinimal c.order.result l w.items) c.deref.ensures.value least))) c.minimal.ensures.value

pub returns-clause-exact : goal.returns-clause-exact
returns-clause-exact g c =
    IfOk-weaker c.minimal.result _ _ (λ w least.
    are_exact c.args.paths.now (order g c) c.walks_lead_on.ensures c.args.self.now c.requires c.in_ok-frontier.frontier c.in_ok-frontier.ensures.value c.args.location c.in_ok-times.times.items c.sort_unstable.new.self.items
    (reached g c) c.sort_unstable.ensures.permutation w.items (subst (λ o. AreMinimal o c.sort_unstable.new.self.items w.items) (c.order.ensures ∙ ap (λ d. d.order) c.graph.ensures.value) (subst (λ l. AreMinimal c.order.result l w.items) c.deref.ensures.value least))) c.minimal.ensures.value

pub returns-in_err-times-clause-some : goal.returns-in_err-times-clause-some
returns-in_err-times-clause-some g c =
    let f = c.in_ok-frontier.frontier in
    of_err c.from_residual-in_err-times.result
    (entry_on_frontier c.args.paths.now c.args.self.now.map f c.in_ok-frontier.ensures.value (entries f) refl (subst (λ es. es ≢ []) c.entries.ensures.listed c.in_err-times.ensures.some))

pub returns-clause-some : goal.returns-clause-some
returns-clause-some g c =
    let f = c.in_ok-frontier.frontier in
    on_err_weaker c.minimal.result (λ some. entry_on_frontier c.args.paths.now c.args.self.now.map f c.in_ok-frontier.ensures.value (entries f) refl
    (entry_of_time c.args.paths.now (entries f) c.args.location c.in_ok-times.times.items c.sort_unstable.new.self.items (reached g c) c.sort_unstable.ensures.permutation (subst (λ l. l ≢ []) c.deref.ensures.value some))) c.minimal.ensures.some
