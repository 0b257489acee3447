use Rattle.std.proofs.Common.{◌≡◌, ◌≤◌, ◌+◌, ℕ, List, [], ◌∷◌, length, refl, ap, sym, subst, ◌∙◌, true≢false}
use Rattle.std.proofs.lemmas.Map.Views.{tells_apart}
use Rattle.std.specs.Ordering.{eq_by_cmp}
use Rattle.nd_time.specs.Limits.{max_depth}
use Rattle.nd_graph.specs.Graph.{action_of}
use Rattle.nd_graph.specs.declared.graph.Edge.{Edge}
use Rattle.nd_paths.specs.Point.{point_cmp, point_total, point_exact}
use Rattle.nd_paths.specs.declared.point.Pointstamp.{Pointstamp}
use Rattle.nd_processor.specs.declared.key.ValueAt.{ValueAt}
use Rattle.nd_protocol.specs.Steps.{destination}
use Rattle.nd_steps.proofs.AlikeLemmas.{same_key}
use Rattle.nd_steps.specs.Flows.{come_key}
use Rattle.nd_steps.specs.Onward.{leaving}
use Rattle.nd_steps.specs.declared.consequence.Consequence.TheVariants.{Record}
use Rattle.nd_steps.proofs.OnwardLemmas.{one_made, left_once, made_at}
use Rattle.nd_steps.proofs.onward.come_by.Goals as goal

pub returns-in_err-i-clause-passes : goal.returns-in_err-i-clause-passes
returns-in_err-i-clause-passes g c = λ on.
    let by = c.args.by.now in
    let e = c.args.emission.now in
    absurd (c.in_err-i.ensures.none refl (ap (λ (es : List Edge). length (leaving by.vertex e.port 0 es)) c.edges.ensures.edges ∙ left_once by.graph.now by.n by.p by.vertex e on.0 on.1))

pub returns-then-comes_back-clause-passes : goal.returns-then-comes_back-clause-passes
returns-then-comes_back-clause-passes g c = λ on.
    let by = c.args.by.now in
    let e = c.args.emission.now in
    let gone = c.args.gone.now in
    let only : leaving by.vertex e.port 0 by.graph.now.edges ≡ (c.in_ok-i.i, c.in_ok-i.route) ∷ [] = ap (leaving by.vertex e.port 0) (sym c.edges.ensures.edges) ∙ c.in_ok-i.ensures.one in
    let come = c.record_on-come.result in
    let same : (come_key gone come).point ≡ gone.point = tells_apart point_exact (come_key gone come).point gone.point (sym c.comes_back.ensures ∙ c.if-comes_back.true) in
    let comes = ap (come_key gone) c.record_on-come.ensures in
    absurd (on.2 (made_at by.graph.now by.n by.p by.vertex e on.0 (c.in_ok-i.i, c.in_ok-i.route) on.1 only
    ∙ sym (c.edge_at-edge.ensures ∙ ap (λ l. l + c.in_ok-i.i) c.first_edge.ensures.first)
    ∙ sym (ap (λ (x : ValueAt). x.point.location) comes)
    ∙ ap (λ (x : Pointstamp). x.location) same))

pub returns-clause-comes : goal.returns-clause-comes
returns-clause-comes g c =
    let by = c.args.by.now in
    let e = c.args.emission.now in
    let gone = c.args.gone.now in
    let edge : ℕ = c.edge_at-edge.result in
    let to : ℕ = destination c.in_ok-i.route by.n by.p e.value in
    let only : leaving by.vertex e.port 0 by.graph.now.edges ≡ (c.in_ok-i.i, c.in_ok-i.route) ∷ [] = ap (leaving by.vertex e.port 0) (sym c.edges.ensures.edges) ∙ c.in_ok-i.ensures.one in
    record {
      to = to;
      edge = edge;
      is = c.record_on-come.ensures ∙ ap (λ a. Record a to edge e.value) (c.action-action.ensures ∙ ap action_of c.op_at.ensures.op);
      made = one_made by.graph.now by.n by.p by.vertex e (c.in_ok-i.i, c.in_ok-i.route) only to edge (λ i. to) (c.edge_at-edge.ensures ∙ ap (λ l. l + c.in_ok-i.i) c.first_edge.ensures.first);
      apart = λ same. true≢false (sym (same_key point_total gone.point)
          ∙ ap (λ x. eq_by_cmp point_cmp x gone.point) (sym same)
          ∙ sym c.comes_back.ensures ∙ c.if-comes_back.false);
      deep = subst (λ m. m ≤ max_depth) c.depth.ensures.value c.depth.ensures.small;
    }
