use Rattle.std.specs.Prelude.{Bool, Option, Some, None, Ok, Err, ok_or, option_and_then, true, false, if◌then◌else◌}
use Rattle.std.proofs.Common.{◌≡◌, ◌∙◌, inl, inr, ap, sym}
use Rattle.std.specs.List.{list_any}
use Rattle.serde_json.specs.Data.{Data}
use Rattle.serde_json.specs.View.{view}
use Rattle.nd_graph.specs.Draft.{Draft, draft_of_v8, draft_of_v5, without, is_opaque}
use Rattle.nd_graph.specs.Fault.{IsUnlessMemory}
use Rattle.nd_graph.specs.declared.fault.GraphFault.{GraphFault}
use Rattle.nd_graph.specs.declared.fault.GraphFault.TheVariants.{Shape}
use Rattle.nd_graph.proofs.draft.GraphDraft.from_value_v5.Goals as goal

-- a value that is not a graph is not a graph without opaque vertices either
refused : (d : Data) (e : GraphFault) → IsUnlessMemory (ok_or (draft_of_v8 d) Shape) (Err e) → IsUnlessMemory (ok_or (draft_of_v5 d) Shape) (Err e)
unfolding draft_of_v5
refused d e h = passes (draft_of_v8 d) h
  where
    passes : (o : Option Draft) → IsUnlessMemory (ok_or o Shape) (Err e) → IsUnlessMemory (ok_or (option_and_then (without is_opaque) o) Shape) (Err e)
    passes None h = h
    passes (Some draft) (inl is) = absurd (cc)
    passes (Some draft) (inr is) = inr is

found : (o : Option Draft) (draft : Draft) → ok_or o Shape ≡ Ok draft → o ≡ Some draft
found None draft is = absurd (cc)
found (Some other) draft is = cc

-- the graph that was read, if it has no opaque vertex
judged : (d : Data) (draft : Draft) (b : Bool) → ok_or (draft_of_v8 d) Shape ≡ Ok draft → b ≡ list_any (λ v. is_opaque v.op) draft.vertices → ok_or (draft_of_v5 d) Shape ≡ ok_or (if b then None else Some draft) Shape
unfolding draft_of_v5
judged d draft b is holds = ap (λ o. ok_or (option_and_then (without is_opaque) o) Shape) (found (draft_of_v8 d) draft is) ∙ ap (λ b. ok_or (if b then None else Some draft) Shape) (sym holds)

pub returns-in-Err : goal.returns-in-Err
returns-in-Err g c = refused (view c.args.value.now) c.in-Err.fault c.in-Err.ensures

pub returns-then-some_is_opaque : goal.returns-then-some_is_opaque
returns-then-some_is_opaque g c =
    let holds : true ≡ list_any (λ v. is_opaque v.op) c.in-Ok.draft.vertices =
    sym c.if-some_is_opaque.true ∙ c.some_is_opaque.ensures ∙ ap (list_any (λ v. is_opaque v.op)) (c.deref.ensures.value ∙ ap (λ d. d.vertices) c.draft.view_is) in
    inl (judged (view c.args.value.now) c.in-Ok.draft true c.in-Ok.ensures holds)

pub returns : goal.returns
returns g c =
    let holds : false ≡ list_any (λ v. is_opaque v.op) c.in-Ok.draft.vertices =
    sym c.if-some_is_opaque.false ∙ c.some_is_opaque.ensures ∙ ap (list_any (λ v. is_opaque v.op)) (c.deref.ensures.value ∙ ap (λ d. d.vertices) c.draft.view_is) in
    judged (view c.args.value.now) c.in-Ok.draft false c.in-Ok.ensures holds
