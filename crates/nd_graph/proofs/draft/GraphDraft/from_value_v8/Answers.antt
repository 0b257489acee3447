use Rattle.std.specs.Prelude.{Bool, Option, Some, None, Ok, Err, ok_or, option_and_then, true, false, if◌then◌else◌}
use Rattle.std.proofs.Common.{rules, ◌≡◌, ◌∙◌, inl, inr, ap, sym, refl}
use Rattle.serde_json.specs.Data.{Data}
use Rattle.serde_json.specs.View.{view}
use Rattle.nd_graph.specs.Draft.{Draft, draft_of, draft_of_v8, has_plain_keys, with_names_v8, are_named_v8}
use Rattle.nd_graph.specs.Fault.{IsUnlessMemory}
use Rattle.nd_graph.specs.declared.fault.GraphFault.{GraphFault}
use Rattle.nd_graph.specs.declared.fault.GraphFault.TheVariants.{Shape}
use Rattle.nd_graph.proofs.draft.GraphDraft.from_value_v8.Goals as goal

-- a value without the keys is not a graph
other_keys : (d : Data) → has_plain_keys d ≡ false → ok_or (draft_of_v8 d) Shape ≡ Err Shape
unfolding draft_of_v8
other_keys d keys = rw keys refl

-- a value that is not a graph is not a graph of the earlier versions either
refused : (d : Data) (e : GraphFault) → has_plain_keys d ≡ true → IsUnlessMemory (ok_or (draft_of d) Shape) (Err e) → IsUnlessMemory (ok_or (draft_of_v8 d) Shape) (Err e)
unfolding draft_of_v8
refused d e keys h = rw keys (passes (draft_of d) h)
  where
    passes : (o : Option Draft) → IsUnlessMemory (ok_or o Shape) (Err e) → IsUnlessMemory (ok_or (option_and_then with_names_v8 o) Shape) (Err e)
    passes None h = h
    passes (Some draft) (inl is) = absurd (cc)
    passes (Some draft) (inr is) = inr is

found : (o : Option Draft) (draft : Draft) → ok_or o Shape ≡ Ok draft → o ≡ Some draft
found None draft is = absurd (cc)
found (Some other) draft is = cc

-- the graph that was read, if the earlier versions have its names
judged : (d : Data) (draft : Draft) (b : Bool) → has_plain_keys d ≡ true → ok_or (draft_of d) Shape ≡ Ok draft → b ≡ are_named_v8 draft.vertices draft.edges
    → ok_or (draft_of_v8 d) Shape ≡ ok_or (if b then Some draft else None) Shape
unfolding draft_of_v8
judged d draft b keys is named =
    rw keys (ap (λ o. ok_or (option_and_then with_names_v8 o) Shape) (found (draft_of d) draft is) ∙ ap (λ b. ok_or (if b then Some draft else None) Shape) (sym named))

pub returns-in-Err : goal.returns-in-Err
returns-in-Err g c =
    let keys : has_plain_keys (view c.args.value.now) ≡ true = search rules in
    refused (view c.args.value.now) c.in-Err.fault keys c.in-Err.ensures

pub returns-then-not-has_plain_keys : goal.returns-then-not-has_plain_keys
returns-then-not-has_plain_keys g c =
    let keys : has_plain_keys (view c.args.value.now) ≡ false = search rules in
    inl (other_keys (view c.args.value.now) keys)

pub returns-then-not-are_named_v8 : goal.returns-then-not-are_named_v8
returns-then-not-are_named_v8 g c =
    let keys : has_plain_keys (view c.args.value.now) ≡ true = search rules in
    let no : c.are_named_v8.result ≡ false = search rules in
    let vertices : c.deref.result.now ≡ c.in-Ok.draft.vertices = c.deref.ensures.value ∙ ap (λ d. d.vertices) c.draft.view_is in
    let edges : c.deref-2.result.now ≡ c.in-Ok.draft.edges = c.deref-2.ensures.value ∙ ap (λ d. d.edges) c.draft.view_is in
    let named : false ≡ are_named_v8 c.in-Ok.draft.vertices c.in-Ok.draft.edges = sym no ∙ c.are_named_v8.ensures ∙ (λ i. are_named_v8 (vertices i) (edges i)) in
    inl (judged (view c.args.value.now) c.in-Ok.draft false keys c.in-Ok.ensures named)

pub returns : goal.returns
returns g c =
    let keys : has_plain_keys (view c.args.value.now) ≡ true = search rules in
    let yes' : c.are_named_v8.result ≡ true = search rules in
    let vertices : c.deref.result.now ≡ c.in-Ok.draft.vertices = c.deref.ensures.value ∙ ap (λ d. d.vertices) c.draft.view_is in
    let edges : c.deref-2.result.now ≡ c.in-Ok.draft.edges = c.deref-2.ensures.value ∙ ap (λ d. d.edges) c.draft.view_is in
    let named : true ≡ are_named_v8 c.in-Ok.draft.vertices c.in-Ok.draft.edges = sym yes' ∙ c.are_named_v8.ensures ∙ (λ i. are_named_v8 (vertices i) (edges i)) in
    judged (view c.args.value.now) c.in-Ok.draft true keys c.in-Ok.ensures named
