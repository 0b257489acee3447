-- What a vertex emits, or sends from a capability, is at strictly later pointstamps.
use Rattle.std.proofs.Common.{◌≡◌, ℕ, ◌+◌, ◌≤◌, ℤ, true, false, cond, ◌&&◌, List, [], ◌∷◌, length, refl, sym, ap, subst, subst₂, ◌∙◌, arith}
use Rattle.std.proofs.lemmas.Bool.{and_parts}
use Rattle.std.proofs.lemmas.Bool.Decides.{nat_tests}
use Rattle.std.specs.Prelude.{Contains, nat_eq, slice_get, Option, Some, None}
use Rattle.nd_time.specs.Time.{Time}
use Rattle.nd_time.specs.Order.{IsAtOrBeforeBy}
use Rattle.nd_graph.specs.declared.op.Action.TheVariants.{Identity}
use Rattle.nd_graph.specs.declared.graph.Arc.{Arc}
use Rattle.nd_graph.specs.declared.graph.Edge.{Edge}
use Rattle.nd_graph.specs.declared.graph.Vertex.{Vertex}
use Rattle.nd_graph.specs.Graph.{Dataflow, arcs_from, action_at, action_of, op_at}
use Rattle.nd_graph.specs.declared.op.Op.TheVariants.{Sink}
use Rattle.std.specs.Option.{option_map_or}
use Rattle.nd_paths.specs.declared.point.Pointstamp.{Pointstamp}
use Rattle.nd_paths.specs.Order.{Fits, IsStrictlyBefore}
use Rattle.nd_protocol.specs.Steps.{directed, made_on, emitted, batch_time, posts, point_at}
use Rattle.nd_protocol.specs.declared.batch.Batch.{Batch}
use Rattle.nd_vertex.specs.Table.{time_past}
use Rattle.nd_processor.specs.declared.key.ValueAt.{ValueAt}
use Rattle.nd_protocol.specs.Fitting.{IsOrdered}
use Rattle.nd_protocol.proofs.Shape.{AllAt}
use Rattle.nd_protocol.proofs.Arcs.{past, along, along_later, in_rest}
use Rattle.nd_protocol.proofs.Counts.{AllAt-append}

pub same_number : (a b : ℕ) → nat_eq a b ≡ true → a ≡ b
same_number a b e = grind (arith, nat_tests, e)

pub AllAt-wider : (G K : Pointstamp → Type 0) → ((x : Pointstamp) → G x → K x) → (rs : List (ℕ × ValueAt)) → AllAt G rs → AllAt K rs
AllAt-wider G K more [] h = tt
AllAt-wider G K more (r ∷ rs) h = (more r.1.point h.0, AllAt-wider G K more rs h.1)

made_later : (G : Pointstamp → Type 0) (dest : Option ℕ) (n p vertex port : ℕ) (v : ℤ) (t : Time) (vs : List Vertex) (l : ℕ) (es : List Edge)
    → ((a : Arc) → Contains (arcs_from vs l es) a → a.from ≡ vertex → a.action ≡ action_at vs vertex → G (point_at a.to t))
    → AllAt G (made_on dest n p vertex port v t l es)
made_later G dest n p vertex port v t vs l [] each = tt
made_later G dest n p vertex port v t vs l (e ∷ es) each =
    let out : Arc = record { from = e.from; action = action_at vs e.from; to = l } in
    let on : Arc = record { from = l; action = Identity; to = e.to } in
    let r : ℕ × ValueAt = (directed dest e.route n p v, record { point = point_at l t; value = v }) in
    let here : AllAt G (cond (nat_eq e.from vertex && nat_eq e.port port) (r ∷ []) []) =
    elim (nat_eq e.from vertex && nat_eq e.port port) as (λ b. (nat_eq e.from vertex && nat_eq e.port port) ≡ b → AllAt G (cond b (r ∷ []) [])) [
      | true ↦ λ test.
          let from : e.from ≡ vertex = same_number e.from vertex (and_parts (nat_eq e.from vertex) (nat_eq e.port port) test).0 in
          (each out (0, omega arith, refl) from (ap (action_at vs) from), tt)
      | false ↦ λ test. tt
    ] refl in
    AllAt-append G (cond (nat_eq e.from vertex && nat_eq e.port port) (r ∷ []) []) (made_on dest n p vertex port v t (l + 1) es) here
    (made_later G dest n p vertex port v t vs (l + 1) es (λ a inside. each a (in_rest out (on ∷ arcs_from vs (l + 1) es) a (in_rest on (arcs_from vs (l + 1) es) a inside))))

action_is : (g : Dataflow) (vertex : ℕ) → action_at g.vertices vertex ≡ action_of (op_at g vertex)
action_is g vertex =
    elim (slice_get g.vertices vertex) as (λ v. option_map_or (λ (w : Vertex). action_of w.op) v Identity ≡ action_of (option_map_or (λ (w : Vertex). w.op) v Sink)) [
      | None ↦ refl
      | Some v ↦ refl
    ]

pub emitted_later : (g : Dataflow) → IsOrdered g → (n p vertex : ℕ) (t : Time) → Fits g (point_at vertex t) → (e : ℕ × ℤ) → AllAt (IsStrictlyBefore g (point_at vertex t)) (emitted g n p vertex t e)
emitted_later g o n p vertex t fits e =
    made_later (IsStrictlyBefore g (point_at vertex t)) None n p vertex e.0 e.1 (time_past (op_at g vertex) t) g.vertices (length g.vertices) g.edges (λ a inside from action.
    subst₂ (λ l c. IsStrictlyBefore g (point_at l t) (point_at a.to (past c t))) from (action ∙ action_is g vertex) (along g o a inside t (subst (λ l. Fits g (point_at l t)) (sym from) fits)))

-- what is sent from a capability, at a time at or after its own, if the vertex leaves times as they are
pub posts_later : {A : Type 0} (g : Dataflow) → IsOrdered g → (n p vertex : ℕ) (b : Batch A) → action_of (op_at g vertex) ≡ Identity → IsAtOrBeforeBy g.order b.time (batch_time b) → Fits g (point_at vertex b.time)
    → (v : ℤ) → AllAt (IsStrictlyBefore g (point_at vertex b.time)) (posts g n p vertex b v)
posts_later g o n p vertex b plain before fits v =
    made_later (IsStrictlyBefore g (point_at vertex b.time)) b.dest n p vertex b.port v (batch_time b) g.vertices (length g.vertices) g.edges (λ a inside from action.
    subst (λ l. IsStrictlyBefore g (point_at l b.time) (point_at a.to (batch_time b))) from
    (along_later g o a inside (action ∙ action_is g vertex ∙ plain) b.time (batch_time b) before (subst (λ l. Fits g (point_at l b.time)) (sym from) fits)))

pub AllAt-both : (G K : Pointstamp → Type 0) → (rs : List (ℕ × ValueAt)) → AllAt G rs → AllAt K rs → AllAt (λ x. G x × K x) rs
AllAt-both G K [] h k = tt
AllAt-both G K (r ∷ rs) h k = ((h.0, k.0), AllAt-both G K rs h.1 k.1)

-- what a vertex emits or sends is on edges
made_on_edges : (m : ℕ) (dest : Option ℕ) (n p vertex port : ℕ) (v : ℤ) (t : Time) (l : ℕ) (es : List Edge) → m ≤ l → AllAt (λ z. m ≤ z.location) (made_on dest n p vertex port v t l es)
made_on_edges m dest n p vertex port v t l [] le = tt
made_on_edges m dest n p vertex port v t l (e ∷ es) le =
    let G : Pointstamp → Type 0 = λ z. m ≤ z.location in
    let r : ℕ × ValueAt = (directed dest e.route n p v, record { point = point_at l t; value = v }) in
    let here : AllAt G (cond (nat_eq e.from vertex && nat_eq e.port port) (r ∷ []) []) =
    elim (nat_eq e.from vertex && nat_eq e.port port) as (λ b. AllAt G (cond b (r ∷ []) [])) [ true ↦ (le, tt) | false ↦ tt ] in
    AllAt-append G (cond (nat_eq e.from vertex && nat_eq e.port port) (r ∷ []) []) (made_on dest n p vertex port v t (l + 1) es) here (made_on_edges m dest n p vertex port v t (l + 1) es (omega arith))

pub emitted_on_edges : (g : Dataflow) (n p vertex : ℕ) (t : Time) (e : ℕ × ℤ) → AllAt (λ z. length g.vertices ≤ z.location) (emitted g n p vertex t e)
emitted_on_edges g n p vertex t e = made_on_edges (length g.vertices) None n p vertex e.0 e.1 (time_past (op_at g vertex) t) (length g.vertices) g.edges (omega arith)

pub posts_on_edges : {A : Type 0} (g : Dataflow) (n p vertex : ℕ) (b : Batch A) (v : ℤ) → AllAt (λ z. length g.vertices ≤ z.location) (posts g n p vertex b v)
posts_on_edges g n p vertex b v = made_on_edges (length g.vertices) b.dest n p vertex b.port v (batch_time b) (length g.vertices) g.edges (omega arith)
