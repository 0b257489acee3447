-- What a vertex emits is strictly later than its own pointstamp, which is strictly later than those of the edges that enter it.
use Rattle.std.proofs.Common.{◌≡◌, ◌⊎◌, inl, inr, ℕ, zero, suc, ◌+◌, ◌-◌, ◌<◌, ◌≤◌, ℤ, pos, true, false, cond, ◌&&◌, List, [], ◌∷◌, ◌++◌, Some, None, length, refl, sym, ◌∙◌, ap, subst, subst₂, arith, length-append}
use Rattle.std.specs.Prelude.{Contains, Option, slice_index, slice_index_or, slice_get, nat_eq}
use Rattle.std.specs.List.{flat_map}
use Rattle.std.specs.Option.{option_map_or}
use Rattle.std.proofs.lemmas.Bool.{and_parts, eqb-true}
use Rattle.std.proofs.lemmas.List.Elements.{All-contains}
use Rattle.std.proofs.lemmas.List.{length-map}
use Rattle.std.proofs.lemmas.Option.{slice_get_within, slice_get-get_or, get_or_from_slice_get}
use Rattle.std.proofs.lemmas.Map.Views.{tells_apart}
use Rattle.nd_time.specs.Time.{Time, egress_of, feedback_of}
use Rattle.nd_time.specs.Order.{IsEachAtMost, AreAtMost}
use Rattle.nd_time.specs.declared.order.TimeOrder.{TimeOrder}
use Rattle.nd_time.specs.declared.order.TimeOrder.TheVariants.{Lexicographic, Product}
use Rattle.nd_graph.specs.declared.op.Action.{Action}
use Rattle.nd_graph.specs.declared.op.Action.TheVariants.{Identity, Ingress, Egress, Feedback}
use Rattle.nd_graph.specs.declared.op.Op.TheVariants.{Sink}
use Rattle.nd_graph.specs.declared.graph.Arc.{Arc}
use Rattle.nd_graph.specs.declared.graph.Edge.{Edge}
use Rattle.nd_graph.specs.declared.graph.Vertex.{Vertex}
use Rattle.nd_graph.specs.Graph.{Dataflow, LeadsTo, ArcAgrees, arcs, arcs_from, depths, acted, action_at, action_of, op_at, depth_past_vertex}
use Rattle.nd_paths.specs.Order.{Fits, IsStrictlyBefore}
use Rattle.nd_summaries.specs.Walk.{HasDepth, IsWalk}
use Rattle.nd_paths.specs.Point.{point_exact}
use Rattle.nd_paths.specs.declared.point.Pointstamp.{Pointstamp}
use Rattle.nd_map.specs.Counts.{added}
use Rattle.nd_delta.specs.Delta.{is_point}
use Rattle.nd_vertex.specs.Table.{time_past}
use Rattle.nd_processor.specs.Keys.{value_at_total}
use Rattle.nd_processor.specs.HeldLaws.{in_records-added}
use Rattle.nd_processor.specs.State.{ProcessorState, idle, one_at, in_records}
use Rattle.nd_processor.specs.declared.key.ValueAt.{ValueAt}
use Rattle.nd_protocol.specs.Steps.{directed, made_on, emitted, target_of, point_at, with_record, with_records}
use Rattle.nd_protocol.specs.Fitting.{IsOrdered}
use Rattle.nd_protocol.specs.TruthLaws.{count, count-set_same}

-- ---- one arc

-- counters are at most themselves, in both orders
each_itself : (c : List ℕ) → IsEachAtMost c c
each_itself [] = tt
each_itself (x ∷ c) = (omega arith, each_itself c)

at_most_itself : (order : TimeOrder) (c : List ℕ) → AreAtMost order c c
at_most_itself Lexicographic c = inl refl
at_most_itself Product c = each_itself c

depth_within : (g : Dataflow) (l d : ℕ) → HasDepth g l d → (l < length (depths g)) × (d ≡ slice_index (depths g) l)
depth_within g l d h = (slice_get_within (depths g) l d h, sym (get_or_from_slice_get (depths g) l d 0 h))

has_depth : (g : Dataflow) (l d : ℕ) → l < length (depths g) → d ≡ slice_index (depths g) l → HasDepth g l d
has_depth g l d h e = slice_get-get_or (depths g) l 0 h ∙ ap Some (sym e)

length-egress : (c : List ℕ) (d : ℕ) → length c ≡ d + 1 → length (egress_of c) ≡ d
length-egress [] d e = absurd (omega arith)
length-egress (x ∷ []) d e = omega arith
length-egress (x ∷ y ∷ c) zero e = absurd (omega arith)
length-egress (x ∷ y ∷ c) (suc d) e = ap suc (length-egress (y ∷ c) d (omega arith))

length-feedback : (c : List ℕ) → length (feedback_of c) ≡ length c
length-feedback [] = refl
length-feedback (x ∷ []) = refl
length-feedback (x ∷ y ∷ c) = ap suc (length-feedback (y ∷ c))

length-acted : (a : Action) (c : List ℕ) (d : ℕ) → LeadsTo a (length c) d → length (acted a c) ≡ d
length-acted Identity c d e = sym e
length-acted Ingress c d e = length-append c (0 ∷ []) ∙ sym e
length-acted Egress c d e = length-egress c d e
length-acted Feedback c d e = length-feedback c ∙ sym e.1

-- the time after an action
abbrev past : Action → Time → Time
past a t = record { epoch = t.epoch; counters = acted a t.counters }

arc_fits : (g : Dataflow) → IsOrdered g → (a : Arc) → Contains (arcs g) a → (t : Time) → Fits g (point_at a.from t) → Fits g (point_at a.to (past a.action t))
arc_fits g o a in_graph t f =
    let agrees : ArcAgrees (depths g) a = All-contains (ArcAgrees (depths g)) (arcs g) a o.agree in_graph in
    let here : length t.counters ≡ slice_index (depths g) a.from = (depth_within g a.from (length t.counters) f.depth).1 in
    let leads : LeadsTo a.action (length t.counters) (slice_index (depths g) a.to) = subst (λ n. LeadsTo a.action n (slice_index (depths g) a.to)) (sym here) agrees.depth in
    record { depth = has_depth g a.to (length (acted a.action t.counters)) agrees.to (length-acted a.action t.counters (slice_index (depths g) a.to) leads) }

along : (g : Dataflow) → IsOrdered g → (a : Arc) → Contains (arcs g) a → (t : Time) → Fits g (point_at a.from t) → IsStrictlyBefore g (point_at a.from t) (point_at a.to (past a.action t))
along g o a in_graph t f =
    let there : Fits g (point_at a.to (past a.action t)) = arc_fits g o a in_graph t f in
    let leads : IsWalk g a.from (a ∷ []) a.to = (in_graph, refl, refl) in (
      record { fits_s = f; fits_t = there; walk = a ∷ []; leads = leads; before = record { depth = refl; epoch = omega arith; counters = at_most_itself g.order (acted a.action t.counters) } },
      λ e.
          let place : a.from ≡ a.to = ap (λ x. x.location) e in
          let counters : t.counters ≡ acted a.action t.counters = ap (λ x. x.time.counters) e in
          let round : IsWalk g a.from (a ∷ []) a.from = subst (λ l. IsWalk g a.from (a ∷ []) l) (sym place) leads in
          let back : AreAtMost g.order (acted a.action t.counters) t.counters = subst (λ c. AreAtMost g.order c t.counters) counters (at_most_itself g.order t.counters) in
          o.accepted.strict a.from (record { arc = a; walk = []; closed = round; back = record { counters = t.counters; depth = f.depth; back = back } }),
    )

-- ---- the arcs of the graph

in_rest : {X : Type 0} (y : X) (xs : List X) (x : X) → Contains xs x → Contains (y ∷ xs) x
in_rest y xs x (k, lt, is) = (suc k, omega arith, is)

into_target : (vs : List Vertex) (l : ℕ) (es : List Edge) (i : ℕ) → i < length es → Contains (arcs_from vs l es) (record { from = l + i; action = Identity; to = option_map_or (λ e. e.to) (slice_get es i) 0 })
into_target vs l [] i lt = absurd (omega arith)
into_target vs l (e ∷ es) zero lt = (1, omega arith, (λ i. record { from = zero_more i; action = Identity; to = e.to }))
  where
    zero_more : l ≡ l + 0
    zero_more = omega arith
into_target vs l (e ∷ es) (suc i) lt =
    let x : Arc = record { from = l + suc i; action = Identity; to = option_map_or (λ e. e.to) (slice_get es i) 0 } in
    let more : (l + 1) + i ≡ l + suc i = omega arith in
    let rest : Contains (arcs_from vs (l + 1) es) x
    = subst (λ n. Contains (arcs_from vs (l + 1) es) (record { from = n; action = Identity; to = option_map_or (λ e. e.to) (slice_get es i) 0 })) more (into_target vs (l + 1) es i (omega arith)) in
    let out : Arc = record { from = e.from; action = action_at vs e.from; to = l } in
    let on : Arc = record { from = l; action = Identity; to = e.to } in
    in_rest out (on ∷ arcs_from vs (l + 1) es) x (in_rest on (arcs_from vs (l + 1) es) x rest)

-- from an edge to its target
arc_of_edge : (g : Dataflow) (edge : ℕ) (d : ℕ) → length g.vertices ≤ edge → HasDepth g edge d → Contains (arcs g) (record { from = edge; action = Identity; to = target_of g edge })
arc_of_edge g edge d place has =
    let inside : edge < length (depths g) = (depth_within g edge d has).0 in
    let count : length (depths g) ≡ length g.vertices + length g.edges = length-append _ _ ∙ (λ i. length-map g.vertices (λ v. v.depth) i + length-map g.edges (λ e. depth_past_vertex g.vertices e.from) i) in
    let whole : length g.vertices + (edge - length g.vertices) ≡ edge = omega arith in
    subst (λ n. Contains (arcs g) (record { from = n; action = Identity; to = target_of g edge })) whole (into_target g.vertices (length g.vertices) g.edges (edge - length g.vertices) (omega arith))

-- a pointstamp that fits the graph is at one of its locations
pub place_within : (g : Dataflow) (x : Pointstamp) → Fits g x → x.location < length g.vertices + length g.edges
place_within g x fits =
    let inside : x.location < length (depths g) = (depth_within g x.location (length x.time.counters) fits.depth).0 in
    let count : length (depths g) ≡ length g.vertices + length g.edges = length-append _ _ ∙ (λ i. length-map g.vertices (λ v. v.depth) i + length-map g.edges (λ e. depth_past_vertex g.vertices e.from) i) in
    omega arith

-- an edge is strictly before its target
pub into : (g : Dataflow) → IsOrdered g → (edge : ℕ) (t : Time) → length g.vertices ≤ edge → Fits g (point_at edge t) → IsStrictlyBefore g (point_at edge t) (point_at (target_of g edge) t)
into g o edge t place fits = along g o (record { from = edge; action = Identity; to = target_of g edge }) (arc_of_edge g edge (length t.counters) place fits.depth) t fits

-- ---- records that arrive

-- each record is at a pointstamp that satisfies G
abbrev pub AllAt : (Pointstamp → Type 0) → List (ℕ × ValueAt) → Type 0
AllAt G [] = Unit {0}
AllAt G (r ∷ rs) = G r.1.point × AllAt G rs

AllAt-append : (G : Pointstamp → Type 0) (rs ss : List (ℕ × ValueAt)) → AllAt G rs → AllAt G ss → AllAt G (rs ++ ss)
AllAt-append G [] ss h k = k
AllAt-append G (r ∷ rs) ss h k = (h.0, AllAt-append G rs ss h.1 k)

pub AllAt-flat : {X : Type 0} (G : Pointstamp → Type 0) (f : X → List (ℕ × ValueAt)) → ((x : X) → AllAt G (f x)) → (xs : List X) → AllAt G (flat_map f xs)
AllAt-flat G f each [] = tt
AllAt-flat G f each (x ∷ xs) = AllAt-append G (f x) (flat_map f xs) (each x) (AllAt-flat G f each xs)

pub AllAt-wider : (G K : Pointstamp → Type 0) → ((x : Pointstamp) → G x → K x) → (rs : List (ℕ × ValueAt)) → AllAt G rs → AllAt K rs
AllAt-wider G K more [] h = tt
AllAt-wider G K more (r ∷ rs) h = (more r.1.point h.0, AllAt-wider G K more rs h.1)

made_later : (G : Pointstamp → Type 0) (dest : Option ℕ) (n p vertex port : ℕ) (v : ℤ) (t : Time) (vs : List Vertex) (l : ℕ) (es : List Edge)
    → ((a : Arc) → Contains (arcs_from vs l es) a → a.from ≡ vertex → a.action ≡ action_at vs vertex → G (point_at a.to t))
    → AllAt G (made_on dest n p vertex port v t l es)
made_later G dest n p vertex port v t vs l [] each = tt
made_later G dest n p vertex port v t vs l (e ∷ es) each =
    let out : Arc = record { from = e.from; action = action_at vs e.from; to = l } in
    let on : Arc = record { from = l; action = Identity; to = e.to } in
    let r : ℕ × ValueAt = (directed dest e.route n p v, record { point = point_at l t; value = v }) in
    let here : AllAt G (cond (nat_eq e.from vertex && nat_eq e.port port) (r ∷ []) []) =
    elim (nat_eq e.from vertex && nat_eq e.port port) as (λ b. (nat_eq e.from vertex && nat_eq e.port port) ≡ b → AllAt G (cond b (r ∷ []) [])) [
      | true ↦ λ test.
          let from : e.from ≡ vertex = eqb-true e.from vertex (and_parts (nat_eq e.from vertex) (nat_eq e.port port) test).0 in
          (each out (0, omega arith, refl) from (ap (action_at vs) from), tt)
      | false ↦ λ test. tt
    ] refl in
    AllAt-append G (cond (nat_eq e.from vertex && nat_eq e.port port) (r ∷ []) []) (made_on dest n p vertex port v t (l + 1) es) here
    (made_later G dest n p vertex port v t vs (l + 1) es (λ a inside. each a (in_rest out (on ∷ arcs_from vs (l + 1) es) a (in_rest on (arcs_from vs (l + 1) es) a inside))))

action_is : (g : Dataflow) (vertex : ℕ) → action_at g.vertices vertex ≡ action_of (op_at g vertex)
action_is g vertex =
    elim (slice_get g.vertices vertex) as (λ v. option_map_or (λ (w : Vertex). action_of w.op) v Identity ≡ action_of (option_map_or (λ (w : Vertex). w.op) v Sink)) [
      | None ↦ refl
      | Some v ↦ refl
    ]

pub emitted_later : (g : Dataflow) → IsOrdered g → (n p vertex : ℕ) (t : Time) → Fits g (point_at vertex t) → (e : ℕ × ℤ) → AllAt (IsStrictlyBefore g (point_at vertex t)) (emitted g n p vertex t e)
emitted_later g o n p vertex t fits e =
    made_later (IsStrictlyBefore g (point_at vertex t)) None n p vertex e.0 e.1 (time_past (op_at g vertex) t) g.vertices (length g.vertices) g.edges (λ a inside from action.
    subst₂ (λ l c. IsStrictlyBefore g (point_at l t) (point_at a.to (past c t))) from (action ∙ action_is g vertex) (along g o a inside t (subst (λ l. Fits g (point_at l t)) (sym from) fits)))

count-elsewhere : (qs : List ProcessorState) (r : ℕ × ValueAt) (x : Pointstamp) → is_point x r.1.point ≡ false → count (with_record qs r) x ≡ count qs x
count-elsewhere qs r x other =
    let q : ProcessorState = slice_index_or qs r.0 idle in
    let none : one_at r.1.point x ≡ 0 = ap (λ b. cond b 1 0) other in
    let more : in_records (added value_at_total q.records r.1 (pos 1)) x ≡ in_records q.records x + one_at r.1.point x = in_records-added q.records r.1 1 x in
    count-set_same qs r.0 (record q { records = added value_at_total q.records r.1 (pos 1) }) x (omega arith)

-- if records arrive only at pointstamps that satisfy G, nothing changes elsewhere
pub come_or_same : (G : Pointstamp → Type 0) (rs : List (ℕ × ValueAt)) → AllAt G rs → (x : Pointstamp) → G x ⊎ ((qs : List ProcessorState) → count (with_records qs rs) x ≡ count qs x)
come_or_same G [] h x = inr (λ qs. refl)
come_or_same G (r ∷ rs) h x =
    elim (is_point x r.1.point) as (λ b. is_point x r.1.point ≡ b → G x ⊎ ((qs : List ProcessorState) → count (with_records qs (r ∷ rs)) x ≡ count qs x)) [
      | true ↦ λ t. inl (subst G (sym (tells_apart point_exact x r.1.point t)) h.0)
      | false ↦ λ t. elim (come_or_same G rs h.1 x) [
        | inl g ↦ inl g
        | inr same ↦ inr (λ qs. same (with_record qs r) ∙ count-elsewhere qs r x t)
      ]
    ] refl
