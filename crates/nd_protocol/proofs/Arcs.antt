-- An arc of an ordered graph turns a pointstamp into one that is strictly later, and that fits.
use Rattle.std.proofs.Common.{◌≡◌, ◌≢◌, inl, ℕ, zero, suc, ◌+◌, ◌-◌, ◌<◌, ◌≤◌, List, [], ◌∷◌, Some, length, refl, sym, ◌∙◌, ap, subst, arith, length-append}
use Rattle.std.specs.Prelude.{Contains, slice_index, slice_get}
use Rattle.std.specs.Option.{option_map_or}
use Rattle.std.proofs.lemmas.List.Elements.{All-contains}
use Rattle.std.proofs.lemmas.List.{length-map}
use Rattle.nd_time.specs.Time.{Time, egress_of, feedback_of}
use Rattle.nd_time.specs.Order.{IsEachAtMost, AreAtMost, IsAtOrBeforeBy}
use Rattle.nd_time.specs.declared.order.TimeOrder.{TimeOrder}
use Rattle.nd_time.specs.declared.order.TimeOrder.TheVariants.{Lexicographic, Product}
use Rattle.nd_graph.specs.declared.op.Action.{Action}
use Rattle.nd_graph.specs.declared.op.Action.TheVariants.{Identity, Ingress, Egress, Feedback}
use Rattle.nd_graph.specs.declared.graph.Arc.{Arc}
use Rattle.nd_graph.specs.declared.graph.Edge.{Edge}
use Rattle.nd_graph.specs.declared.graph.Vertex.{Vertex}
use Rattle.nd_graph.specs.Graph.{Dataflow, LeadsTo, ArcAgrees, arcs, arcs_from, depths, acted, action_at, depth_past_vertex}
use Rattle.nd_paths.specs.Order.{Fits, CouldResultIn, IsStrictlyBefore, IsAccepted}
use Rattle.nd_summaries.specs.Walk.{HasDepth, IsWalk}
use Rattle.nd_paths.specs.declared.point.Pointstamp.{Pointstamp}
use Rattle.std.proofs.lemmas.Option.{slice_get_within, slice_get-get_or, get_or_from_slice_get}
use Rattle.nd_protocol.specs.Steps.{target_of, point_at}
use Rattle.nd_protocol.proofs.Core.{IsStrictOrder}
use Rattle.nd_protocol.specs.Fitting.{IsOrdered}

-- counters are at most themselves, in both orders
each_itself : (c : List ℕ) → IsEachAtMost c c
each_itself [] = tt
each_itself (x ∷ c) = (omega arith, each_itself c)

at_most_itself : (order : TimeOrder) (c : List ℕ) → AreAtMost order c c
at_most_itself Lexicographic c = inl refl
at_most_itself Product c = each_itself c

pub depth_within : (g : Dataflow) (l d : ℕ) → HasDepth g l d → (l < length (depths g)) × (d ≡ slice_index (depths g) l)
depth_within g l d h = (slice_get_within (depths g) l d h, sym (get_or_from_slice_get (depths g) l d 0 h))

has_depth : (g : Dataflow) (l d : ℕ) → l < length (depths g) → d ≡ slice_index (depths g) l → HasDepth g l d
has_depth g l d h e = slice_get-get_or (depths g) l 0 h ∙ ap Some (sym e)

-- the strict order of an accepted graph's pointstamps is transitive
abbrev pub IsTransitive : Type 0
IsTransitive = (g : Dataflow) (s t u : Pointstamp) → IsAccepted g → IsStrictlyBefore g s t → IsStrictlyBefore g t u → IsStrictlyBefore g s u

-- the order of any graph's pointstamps is transitive
abbrev pub CouldIsTransitive : Type 0
CouldIsTransitive = (g : Dataflow) (s t u : Pointstamp) → CouldResultIn g s t → CouldResultIn g t u → CouldResultIn g s u

pub irreflexive : (g : Dataflow) (x : Pointstamp) → IsStrictlyBefore g x x → ⊥
irreflexive g x h = h.1 refl

pub strict_order : IsTransitive → (g : Dataflow) → IsOrdered g → IsStrictOrder (IsStrictlyBefore g)
strict_order trans g o = record { irreflexive = irreflexive g; transitive = λ x y z h k. trans g x y z o.accepted h k }

-- ---- one arc

length-egress : (c : List ℕ) (d : ℕ) → length c ≡ d + 1 → length (egress_of c) ≡ d
length-egress [] d e = absurd (omega arith)
length-egress (x ∷ []) d e = omega arith
length-egress (x ∷ y ∷ c) zero e = absurd (omega arith)
length-egress (x ∷ y ∷ c) (suc d) e = ap suc (length-egress (y ∷ c) d (omega arith))

length-feedback : (c : List ℕ) → length (feedback_of c) ≡ length c
length-feedback [] = refl
length-feedback (x ∷ []) = refl
length-feedback (x ∷ y ∷ c) = ap suc (length-feedback (y ∷ c))

length-acted : (a : Action) (c : List ℕ) (d : ℕ) → LeadsTo a (length c) d → length (acted a c) ≡ d
length-acted Identity c d e = sym e
length-acted Ingress c d e = length-append c (0 ∷ []) ∙ sym e
length-acted Egress c d e = length-egress c d e
length-acted Feedback c d e = length-feedback c ∙ sym e.1

-- the time after an action
abbrev pub past : Action → Time → Time
past a t = record { epoch = t.epoch; counters = acted a t.counters }

arc_fits : (g : Dataflow) → IsOrdered g → (a : Arc) → Contains (arcs g) a → (t : Time) → Fits g (point_at a.from t) → Fits g (point_at a.to (past a.action t))
arc_fits g o a in_graph t f =
    let agrees : ArcAgrees (depths g) a = All-contains (ArcAgrees (depths g)) (arcs g) a o.agree in_graph in
    let here : length t.counters ≡ slice_index (depths g) a.from = (depth_within g a.from (length t.counters) f.depth).1 in
    let leads : LeadsTo a.action (length t.counters) (slice_index (depths g) a.to) = subst (λ n. LeadsTo a.action n (slice_index (depths g) a.to)) (sym here) agrees.depth in
    record { depth = has_depth g a.to (length (acted a.action t.counters)) agrees.to (length-acted a.action t.counters (slice_index (depths g) a.to) leads) }

pub along : (g : Dataflow) → IsOrdered g → (a : Arc) → Contains (arcs g) a → (t : Time) → Fits g (point_at a.from t) → IsStrictlyBefore g (point_at a.from t) (point_at a.to (past a.action t))
along g o a in_graph t f =
    let there : Fits g (point_at a.to (past a.action t)) = arc_fits g o a in_graph t f in
    let leads : IsWalk g a.from (a ∷ []) a.to = (in_graph, refl, refl) in (
      record { fits_s = f; fits_t = there; walk = a ∷ []; leads = leads; before = record { depth = refl; epoch = omega arith; counters = at_most_itself g.order (acted a.action t.counters) } },
      λ e.
          let place : a.from ≡ a.to = ap (λ x. x.location) e in
          let counters : t.counters ≡ acted a.action t.counters = ap (λ x. x.time.counters) e in
          let round : IsWalk g a.from (a ∷ []) a.from = subst (λ l. IsWalk g a.from (a ∷ []) l) (sym place) leads in
          let back : AreAtMost g.order (acted a.action t.counters) t.counters = subst (λ c. AreAtMost g.order c t.counters) counters (at_most_itself g.order t.counters) in
          o.accepted.strict a.from (record { arc = a; walk = []; closed = round; back = record { counters = t.counters; depth = f.depth; back = back } }),
    )

-- along an arc that leaves times as they are, to any time at or after
pub along_later : (g : Dataflow) → IsOrdered g → (a : Arc) → Contains (arcs g) a → a.action ≡ Identity → (t to : Time) → IsAtOrBeforeBy g.order t to → Fits g (point_at a.from t) → IsStrictlyBefore g (point_at a.from t) (point_at a.to to)
along_later g o a in_graph plain t to before f =
    let step : IsStrictlyBefore g (point_at a.from t) (point_at a.to t) = subst (λ c. IsStrictlyBefore g (point_at a.from t) (point_at a.to (past c t))) plain (along g o a in_graph t f) in (
      record {
        fits_s = f;
        fits_t = record { depth = subst (HasDepth g a.to) before.depth step.0.fits_t.depth };
        walk = a ∷ [];
        leads = (in_graph, refl, refl);
        before = subst (λ c. IsAtOrBeforeBy g.order (past c t) to) (sym plain) before;
      },
      λ e. step.1 (ap (λ x. point_at x.location t) e),
    )

-- the same location at a later time
pub later_time : (g : Dataflow) (l : ℕ) (t to : Time) → IsAtOrBeforeBy g.order t to → t ≢ to → Fits g (point_at l t) → IsStrictlyBefore g (point_at l t) (point_at l to)
later_time g l t to before other f =
    (record { fits_s = f; fits_t = record { depth = subst (HasDepth g l) before.depth f.depth }; walk = []; leads = refl; before = before }, λ same. other (ap (λ x. x.time) same))

-- the same location at a later epoch
pub later_epoch : (g : Dataflow) (l e to : ℕ) (c : List ℕ) → e < to → Fits g (point_at l (record { epoch = e; counters = c })) → IsStrictlyBefore g (point_at l (record { epoch = e; counters = c })) (point_at l (record { epoch = to; counters = c }))
later_epoch g l e to c less f =
    later_time g l (record { epoch = e; counters = c }) (record { epoch = to; counters = c }) (record { depth = refl; epoch = omega arith; counters = at_most_itself g.order c })
    (λ same. let epochs : e ≡ to = ap (λ x. x.epoch) same in absurd (omega arith)) f

-- ---- the arcs of the graph

pub in_rest : {X : Type 0} (y : X) (xs : List X) (x : X) → Contains xs x → Contains (y ∷ xs) x
in_rest y xs x (k, lt, is) = (suc k, omega arith, is)

into_target : (vs : List Vertex) (l : ℕ) (es : List Edge) (i : ℕ) → i < length es → Contains (arcs_from vs l es) (record { from = l + i; action = Identity; to = option_map_or (λ e. e.to) (slice_get es i) 0 })
into_target vs l [] i lt = absurd (omega arith)
into_target vs l (e ∷ es) zero lt = (1, omega arith, (λ i. record { from = zero_more i; action = Identity; to = e.to }))
  where
    zero_more : l ≡ l + 0
    zero_more = omega arith
into_target vs l (e ∷ es) (suc i) lt =
    let x : Arc = record { from = l + suc i; action = Identity; to = option_map_or (λ e. e.to) (slice_get es i) 0 } in
    let more : (l + 1) + i ≡ l + suc i = omega arith in
    let rest : Contains (arcs_from vs (l + 1) es) x
    = subst (λ n. Contains (arcs_from vs (l + 1) es) (record { from = n; action = Identity; to = option_map_or (λ e. e.to) (slice_get es i) 0 })) more (into_target vs (l + 1) es i (omega arith)) in
    let out : Arc = record { from = e.from; action = action_at vs e.from; to = l } in
    let on : Arc = record { from = l; action = Identity; to = e.to } in
    in_rest out (on ∷ arcs_from vs (l + 1) es) x (in_rest on (arcs_from vs (l + 1) es) x rest)

-- from an edge to its target
pub arc_of_edge : (g : Dataflow) (edge : ℕ) (d : ℕ) → length g.vertices ≤ edge → HasDepth g edge d → Contains (arcs g) (record { from = edge; action = Identity; to = target_of g edge })
arc_of_edge g edge d place has =
    let inside : edge < length (depths g) = (depth_within g edge d has).0 in
    let count : length (depths g) ≡ length g.vertices + length g.edges = length-append _ _ ∙ (λ i. length-map g.vertices (λ v. v.depth) i + length-map g.edges (λ e. depth_past_vertex g.vertices e.from) i) in
    let whole : length g.vertices + (edge - length g.vertices) ≡ edge = omega arith in
    subst (λ n. Contains (arcs g) (record { from = n; action = Identity; to = target_of g edge })) whole (into_target g.vertices (length g.vertices) g.edges (edge - length g.vertices) (omega arith))
