-- The records that a step makes: each goes to a processor that exists, and those of an effect are
-- those of its outcome.
use Rattle.std.proofs.Common.{◌≡◌, refl, sym, ap, ◌∙◌, ℕ, ◌+◌, ◌<◌, ℤ, pos, negsuc, Bool, true, false, cond, ◌&&◌, List, [], ◌∷◌, ◌++◌, length, flat_map, Option, Some, None, IfSome, unsigned_abs, nat_eq, mod-lt, arith}
use Rattle.std.specs.Int.{int_rem_euclid}
use Rattle.nd_time.specs.Time.{Time}
use Rattle.nd_graph.specs.Graph.{Dataflow, op_at}
use Rattle.nd_graph.specs.declared.op.Route.{Route}
use Rattle.nd_graph.specs.declared.op.Route.TheVariants.{Local, Exchange}
use Rattle.nd_graph.specs.declared.graph.Edge.{Edge}
use Rattle.nd_vertex.specs.Table.{Outcome, time_past}
use Rattle.nd_vertex.specs.Effects.{IsEffect, emitted as emissions_of}
use Rattle.nd_vertex.specs.declared.effect.Effect.{Effect}
use Rattle.nd_processor.specs.State.{items_at}
use Rattle.nd_processor.specs.declared.key.ValueAt.{ValueAt}
use Rattle.nd_protocol.specs.State.{ClusterState, processor}
use Rattle.nd_protocol.specs.Steps.{destination, directed, record_key, made_on, emitted}
use Rattle.nd_steps.specs.Drafts.{Has, made_to, emission_of, values_by, emitted_by}
use Rattle.nd_steps.proofs.StepMoves.{AreTo}

rest_below : (v : ℤ) (n : ℕ) → 0 < n → unsigned_abs (int_rem_euclid v (pos n)) < n
rest_below (pos a) n some = mod-lt a some
rest_below (negsuc a) n some = omega arith

destination-below : (route : Route) (n p : ℕ) (v : ℤ) → p < n → destination route n p v < n
destination-below Local n p v lt = lt
destination-below Exchange n p v lt = rest_below v n (omega arith)

-- the processor that is named, if one is named, is one of n
abbrev pub IsBelow : ℕ → Option ℕ → Type 0
IsBelow n dest = IfSome dest (λ d. d < n)

directed-below : (dest : Option ℕ) (route : Route) (n p : ℕ) (v : ℤ) → IsBelow n dest → p < n → directed dest route n p v < n
directed-below None route n p v there lt = destination-below route n p v lt
directed-below (Some dest) Local n p v there lt = lt
directed-below (Some dest) Exchange n p v there lt = there

pub AreTo-append : (n : ℕ) (rs ss : List (ℕ × ValueAt)) → AreTo n rs → AreTo n ss → AreTo n (rs ++ ss)
AreTo-append n [] ss h k = k
AreTo-append n (r ∷ rs) ss h k = (h.0, AreTo-append n rs ss h.1 k)

pub AreTo-flat : {X : Type 0} (n : ℕ) (f : X → List (ℕ × ValueAt)) → ((x : X) → AreTo n (f x)) → (xs : List X) → AreTo n (flat_map f xs)
AreTo-flat n f each [] = tt
AreTo-flat n f each (x ∷ xs) = AreTo-append n (f x) (flat_map f xs) (each x) (AreTo-flat n f each xs)

one_or_none : (b : Bool) (n : ℕ) (r : ℕ × ValueAt) → r.0 < n → AreTo n (cond b (r ∷ []) [])
one_or_none true n r lt = (lt, tt)
one_or_none false n r lt = tt

made_on-below : (dest : Option ℕ) (n p vertex port : ℕ) (v : ℤ) (t : Time) (l : ℕ) (edges : List Edge) → IsBelow n dest → p < n → AreTo n (made_on dest n p vertex port v t l edges)
made_on-below dest n p vertex port v t l [] there lt = tt
made_on-below dest n p vertex port v t l (e ∷ edges) there lt =
    let r : ℕ × ValueAt = (directed dest e.route n p v, record_key l t v) in
    AreTo-append n (cond (nat_eq e.from vertex && nat_eq e.port port) (r ∷ []) []) (made_on dest n p vertex port v t (l + 1) edges)
    (one_or_none (nat_eq e.from vertex && nat_eq e.port port) n r (directed-below dest e.route n p v there lt))
    (made_on-below dest n p vertex port v t (l + 1) edges there lt)

pub emitted-below : (g : Dataflow) (n p vertex : ℕ) (t : Time) (e : ℕ × ℤ) → p < n → AreTo n (emitted g n p vertex t e)
emitted-below g n p vertex t e lt = made_on-below None n p vertex e.0 e.1 (time_past (op_at g vertex) t) (length g.vertices) g.edges tt lt

pub values-below : (dest : Option ℕ) (g : Dataflow) (n p vertex port : ℕ) (t : Time) (values : List ℤ) → IsBelow n dest → p < n → AreTo n (values_by dest g n p vertex port t values)
values-below dest g n p vertex port t values there lt =
    AreTo-flat n (λ v. made_to dest g n p vertex (emission_of port t v)) (λ v. made_on-below dest n p vertex port v t (length g.vertices) g.edges there lt) values

-- ---- the records of an effect

as_emitted : (g : Dataflow) (n p vertex : ℕ) (t : Time) (es : List (ℕ × ℤ)) → flat_map (emitted g n p vertex t) es ≡ emitted_by g n p vertex (emissions_of (time_past (op_at g vertex) t) es)
as_emitted g n p vertex t [] = refl
as_emitted g n p vertex t (e ∷ es) = ap (λ rs. made_on None n p vertex e.0 e.1 (time_past (op_at g vertex) t) (length g.vertices) g.edges ++ rs) (as_emitted g n p vertex t es)

pub effect_arrives : {A : Type 0} (s : ClusterState) (g : Dataflow) (n : ℕ) → Has g n s → (p : ℕ) (effect : Effect A) (vertex : ℕ) (t : Time) (o : Outcome) → IsEffect (items_at (processor s p) vertex) (op_at s.graph vertex) t o effect
    → flat_map (emitted s.graph (length s.processors) p vertex t) o.emissions ≡ emitted_by g n p vertex effect.emits.items
effect_arrives s g n has p effect vertex t o is =
    as_emitted s.graph (length s.processors) p vertex t o.emissions
    ∙ (λ i. emitted_by (has.graph i) (has.count i) p vertex (sym is.emits i))
