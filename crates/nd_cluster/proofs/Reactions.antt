-- The tests of a take and of a notice show that their vertices may act; and what may still be refused.
use Rattle.std.proofs.Common.{inl, inr, ◌≡◌, ℕ, zero, suc, ◌-◌, ◌<◌, ◌≤◌, Bool, true, false, cond, not, ◌&&◌, ◌||◌, ◌==◌, List, [], ◌∷◌, ◌++◌, map, length, Option, Some, None, refl, sym, ap, subst, ◌∙◌, arith, lt_of_not-le}
use Rattle.std.proofs.lemmas.Bool.Decides.{nat_tests}
use Rattle.std.specs.Prelude.{nat_lt, slice_get}
use Rattle.std.specs.Option.{option_map_or}
use Rattle.std.specs.List.{list_any}
use Rattle.nd_time.specs.Limits.{max_counter, max_depth, max_locations}
use Rattle.nd_time.specs.Time.{last_of}
use Rattle.nd_graph.specs.declared.op.Op.{Op}
use Rattle.nd_graph.specs.declared.op.Op.TheVariants as op
use Rattle.nd_graph.specs.declared.op.Action.{Action}
use Rattle.nd_graph.specs.declared.op.Action.TheVariants.{Identity, Ingress, Egress, Feedback}
use Rattle.nd_graph.specs.declared.fault.GraphFault.{GraphFault}
use Rattle.nd_graph.specs.declared.fault.GraphFault.TheVariants.{BadPort, DepthMismatch, TooLarge}
use Rattle.nd_graph.specs.declared.graph.Vertex.{Vertex}
use Rattle.nd_graph.specs.declared.graph.Edge.{Edge}
use Rattle.nd_graph.specs.Operators.{stands_in_loop, leads_in}
use Rattle.nd_graph.specs.Graph.{Dataflow, action_of, depth_past_vertex, location_count, op_at}
use Rattle.nd_graph.specs.Checked.{has_bad_port, is_input, is_misplaced, is_too_deep, vertex_depth, misses_depth, has_depth_mismatch, leads_too_deep, is_too_large, fault_of, IsFaultless}
use Rattle.nd_paths.specs.declared.point.Pointstamp.{Pointstamp}
use Rattle.nd_delta.specs.Least.{IsLeast}
use Rattle.nd_delta.specs.Delta.{DeltaValue}
use Rattle.nd_view.specs.View.{IsPrecursor}
use Rattle.nd_vertex.specs.Items.{Items}
use Rattle.nd_vertex.specs.Table.{Outcome, on_record}
use Rattle.nd_vertex.specs.Effects.{IsCounterFull, IsInRange, MayActAt}
use Rattle.std.specs.FinMap as fin
use Rattle.nd_processor.specs.State.{idle, items_at}
use Rattle.nd_processor.specs.declared.key.ValueAt.{ValueAt}
use Rattle.nd_protocol.specs.State.{ClusterState, processor, view}
use Rattle.nd_protocol.specs.Steps.{target_of}
use Rattle.nd_protocol.specs.Fitting.{IsState, ProcessorFits, IsAtEdge}
use Rattle.nd_protocol.specs.Enabled.{Fails, IsFreeBelow, IsRefused}
use Rattle.nd_protocol.specs.Refusals.{number_of}
use Rattle.nd_protocol.specs.declared.refusal.Refusal.{Refusal}
use Rattle.nd_protocol.specs.declared.refusal.Refusal.TheVariants.{NoProcessor, NoEdge, NoRecord, NotYet, CounterFull, ValueRange}
use Rattle.nd_cluster.specs.Drafted.{take_of, notice_of}
use Rattle.nd_steps.specs.Targets.{target_there}
use Rattle.std.proofs.lemmas.Bool.{or_parts}
use Rattle.nd_map.specs.Cases.{at_least}

-- ---- the depths of a graph without faults

second_none : (a b c : Bool) → ◌≡◌ {A = Option GraphFault} (cond a (Some BadPort) (cond b (Some DepthMismatch) (cond c (Some TooLarge) None))) None → (b ≡ false) × (c ≡ false)
second_none true b c e = absurd (cc)
second_none false true c e = absurd (cc)
second_none false false true e = absurd (cc)
second_none false false false e = (refl, refl)

-- an action that is not misplaced can be applied
may : (a : Action) (d : ℕ) → (stands_in_loop a && d == 0) ≡ false → (nat_lt max_depth d || (leads_in a && d == max_depth)) ≡ false → MayActAt a d
may Identity d e f = tt
may Ingress d e f = grind (arith, nat_tests, f)
may Egress d e f = grind (arith, nat_tests, e)
may Feedback d e f = grind (arith, nat_tests, e)

may_at : (vs : List Vertex) (l : ℕ) → list_any is_misplaced vs ≡ false → list_any (is_too_deep max_depth) vs ≡ false → MayActAt (action_of (option_map_or (λ v. v.op) (slice_get vs l) op.Sink)) (vertex_depth vs l)
may_at [] l e f = tt
may_at (v ∷ vs) zero e f =
    may (action_of v.op) v.depth (or_parts (is_input v.op && nat_lt 0 v.depth) (stands_in_loop (action_of v.op) && v.depth == 0) (or_parts (is_misplaced v) (list_any is_misplaced vs) e).0).1 (or_parts (is_too_deep max_depth v) (list_any (is_too_deep max_depth) vs) f).0
may_at (v ∷ vs) (suc l) e f = may_at vs l (or_parts (is_misplaced v) (list_any is_misplaced vs) e).1 (or_parts (is_too_deep max_depth v) (list_any (is_too_deep max_depth) vs) f).1

-- the depth of an edge is among those of the edges
among_edges : (ws : List Vertex) (ds : List ℕ) (l d : ℕ) → length ws ≤ l → slice_get (map (λ (v : Vertex). v.depth) ws ++ ds) l ≡ Some d → slice_get ds (l - length ws) ≡ Some d
among_edges [] ds l d low e = let same : l - 0 ≡ l = omega arith in ap (slice_get ds) same ∙ e
among_edges (w ∷ ws) ds zero d low e = absurd (omega arith)
among_edges (w ∷ ws) ds (suc l) d low e =
    let less : suc l - length (w ∷ ws) ≡ l - length ws = omega arith in
    ap (slice_get ds) less ∙ among_edges ws ds l d (omega arith) e

same_depth : (a b : ℕ) → not (a == b) ≡ false → b ≡ a
same_depth a b e = grind (arith, nat_tests, e)

target_depth : (vs : List Vertex) (es : List Edge) (i d : ℕ) → list_any (misses_depth vs) es ≡ false → slice_get (map (λ (e : Edge). depth_past_vertex vs e.from) es) i ≡ Some d → vertex_depth vs (option_map_or (λ (e : Edge). e.to) (slice_get es i) 0) ≡ d
unfolding misses_depth
target_depth vs [] i d right has = absurd (cc)
target_depth vs (e ∷ es) zero d right has =
    let one : depth_past_vertex vs e.from ≡ d = cc in
    same_depth (depth_past_vertex vs e.from) (vertex_depth vs e.to) (or_parts (misses_depth vs e) (list_any (misses_depth vs) es) right).0 ∙ one
target_depth vs (e ∷ es) (suc i) d right has = target_depth vs es i d (or_parts (misses_depth vs e) (list_any (misses_depth vs) es) right).1 has

-- the target of an edge may act at the edge's depth
may_target : (g : Dataflow) (edge d : ℕ) → IsFaultless g → length g.vertices ≤ edge → slice_get (map (λ (v : Vertex). v.depth) g.vertices ++ map (λ (e : Edge). depth_past_vertex g.vertices e.from) g.edges) edge ≡ Some d → MayActAt (action_of (op_at g (target_of g edge))) d
unfolding fault_of has_depth_mismatch is_too_large
may_target g edge d sound low has =
    let (agree, small) = second_none (list_any (has_bad_port g.vertices) g.edges) (has_depth_mismatch g) (is_too_large max_depth max_locations g) sound.faultless in
    let placed = (or_parts (list_any is_misplaced g.vertices) (list_any (misses_depth g.vertices) g.edges) agree).0 in
    let right = (or_parts (list_any is_misplaced g.vertices) (list_any (misses_depth g.vertices) g.edges) agree).1 in
    let shallow = (or_parts (list_any (is_too_deep max_depth) g.vertices) (list_any (leads_too_deep max_depth g.vertices) g.edges) (or_parts (nat_lt max_locations (location_count g)) (list_any (is_too_deep max_depth) g.vertices || list_any (leads_too_deep max_depth g.vertices) g.edges) small).1).0 in
    let is : vertex_depth g.vertices (target_of g edge) ≡ d
    = target_depth g.vertices g.edges (edge - length g.vertices) d right (among_edges g.vertices (map (λ (e : Edge). depth_past_vertex g.vertices e.from) g.edges) edge d low has) in
    subst (λ n. MayActAt (action_of (op_at g (target_of g edge))) n) is (may_at g.vertices (target_of g edge) placed shallow)

-- ---- a take

-- what the tests of a take have shown
pub record TakeStands (s : ClusterState) (p : ℕ) (k : ValueAt) (target : ℕ) : Type 0 where
  pub here : p < length s.processors
  pub vertex : target < length (processor s p).items
  pub may : MayActAt (action_of (op_at s.graph target)) (length k.point.time.counters)

pub take_stands : {A : Type 0} (s : ClusterState) (p : ℕ) (k : ValueAt) (target : ℕ) → IsState s → IsFaultless s.graph → target ≡ target_of s.graph k.point.location → IsFreeBelow {A = A} s (take_of {A = A} p k) 11 → TakeStands s p k target
take_stands {A} s p k target state sound is on =
    let here : p < length s.processors = lt_of_not-le (on.free NoProcessor (omega arith)) in
    let low : length s.graph.vertices ≤ k.point.location = at_least k.point.location (length s.graph.vertices) (λ lt. on.free NoEdge (omega arith) (inl lt)) in
    let high : k.point.location < location_count s.graph = lt_of_not-le (λ le. on.free NoEdge (omega arith) (inr le)) in
    let fits : ProcessorFits s.graph (processor s p) = state.fits.processors p idle here in
    let at_edge : IsAtEdge s.graph k.point = (fits.records k (on.free NoRecord (omega arith))).0 in
    let there : target_of s.graph k.point.location < length s.graph.vertices = target_there s.graph k.point.location sound.joined low high in
    record {
      here = here;
      vertex = (let n : length (processor s p).items ≡ length s.graph.vertices = fits.vertices in omega arith);
      may = subst (λ t. MayActAt (action_of (op_at s.graph t)) (length k.point.time.counters)) (sym is) (may_target s.graph k.point.location (length k.point.time.counters) sound low at_edge.fits.depth);
    }

module _ {A : Type 0} (s : ClusterState) (p : ℕ) (k : ValueAt) (target : ℕ) (is : target ≡ target_of s.graph k.point.location) (on : IsFreeBelow {A = A} s (take_of {A = A} p k) 11) where
  -- the operator of the target, and what it does with the record
  abbrev target_op : Op
  target_op = op_at s.graph (target_of s.graph k.point.location)

  not_full : (IsCounterFull (op_at s.graph target) k.point.time → ⊥) → (target_op ≡ op.Feedback) × (max_counter ≤ last_of k.point.time.counters) → ⊥
  not_full h f =
      h (subst (λ t. IsCounterFull (op_at s.graph t) k.point.time) (sym is) (record { feedback = ap action_of f.0; full = f.1 }))

  past_full : (IsCounterFull (op_at s.graph target) k.point.time → ⊥) → IsFreeBelow {A = A} s (take_of {A = A} p k) 12
  past_full h = record { free = passes }
    where
      passes : (r : Refusal) → number_of r < 12 → Fails {A = A} s (take_of {A = A} p k) r → ⊥
      passes CounterFull lt f = not_full h f
      passes r lt f = on.free r (omega (arith, lt)) f

  -- what the target does with the record
  abbrev outcome : Outcome
  outcome = on_record (op_at s.graph target) (items_at (processor s p) target) k.point.time k.value

  abbrev Fits : ℕ → Type 0
  Fits t = IsInRange (on_record (op_at s.graph t) (items_at (processor s p) t) k.point.time k.value)

  take_range : (IsCounterFull (op_at s.graph target) k.point.time → ⊥) → (IsInRange outcome → ⊥) → IsRefused {A = A} s (take_of {A = A} p k) ValueRange
  take_range h far = record { fails = λ r. far (subst Fits (sym is) (record { emissions = r.emissions; items = r.items })); least = past_full h }

  take_free : (IsCounterFull (op_at s.graph target) k.point.time → ⊥) → ((IsInRange outcome → ⊥) → ⊥) → IsFreeBelow {A = A} s (take_of {A = A} p k) 13
  take_free h near = record { free = passes }
    where
      passes : (r : Refusal) → number_of r < 13 → Fails {A = A} s (take_of {A = A} p k) r → ⊥
      passes CounterFull lt f = not_full h f
      passes ValueRange lt f = near (λ r. (let u : Fits (target_of s.graph k.point.location) = subst Fits is r in f (record { emissions = u.emissions; items = u.items })))
      passes r lt f = on.free r (omega (arith, lt)) f

  -- the same for the operator and the items as they are read
  module _ (o : Op) (m : Items) (o_is : o ≡ op_at s.graph target) (m_is : m ≡ items_at (processor s p) target) where
    abbrev Read : Type 0
    Read = IsInRange (on_record o m k.point.time k.value)

    to_outcome : Read → IsInRange outcome
    to_outcome r = subst (λ x. IsInRange (on_record (op_at s.graph target) x k.point.time k.value)) m_is (subst (λ x. IsInRange (on_record x m k.point.time k.value)) o_is r)

    of_outcome : IsInRange outcome → Read
    of_outcome r = subst (λ x. IsInRange (on_record x m k.point.time k.value)) (sym o_is) (subst (λ x. IsInRange (on_record (op_at s.graph target) x k.point.time k.value)) (sym m_is) r)

    pub read_range : (IsCounterFull o k.point.time → ⊥) → (Read → ⊥) → IsRefused {A = A} s (take_of {A = A} p k) ValueRange
    read_range h far = take_range (λ f. h (subst (λ x. IsCounterFull x k.point.time) (sym o_is) f)) (λ r. far (of_outcome r))

    pub read_free : (IsCounterFull o k.point.time → ⊥) → ((Read → ⊥) → ⊥) → IsFreeBelow {A = A} s (take_of {A = A} p k) 13
    read_free h near = take_free (λ f. h (subst (λ x. IsCounterFull x k.point.time) (sym o_is) f)) (λ far. near (λ r. far (to_outcome r)))

-- ---- a notice

-- a request is of a vertex, which has items
pub requested_there : (s : ClusterState) (p : ℕ) (x : Pointstamp) → IsState s → p < length s.processors → fin.get (processor s p).requests x ≡ Some tt → x.location < length (processor s p).items
requested_there s p x state here asked =
    let fits : ProcessorFits s.graph (processor s p) = state.fits.processors p idle here in
    omega (arith, (fits.requests x asked).place, fits.vertices)

module _ {A : Type 0} (s : ClusterState) (p : ℕ) (x : Pointstamp) (on : IsFreeBelow {A = A} s (notice_of {A = A} p x) 10) where
  pub notice_here : p < length s.processors
  notice_here = lt_of_not-le (on.free NoProcessor (omega arith))

  pub notice_blocked : (g : Dataflow) (m : DeltaValue) → g ≡ s.graph → view s p ≡ m → (blocker : Pointstamp) → IsLeast (IsPrecursor g m x) blocker → IsRefused {A = A} s (notice_of {A = A} p x) (NotYet blocker)
  notice_blocked g m e f blocker h = record {
    fails = subst (λ c. IsLeast (IsPrecursor s.graph c x) blocker) (sym f) (subst (λ d. IsLeast (IsPrecursor d m x) blocker) e h);
    least = on;
  }

  pub notice_free : (g : Dataflow) (m : DeltaValue) → g ≡ s.graph → view s p ≡ m → ((y : Pointstamp) → IsPrecursor g m x y → ⊥) → IsFreeBelow {A = A} s (notice_of {A = A} p x) 13
  notice_free g m e f nothing = record { free = passes }
    where
      here : (y : Pointstamp) → IsPrecursor s.graph (view s p) x y → ⊥
      here y h = nothing y (subst (λ d. IsPrecursor d m x y) (sym e) (subst (λ c. IsPrecursor s.graph c x y) f h))

      passes : (r : Refusal) → number_of r < 13 → Fails {A = A} s (notice_of {A = A} p x) r → ⊥
      passes (NotYet blocker) lt f = here blocker f.is_one
      passes CounterFull lt f = f
      passes ValueRange lt f = f
      passes r lt f = on.free r (omega (arith, lt)) f
