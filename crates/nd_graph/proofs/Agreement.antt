-- In a graph without errors the depths agree along its arcs.
use Rattle.std.proofs.Common.{◌≡◌, ◌∙◌, ℕ, ◌+◌, ◌<◌, ◌≤◌, zero, suc, Bool, true, false, not, ◌&&◌, ◌||◌, ◌==◌, eqb, ltb, nat_lt, List, [], ◌∷◌, ◌++◌, length, get_or, map, refl, sym, ap, subst, arith, if◌then◌else◌, append_assoc, Some, None}
use Rattle.std.proofs.lemmas.List.{length-map, length-append}
use Rattle.std.proofs.lemmas.List.Elements.{All-nil, All-cons, All-head, All-tail, All-append, All-map, All-weaker}
use Rattle.std.proofs.lemmas.Bool.{eqb-true, ltb-false, or_from, or_parts, not-false}
use Rattle.std.proofs.lemmas.Bool.Decides.{nat_tests}
use Rattle.std.specs.List.{All, list_any}
use Rattle.nd_time.specs.Limits.{max_depth, max_locations}
use Rattle.nd_graph.specs.declared.op.Op.{Op}
use Rattle.nd_graph.specs.declared.op.Op.TheVariants as op
use Rattle.nd_graph.specs.declared.op.Action.TheVariants.{Identity}
use Rattle.nd_graph.specs.declared.graph.Vertex.{Vertex}
use Rattle.nd_graph.specs.declared.graph.Edge.{Edge}
use Rattle.nd_graph.specs.declared.graph.Arc.{Arc}
use Rattle.nd_graph.specs.declared.fault.GraphFault.TheVariants.{BadPort, DepthMismatch, TooLarge}
use Rattle.nd_graph.specs.Operators.{leads_in}
use Rattle.nd_graph.specs.Graph.{Dataflow, action_of, action_at, depth_past, depth_past_vertex, depths, arcs, arcs_from, location_count, LeadsTo, ArcAgrees, IsGraph}
use Rattle.nd_graph.specs.Checked.{has_bad_port, is_misplaced, is_misplaced_at, misses_depth, vertex_depth, has_depth_mismatch, is_too_deep, leads_too_deep, is_too_large, fault_of, JoinsVertices, IsFaultless}

-- ---- arcs, edge by edge

-- the arcs of an edge
abbrev pub arcs_at : List Vertex → ℕ → Edge → List Arc
arcs_at vertices l e =
    record { from = e.from; action = action_at vertices e.from; to = l }
    ∷ record { from = l; action = Identity; to = e.to } ∷ []

pub arcs_from-push : (vertices : List Vertex) (l : ℕ) (edges : List Edge) (e : Edge) (here : ℕ) → here ≡ l + length edges
    → arcs_from vertices l (edges ++ e ∷ []) ≡ arcs_from vertices l edges ++ arcs_at vertices here e
arcs_from-push vertices l [] e here at =
    let same : l ≡ here = omega arith in
    ap (λ k. arcs_at vertices k e) same
arcs_from-push vertices l (x ∷ edges) e here at =
    ap (λ more. record { from = x.from; action = action_at vertices x.from; to = l } ∷ record { from = l; action = Identity; to = x.to } ∷ more)
    (arcs_from-push vertices (l + 1) edges e here (omega arith))

-- ---- what the absence of an error means

none_of : {X : Type 0} (test : X → Bool) (xs : List X) → list_any test xs ≡ false → All (λ x. test x ≡ false) xs
none_of test [] h = All-nil (λ x. test x ≡ false)
none_of test (x ∷ xs) h =
    let both = or_parts (test x) (list_any test xs) h in
    All-cons (λ y. test y ≡ false) x xs both.0 (none_of test xs both.1)

all_pass : {X : Type 0} (a b c : Bool) (x y z : X) → (if a then Some x else (if b then Some y else (if c then Some z else None))) ≡ None
    → (a ≡ false) × (b ≡ false) × (c ≡ false)
all_pass true b c x y z h = cc
all_pass false true c x y z h = cc
all_pass false false true x y z h = cc
all_pass false false false x y z h = (refl, refl, refl)

tests : (most many : ℕ) (g : Dataflow) → fault_of most many g ≡ None
    → (list_any (has_bad_port g.vertices) g.edges ≡ false) × (has_depth_mismatch g ≡ false) × (is_too_large most many g ≡ false)
unfolding fault_of
tests most many g h = all_pass (list_any (has_bad_port g.vertices) g.edges) (has_depth_mismatch g) (is_too_large most many g) BadPort DepthMismatch TooLarge h

-- ---- lower limits

none_more : {X : Type 0} (test more : X → Bool) → ((x : X) → test x ≡ false → more x ≡ false) → (xs : List X) → list_any test xs ≡ false → list_any more xs ≡ false
none_more test more weaker [] h = refl
none_more test more weaker (x ∷ xs) h =
    let both = or_parts (test x) (list_any test xs) h in
    or_from (more x) (list_any more xs) (weaker x both.0) (none_more test more weaker xs both.1)

less_deep : (most least d : ℕ) (leads : Bool) → most ≤ least → (nat_lt most d || (leads && d == most)) ≡ false → (nat_lt least d || (leads && d == least)) ≡ false
less_deep most least d true h e = grind (arith, nat_tests, h, e)
less_deep most least d false h e = grind (arith, nat_tests, h, e)

lower : (most least d : ℕ) → most ≤ least → nat_lt most d ≡ false → nat_lt least d ≡ false
lower most least d h e = grind (arith, nat_tests, h, e)

no_fault : (a b c d : Bool) → (if a then Some BadPort else (if b then Some DepthMismatch else (if c then Some TooLarge else None))) ≡ None
    → (c ≡ false → d ≡ false) → (if a then Some BadPort else (if b then Some DepthMismatch else (if d then Some TooLarge else None))) ≡ None
no_fault a b c d h weaker =
    let passed = all_pass a b c BadPort DepthMismatch TooLarge h in
    rw (passed.0, passed.1, weaker passed.2) refl

smaller : (most least many more : ℕ) (g : Dataflow) → most ≤ least → many ≤ more → is_too_large most many g ≡ false → is_too_large least more g ≡ false
unfolding is_too_large leads_too_deep
smaller most least many more g h k e =
    let few = or_parts (nat_lt many (location_count g)) (list_any (is_too_deep most) g.vertices || list_any (leads_too_deep most g.vertices) g.edges) e in
    let flat = or_parts (list_any (is_too_deep most) g.vertices) (list_any (leads_too_deep most g.vertices) g.edges) few.1 in
    or_from (nat_lt more (location_count g)) (list_any (is_too_deep least) g.vertices || list_any (leads_too_deep least g.vertices) g.edges) (lower many more (location_count g) k few.0)
    (or_from (list_any (is_too_deep least) g.vertices) (list_any (leads_too_deep least g.vertices) g.edges)
    (none_more (is_too_deep most) (is_too_deep least) (λ v. less_deep most least v.depth (leads_in (action_of v.op)) h) g.vertices flat.0)
    (none_more (leads_too_deep most g.vertices) (leads_too_deep least g.vertices) (λ x. lower most least (depth_past_vertex g.vertices x.from) h) g.edges flat.1))

-- a graph without errors for some limits has none for higher limits
pub fewer_faults : (most least many more : ℕ) (g : Dataflow) → most ≤ least → many ≤ more → fault_of most many g ≡ None → fault_of least more g ≡ None
unfolding fault_of
fewer_faults most least many more g h k e = no_fault (list_any (has_bad_port g.vertices) g.edges) (has_depth_mismatch g) (is_too_large most many g) (is_too_large least more g) e (smaller most least many more g h k)

-- ---- depths

-- a vertex that is not misplaced leads to the depth after it
leads : (operator : Op) (depth : ℕ) → is_misplaced_at operator depth ≡ false → LeadsTo (action_of operator) depth (depth_past (action_of operator) depth)
leads op.Egress zero h = cc
leads op.Egress (suc depth) h = omega arith
leads op.Feedback zero h = cc
leads op.Feedback (suc depth) h = (omega arith, refl)
leads _ depth h = refl

source_leads : (vertices : List Vertex) (l : ℕ) → l < length vertices → list_any is_misplaced vertices ≡ false
    → LeadsTo (action_at vertices l) (vertex_depth vertices l) (depth_past_vertex vertices l)
source_leads [] l within h = absurd (omega arith)
source_leads (v ∷ vertices) zero within h = leads v.op v.depth (or_parts (is_misplaced v) (list_any is_misplaced vertices) h).0
source_leads (v ∷ vertices) (suc l) within h =
    source_leads vertices l (omega arith) (or_parts (is_misplaced v) (list_any is_misplaced vertices) h).1

vertex_at : (vertices : List Vertex) (rest : List ℕ) (l : ℕ) → l < length vertices
    → get_or (map (λ v. v.depth) vertices ++ rest) l 0 ≡ vertex_depth vertices l
vertex_at [] rest l within = absurd (omega arith)
vertex_at (v ∷ vertices) rest zero within = refl
vertex_at (v ∷ vertices) rest (suc l) within = vertex_at vertices rest l (omega arith)

-- the depths of edges begin at position l
abbrev EdgesAt : List Vertex → List ℕ → ℕ → List Edge → Type 0
EdgesAt vertices ds l [] = Unit {0}
EdgesAt vertices ds l (e ∷ edges) = (l < length ds) × (get_or ds l 0 ≡ depth_past_vertex vertices e.from) × EdgesAt vertices ds (l + 1) edges

get_or-past : (front : List ℕ) (x : ℕ) (rest : List ℕ) → get_or (front ++ x ∷ rest) (length front) 0 ≡ x
get_or-past [] x rest = refl
get_or-past (y ∷ front) x rest = get_or-past front x rest

edges_at : (vertices : List Vertex) (front : List ℕ) (l : ℕ) (edges : List Edge) → l ≡ length front
    → EdgesAt vertices (front ++ map (λ e. depth_past_vertex vertices e.from) edges) l edges
edges_at vertices front l [] at = tt
edges_at vertices front l (e ∷ edges) at =
    let d = depth_past_vertex vertices e.from in
    let rest = map (λ x. depth_past_vertex vertices x.from) edges in (
      omega (arith, length-append front (d ∷ rest)),
      ap (λ k. get_or (front ++ d ∷ rest) k 0) at ∙ get_or-past front d rest,
      (let P : List ℕ → Type 0 = λ ds. EdgesAt vertices ds (l + 1) edges in
          subst P (append_assoc front (d ∷ []) rest)
          (edges_at vertices (front ++ d ∷ []) (l + 1) edges (omega (arith, length-append front (d ∷ []))))),
    )

not_missed : (a b : ℕ) → not (eqb a b) ≡ false → a ≡ b
not_missed a b h = eqb-true a b (not-false (eqb a b) h)

agree : (vertices : List Vertex) (ds : List ℕ) (l : ℕ) (edges : List Edge) → length vertices ≤ length ds
    → ((i : ℕ) → i < length vertices → get_or ds i 0 ≡ vertex_depth vertices i) → EdgesAt vertices ds l edges
    → All (JoinsVertices vertices) edges → list_any is_misplaced vertices ≡ false → list_any (misses_depth vertices) edges ≡ false
    → All (ArcAgrees ds) (arcs_from vertices l edges)
unfolding misses_depth
agree vertices ds l [] long at from_here joined placed met = All-nil (ArcAgrees ds)
agree vertices ds l (e ∷ edges) long at from_here joined placed met =
    let ends = All-head (JoinsVertices vertices) e edges joined in
    let both = or_parts (misses_depth vertices e) (list_any (misses_depth vertices) edges) met in
    let into : Arc = record { from = e.from; action = action_at vertices e.from; to = l } in
    let out : Arc = record { from = l; action = Identity; to = e.to } in
    let more = arcs_from vertices (l + 1) edges in
    let same = not_missed (depth_past_vertex vertices e.from) (vertex_depth vertices e.to) both.0 in
    All-cons (ArcAgrees ds) into (out ∷ more)
    (record {
      from = omega (arith, ends.from);
      to = from_here.0;
      depth = rw (at e.from ends.from, from_here.1) (source_leads vertices e.from ends.from placed);
    })
    (All-cons (ArcAgrees ds) out more
    (record {
      from = from_here.0;
      to = omega (arith, ends.to);
      depth = at e.to ends.to ∙ sym same ∙ sym from_here.1;
    })
    (agree vertices ds (l + 1) edges long at from_here.2 (All-tail (JoinsVertices vertices) e edges joined) placed both.1))

-- ---- what the readers of a graph return

-- no input is in a loop, and no egress or feedback is outside all loops
pub placed : (g : Dataflow) → IsFaultless g → All (λ v. is_misplaced v ≡ false) g.vertices
unfolding has_depth_mismatch
placed g h = none_of is_misplaced g.vertices (or_parts (list_any is_misplaced g.vertices) (list_any (misses_depth g.vertices) g.edges) (tests max_depth max_locations g h.faultless).1).0

-- ---- the complete graph

pub is_graph : (g : Dataflow) → IsFaultless g → IsGraph g (depths g) (arcs g)
unfolding has_depth_mismatch is_too_large leads_too_deep
is_graph g h =
    let passed = tests max_depth max_locations g h.faultless in
    let placed = or_parts (list_any is_misplaced g.vertices) (list_any (misses_depth g.vertices) g.edges) passed.1 in
    let small = or_parts (ltb max_locations (location_count g)) (list_any (is_too_deep max_depth) g.vertices || list_any (leads_too_deep max_depth g.vertices) g.edges) passed.2 in
    let flat = or_parts (list_any (is_too_deep max_depth) g.vertices) (list_any (leads_too_deep max_depth g.vertices) g.edges) small.1 in
    let front = map (λ v. v.depth) g.vertices in
    let back = map (λ e. depth_past_vertex g.vertices e.from) g.edges in
    record {
      depths_kept = refl;
      arcs_kept = refl;
      agree = agree g.vertices (depths g) (length g.vertices) g.edges
          (omega (arith, length-append front back, length-map g.vertices (λ v. v.depth)))
          (λ i within. vertex_at g.vertices back i within)
          (edges_at g.vertices front (length g.vertices) g.edges (sym (length-map g.vertices (λ v. v.depth))))
          h.joined placed.0 placed.1;
      shallow = All-append (λ d. d ≤ max_depth) front back
          (All-map (λ d. d ≤ max_depth) (λ v. v.depth) g.vertices
          (All-weaker (λ v. is_too_deep max_depth v ≡ false) (λ v. v.depth ≤ max_depth)
          (λ v p. ltb-false max_depth v.depth (or_parts (ltb max_depth v.depth) _ p).0) g.vertices (none_of (is_too_deep max_depth) g.vertices flat.0)))
          (All-map (λ d. d ≤ max_depth) (λ e. depth_past_vertex g.vertices e.from) g.edges
          (All-weaker (λ e. leads_too_deep max_depth g.vertices e ≡ false) (λ e. depth_past_vertex g.vertices e.from ≤ max_depth)
          (λ e p. ltb-false max_depth (depth_past_vertex g.vertices e.from) p) g.edges (none_of (leads_too_deep max_depth g.vertices) g.edges flat.1)));
      few = ltb-false max_locations (location_count g) small.0;
    }
