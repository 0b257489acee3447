-- The initial state has the protocol invariant, keys that fit, and numbers within their limits.
use Rattle.std.proofs.Common.{◌≡◌, inl, inr, ℕ, zero, suc, ◌+◌, ◌*◌, ◌<◌, ◌≤◌, pos, true, false, cond, List, [], ◌∷◌, ◌++◌, map, length, get_or, Some, refl, sym, ap, subst, ◌∙◌, arith}
use Rattle.std.proofs.lemmas.Cmp.{nat_cmp_total}
use Rattle.std.proofs.lemmas.List.Sums.{sum_by-cons}
use Rattle.std.proofs.lemmas.List.Elements.{All-cons}
use Rattle.std.specs.Prelude.{All, replicate, slice_get, unsigned_abs}
use Rattle.std.specs.Option.{option_map_or}
use Rattle.std.specs.Ordering.{nat_cmp}
use Rattle.std.specs.declared.cmp.Ordering.{Ordering}
use Rattle.std.specs.FinMap as fin
use Rattle.nd_time.specs.Limits.{max_count, max_locations, max_processors}
use Rattle.nd_graph.specs.declared.op.Op.{Op}
use Rattle.nd_graph.specs.declared.op.Op.TheVariants.{Input, Sink}
use Rattle.nd_graph.specs.declared.graph.Vertex.{Vertex}
use Rattle.nd_graph.specs.Graph.{Dataflow, depth_past_vertex, op_at, location_count}
use Rattle.nd_graph.specs.Operators.{facts}
use Rattle.nd_graph.specs.Checked.{is_input, IsFaultless}
use Rattle.nd_map.specs.Counts.{none as no_counts, naturals, integers, at-none as no_number, at as count_at}
use Rattle.nd_paths.specs.Order.{IsStrictlyBefore}
use Rattle.nd_summaries.specs.Walk.{HasDepth}
use Rattle.nd_paths.specs.Point.{point_cmp, point_total, point_exact}
use Rattle.nd_paths.specs.declared.point.Pointstamp.{Pointstamp}
use Rattle.nd_delta.specs.Delta.{DeltaValue, none, at, at-none, is_point}
use Rattle.nd_vertex.specs.Items.{Items, item_cmp}
use Rattle.nd_processor.specs.Keys.{value_at_cmp, sink_cmp}
use Rattle.nd_processor.specs.State.{ProcessorState, idle, token_point, one_at, in_requests, in_tokens, held}
use Rattle.nd_processor.specs.Start.{first_tokens, first_point, first_requests, start_processor}
use Rattle.nd_processor.specs.Held.{token_at}
use Rattle.nd_processor.specs.HeldLaws.{in_tokens-insert, no_records, no_requests, no_tokens}
use Rattle.nd_protocol.specs.State.{ClusterState, truth}
use Rattle.nd_protocol.specs.Start.{start}
use Rattle.nd_protocol.specs.Fitting.{QueueIsWithin, IsOrdered, DeltaFits, IsAtVertex, ProcessorFits, KeysFit, ProcessorIsWithin, IsWithinLimits, IsState}
use Rattle.nd_protocol.specs.Invariant.{KeepsProtocol}
use Rattle.nd_protocol.specs.Ranges.{IsSmall, TimeIsSmall}
use Rattle.nd_protocol.proofs.Reading.{reading}
use Rattle.nd_protocol.proofs.Inputs.{AreInputsFlat, inputs_flat, few_locations}
use Rattle.nd_protocol.proofs.Arcs.{IsTransitive}
use Rattle.nd_protocol.proofs.Counts.{count, truth-count}
use Rattle.nd_protocol.proofs.Keys.{inserted_is}
use Rattle.nd_protocol.proofs.Requests.{in_requests-asked}
use Rattle.nd_protocol.proofs.Ranges.{flat_small}
use Rattle.nd_protocol.proofs.Readings.{counted, keeps_of}
use Rattle.nd_protocol.proofs.Fitness.{outstanding_fits, zero_or_some}
use Rattle.nd_protocol.proofs.Preservation.{start_sound}

-- ---- lists of equal elements

all-replicate : {X : Type 0} (P : X → Type 0) (n : ℕ) (x : X) → P x → All P (replicate n x)
all-replicate P zero x h k d lt = absurd (omega arith)
all-replicate P (suc n) x h zero d lt = h
all-replicate P (suc n) x h (suc k) d lt = all-replicate P n x h k d (omega arith)

each-replicate : {X : Type 0} (n : ℕ) (x d : X) (k : ℕ) → k < n → get_or (replicate n x) k d ≡ x
each-replicate zero x d k lt = absurd (omega arith)
each-replicate (suc n) x d zero lt = refl
each-replicate (suc n) x d (suc k) lt = each-replicate n x d k (omega arith)

same-replicate : {X : Type 0} (n : ℕ) (x : X) (k : ℕ) → get_or (replicate n x) k x ≡ x
same-replicate zero x k = refl
same-replicate (suc n) x zero = refl
same-replicate (suc n) x (suc k) = same-replicate n x k

many-replicate : {X : Type 0} (n : ℕ) (x : X) → length (replicate n x) ≡ n
many-replicate zero x = refl
many-replicate (suc n) x = let more : length (replicate n x) ≡ n = many-replicate n x in omega arith

empty_queue : (m n p q : ℕ) → ◌≡◌ {A = List DeltaValue} (get_or (get_or (replicate m (replicate n [])) p []) q []) []
empty_queue zero n p q = refl
empty_queue (suc m) n zero q = same-replicate n [] q
empty_queue (suc m) n (suc p) q = empty_queue m n p q

-- ---- the invariant

pub start_keeps : IsTransitive → (g : Dataflow) → IsOrdered g → (n : ℕ) → KeepsProtocol (start g n)
unfolding start
start_keeps trans g o n =
    let s : ClusterState = start g n in
    let qs : List ProcessorState = replicate n (start_processor g) in
    let many : length qs ≡ n = many-replicate n (start_processor g) in
    keeps_of s (start_sound (IsStrictlyBefore g) at (reading s) (record {
      view = λ q lt x. ap (λ c. at c x) (each-replicate n (truth qs) none q (subst (λ m. q < m) many lt)) ∙ truth-count qs x;
      unsent = λ p lt x. ap (λ (q : ProcessorState). at q.unsent x) (each-replicate n (start_processor g) idle p (subst (λ m. p < m) many lt)) ∙ at-none x;
      queue = λ p q lp lq. empty_queue n n p q;
      counted = counted s;
    }))

-- ---- keys

input_op : (o : Op) → is_input o ≡ true → o ≡ Input
input_op Input e = refl
input_op o e = absurd (cc)

nothing_found : {K X : Type 0} (R : K → K → Ordering) (q : K) (v : X) → fin.get (fin.empty {X = X} {R = R}) q ≡ Some v → ⊥
nothing_found R q v e = absurd (cc (fin.get-empty R q, e))

-- a token belongs to an input among these vertices
first_input : (l : ℕ) (vs : List Vertex) (v e : ℕ) → fin.get (first_tokens l vs) v ≡ Some e → (i : ℕ) × (v ≡ l + i) × (i < length vs) × (option_map_or (λ w. w.op) (slice_get vs i) Sink ≡ Input) × (e ≡ 0)
first_input l [] v e found = absurd (nothing_found nat_cmp v e found)
first_input l (w ∷ vs) v e found =
    let F : Type 0 = (i : ℕ) × (v ≡ l + i) × (i < length (w ∷ vs)) × (option_map_or (λ w. w.op) (slice_get (w ∷ vs) i) Sink ≡ Input) × (e ≡ 0) in
    let later : fin.get (first_tokens (l + 1) vs) v ≡ Some e → F
    = λ h. (let (i, is, lt, op_is, first) = first_input (l + 1) vs v e h in (suc i, omega (arith, is), omega (arith, lt), op_is, first)) in
    elim (is_input w.op) as (λ b. is_input w.op ≡ b → fin.get (cond b (fin.insert (first_tokens (l + 1) vs) l 0) (first_tokens (l + 1) vs)) v ≡ Some e → F) [
      | true ↦ λ t h. elim (inserted_is nat_cmp_total fin.nat_cmp-IsAntisymmetric (first_tokens (l + 1) vs) l 0 v e h) [
        | inl (same, first) ↦ (0, omega (arith, same), omega arith, input_op w.op t, first)
        | inr there ↦ later there
      ]
      | false ↦ λ t h. later h
    ] refl found

-- a request is at the first point of a vertex among these; the rest are depths that follow those of the vertices
first_request : (l : ℕ) (vs : List Vertex) (rest : List ℕ) (x : Pointstamp) → fin.get (first_requests l vs) x ≡ Some tt
    → (i d : ℕ) × (x ≡ first_point (l + i) d) × (i < length vs) × (slice_get (map (λ v. v.depth) vs ++ rest) i ≡ Some d)
first_request l [] rest x found = absurd (nothing_found point_cmp x tt found)
first_request l (w ∷ vs) rest x found =
    let F : Type 0 = (i d : ℕ) × (x ≡ first_point (l + i) d) × (i < length (w ∷ vs)) × (slice_get (map (λ v. v.depth) (w ∷ vs) ++ rest) i ≡ Some d) in
    let later : fin.get (first_requests (l + 1) vs) x ≡ Some tt → F
    = λ h. (let (i, d, is, lt, depth) = first_request (l + 1) vs rest x h in (suc i, d, subst (λ k. x ≡ first_point k d) (omega arith) is, omega arith, depth)) in
    elim (facts w.op).starts as (λ b. fin.get (cond b (fin.insert (first_requests (l + 1) vs) (first_point l w.depth) tt) (first_requests (l + 1) vs)) x ≡ Some tt → F) [
      | true ↦ λ h. elim (inserted_is point_total point_exact (first_requests (l + 1) vs) (first_point l w.depth) tt x tt h) [
        | inl (same, is) ↦ (0, w.depth, subst (λ k. x ≡ first_point k w.depth) (omega arith) same, omega arith, refl)
        | inr there ↦ later there
      ]
      | false ↦ λ h. later h
    ] found

first_fits : (g : Dataflow) (x : Pointstamp) → fin.get (first_requests 0 g.vertices) x ≡ Some tt → IsAtVertex g x
first_fits g x found =
    let (i, d, is, lt, depth) = first_request 0 g.vertices (map (λ e. depth_past_vertex g.vertices e.from) g.edges) x found in
    let small : TimeIsSmall (first_point i d).time = All-cons IsSmall 0 (replicate d 0) (omega arith) (all-replicate IsSmall d 0 (omega arith)) in
    let place : 0 + i ≡ i = omega arith in
    subst (IsAtVertex g) (sym (is ∙ ap (λ k. first_point k d) place)) (record { place = lt; fits = record { depth = subst (HasDepth g i) (sym (many-replicate d 0)) depth }; small = small })

no_unsent : (g : Dataflow) → DeltaFits g none
no_unsent g x some = absurd (some (at-none x))

processor_fits : (g : Dataflow) → AreInputsFlat g → ProcessorFits g (start_processor g)
processor_fits g inputs_are_flat = record {
  records = λ k some. absurd (some (no_number value_at_cmp naturals k));
  requests = first_fits g;
  tokens = λ vertex e found.
      let (i, is, lt, op_is, first) = first_input 0 g.vertices vertex e found in
      let same : i ≡ vertex = omega (arith, is) in
      let input : op_at g vertex ≡ Input = subst (λ w. op_at g w ≡ Input) same op_is in
      (input, record { place = omega (arith, lt, is); fits = record { depth = inputs_are_flat vertex input }; small = flat_small e (omega (arith, first)) });
  vertices = many-replicate (length g.vertices) no_counts;
  items = λ vertex k some. absurd (some (ap (λ (m : Items). count_at m k) (same-replicate (length g.vertices) no_counts vertex) ∙ no_number item_cmp integers k));
  sinks = λ k some. absurd (some (no_number sink_cmp naturals k));
  unsent = no_unsent g;
}

pub start_fits : (g : Dataflow) → AreInputsFlat g → (n : ℕ) → KeysFit (start g n)
unfolding start
start_fits g inputs_are_flat n =
    let qs : List ProcessorState = replicate n (start_processor g) in
    let all : All (ProcessorFits g) qs = all-replicate (ProcessorFits g) n (start_processor g) (processor_fits g inputs_are_flat) in
    let shown : DeltaFits g (truth qs) = λ x some. elim (zero_or_some (count qs x)) [
      | inl nothing ↦ absurd (some (truth-count qs x ∙ ap pos nothing))
      | inr more ↦ outstanding_fits g qs x all more
    ] in
    let many : length qs ≡ n = many-replicate n (start_processor g) in
    let row : List (List DeltaValue) = replicate n [] in
    record {
      processors = all;
      views = all-replicate (DeltaFits g) n (truth qs) shown;
      queues = all-replicate (λ row. All (λ queue. All (DeltaFits g) queue) row) n row (all-replicate (λ queue. All (DeltaFits g) queue) n [] (λ k d lt. absurd (omega arith)));
      each_view = many-replicate n (truth qs) ∙ sym many;
      each_sender = many-replicate n row ∙ sym many;
      each_receiver = all-replicate (λ row. length row ≡ length qs) n row (many-replicate n [] ∙ sym many);
    }

-- ---- limits

at_most_one : (k x : Pointstamp) → one_at k x ≤ 1
at_most_one k x = elim (is_point x k) as (λ b. cond b 1 0 ≤ 1) [ true ↦ omega arith | false ↦ omega arith ]

few_tokens : (l : ℕ) (vs : List Vertex) (x : Pointstamp) → in_tokens (first_tokens l vs) x ≤ length vs
few_tokens l [] x = let nothing : in_tokens fin.empty x ≡ 0 = no_tokens x in omega arith
few_tokens l (v ∷ vs) x =
    let rest : in_tokens (first_tokens (l + 1) vs) x ≤ length vs = few_tokens (l + 1) vs x in
    elim (is_input v.op) as (λ b. in_tokens (cond b (fin.insert (first_tokens (l + 1) vs) l 0) (first_tokens (l + 1) vs)) x ≤ length (v ∷ vs)) [
      | true ↦
          let one : in_tokens (fin.insert (first_tokens (l + 1) vs) l 0) x + token_at l (fin.get (first_tokens (l + 1) vs) l) x ≡ in_tokens (first_tokens (l + 1) vs) x + one_at (token_point l 0) x
          = in_tokens-insert (first_tokens (l + 1) vs) l 0 x in
          let most : one_at (token_point l 0) x ≤ 1 = at_most_one (token_point l 0) x in
          omega arith
      | false ↦ omega arith
    ]

few_requests : (l : ℕ) (vs : List Vertex) (x : Pointstamp) → in_requests (first_requests l vs) x ≤ length vs
few_requests l [] x = let nothing : in_requests fin.empty x ≡ 0 = no_requests x in omega arith
few_requests l (v ∷ vs) x =
    let rest : in_requests (first_requests (l + 1) vs) x ≤ length vs = few_requests (l + 1) vs x in
    let one : in_requests (cond (facts v.op).starts (fin.insert (first_requests (l + 1) vs) (first_point l v.depth) tt) (first_requests (l + 1) vs)) x ≤ in_requests (first_requests (l + 1) vs) x + one_at (first_point l v.depth) x
    = in_requests-asked (facts v.op).starts (first_requests (l + 1) vs) (first_point l v.depth) x in
    let most : one_at (first_point l v.depth) x ≤ 1 = at_most_one (first_point l v.depth) x in
    omega arith

few_held : (g : Dataflow) (x : Pointstamp) → held (start_processor g) x ≤ 2 * length g.vertices
few_held g x =
    let tokens : in_tokens (first_tokens 0 g.vertices) x ≤ length g.vertices = few_tokens 0 g.vertices x in
    let requests : in_requests (first_requests 0 g.vertices) x ≤ length g.vertices = few_requests 0 g.vertices x in
    let records = no_records x in
    omega arith

few_counted : (q : ProcessorState) (n m : ℕ) (x : Pointstamp) → held q x ≤ m → count (replicate n q) x ≤ n * m
few_counted q zero m x few = omega arith
few_counted q (suc n) m x few =
    let rest : count (replicate n q) x ≤ n * m = few_counted q n m x few in
    let sum : count (replicate (suc n) q) x ≡ held q x + count (replicate n q) x = sum_by-cons (λ r. held r x) q (replicate n q) in
    let all : suc n * m ≡ m + n * m = omega arith in
    omega arith

small_truth : (g : Dataflow) → IsFaultless g → (n : ℕ) → n ≤ max_processors → (x : Pointstamp) → unsigned_abs (at (truth (replicate n (start_processor g))) x) ≤ max_count
small_truth g sound n few x =
    let places : location_count g ≤ max_locations = few_locations g sound in
    let each : held (start_processor g) x ≤ 2 * max_locations = (let h : held (start_processor g) x ≤ 2 * length g.vertices = few_held g x in omega arith) in
    let sum : count (replicate n (start_processor g)) x ≤ n * (2 * max_locations) = few_counted (start_processor g) n (2 * max_locations) x each in
    subst (λ z. unsigned_abs z ≤ max_count) (sym (truth-count (replicate n (start_processor g)) x)) (omega arith)

idle_within : (g : Dataflow) → ProcessorIsWithin (start_processor g)
idle_within g = record {
  records = λ k. let none_there : count_at (no_counts {R = value_at_cmp} {N = naturals}) k ≡ 0 = no_number value_at_cmp naturals k in omega arith;
  sinks = λ k. let none_there : count_at (no_counts {R = sink_cmp} {N = naturals}) k ≡ 0 = no_number sink_cmp naturals k in omega arith;
  unsent = λ x. subst (λ z. unsigned_abs z ≤ max_count) (sym (at-none x)) (omega arith);
}

start_within : (g : Dataflow) → IsFaultless g → (n : ℕ) → 0 < n → n ≤ max_processors → IsWithinLimits (start g n)
unfolding start
start_within g sound n some few =
    let many : length (replicate n (start_processor g)) ≡ n = many-replicate n (start_processor g) in
    let row : List (List DeltaValue) = replicate n [] in
    record {
      some = subst (λ m. 0 < m) (sym many) some;
      few = subst (λ m. m ≤ max_processors) (sym many) few;
      processors = all-replicate ProcessorIsWithin n (start_processor g) (idle_within g);
      views = all-replicate (λ c. (x : Pointstamp) → unsigned_abs (at c x) ≤ max_count) n (truth (replicate n (start_processor g))) (small_truth g sound n few);
      queues = all-replicate (λ row. All QueueIsWithin row) n row (all-replicate QueueIsWithin n [] (record { few = omega arith; entries = λ k d lt. absurd (omega (arith, lt)) }));
    }

pub start_is_state : (g : Dataflow) → IsOrdered g → IsFaultless g → (n : ℕ) → 0 < n → n ≤ max_processors → IsState (start g n)
unfolding start
start_is_state g o sound n some few = record { ordered = o; fits = start_fits g (inputs_flat g sound) n; within = start_within g sound n some few }
