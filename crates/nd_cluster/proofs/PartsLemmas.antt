-- If the entries of a map fit a graph, so does the map; and parts that fit make a state.
use Rattle.std.proofs.Common.{◌≡◌, ◌≢◌, ◌<◌, ◌≤◌, ◌+◌, ◌⊎◌, inl, inr, ℕ, zero, suc, ℤ, pos, List, [], ◌∷◌, map, length, get_or, Option, Some, None, refl, sym, ap, subst, ◌∙◌, arith, Ordering}
use Rattle.std.specs.Prelude.{All}
use Rattle.std.specs.Cmp.{IsTotalOrder}
use Rattle.std.proofs.lemmas.Cmp.{nat_cmp_total}
use Rattle.std.proofs.lemmas.List.{get_or_past, get_or_default}
use Rattle.std.specs.FinMap.{IsAntisymmetric, find}
use Rattle.std.specs.FinMap as fin
use Rattle.nd_graph.specs.Graph.{Dataflow, op_at}
use Rattle.nd_graph.specs.declared.op.Op.TheVariants as op
use Rattle.nd_map.specs.Counts.{Counts, Number, nil, at, entries, at-entries, entries_listed, or_else, at-none, none as no_counts, integers}
use Rattle.nd_map.specs.Entries.{all_found, found_all}
use Rattle.nd_paths.specs.Point.{point_cmp, point_total, point_exact}
use Rattle.nd_paths.specs.declared.point.Pointstamp.{Pointstamp}
use Rattle.nd_delta.specs.Delta.{DeltaValue, or_zero, entries as listed, at-entries as change-entries, sorted-entries, some-entry}
use Rattle.nd_vertex.specs.Items.{item_cmp, item_total, item_exact}
use Rattle.nd_vertex.specs.declared.key.ItemKey.{ItemKey}
use Rattle.nd_processor.specs.Keys.{value_at_total, value_at_exact, sink_total, sink_exact}
use Rattle.nd_processor.specs.State.{ProcessorState, items_at, token_point}
use Rattle.nd_processor.specs.declared.key.ValueAt.{ValueAt}
use Rattle.nd_processor.specs.declared.key.SinkKey.{SinkKey}
use Rattle.nd_time.specs.Limits.{max_processors}
use Rattle.nd_view.specs.Kept.{Kept}
use Rattle.nd_mesh.specs.Mesh.{IsMesh, queue}
use Rattle.nd_protocol.specs.Fitting.{DeltaFits, DeltaIsWithin, IsAtVertex, IsAtLocation, ProcessorFits, ProcessorIsWithin, IsOrdered, IsState}
use Rattle.nd_protocol.specs.Seen.{seen}
use Rattle.nd_cluster.specs.Parts.{IsRecordKey, IsItem, IsSinkKey, ItemsFit, RowFits, RowIsWithin}
use Rattle.std.proofs.lemmas.Bool.{cases_lt}

-- ---- the keys of a map

some_of : {X : Type 0} (z : X) (o : Option X) → or_else z o ≢ z → record { value : X; is : o ≡ Some value }
some_of z None h = absurd (h refl)
some_of z (Some v) h = record { value = v; is = refl }

integer_of : (o : Option ℤ) → or_zero o ≢ pos 0 → record { value : ℤ; is : o ≡ Some value }
integer_of None h = absurd (h refl)
integer_of (Some v) h = record { value = v; is = refl }

-- what holds of each entry of a change holds at each pointstamp at which it is not 0
pub change_from : (g : Dataflow) (c : DeltaValue) → All (λ e. IsAtLocation g e.0) (listed c) → DeltaFits g c
change_from g c all x some =
    let v = integer_of (find point_cmp x (listed c)) (λ z. some (sym (change-entries c x) ∙ z)) in
    found_all point_cmp point_exact (λ k _. IsAtLocation g k) (listed c) all x v.value v.is

pub change_to : (g : Dataflow) (c : DeltaValue) → DeltaFits g c → All (λ e. IsAtLocation g e.0) (listed c)
change_to g c fits = all_found point_cmp point_total (λ k _. IsAtLocation g k) (listed c) (sorted-entries c) (λ k v is. fits k (λ z. some-entry c k v is (sym (ap or_zero is) ∙ change-entries c k ∙ z)))

module _ {K X : Type 0} {R : K → K → Ordering} {N : Number X} (o : IsTotalOrder R) (tells : IsAntisymmetric R) (m : Counts R N) (Q : K → X → Type 0) where
  pub counts_to : ((k : K) → at m k ≢ nil N → Q k (at m k)) → All (λ (e : K × X). e.1 ≢ nil N → Q e.0 e.1) (entries m)
  counts_to h = all_found R o (λ k v. v ≢ nil N → Q k v) (entries m) (entries_listed m) (λ k v is some.
      let e : at m k ≡ v = at-entries m k ∙ ap (or_else (nil N)) is in
      subst (Q k) e (h k (λ z. some (sym e ∙ z))))

  pub counts_from : All (λ (e : K × X). e.1 ≢ nil N → Q e.0 e.1) (entries m) → (k : K) → at m k ≢ nil N → Q k (at m k)
  counts_from all k some =
      let v = some_of (nil N) (find R k (entries m)) (λ z. some (at-entries m k ∙ z)) in
      let e : at m k ≡ v.value = at-entries m k ∙ ap (or_else (nil N)) v.is in
      subst (Q k) (sym e) (found_all R tells (λ k v. v ≢ nil N → Q k v) (entries m) all k v.value v.is (λ z. some (e ∙ z)))

module _ {K X : Type 0} {R : K → K → Ordering} (o : IsTotalOrder R) (tells : IsAntisymmetric R) (m : fin.FinMap R X) (Q : K → X → Type 0) where
  pub map_to : ((k : K) (v : X) → fin.get m k ≡ Some v → Q k v) → All (λ (e : K × X). Q e.0 e.1) (fin.entries m)
  map_to h = all_found R o Q (fin.entries m) (fin.entries_sorted m) (λ k v is. h k v (fin.get-entries m k ∙ is))

  pub map_from : All (λ (e : K × X). Q e.0 e.1) (fin.entries m) → (k : K) (v : X) → fin.get m k ≡ Some v → Q k v
  map_from all k v is = found_all R tells Q (fin.entries m) all k v (sym (fin.get-entries m k) ∙ is)

-- ---- the keys of a processor

module _ (g : Dataflow) (q : ProcessorState) where
  abbrev pub RecordsFit : Type 0
  RecordsFit = All (λ (e : ValueAt × ℕ). e.1 ≢ 0 → IsRecordKey g e.0) (entries q.records)

  abbrev pub RequestsFit : Type 0
  RequestsFit = All (λ (e : Pointstamp × Unit {0}). IsAtVertex g e.0) (fin.entries q.requests)

  abbrev pub TokensFit : Type 0
  TokensFit = All (λ (e : ℕ × ℕ). (op_at g e.0 ≡ op.Input) × IsAtVertex g (token_point e.0 e.1)) (fin.entries q.tokens)

  abbrev pub AllItemsFit : Type 0
  AllItemsFit = (v : ℕ) → v < length q.items → ItemsFit g v (items_at q v)

  abbrev pub SinksFit : Type 0
  SinksFit = All (λ (e : SinkKey × ℕ). e.1 ≢ 0 → IsSinkKey g e.0) (entries q.sinks)

  pub records_to : ProcessorFits g q → RecordsFit
  records_to h = counts_to value_at_total value_at_exact q.records (λ k _. IsRecordKey g k) h.records

  pub requests_to : ProcessorFits g q → RequestsFit
  requests_to h = map_to point_total point_exact q.requests (λ x _. IsAtVertex g x) (λ x v is. h.requests x is)

  pub tokens_to : ProcessorFits g q → TokensFit
  tokens_to h = map_to nat_cmp_total fin.nat_cmp-IsAntisymmetric q.tokens (λ v e. (op_at g v ≡ op.Input) × IsAtVertex g (token_point v e)) h.tokens

  pub items_to : ProcessorFits g q → AllItemsFit
  items_to h v lt = counts_to item_total item_exact (items_at q v) (IsItem g v) (h.items v)

  pub sinks_to : ProcessorFits g q → SinksFit
  sinks_to h = counts_to sink_total sink_exact q.sinks (λ k _. IsSinkKey g k) h.sinks

  items_from : AllItemsFit → (v : ℕ) (k : ItemKey) → at (items_at q v) k ≢ pos 0 → IsItem g v k (at (items_at q v) k)
  items_from all v k some = elim (cases_lt v (length q.items)) [
    | inl lt ↦ counts_from item_total item_exact (items_at q v) (IsItem g v) (all v lt) k some
    | inr past ↦ absurd (some (ap (λ m. at m k) (get_or_past q.items v no_counts past) ∙ at-none item_cmp integers k))
  ]

  pub processor_from : length q.items ≡ length g.vertices → RecordsFit → RequestsFit → TokensFit → AllItemsFit → SinksFit → DeltaFits g q.unsent → ProcessorFits g q
  processor_from vertices records requests tokens items sinks unsent = record {
    records = counts_from value_at_total value_at_exact q.records (λ k _. IsRecordKey g k) records;
    requests = λ x is. map_from point_total point_exact q.requests (λ x _. IsAtVertex g x) requests x tt is;
    tokens = map_from nat_cmp_total fin.nat_cmp-IsAntisymmetric q.tokens (λ v e. (op_at g v ≡ op.Input) × IsAtVertex g (token_point v e)) tokens;
    vertices = vertices;
    items = items_from items;
    sinks = counts_from sink_total sink_exact q.sinks (λ k _. IsSinkKey g k) sinks;
    unsent = unsent;
  }

-- ---- lists of lists

pub split : (q r : ℕ) → q < r + 1 → (q < r) ⊎ (q ≡ r)
split q r lt = grind arith

-- one more element has the property
pub all_more : {X : Type 0} (P : X → Type 0) (xs : List X) (i : ℕ) (x : X) → i < length xs → x ≡ get_or xs i x → P x → ((k : ℕ) (d : X) → k < i → P (get_or xs k d)) → (k : ℕ) (d : X) → k < i + 1 → P (get_or xs k d)
all_more P xs i x lt is p all k d below = elim (split k i below) [
  | inl h ↦ all k d h
  | inr e ↦ subst (λ j. P (get_or xs j d)) (sym e) (subst P (is ∙ get_or_default xs i x d lt) p)
]

pub all_map : {X Y : Type 0} (f : X → Y) (P : Y → Type 0) (xs : List X) → All (λ x. P (f x)) xs → All P (map f xs)
all_map f P [] h k d lt = absurd (omega (arith, lt))
all_map f P (x ∷ xs) h zero d lt = h zero x (omega arith)
all_map f P (x ∷ xs) h (suc k) d lt = all_map f P xs (λ j e below. h (suc j) e (omega (arith, below))) k d (omega (arith, lt))

pub all_unmap : {X Y : Type 0} (f : X → Y) (P : Y → Type 0) (xs : List X) → All P (map f xs) → All (λ x. P (f x)) xs
all_unmap f P [] h k d lt = absurd (omega (arith, lt))
all_unmap f P (x ∷ xs) h zero d lt = h zero (f x) (omega arith)
all_unmap f P (x ∷ xs) h (suc k) d lt = all_unmap f P xs (λ j e below. h (suc j) e (omega (arith, below))) k d (omega (arith, lt))

pub length_map : {X Y : Type 0} (f : X → Y) (xs : List X) → length (map f xs) ≡ length xs
length_map f [] = refl
length_map f (x ∷ xs) = ap suc (length_map f xs)

module _ (P : DeltaValue → Type 0) (m : List (List (List DeltaValue))) (mesh : IsMesh m) where
  pub rows_from : ((p : ℕ) → p < length m → (q : ℕ) → q < length m → All P (queue m p q)) → All (λ row. All (λ changes. All P changes) row) m
  rows_from h p d lt q e in_row =
      subst (All P) (ap (λ row. get_or row q []) (get_or_default m p [] d lt) ∙ get_or_default (get_or m p d) q [] e in_row)
      (h p lt q (omega (arith, in_row, mesh.square p d lt)))

  pub rows_to : All (λ row. All (λ changes. All P changes) row) m → (p : ℕ) → p < length m → (q : ℕ) → q < length m → All P (queue m p q)
  rows_to all p lt q near = all p [] lt q [] (omega (arith, near, mesh.square p [] lt))

-- ---- a state

module _ (g : Dataflow) (ps : List ProcessorState) (vs : List Kept) (m : List (List (List DeltaValue))) (mesh : IsMesh m) where
  pub views_to : IsState (seen g ps vs m) → All (λ (v : Kept). DeltaFits g v.map) vs
  views_to s = all_unmap (λ (v : Kept). v.map) (DeltaFits g) vs s.fits.views

  pub mesh_to : IsState (seen g ps vs m) → (p : ℕ) → p < length m → RowFits g m p
  mesh_to s = rows_to (DeltaFits g) m mesh s.fits.queues

  pub state_from : IsOrdered g → 0 < length ps → length ps ≤ max_processors → length vs ≡ length ps → length m ≡ length ps
      → All (ProcessorFits g) ps → All ProcessorIsWithin ps → All (λ (v : Kept). DeltaFits g v.map) vs → All (λ (v : Kept). DeltaIsWithin v.map) vs
      → ((p : ℕ) → p < length m → RowFits g m p) → ((p : ℕ) → p < length m → RowIsWithin m p) → IsState (seen g ps vs m)
  state_from order some few each_view each_sender processors processors_within views views_within rows rows_within = record {
    ordered = order;
    fits = record {
      processors = processors;
      views = all_map (λ (v : Kept). v.map) (DeltaFits g) vs views;
      queues = rows_from (DeltaFits g) m mesh rows;
      each_view = length_map (λ (v : Kept). v.map) vs ∙ each_view;
      each_sender = each_sender;
      each_receiver = λ p d lt. mesh.square p d lt ∙ each_sender;
    };
    within = record {
      some = some;
      few = few;
      processors = processors_within;
      views = all_map (λ (v : Kept). v.map) DeltaIsWithin vs views_within;
      queues = λ p d lt q e in_row. record { few = mesh.within p d lt q e in_row; entries = rows_from DeltaIsWithin m mesh rows_within p d lt q e in_row };
    };
  }
