-- The values of states differ if the states do.
use Rattle.std.proofs.Common.{◌≡◌, ◌≢◌, ◌<◌, ◌≤◌, ◌+◌, inl, inr, ℕ, zero, suc, ℤ, pos, negsuc, Bool, true, false, List, get_or, [], ◌∷◌, ◌++◌, map, length, length-append, Option, Some, None, refl, sym, ap, subst, ◌∙◌, arith, Ordering}
use Rattle.std.specs.Prelude.{◌||◌, All, is_some}
use Rattle.std.specs.List.{flat_map, enumerate_from, list_any, zip}
use Rattle.std.specs.Str.{bytes_eq}
use Rattle.std.specs.Ordering.{eq_by_cmp, is_eq, nat_cmp}
use Rattle.std.specs.Cmp.{IsTotalOrder}
use Rattle.std.specs.FinMap as fin
use Rattle.std.proofs.lemmas.Bool.{cases_lt}
use Rattle.std.proofs.lemmas.Cmp.{tied_itself, nat_cmp_total}
use Rattle.std.proofs.lemmas.List.{length-map}
use Rattle.std.proofs.lemmas.List.Elements.{All-nil, All-cons, All-head, All-tail, All-weaker}
use Rattle.std.proofs.lemmas.List.Folds.{list_any_at}
use Rattle.std.proofs.lemmas.Option.{slice_get_within}
use Rattle.std.proofs.lemmas.Slice.Eq.{bytes_eq-Decides}
use Rattle.serde_json.specs.Data.{Data, number, string, item}
use Rattle.serde_json.specs.Find.{of_integer}
use Rattle.serde_json.specs.View.{items_of}
use Rattle.nd_map.specs.Counts.{Counts, Number, nil, or_else, same, at, at-entries, at-present, keys_of, has_key}
use Rattle.nd_map.specs.Counts as counts
use Rattle.nd_time.specs.Time.{Time}
use Rattle.nd_graph.specs.Graph.{Dataflow, names, depth_past_vertex}
use Rattle.nd_graph.specs.Checked.{has_double}
use Rattle.nd_paths.specs.Order.{Fits}
use Rattle.nd_paths.specs.Point.{point_cmp, point_total, point_exact}
use Rattle.nd_paths.specs.declared.point.Pointstamp.{Pointstamp}
use Rattle.nd_delta.specs.Delta.{DeltaValue, or_zero, at-entries as in_change-entries, at-present as in_change-present, entries as updates, same as same_changes}
use Rattle.nd_vertex.specs.Items.{Items, item_total, item_exact}
use Rattle.nd_vertex.specs.declared.key.ItemKey.{ItemKey}
use Rattle.nd_processor.specs.State.{ProcessorState, Requests}
use Rattle.nd_processor.specs.Keys.{value_at_total, value_at_exact, sink_total, sink_exact}
use Rattle.nd_processor.specs.declared.key.ValueAt.{ValueAt}
use Rattle.nd_processor.specs.declared.key.SinkKey.{SinkKey}
use Rattle.nd_protocol.specs.Fitting.{ProcessorFits, DeltaFits}
use Rattle.nd_state_json.specs.StateText.{name_at, row, natural, whole, place, time_data, point_data, item_data, record_data, sink_data, token_data, entry_data, entries_data, items_data, processor_data, queue_data, queues_data, state_data}
use Rattle.nd_state_json.specs.Determined.{ValuesDetermineStates}

-- ---- lists of values

told_items : (ds es : List Data) → items_of ds ≡ items_of es → ds ≡ es
told_items [] [] e = refl
told_items [] (y ∷ es) e = absurd (cc)
told_items (x ∷ ds) [] e = absurd (cc)
told_items (x ∷ ds) (y ∷ es) e =
    let head : x ≡ y = cc in
    let tail : items_of ds ≡ items_of es = cc in
    λ i. head i ∷ told_items ds es tail i

told_row : (ds es : List Data) → row ds ≡ row es → ds ≡ es
told_row ds es e = let items : items_of ds ≡ items_of es = cc in told_items ds es items

told_map : {X : Type 0} (P : X → Type 0) (f : X → Data) → ((x y : X) → P x → P y → f x ≡ f y → x ≡ y) → (xs ys : List X) → All P xs → All P ys → map f xs ≡ map f ys → xs ≡ ys
told_map P f tells [] [] p q e = refl
told_map P f tells [] (y ∷ ys) p q e = absurd (cc)
told_map P f tells (x ∷ xs) [] p q e = absurd (cc)
told_map P f tells (x ∷ xs) (y ∷ ys) p q e =
    let head : f x ≡ f y = cc in
    let tail : map f xs ≡ map f ys = cc in
    λ i. tells x y (All-head P x xs p) (All-head P y ys q) head i ∷ told_map P f tells xs ys (All-tail P x xs p) (All-tail P y ys q) tail i

told_natural : (m n : ℕ) → natural m ≡ natural n → m ≡ n
told_natural m n e = cc

told_whole : (x y : ℤ) → whole x ≡ whole y → x ≡ y
told_whole (pos m) (pos n) e = let same : m ≡ n = cc in ap pos same
told_whole (pos m) (negsuc n) e = absurd (cc)
told_whole (negsuc m) (pos n) e = absurd (cc)
told_whole (negsuc m) (negsuc n) e = cc

told_time : (t u : Time) → time_data t ≡ time_data u → t ≡ u
told_time t u e =
    let all : t.epoch ∷ t.counters ≡ u.epoch ∷ u.counters =
    told_map (λ n. Unit {0}) natural (λ m n p q e. told_natural m n e) (t.epoch ∷ t.counters) (u.epoch ∷ u.counters) (λ k d lt. tt) (λ k d lt. tt)
    (told_row (map natural (t.epoch ∷ t.counters)) (map natural (u.epoch ∷ u.counters)) e) in
    let epoch : t.epoch ≡ u.epoch = cc in
    let counters : t.counters ≡ u.counters = cc in
    λ i. record { epoch = epoch i; counters = counters i }

-- ---- maps with the same entries, or the same keys, are the same

same_counts : {K X : Type 0} {R : K → K → Ordering} {N : Number X} (o : IsTotalOrder R) → fin.IsAntisymmetric R → (m n : Counts R N) → counts.entries m ≡ counts.entries n → m ≡ n
same_counts {R} {N} o tells m n e = same o tells m n (λ q. at-entries m q ∙ ap (λ es. or_else (nil N) (fin.find R q es)) e ∙ sym (at-entries n q))

same_updates : (c d : DeltaValue) → updates c ≡ updates d → c ≡ d
same_updates c d e = same_changes c d (λ q. sym (in_change-entries c q) ∙ ap (λ es. or_zero (fin.find point_cmp q es)) e ∙ in_change-entries d q)

same_units : (x y : Option (Unit {0})) → is_some x ≡ is_some y → x ≡ y
same_units None None e = refl
same_units None (Some u) e = absurd (cc)
same_units (Some u) None e = absurd (cc)
same_units (Some u) (Some v) e = refl

same_requests : (m n : Requests) → fin.keys m ≡ fin.keys n → m ≡ n
same_requests m n e =
    fin.same_map point_total point_exact m n (λ q. same_units (fin.get m q) (fin.get n q)
    (fin.contains_key-keys m q ∙ ap (λ ks. list_any (eq_by_cmp point_cmp q) ks) e ∙ sym (fin.contains_key-keys n q)))

-- each key of a list of entries is among its keys
or_true : (b : Bool) → (b || true) ≡ true
or_true true = refl
or_true false = refl

key_there : {K X : Type 0} (R : K → K → Ordering) → IsTotalOrder R → (es : List (K × X)) → All (λ e. has_key R e.0 (keys_of es) ≡ true) es
key_there {K} {X} R o [] = All-nil (λ (e : K × X). false ≡ true)
key_there {K} {X} R o (x ∷ es) =
    All-cons (λ (e : K × X). has_key R e.0 (keys_of (x ∷ es)) ≡ true) x es (ap (λ b. b || has_key R x.0 (keys_of es)) (ap is_eq (tied_itself o x.0)))
    (All-weaker (λ (e : K × X). has_key R e.0 (keys_of es) ≡ true) (λ (e : K × X). has_key R e.0 (keys_of (x ∷ es)) ≡ true)
    (λ e h. ap (λ b. eq_by_cmp R e.0 x.0 || b) h ∙ or_true (eq_by_cmp R e.0 x.0)) es (key_there R o es))

some_there : {X : Type 0} (v : Option X) → is_some v ≡ true → (x : X) × (v ≡ Some x)
some_there None h = absurd (cc)
some_there (Some x) h = (x, refl)

-- ---- names

apart : (xs : List (List ℕ)) → has_double xs ≡ false → (k l : ℕ) → k < l → l < length xs → get_or xs k [] ≡ get_or xs l [] → ⊥
apart [] once k l lt within e = omega (arith, within)
apart (x ∷ xs) once k zero lt within e = omega (arith, lt)
apart (x ∷ xs) once zero (suc l) lt within e =
    let found : list_any (bytes_eq x) xs ≡ true = list_any_at (bytes_eq x) xs l [] (omega (arith, within)) ((bytes_eq-Decides x (get_or xs l [])).1 e) in
    not_both (list_any (bytes_eq x) xs) (has_double xs) found once
  where
    not_both : (a b : Bool) → a ≡ true → (a || b) ≡ false → ⊥
    not_both true b h f = absurd (cc)
    not_both false b h f = absurd (cc)
apart (x ∷ xs) once (suc k) (suc l) lt within e = apart xs (others (list_any (bytes_eq x) xs) (has_double xs) once) k l (omega (arith, lt)) (omega (arith, within)) e
  where
    others : (a b : Bool) → (a || b) ≡ false → b ≡ false
    others true b f = absurd (cc)
    others false b f = f

module _ (g : Dataflow) (once : has_double (names g) ≡ false) where
  abbrev Has : ℕ → Type 0
  Has l = l < length (names g)

  told_place : (k l : ℕ) → Has k → Has l → place g k ≡ place g l → k ≡ l
  told_place k l p q e =
      let named : name_at g k ≡ name_at g l = cc in
      elim (cases_lt k l) [
        | inl less ↦ absurd (apart (names g) once k l less q named)
        | inr most ↦ elim (cases_lt l k) [ inl less ↦ absurd (apart (names g) once l k less p (sym named)) | inr least ↦ omega (arith, most, least) ]
      ]

  has_vertex : (l : ℕ) → l < length g.vertices → Has l
  has_vertex l lt = omega (arith, lt, length-append (map (λ v. v.name) g.vertices) (map (λ e. e.name) g.edges), length-map g.vertices (λ v. v.name), length-map g.edges (λ e. e.name))

  has_location : (x : Pointstamp) → Fits g x → Has x.location
  has_location x fits =
      let within = slice_get_within _ x.location _ fits.depth in
      omega (
        arith,
        within,
        length-append (map (λ v. v.name) g.vertices) (map (λ e. e.name) g.edges),
        length-map g.vertices (λ v. v.name),
        length-map g.edges (λ e. e.name),
        length-append (map (λ v. v.depth) g.vertices) (map (λ e. depth_past_vertex g.vertices e.from) g.edges),
        length-map g.vertices (λ v. v.depth),
        length-map g.edges (λ e. depth_past_vertex g.vertices e.from),
      )

  -- ---- entries

  told_point : (x y : Pointstamp) → Has x.location → Has y.location → point_data g x ≡ point_data g y → x ≡ y
  told_point x y p q e =
      let all : place g x.location ∷ time_data x.time ∷ [] ≡ place g y.location ∷ time_data y.time ∷ [] = told_row _ _ e in
      let location : x.location ≡ y.location = told_place x.location y.location p q (cc) in
      let time : x.time ≡ y.time = told_time x.time y.time (cc) in
      λ i. record { location = location i; time = time i }

  told_item : (vertex : ℕ) (e f : ItemKey × ℤ) → item_data g vertex e ≡ item_data g vertex f → e ≡ f
  told_item vertex e f is =
      let all : place g vertex ∷ time_data e.0.time ∷ whole e.0.item ∷ whole e.1 ∷ [] ≡ place g vertex ∷ time_data f.0.time ∷ whole f.0.item ∷ whole f.1 ∷ [] = told_row _ _ is in
      let time : e.0.time ≡ f.0.time = told_time e.0.time f.0.time (cc) in
      let what : e.0.item ≡ f.0.item = told_whole e.0.item f.0.item (cc) in
      let number : e.1 ≡ f.1 = told_whole e.1 f.1 (cc) in
      λ i. (record { time = time i; item = what i }, number i)

  told_record : (e f : ValueAt × ℕ) → Has e.0.point.location → Has f.0.point.location → record_data g e ≡ record_data g f → e ≡ f
  told_record e f p q is =
      let all : place g e.0.point.location ∷ time_data e.0.point.time ∷ whole e.0.value ∷ natural e.1 ∷ []
      ≡ place g f.0.point.location ∷ time_data f.0.point.time ∷ whole f.0.value ∷ natural f.1 ∷ [] = told_row _ _ is in
      let location : e.0.point.location ≡ f.0.point.location = told_place e.0.point.location f.0.point.location p q (cc) in
      let time : e.0.point.time ≡ f.0.point.time = told_time e.0.point.time f.0.point.time (cc) in
      let value : e.0.value ≡ f.0.value = told_whole e.0.value f.0.value (cc) in
      let count : e.1 ≡ f.1 = told_natural e.1 f.1 (cc) in
      λ i. (record { point = record { location = location i; time = time i }; value = value i }, count i)

  told_sink : (e f : SinkKey × ℕ) → Has e.0.vertex → Has f.0.vertex → sink_data g e ≡ sink_data g f → e ≡ f
  told_sink e f p q is =
      let all : place g e.0.vertex ∷ whole e.0.value ∷ natural e.1 ∷ [] ≡ place g f.0.vertex ∷ whole f.0.value ∷ natural f.1 ∷ [] = told_row _ _ is in
      let vertex : e.0.vertex ≡ f.0.vertex = told_place e.0.vertex f.0.vertex p q (cc) in
      let value : e.0.value ≡ f.0.value = told_whole e.0.value f.0.value (cc) in
      let count : e.1 ≡ f.1 = told_natural e.1 f.1 (cc) in
      λ i. (record { vertex = vertex i; value = value i }, count i)

  told_token : (e f : ℕ × ℕ) → Has e.0 → Has f.0 → token_data g e ≡ token_data g f → e ≡ f
  told_token e f p q is =
      let all : place g e.0 ∷ natural e.1 ∷ [] ≡ place g f.0 ∷ natural f.1 ∷ [] = told_row _ _ is in
      let vertex : e.0 ≡ f.0 = told_place e.0 f.0 p q (cc) in
      let epoch : e.1 ≡ f.1 = told_natural e.1 f.1 (cc) in
      λ i. (vertex i, epoch i)

  told_entry : (e f : Pointstamp × ℤ) → Has e.0.location → Has f.0.location → entry_data g e ≡ entry_data g f → e ≡ f
  told_entry e f p q is =
      let all : place g e.0.location ∷ time_data e.0.time ∷ whole e.1 ∷ [] ≡ place g f.0.location ∷ time_data f.0.time ∷ whole f.1 ∷ [] = told_row _ _ is in
      let location : e.0.location ≡ f.0.location = told_place e.0.location f.0.location p q (cc) in
      let time : e.0.time ≡ f.0.time = told_time e.0.time f.0.time (cc) in
      let count : e.1 ≡ f.1 = told_whole e.1 f.1 (cc) in
      λ i. (record { location = location i; time = time i }, count i)

  -- ---- changes

  change_has : (c : DeltaValue) → DeltaFits g c → All (λ e. Has e.0.location) (updates c)
  change_has c fits = λ k d lt. has_location _ (fits _ (in_change-present c _ (key_there point_cmp point_total (updates c) k d lt))).fits

  told_change : (c d : DeltaValue) → DeltaFits g c → DeltaFits g d → entries_data g (updates c) ≡ entries_data g (updates d) → c ≡ d
  told_change c d p q e =
      same_updates c d (told_map (λ e. Has e.0.location) (entry_data g) told_entry (updates c) (updates d) (change_has c p) (change_has d q) (told_row _ _ e))

  told_queue : (cs ds : List DeltaValue) → All (DeltaFits g) cs → All (DeltaFits g) ds → queue_data g cs ≡ queue_data g ds → cs ≡ ds
  told_queue cs ds p q e = told_map (DeltaFits g) (λ c. entries_data g (updates c)) told_change cs ds p q (told_row _ _ e)

  told_queues : (xs ys : List (List DeltaValue)) → All (λ cs. All (DeltaFits g) cs) xs → All (λ cs. All (DeltaFits g) cs) ys → queues_data g xs ≡ queues_data g ys → xs ≡ ys
  told_queues xs ys p q e = told_map (λ cs. All (DeltaFits g) cs) (queue_data g) told_queue xs ys p q (told_row _ _ e)

  -- ---- items

  abbrev of_vertex : ℕ × Items → List Data
  of_vertex v = map (item_data g v.0) (counts.entries v.1)

  -- these values do not begin with an item of vertex l
  abbrev IsPast : ℕ → List Data → Type 0
  IsPast l ds = (e : ItemKey × ℤ) (rest : List Data) → ds ≡ item_data g l e ∷ rest → ⊥

  past_items : (l k : ℕ) (items : List Items) → l < k → k + length items ≤ length (names g) → IsPast l (flat_map of_vertex (enumerate_from k items))
  past_items l k [] lt within e rest is = absurd (cc)
  past_items l k (x ∷ items) lt within e rest is = by (past_items l (k + 1) items (omega (arith, lt)) (omega (arith, within))) (counts.entries x) is
    where
      by : IsPast l (flat_map of_vertex (enumerate_from (k + 1) items)) → (es : List (ItemKey × ℤ)) → map (item_data g k) es ++ flat_map of_vertex (enumerate_from (k + 1) items) ≡ item_data g l e ∷ rest → ⊥
      by later [] here = later e rest here
      by later (f ∷ es) here =
          let head : item_data g k f ≡ item_data g l e = cc in
          let all : place g k ∷ time_data f.0.time ∷ whole f.0.item ∷ whole f.1 ∷ [] ≡ place g l ∷ time_data e.0.time ∷ whole e.0.item ∷ whole e.1 ∷ [] = told_row _ _ head in
          let one : k ≡ l = told_place k l (omega (arith, within)) (omega (arith, lt, within)) (cc) in
          omega (arith, one, lt)

  told_vertex : (l : ℕ) (es fs : List (ItemKey × ℤ)) (r s : List Data) → IsPast l r → IsPast l s → map (item_data g l) es ++ r ≡ map (item_data g l) fs ++ s → (es ≡ fs) × (r ≡ s)
  told_vertex l [] [] r s p q e = (refl, e)
  told_vertex l [] (f ∷ fs) r s p q e = absurd (p f (map (item_data g l) fs ++ s) e)
  told_vertex l (x ∷ es) [] r s p q e = absurd (q x (map (item_data g l) es ++ r) (sym e))
  told_vertex l (x ∷ es) (f ∷ fs) r s p q e =
      let head : x ≡ f = told_item l x f (cc) in
      let tail : map (item_data g l) es ++ r ≡ map (item_data g l) fs ++ s = cc in
      let others = told_vertex l es fs r s p q tail in
      (λ i. head i ∷ others.0 i, others.1)

  told_vertices : (l : ℕ) (xs ys : List Items) → length xs ≡ length ys → l + length xs ≤ length (names g)
      → flat_map of_vertex (enumerate_from l xs) ≡ flat_map of_vertex (enumerate_from l ys) → xs ≡ ys
  told_vertices l [] [] n within e = refl
  told_vertices l [] (y ∷ ys) n within e = absurd (cc)
  told_vertices l (x ∷ xs) [] n within e = absurd (cc)
  told_vertices l (x ∷ xs) (y ∷ ys) n within e =
      let count : length xs ≡ length ys = cc in
      let one = told_vertex l (counts.entries x) (counts.entries y) (flat_map of_vertex (enumerate_from (l + 1) xs)) (flat_map of_vertex (enumerate_from (l + 1) ys))
      (past_items l (l + 1) xs (omega arith) (omega (arith, within))) (past_items l (l + 1) ys (omega arith) (omega (arith, within, count))) e in
      let first : x ≡ y = same_counts item_total item_exact x y one.0 in
      let others : xs ≡ ys = told_vertices (l + 1) xs ys count (omega (arith, within)) one.1 in
      λ i. first i ∷ others i

  -- ---- processors

  records_have : (p : ProcessorState) → ProcessorFits g p → All (λ e. Has e.0.point.location) (counts.entries p.records)
  records_have p fits = λ k d lt. has_location _ (fits.records _ (at-present p.records _ (key_there _ value_at_total (counts.entries p.records) k d lt))).0.fits

  sinks_have : (p : ProcessorState) → ProcessorFits g p → All (λ e. Has e.0.vertex) (counts.entries p.sinks)
  sinks_have p fits = λ k d lt. has_vertex _ (fits.sinks _ (at-present p.sinks _ (key_there _ sink_total (counts.entries p.sinks) k d lt))).1

  tokens_have : (p : ProcessorState) → ProcessorFits g p → All (λ e. Has e.0) (fin.entries p.tokens)
  tokens_have p fits = λ k d lt.
      let at = some_there _ (fin.contains_key-keys p.tokens _ ∙ key_there nat_cmp nat_cmp_total (fin.entries p.tokens) k d lt) in
      has_vertex _ (fits.tokens _ at.0 at.1).1.place

  requests_have : (p : ProcessorState) → ProcessorFits g p → All (λ x. Has x.location) (fin.keys p.requests)
  requests_have p fits = λ k d lt.
      let x : Pointstamp = get_or (fin.keys p.requests) k d in
      let there : list_any (eq_by_cmp point_cmp x) (fin.keys p.requests) ≡ true =
      list_any_at (eq_by_cmp point_cmp x) (fin.keys p.requests) k d lt (ap is_eq (tied_itself point_total x)) in
      let at = some_there (fin.get p.requests x) (fin.contains_key-keys p.requests x ∙ there) in
      has_location x (fits.requests x at.1).fits

  told_processor : (p q : ProcessorState) (v w : DeltaValue) → ProcessorFits g p → ProcessorFits g q → DeltaFits g v → DeltaFits g w → processor_data g p v ≡ processor_data g q w → (p ≡ q) × (v ≡ w)
  unfolding processor_data
  told_processor p q v w i j x y e =
      let items : p.items ≡ q.items = told_vertices 0 p.items q.items (i.vertices ∙ sym j.vertices) (within p i) (told_row (items_data g p) (items_data g q) (cc)) in
      let records : p.records ≡ q.records =
      same_counts value_at_total value_at_exact p.records q.records
      (told_map (λ e. Has e.0.point.location) (record_data g) told_record (counts.entries p.records) (counts.entries q.records) (records_have p i) (records_have q j) (told_row _ _ (cc))) in
      let requests : p.requests ≡ q.requests =
      same_requests p.requests q.requests
      (told_map (λ x. Has x.location) (point_data g) told_point (fin.keys p.requests) (fin.keys q.requests) (requests_have p i) (requests_have q j) (told_row _ _ (cc))) in
      let sinks : p.sinks ≡ q.sinks =
      same_counts sink_total sink_exact p.sinks q.sinks
      (told_map (λ e. Has e.0.vertex) (sink_data g) told_sink (counts.entries p.sinks) (counts.entries q.sinks) (sinks_have p i) (sinks_have q j) (told_row _ _ (cc))) in
      let tokens : p.tokens ≡ q.tokens =
      fin.same_entries_map p.tokens q.tokens
      (told_map (λ e. Has e.0) (token_data g) told_token (fin.entries p.tokens) (fin.entries q.tokens) (tokens_have p i) (tokens_have q j) (told_row _ _ (cc))) in
      let unsent : p.unsent ≡ q.unsent = told_change p.unsent q.unsent i.unsent j.unsent (cc) in
      let views : v ≡ w = told_change v w x y (cc) in
      (λ k. record { records = records k; requests = requests k; tokens = tokens k; items = items k; sinks = sinks k; unsent = unsent k }, views)
    where
      within : (r : ProcessorState) → ProcessorFits g r → 0 + length r.items ≤ length (names g)
      within r fits =
          omega (arith, fits.vertices, length-append (map (λ v. v.name) g.vertices) (map (λ e. e.name) g.edges), length-map g.vertices (λ v. v.name), length-map g.edges (λ e. e.name))

  abbrev both : ProcessorState × DeltaValue → Data
  both e = processor_data g e.0 e.1

  told_processors : (ps qs : List ProcessorState) (vs ws : List DeltaValue) → All (ProcessorFits g) ps → All (ProcessorFits g) qs → All (DeltaFits g) vs → All (DeltaFits g) ws
      → length vs ≡ length ps → length ws ≡ length qs → map both (zip ps vs) ≡ map both (zip qs ws) → (ps ≡ qs) × (vs ≡ ws)
  told_processors [] [] [] [] i j x y m n e = (refl, refl)
  told_processors [] [] [] (w ∷ ws) i j x y m n e = absurd (cc)
  told_processors [] [] (v ∷ vs) ws i j x y m n e = absurd (cc)
  told_processors [] (q ∷ qs) (v ∷ vs) ws i j x y m n e = absurd (cc)
  told_processors [] (q ∷ qs) [] [] i j x y m n e = absurd (cc)
  told_processors [] (q ∷ qs) [] (w ∷ ws) i j x y m n e = absurd (cc)
  told_processors (p ∷ ps) qs [] ws i j x y m n e = absurd (cc)
  told_processors (p ∷ ps) [] (v ∷ vs) (w ∷ ws) i j x y m n e = absurd (cc)
  told_processors (p ∷ ps) [] (v ∷ vs) [] i j x y m n e = absurd (cc)
  told_processors (p ∷ ps) (q ∷ qs) (v ∷ vs) [] i j x y m n e = absurd (cc)
  told_processors (p ∷ ps) (q ∷ qs) (v ∷ vs) (w ∷ ws) i j x y m n e =
      let head : processor_data g p v ≡ processor_data g q w = cc in
      let tail : map both (zip ps vs) ≡ map both (zip qs ws) = cc in
      let one = told_processor p q v w (All-head (ProcessorFits g) p ps i) (All-head (ProcessorFits g) q qs j) (All-head (DeltaFits g) v vs x) (All-head (DeltaFits g) w ws y) head in
      let others =
      told_processors ps qs vs ws (All-tail (ProcessorFits g) p ps i) (All-tail (ProcessorFits g) q qs j) (All-tail (DeltaFits g) v vs x) (All-tail (DeltaFits g) w ws y)
      (let count : length vs ≡ length ps = cc in count) (let count : length ws ≡ length qs = cc in count) tail in
      (λ k. one.0 k ∷ others.0 k, λ k. one.1 k ∷ others.1 k)

pub values_determine : ValuesDetermineStates
unfolding state_data
values_determine s t is_s is_t once graph e =
    let fits : All (ProcessorFits s.graph) t.processors = subst (λ g. All (ProcessorFits g) t.processors) (sym graph) is_t.fits.processors in
    let views_fit : All (DeltaFits s.graph) t.views = subst (λ g. All (DeltaFits g) t.views) (sym graph) is_t.fits.views in
    let queues_fit : All (λ row. All (λ changes. All (DeltaFits s.graph) changes) row) t.queues =
    subst (λ g. All (λ row. All (λ changes. All (DeltaFits g) changes) row) t.queues) (sym graph) is_t.fits.queues in
    let of_processors : row (map (both s.graph once) (zip s.processors s.views)) ≡ row (map (both s.graph once) (zip t.processors t.views)) =
    (let parts : row (map (λ e. processor_data s.graph e.0 e.1) (zip s.processors s.views)) ≡ row (map (λ e. processor_data t.graph e.0 e.1) (zip t.processors t.views)) = cc in parts)
    ∙ ap (λ g. row (map (λ (e : ProcessorState × DeltaValue). processor_data g e.0 e.1) (zip t.processors t.views))) (sym graph) in
    let of_queues : row (map (queues_data s.graph) s.queues) ≡ row (map (queues_data s.graph) t.queues) =
    (let parts : row (map (queues_data s.graph) s.queues) ≡ row (map (queues_data t.graph) t.queues) = cc in parts) ∙ ap (λ g. row (map (queues_data g) t.queues)) (sym graph) in
    let processors = told_processors s.graph once s.processors t.processors s.views t.views is_s.fits.processors fits is_s.fits.views views_fit is_s.fits.each_view is_t.fits.each_view (told_row _ _ of_processors) in
    let queues : s.queues ≡ t.queues =
    told_map (λ row. All (λ changes. All (DeltaFits s.graph) changes) row) (queues_data s.graph) (told_queues s.graph once) s.queues t.queues is_s.fits.queues queues_fit (told_row _ _ of_queues) in
    λ i. record { graph = graph i; processors = processors.0 i; views = processors.1 i; queues = queues i }
