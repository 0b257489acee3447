-- Names looked up in a graph: what is found is a location; and a location is found by its name, if all names are distinct.
use Rattle.std.proofs.Common.{◌≡◌, ◌∙◌, ℕ, ◌+◌, ◌<◌, ◌≤◌, zero, suc, Bool, true, false, cond, nat_lt, List, [], ◌∷◌, length, get_or, map, refl, sym, subst, ap, arith, Option, Some, None, option_map, option_and_then, length-append}
use Rattle.std.proofs.lemmas.Bool.{or_parts, lt-ltb, ltb-true, le-ltb, eq-eqb, ne_eqb}
use Rattle.std.proofs.lemmas.List.{length-map}
use Rattle.std.proofs.lemmas.List.Sums.{position_or_len_is}
use Rattle.std.proofs.lemmas.Option.{slice_get_within}
use Rattle.std.specs.List.{list_any, position, position_or_len}
use Rattle.std.specs.Prelude.{IfSome, slice_get}
use Rattle.std.specs.Option.{unwrap_or}
use Rattle.serde_json.specs.Data.{Data}
use Rattle.nd_json.specs.Forms.{small}
use Rattle.nd_graph.specs.Draft.{every}
use Rattle.rewind_forms.specs.Forms.{all_read}
use Rattle.rewind_forms.proofs.ReadInTurn.{every-length}
use Rattle.std.specs.Str.{bytes_eq}
use Rattle.std.specs.Cmp.Lexicographic.{nat_list_eq_equiv}
use Rattle.nd_time.specs.Time.{Time}
use Rattle.nd_graph.specs.Graph.{Dataflow, names, depths, depth_past_vertex, location_count}
use Rattle.nd_graph.specs.Checked.{has_double}
use Rattle.nd_paths.specs.declared.point.Pointstamp.{Pointstamp}
use Rattle.nd_state_json.specs.StateText.{name_at}
use Rattle.rewind_forms.specs.Places.{location_named, vertex_named, edge_named, time_of, point_named}
use Rattle.rewind_forms.specs.Fitting.{HasDepth}

-- ---- distinct names

none_passes : {X : Type 0} (p : X → Bool) (xs : List X) (i : ℕ) (d : X) → list_any p xs ≡ false → i < length xs → p (get_or xs i d) ≡ false
none_passes p [] i d none within = absurd (omega arith)
none_passes p (x ∷ xs) zero d none within = (or_parts (p x) (list_any p xs) none).0
none_passes p (x ∷ xs) (suc i) d none within = none_passes p xs i d (or_parts (p x) (list_any p xs) none).1 (omega arith)

-- an earlier name is different
another : (ks : List (List ℕ)) (k l : ℕ) → has_double ks ≡ false → k < l → l < length ks → bytes_eq (get_or ks l []) (get_or ks k []) ≡ false
another [] k l once below within = absurd (omega arith)
another (x ∷ ks) k zero once below within = absurd (omega arith)
another (x ∷ ks) zero (suc l) once below within =
    nat_list_eq_equiv.symm (get_or ks l []) x
    ∙ none_passes (bytes_eq x) ks l [] (or_parts (list_any (bytes_eq x) ks) (has_double ks) once).0 (omega arith)
another (x ∷ ks) (suc k) (suc l) once below within =
    another ks k l (or_parts (list_any (bytes_eq x) ks) (has_double ks) once).1 (omega arith) (omega arith)

found_again : (ks : List (List ℕ)) (l : ℕ) → has_double ks ≡ false → l < length ks → position (bytes_eq (get_or ks l [])) ks ≡ Some l
found_again ks l once within =
    let same = nat_list_eq_equiv.refl (get_or ks l []) in
    let there = position_or_len_is (bytes_eq (get_or ks l [])) ks l [] (omega arith) (λ k below. another ks k l once below within) (λ _. same) in
    rw (there, lt-ltb l (length ks) within) refl

-- ---- locations

length-names : (g : Dataflow) → length (names g) ≡ location_count g
length-names g =
    length-append (map (λ v. v.name) g.vertices) (map (λ e. e.name) g.edges)
    ∙ (ap (λ n. n + length (map (λ e. e.name) g.edges)) (length-map g.vertices (λ v. v.name))
    ∙ ap (λ n. length g.vertices + n) (length-map g.edges (λ e. e.name)))

within-test : (b : Bool) (i n : ℕ) → b ≡ nat_lt i n → IfSome (cond b (Some i) None) (λ l. l < n)
within-test true i n e = ltb-true i n (sym e)
within-test false i n e = tt

pub position-within : {A : Type 0} (p : A → Bool) (xs : List A) → IfSome (position p xs) (λ l. l < length xs)
position-within p xs = within-test _ (position_or_len p xs) (length xs) refl

pub named-within : (g : Dataflow) (p : List ℕ → Bool) → IfSome (position p (names g)) (λ l. l < location_count g)
named-within g p = let P : ℕ → Type 0 = λ n. IfSome (position p (names g)) (λ l. l < n) in subst P (length-names g) (position-within p (names g))

length-depths : (g : Dataflow) → length (depths g) ≡ length g.vertices + length g.edges
length-depths g =
    length-append (map (λ v. v.depth) g.vertices) (map (λ e. depth_past_vertex g.vertices e.from) g.edges)
    ∙ (ap (λ n. n + length (map (λ e. depth_past_vertex g.vertices e.from) g.edges)) (length-map g.vertices (λ v. v.depth))
    ∙ ap (λ n. length g.vertices + n) (length-map g.edges (λ e. depth_past_vertex g.vertices e.from)))

-- a location with the depth of a time has a name
has_name : (g : Dataflow) (l : ℕ) (t : Time) → HasDepth g l t → l < length (names g)
has_name g l t depth =
    let within = slice_get_within (depths g) l (length t.counters) depth in
    omega (arith, within, length-names g, length-depths g)

pub location-name_at : (g : Dataflow) (l : ℕ) → has_double (names g) ≡ false → l < length (names g) → location_named g (name_at g l) ≡ Some l
unfolding location_named
location-name_at g l once within = found_again (names g) l once within

pub vertex-name_at : (g : Dataflow) (l : ℕ) → has_double (names g) ≡ false → l < length g.vertices → vertex_named g (name_at g l) ≡ Some l
unfolding vertex_named
vertex-name_at g l once vertex =
    rw (location-name_at g l once (omega (arith, length-names g)), lt-ltb l (length g.vertices) vertex) refl

pub edge-name_at : (g : Dataflow) (l : ℕ) (t : Time) → has_double (names g) ≡ false → length g.vertices ≤ l → HasDepth g l t
    → edge_named g (name_at g l) ≡ Some l
unfolding edge_named
edge-name_at g l t once edge depth =
    rw (location-name_at g l once (has_name g l t depth), le-ltb l (length g.vertices) edge) refl

-- ---- times and pointstamps

pub time-numbers : (g : Dataflow) (l : ℕ) (t : Time) → HasDepth g l t → time_of g l (t.epoch ∷ t.counters) ≡ Some t
unfolding time_of
time-numbers g l t depth = rw (depth, eq-eqb (length t.counters) (length t.counters) refl) refl

pub known : (g : Dataflow) (l : ℕ) (t : Time) → has_double (names g) ≡ false → HasDepth g l t → location_named g (name_at g l) ≡ Some l
known g l t once depth = location-name_at g l once (has_name g l t depth)

pub point-name_at : (g : Dataflow) (q : Pointstamp) → has_double (names g) ≡ false → HasDepth g q.location q.time
    → point_named g (name_at g q.location, q.time.epoch ∷ q.time.counters) ≡ Some q
unfolding point_named
point-name_at g q once depth = rw (known g q.location q.time once depth, time-numbers g q.location q.time depth) refl

-- numbers of another depth than that of the location are no time there
pub other-depth : (g : Dataflow) (l n : ℕ) (d : Data) (ds : List Data) → slice_get (depths g) l ≡ Some n → (length ds ≡ n → ⊥)
    → None ≡ time_of g l (all_read small (d ∷ ds))
unfolding time_of
other-depth g l n d ds depth other = none (small d) (every small ds) (λ ns is. every-length small ds ns is)
  where
    none : (o : Option ℕ) (rest : Option (List ℕ)) → ((ns : List ℕ) → rest ≡ Some ns → length ns ≡ length ds)
        → None ≡ time_of g l (unwrap_or (option_and_then (λ x. option_map (λ xs. x ∷ xs) rest) o) [])
    none None rest h = refl
    none (Some x) None h = refl
    none (Some x) (Some ns) h = rw (depth, ne_eqb (length ns) n (λ e. other (sym (h ns refl) ∙ e))) refl

-- as many counters as loops around the location
pub same-depth : (g : Dataflow) (l n : ℕ) (ds : List Data) (e : ℕ) (cs : List ℕ) → slice_get (depths g) l ≡ Some n → length ds ≡ n + 1
    → every small ds ≡ Some (e ∷ cs) → time_of g l (all_read small ds) ≡ Some (record { epoch = e; counters = cs })
unfolding time_of
same-depth g l n ds e cs depth long read =
    rw (read, depth, eq-eqb (length cs) n (omega (arith, every-length small ds (e ∷ cs) read, long))) refl
