-- The results of checking a graph, phase by phase.
use Rattle.std.proofs.Common.{◌≡◌, ◌∙◌, ℕ, ◌<◌, ◌≤◌, Bool, true, false, List, [], ◌∷◌, ◌++◌, length, map, refl, sym, ap, Option, Some, None, option_map, option_and_then, Ok, Err, ok_or, if◌then◌else◌}
use Rattle.std.proofs.lemmas.List.Elements.{All-nil, All-cons}
use Rattle.std.proofs.lemmas.List.Quantifiers.{position-Some}
use Rattle.std.specs.List.{All}
use Rattle.std.specs.Option.{option_map_or}
use Rattle.std.specs.Str.{bytes_eq}
use Rattle.nd_time.specs.Limits.{max_depth, max_locations}
use Rattle.nd_time.specs.declared.order.TimeOrder.{TimeOrder}
use Rattle.nd_graph.specs.declared.graph.Vertex.{Vertex}
use Rattle.nd_graph.specs.declared.graph.Edge.{Edge}
use Rattle.nd_graph.specs.declared.draft.DraftEdge.{DraftEdge}
use Rattle.nd_graph.specs.declared.fault.GraphFault.{GraphFault}
use Rattle.nd_graph.specs.declared.fault.GraphFault.TheVariants.{DoubleName, UnknownName}
use Rattle.nd_graph.specs.Draft.{Draft, every}
use Rattle.nd_graph.specs.Checked.{has_double, written_names, end_of, located, edges_between, fault_of, judged, judged_with, checked_within, JoinsVertices, IsFaultless}
use Rattle.nd_graph.proofs.Agreement.{fewer_faults}

-- ---- edges whose ends are resolved

record Made (first second : Option ℕ) (make : ℕ → ℕ → Edge) (x : Edge) : Type 0 where
  from : ℕ
  to : ℕ
  first_is : first ≡ Some from
  second_is : second ≡ Some to
  made : x ≡ make from to

made : (first second : Option ℕ) (make : ℕ → ℕ → Edge) (x : Edge)
    → option_and_then (λ from. option_map (λ to. make from to) second) first ≡ Some x → Made first second make x
made None second make x h = cc
made (Some from) None make x h = cc
made (Some from) (Some to) make x h = record { from = from; to = to; first_is = refl; second_is = refl; made = cc }

within : (vertices : List Vertex) (end : Option (List ℕ)) (l : ℕ) → end_of vertices end ≡ Some l → l < length vertices
unfolding end_of
within vertices None l h = cc
within [] (Some name) l h = cc
within (v ∷ vertices) (Some name) l h = (position-Some (λ w. bytes_eq name w.name) (v ∷ vertices) l v h).0

-- an edge with its ends as locations joins vertices, and has the draft's name
located_joins : (vertices : List Vertex) (e : DraftEdge) (x : Edge) → located vertices e ≡ Some x → JoinsVertices vertices x × (x.name ≡ e.name)
unfolding located
located_joins vertices e x h =
    let m = made (end_of vertices e.from) (end_of vertices e.to) (λ from to. record { name = e.name; from = from; port = e.port; to = to; route = e.route }) x h in (
      record {
        from = rw (ap (λ y. y.from) m.made) (within vertices e.from m.from m.first_is);
        to = rw (ap (λ y. y.to) m.made) (within vertices e.to m.to m.second_is);
      },
      ap (λ y. y.name) m.made,
    )

record Read {D X : Type 0} (read : D → Option X) (d : D) (ds : List D) (xs : List X) : Type 0 where
  head : X
  tail : List X
  head_is : read d ≡ Some head
  tail_is : every read ds ≡ Some tail
  both : xs ≡ head ∷ tail

read_first : {D X : Type 0} (read : D → Option X) (d : D) (ds : List D) (xs : List X) (o : Option X) (p : Option (List X))
    → read d ≡ o → every read ds ≡ p → option_and_then (λ x. option_map (λ ys. x ∷ ys) p) o ≡ Some xs → Read read d ds xs
read_first read d ds xs None p a b h = cc
read_first read d ds xs (Some x) None a b h = cc
read_first read d ds xs (Some x) (Some ys) a b h = record { head = x; tail = ys; head_is = a; tail_is = b; both = cc }

all_join : (vertices : List Vertex) (edges : List DraftEdge) (xs : List Edge) → every (located vertices) edges ≡ Some xs
    → All (JoinsVertices vertices) xs × (map (λ x. x.name) xs ≡ map (λ e. e.name) edges)
all_join vertices [] xs h =
    let none : [] ≡ xs = cc in
    rw (sym none) (All-nil (JoinsVertices vertices), refl)
all_join vertices (e ∷ edges) xs h =
    let r = read_first (located vertices) e edges xs (located vertices e) (every (located vertices) edges) refl refl h in
    let here = located_joins vertices e r.head r.head_is in
    let rest = all_join vertices edges r.tail r.tail_is in
    rw r.both (
      All-cons (JoinsVertices vertices) r.head r.tail here.0 rest.0,
      ap (λ name. name ∷ map (λ x. x.name) r.tail) here.1 ∙ ap (λ more. e.name ∷ more) rest.1,
    )

-- ---- the phases

both_found : {X : Type 0} (b : Bool) (o : Option X) (x : X) → (if b then Err DoubleName else ok_or o UnknownName) ≡ Ok x → (b ≡ false) × (o ≡ Some x)
both_found true o x h = cc
both_found false None x h = cc
both_found false (Some y) x h = (refl, cc)

pub faultless : (most many : ℕ) (order : TimeOrder) (vertices : List Vertex) (written : List DraftEdge) (edges : List Edge) → most ≤ max_depth → many ≤ max_locations → edges_between vertices written ≡ Ok edges
    → fault_of most many (record { order = order; vertices = vertices; edges = edges }) ≡ None → IsFaultless (record { order = order; vertices = vertices; edges = edges })
unfolding edges_between
faultless most many order vertices written edges low few h none =
    let found = both_found (has_double (written_names vertices written)) (every (located vertices) written) edges h in
    let joined = all_join vertices written edges found.1 in
    record {
      once = ap (λ more. has_double (map (λ v. v.name) vertices ++ more)) joined.1 ∙ found.0;
      joined = joined.0;
      faultless = fewer_faults most max_depth many max_locations (record { order = order; vertices = vertices; edges = edges }) low few none;
    }

pub checked-fault : (most many : ℕ) (d : Draft) (edges : List Edge) (e : GraphFault) → edges_between d.vertices d.edges ≡ Ok edges
    → fault_of most many (record { order = d.order; vertices = d.vertices; edges = edges }) ≡ Some e → checked_within most many d ≡ Err e
unfolding checked_within judged
checked-fault most many d edges e h fault =
    ap (judged_with most many d.order d.vertices) h ∙ ap (λ o. option_map_or (λ x. Err x) o (Ok (record { order = d.order; vertices = d.vertices; edges = edges }))) fault

pub checked-faultless : (most many : ℕ) (d : Draft) (edges : List Edge) → edges_between d.vertices d.edges ≡ Ok edges
    → fault_of most many (record { order = d.order; vertices = d.vertices; edges = edges }) ≡ None → checked_within most many d ≡ Ok (record { order = d.order; vertices = d.vertices; edges = edges })
unfolding checked_within judged
checked-faultless most many d edges h none =
    ap (judged_with most many d.order d.vertices) h ∙ ap (λ o. option_map_or (λ x. Err x) o (Ok (record { order = d.order; vertices = d.vertices; edges = edges }))) none
