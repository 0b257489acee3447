-- Several views of one graph: facts for the code that stores them in a list.
--     maps, AreFor              their maps;  the precursor counts of each view are those of the graph
--     maps-get, maps-set        the map of one view, and the maps after one view is replaced
--     for_set                   the counts are still those of the graph after one view is replaced
use Rattle.std.proofs.Common.{◌≡◌, ◌<◌, ℕ, zero, suc, List, [], ◌∷◌, length, map, get_or, set, refl, ap, sym, ◌∙◌, arith}
use Rattle.std.specs.Prelude.{All}
use Rattle.std.proofs.lemmas.List.{get_or-map}
use Rattle.nd_graph.specs.Graph.{Dataflow}
use Rattle.nd_delta.specs.Delta.{DeltaValue}
use Rattle.nd_view.specs.Kept.{Kept, IsFor}

-- the maps of views, without their precursor counts
abbrev pub maps : List Kept → List DeltaValue
maps vs = map (λ v. v.map) vs

-- the precursor counts of every view are those of the graph
abbrev pub AreFor : Dataflow → List Kept → Type 0
AreFor g vs = All (IsFor g) vs

pub maps-get : (vs : List Kept) (q : ℕ) (v : Kept) (m : DeltaValue) → q < length vs → v ≡ get_or vs q v → get_or (maps vs) q m ≡ v.map
maps-get vs q v m lt is = get_or-map (λ u. u.map) vs q v m lt ∙ ap (λ u. u.map) (sym is)

pub maps-set : (vs : List Kept) (q : ℕ) (v : Kept) → maps (set vs q v) ≡ set (maps vs) q v.map
maps-set [] q v = refl
maps-set (w ∷ vs) zero v = refl
maps-set (w ∷ vs) (suc q) v = ap (λ ms. w.map ∷ ms) (maps-set vs q v)

pub for_tail : (g : Dataflow) (v : Kept) (vs : List Kept) → AreFor g (v ∷ vs) → AreFor g vs
for_tail g v vs h k d lt = h (suc k) d (omega (arith, lt))

pub for_cons : (g : Dataflow) (v : Kept) (vs : List Kept) → IsFor g v → AreFor g vs → AreFor g (v ∷ vs)
for_cons g v vs for h zero d lt = for
for_cons g v vs for h (suc k) d lt = h k d (omega (arith, lt))

pub for_set : (g : Dataflow) (vs : List Kept) (q : ℕ) (v : Kept) → AreFor g vs → IsFor g v → AreFor g (set vs q v)
for_set g [] q v h for = h
for_set g (w ∷ vs) zero v h for = for_cons g v vs for (for_tail g w vs h)
for_set g (w ∷ vs) (suc q) v h for = for_cons g w (set vs q v) (h 0 w (omega arith)) (for_set g vs q v (for_tail g w vs h) for)
