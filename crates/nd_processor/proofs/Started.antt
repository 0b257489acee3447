-- The tokens and the capabilities of the initial state, found by loops that go down the vertices.
use Rattle.std.proofs.Common.{◌≡◌, ◌<◌, ◌≤◌, ◌+◌, ◌-◌, ℕ, zero, suc, Bool, cond, List, [], ◌∷◌, ◌++◌, length, map, get_or, take, drop, refl, sym, ap, ◌∙◌, arith, drop-cons}
use Rattle.std.specs.FinMap as fin
use Rattle.nd_graph.specs.Checked.{is_input}
use Rattle.nd_graph.specs.Operators.{facts}
use Rattle.nd_graph.specs.declared.graph.Vertex.{Vertex}
use Rattle.std.specs.Prelude.{replicate}
use Rattle.nd_map.specs.Counts.{naturals, none as no_items, of_entries, of_entries-nil}
use Rattle.nd_graph.specs.Graph.{Dataflow}
use Rattle.nd_paths.specs.declared.point.Pointstamp.{Pointstamp}
use Rattle.nd_delta.specs.Delta.{DeltaValue, none}
use Rattle.nd_vertex.specs.Items.{Items}
use Rattle.nd_processor.specs.Keys.{value_at_total, sink_total}
use Rattle.nd_processor.specs.Kept.{seen}
use Rattle.nd_processor.specs.Start.{first_tokens, first_requests, first_point, start_processor}
use Rattle.nd_processor.specs.declared.key.ValueAt.{ValueAt}
use Rattle.nd_processor.specs.declared.key.SinkKey.{SinkKey}

-- one turn of this loop
pub tokens_turn : (vertices : List Vertex) (l : ℕ) (d : Vertex) (b : Bool) → 0 < l → l ≤ length vertices → b ≡ is_input (get_or vertices (l - 1) d).op → first_tokens (l - 1) (drop (l - 1) vertices) ≡ cond b (fin.insert (first_tokens l (drop l vertices)) (l - 1) 0) (first_tokens l (drop l vertices))
tokens_turn vertices l d b some le is =
    let next : (l - 1) + 1 ≡ l = omega arith in
    let same : suc (l - 1) ≡ l = omega arith in
    ap (first_tokens (l - 1)) (drop-cons vertices (l - 1) d (omega arith))
    ∙ (λ i. cond (sym is i) (fin.insert (first_tokens (next i) (drop (same i) vertices)) (l - 1) 0) (first_tokens (next i) (drop (same i) vertices)))

-- one turn of the other
pub requests_turn : (vertices : List Vertex) (l depth : ℕ) (d : Vertex) (b : Bool) → 0 < l → l ≤ length vertices → b ≡ (facts (get_or vertices (l - 1) d).op).starts → depth ≡ (get_or vertices (l - 1) d).depth → first_requests (l - 1) (drop (l - 1) vertices) ≡ cond b (fin.insert (first_requests l (drop l vertices)) (first_point (l - 1) depth) tt) (first_requests l (drop l vertices))
requests_turn vertices l depth d b some le is deep =
    let next : (l - 1) + 1 ≡ l = omega arith in
    let same : suc (l - 1) ≡ l = omega arith in
    ap (first_requests (l - 1)) (drop-cons vertices (l - 1) d (omega arith))
    ∙ (λ i. cond (sym is i) (fin.insert (first_requests (next i) (drop (same i) vertices)) (first_point (l - 1) (sym deep i)) tt) (first_requests (next i) (drop (same i) vertices)))

-- the depth of a vertex among those of all locations
pub depth_there : (vertices : List Vertex) (rest : List ℕ) (l : ℕ) (d : Vertex) → l < length vertices → get_or (map (λ v. v.depth) vertices ++ rest) l 0 ≡ (get_or vertices l d).depth
depth_there [] rest l d lt = absurd (omega arith)
depth_there (v ∷ vertices) rest zero d lt = refl
depth_there (v ∷ vertices) rest (suc l) d lt = depth_there vertices rest l d (omega arith)

pub take_zeros : (n m : ℕ) → n ≤ m → take {A = ℕ} n (replicate m 0) ≡ replicate n 0
take_zeros zero m le = refl
take_zeros (suc n) zero le = absurd (omega arith)
take_zeros (suc n) (suc m) le = ap (λ zs. 0 ∷ zs) (take_zeros n m (omega arith))

pub drop_end : {X : Type 0} (xs : List X) → drop (length xs) xs ≡ []
drop_end [] = refl
drop_end (x ∷ xs) = drop_end xs

pub start_seen : (g : Dataflow) (records : List (ValueAt × ℕ)) (requests : List (Pointstamp × Unit {0})) (tokens : List (ℕ × ℕ)) (items : List Items) (sinks : List (SinkKey × ℕ)) (unsent : DeltaValue)
    → records ≡ [] → fin.from_entries requests ≡ first_requests 0 g.vertices → fin.from_entries tokens ≡ first_tokens 0 g.vertices → items ≡ replicate (length g.vertices) no_items → sinks ≡ [] → unsent ≡ none
    → seen records requests tokens items sinks unsent ≡ start_processor g
start_seen g records requests tokens items sinks unsent r q t m s u =
    λ i. record {
      records = (ap (of_entries {N = naturals} value_at_total) r ∙ of_entries-nil naturals value_at_total) i;
      requests = q i;
      tokens = t i;
      items = m i;
      sinks = (ap (of_entries {N = naturals} sink_total) s ∙ of_entries-nil naturals sink_total) i;
      unsent = u i;
    }
