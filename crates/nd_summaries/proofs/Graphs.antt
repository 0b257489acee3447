-- The depths, the arcs and the walks of a graph.
use Rattle.std.proofs.Common.{◌≡◌, ℕ, ◌+◌, ◌<◌, Some, List, [], ◌∷◌, ◌++◌, length, map, sym, ◌∙◌, ap, subst, length-append}
use Rattle.std.specs.Prelude.{All, Contains, slice_index}
use Rattle.std.proofs.lemmas.List.{length-map}
use Rattle.std.proofs.lemmas.List.Elements.{All-contains}
use Rattle.std.proofs.lemmas.Option.{slice_get_within, slice_get-get_or, get_or_from_slice_get}
use Rattle.nd_graph.specs.declared.graph.Arc.{Arc}
use Rattle.nd_graph.specs.Graph.{ArcAgrees, Dataflow, LeadsTo, arcs, depth_past_vertex, depths, location_count}
use Rattle.nd_summaries.specs.Walk.{HasDepth, IsWalk}

abbrev pub DepthsAgree : Dataflow → Type 0
DepthsAgree g = All (ArcAgrees (depths g)) (arcs g)

-- ---- how many there are

pub length-depths : (g : Dataflow) → length (depths g) ≡ location_count g
length-depths g =
    length-append (map (λ v. v.depth) g.vertices) (map (λ e. depth_past_vertex g.vertices e.from) g.edges)
    ∙ ap (λ n. n + length (map (λ e. depth_past_vertex g.vertices e.from) g.edges)) (length-map g.vertices (λ v. v.depth))
    ∙ ap (λ n. length g.vertices + n) (length-map g.edges (λ e. depth_past_vertex g.vertices e.from))

-- ---- depths

pub depth_within : (g : Dataflow) (l d : ℕ) → HasDepth g l d → (l < length (depths g)) × (d ≡ slice_index (depths g) l)
depth_within g l d h = (slice_get_within (depths g) l d h, sym (get_or_from_slice_get (depths g) l d 0 h))

pub has_depth : (g : Dataflow) (l d : ℕ) → l < length (depths g) → d ≡ slice_index (depths g) l → HasDepth g l d
has_depth g l d h e = slice_get-get_or (depths g) l 0 h ∙ ap Some (sym e)

-- ---- walks

pub walks_joined : (g : Dataflow) (w v : List Arc) (a b c : ℕ) → IsWalk g a w b → IsWalk g b v c → IsWalk g a (w ++ v) c
walks_joined g [] v a b c h k = subst (λ n. IsWalk g n v c) (sym h) k
walks_joined g (x ∷ w) v a b c h k = (h.0, h.1, walks_joined g w v x.to b c h.2 k)

module _ (g : Dataflow) (agree : DepthsAgree g) where
  -- an arc leads from its start's depth to its end's
  pub arc_leads : (x : Arc) → Contains (arcs g) x → LeadsTo x.action (slice_index (depths g) x.from) (slice_index (depths g) x.to)
  arc_leads x k = (All-contains (ArcAgrees (depths g)) (arcs g) x agree k).depth

  -- a walk that is not empty starts at a location of the graph
  pub starts_inside : (x : Arc) (w : List Arc) (a b : ℕ) → IsWalk g a (x ∷ w) b → a < length (depths g)
  starts_inside x w a b h = subst (λ m. m < length (depths g)) h.1 (All-contains (ArcAgrees (depths g)) (arcs g) x agree h.0).from

  -- a walk from a location of the graph ends at one
  pub ends_inside : (w : List Arc) (a b : ℕ) → a < length (depths g) → IsWalk g a w b → b < length (depths g)
  ends_inside [] a b l h = subst (λ n. n < length (depths g)) h l
  ends_inside (x ∷ w) a b l h = ends_inside w x.to b (All-contains (ArcAgrees (depths g)) (arcs g) x agree h.0).to h.2
