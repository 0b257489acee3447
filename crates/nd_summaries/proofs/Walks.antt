-- Walks and their summaries fit the depths of their graph.
use Rattle.std.proofs.Common.{◌≡◌, ℕ, List, [], ◌∷◌, length, sym, ◌∙◌, ap, subst, arith}
use Rattle.std.specs.Prelude.{slice_index}
use Rattle.nd_graph.specs.declared.graph.Arc.{Arc}
use Rattle.nd_graph.specs.Graph.{Dataflow, LeadsTo, depths}
use Rattle.nd_summaries.specs.declared.summary.Summary.{Summary}
use Rattle.nd_summaries.specs.Walk.{IsWalk, effect}
use Rattle.nd_summaries.specs.Summary.{applied}
use Rattle.nd_summaries.specs.Steps.{identity, step, after, summary_of}
use Rattle.nd_summaries.proofs.Graphs.{DepthsAgree, arc_leads}
use Rattle.nd_summaries.proofs.Raised.{applied-identity}
use Rattle.nd_summaries.proofs.Effects.{IsFor, IsFor-identity, IsFor-step, applied-after, length-applied_for}

pub IsFor-after : (graph : Dataflow) (w : List Arc) (d a b : ℕ) (s : Summary) → DepthsAgree graph → IsWalk graph a w b → IsFor d (slice_index (depths graph) a) s → IsFor d (slice_index (depths graph) b) (after w s)
IsFor-after graph [] d a b s g h f = subst (λ n. IsFor d (slice_index (depths graph) n) s) h f
IsFor-after graph (x ∷ w) d a b s g h f =
    let l : LeadsTo x.action (slice_index (depths graph) a) (slice_index (depths graph) x.to) =
    subst (λ n. LeadsTo x.action (slice_index (depths graph) n) (slice_index (depths graph) x.to)) h.1 (arc_leads graph g x h.0) in
    IsFor-after graph w d x.to b (step x.action s) g h.2 (IsFor-step x.action d (slice_index (depths graph) a) (slice_index (depths graph) x.to) s l f)

pub IsFor-walk : (graph : Dataflow) (w : List Arc) (a b : ℕ) → DepthsAgree graph → IsWalk graph a w b → IsFor (slice_index (depths graph) a) (slice_index (depths graph) b) (summary_of graph a w)
IsFor-walk graph w a b g h = IsFor-after graph w (slice_index (depths graph) a) a b (identity (slice_index (depths graph) a)) g h (IsFor-identity (slice_index (depths graph) a))

-- a walk does what its summary does
pub applied-walk : (graph : Dataflow) (w : List Arc) (a : ℕ) (c : List ℕ) → length c ≡ slice_index (depths graph) a → applied (summary_of graph a w) c ≡ effect w c
applied-walk graph w a c h =
    applied-after w (identity (slice_index (depths graph) a)) c (omega arith) ∙ ap (effect w) (applied-identity c (slice_index (depths graph) a) h)

-- a walk leads to counters of its end's depth
pub length-effect : (graph : Dataflow) (w : List Arc) (a b : ℕ) (c : List ℕ) → DepthsAgree graph → IsWalk graph a w b → length c ≡ slice_index (depths graph) a → length (effect w c) ≡ slice_index (depths graph) b
length-effect graph w a b c g walk h =
    ap length (sym (applied-walk graph w a c h))
    ∙ length-applied_for (slice_index (depths graph) a) (slice_index (depths graph) b) (summary_of graph a w) c (IsFor-walk graph w a b g walk) h
