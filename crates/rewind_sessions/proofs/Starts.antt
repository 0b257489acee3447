-- Initial states with the same graph and number of processors are equal, and so are lists with the same elements.
use Rattle.std.proofs.Common.{◌≡◌, ◌<◌, ℕ, zero, suc, List, [], ◌∷◌, length, get_or, refl, sym, ap, ◌∙◌, arith}
use Rattle.std.specs.Prelude.{replicate}
use Rattle.nd_graph.specs.Graph.{Dataflow}
use Rattle.nd_protocol.specs.State.{ClusterState}
use Rattle.nd_protocol.specs.Start.{start}
use Rattle.nd_session.specs.Log.{IsStart}

as_many : {X : Type 0} (n : ℕ) (x : X) → length (replicate n x) ≡ n
as_many zero x = refl
as_many (suc n) x = ap suc (as_many n x)

graph_of_start : (g : Dataflow) (n : ℕ) → (start g n).graph ≡ g
unfolding start
graph_of_start g n = refl

count_of_start : (g : Dataflow) (n : ℕ) → length (start g n).processors ≡ n
unfolding start
count_of_start g n = as_many n _

pub same_start : (s t : ClusterState) → IsStart s → IsStart t → s.graph ≡ t.graph → length s.processors ≡ length t.processors → s ≡ t
same_start s t a b graphs counts =
    let g : a.graph ≡ b.graph = sym (ap (λ (u : ClusterState). u.graph) a.is ∙ graph_of_start a.graph a.count) ∙ graphs ∙ ap (λ (u : ClusterState). u.graph) b.is ∙ graph_of_start b.graph b.count in
    let n : a.count ≡ b.count = sym (ap (λ (u : ClusterState). length u.processors) a.is ∙ count_of_start a.graph a.count) ∙ counts ∙ ap (λ (u : ClusterState). length u.processors) b.is ∙ count_of_start b.graph b.count in
    a.is ∙ (λ i. start (g i) (n i)) ∙ sym b.is

-- two lists of the same length with equal elements at each position
pub same_lists : {X : Type 0} (xs ys : List X) → length xs ≡ length ys → ((k : ℕ) (d : X) → k < length xs → get_or xs k d ≡ get_or ys k d) → xs ≡ ys
same_lists [] [] long each = refl
same_lists [] (y ∷ ys) long each = absurd (omega (arith, long))
same_lists (x ∷ xs) [] long each = absurd (omega (arith, long))
same_lists (x ∷ xs) (y ∷ ys) long each =
    let first : x ≡ y = each 0 x (omega arith) in
    let rest : xs ≡ ys = same_lists xs ys (omega (arith, long)) (λ k d lt. each (suc k) d (omega (arith, lt))) in
    λ i. first i ∷ rest i
