-- The moves of a state: the enabled candidates, and those feeds and releases that a question lets users make.
use Rattle.std.specs.Prelude.{◌≡◌, ◌⊎◌, ℕ, if◌then◌else◌, List, [], ◌∷◌, ◌++◌, length, map, None, All}
use Rattle.std.specs.List.{flat_map, range_with_len}
use Rattle.std.specs.FinMap as fin
use Rattle.nd_graph.specs.Graph.{op_at}
use Rattle.nd_graph.specs.Operators.{facts}
use Rattle.nd_paths.specs.declared.point.Pointstamp.{Pointstamp}
use Rattle.nd_protocol.specs.State.{ClusterState, processor}
use Rattle.nd_protocol.specs.Enabled.{IsEnabled}
use Rattle.nd_protocol.specs.declared.step.Step.{Step}
use Rattle.nd_protocol.specs.declared.step.Step.TheVariants.{Feed, Release}
use Rattle.nd_protocol.specs.declared.step.Next.TheVariants.{Next, Close}
use Rattle.nd_steps.specs.declared.record.Record.{Record}
use Rattle.nd_cluster.specs.Candidates.{candidates}
use Rattle.nd_cluster.specs.Records.{IsPlanned}
use Rattle.nd_cluster.specs.declared.moves.Allowed.{Allowed}

-- ---- feeds

-- the feeds of nothing into an input: one moves the token to the next epoch, one closes the input
abbrev pub feeds_into : {A : Type 0} → ℕ → ℕ → List (Step A)
feeds_into p vertex = Feed p vertex [] Next ∷ Feed p vertex [] Close ∷ []

-- the feeds of nothing of processor p into a vertex; none unless the vertex is an input
abbrev pub feeds_at : {A : Type 0} → ClusterState → ℕ → ℕ → List (Step A)
feeds_at s p vertex = if (facts (op_at s.graph vertex)).fed then feeds_into p vertex else []

-- the feeds of nothing of processor p, by input in the order of listing
abbrev pub feeds_of : {A : Type 0} → ClusterState → ℕ → List (Step A)
feeds_of s p = flat_map (feeds_at s p) (range_with_len 0 (length s.graph.vertices))

-- the feeds of nothing, by processor and then by input
abbrev pub feeds : {A : Type 0} → ClusterState → List (Step A)
feeds s = flat_map (feeds_of s) (range_with_len 0 (length s.processors))

-- ---- releases

-- the release that drops the capability that processor p holds at a pointstamp; none if the vertex does not hold capabilities
abbrev pub releases_at : {A : Type 0} → ClusterState → ℕ → Pointstamp → List (Step A)
releases_at s p x =
    if (facts (op_at s.graph x.location)).holds then Release p x.location (record { time = x.time; to = None }) ∷ [] else []

abbrev pub releases_of : {A : Type 0} → ClusterState → ℕ → List (Step A)
releases_of s p = flat_map (λ e. releases_at s p e.0) (fin.entries (processor s p).requests)

-- the releases that drop a capability, by processor and then in the order in which requests are listed
abbrev pub releases : {A : Type 0} → ClusterState → List (Step A)
releases s = flat_map (releases_of s) (range_with_len 0 (length s.processors))

-- ---- moves

-- the feeds of nothing if a question allows feeds; otherwise none
abbrev pub feeds_if : {A : Type 0} → Allowed → ClusterState → List (Step A)
feeds_if allowed s = if allowed.feeds then feeds s else []

-- the releases that drop a capability if a question allows releases; otherwise none
abbrev pub releases_if : {A : Type 0} → Allowed → ClusterState → List (Step A)
releases_if allowed s = if allowed.releases then releases s else []

-- the steps that are moves if they are enabled: the candidates, then feeds and then releases if they are allowed
abbrev pub tries : {A : Type 0} → Allowed → ClusterState → List (Step A)
tries allowed s = candidates s ++ (feeds_if allowed s ++ releases_if allowed s)

-- `enabled` has those of the steps `all` that are enabled, in the same order
abbrev pub AreTheEnabled : {A : Type 0} → ClusterState → List (Step A) → List (Step A) → Type 0
AreTheEnabled s [] enabled = enabled ≡ []
AreTheEnabled {A} s (x ∷ all) enabled =
    (IsEnabled s x × ((others : List (Step A)) × AreTheEnabled s all others × (enabled ≡ x ∷ others)))
    ⊎ ((IsEnabled s x → ⊥) × AreTheEnabled s all enabled)

-- these steps are the moves of a state, in order
abbrev pub AreMoves : {A : Type 0} → Allowed → ClusterState → List (Step A) → Type 0
AreMoves allowed s moves = AreTheEnabled s (tries allowed s) moves

-- ---- their records

-- the records of the enabled ones of the steps `all`, in the same order
pub record ArePlanned {A : Type 0} (s : ClusterState) (all : List (Step A)) (planned : List (Record A)) : Type 0 where
  pub steps : AreTheEnabled s all (map (λ (r : Record A). r.step) planned)
  pub each : All (λ (r : Record A). IsPlanned r s) planned

-- `new` has the records in `old`, and then those of the enabled ones of the steps `all`
abbrev pub AddsPlanned : {A : Type 0} → ClusterState → List (Step A) → List (Record A) → List (Record A) → Type 0
AddsPlanned {A} s all old new = (added : List (Record A)) × ArePlanned s all added × (new ≡ old ++ added)
