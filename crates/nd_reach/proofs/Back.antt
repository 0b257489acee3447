-- A way, read from its last step back to the start.
use Rattle.std.proofs.Common.{◌≡◌, ◌∙◌, ℕ, ◌<◌, List, [], ◌∷◌, ◌++◌, length, reverse, sym, ap, subst, append_assoc, Some, None}
use Rattle.std.specs.Prelude.{slice_get, get_or}
use Rattle.std.proofs.lemmas.List.{append-nil, reverse-append}
use Rattle.std.proofs.lemmas.Option.{slice_get-get_or}
use Rattle.nd_protocol.specs.State.{ClusterState}
use Rattle.nd_protocol.specs.declared.step.Step.{Step}
use Rattle.nd_steps.specs.declared.record.Record.{Record}
use Rattle.nd_reach.specs.Found.{IsMade, AreFound}
use Rattle.nd_reach.specs.declared.node.Node.{Node}
use Rattle.nd_reach.proofs.Walks.{made_by, parent_before}

-- the steps after the way at the place `at`, the last one first, are those of the way at the place k
abbrev pub LeadsTo : {A : Type 0} → List (Node A) → ℕ → ℕ → List (Step A) → Type 0
LeadsTo {A} nodes k at steps =
    (s : ClusterState) (ways : List (List (Step A))) (forms : List (List ℕ)) (w : List (Step A)) → AreFound s ways forms nodes → slice_get ways k ≡ Some w
    → (u : List (Step A)) × (slice_get ways at ≡ Some u) × (w ≡ u ++ reverse steps)

module _ {A : Type 0} (nodes : List (Node A)) (k : ℕ) where
  pub leads_start : LeadsTo nodes k k []
  leads_start s ways forms w found is = (w, is, sym (append-nil w))

  module _ (at : ℕ) (steps : List (Step A)) (h : LeadsTo nodes k at steps) (node : Node A) (within : at < length nodes) (is : node ≡ get_or nodes at node) where
    pub leads_back : (r : Record A) (x : Step A) → node.made ≡ Some r → x ≡ r.step → LeadsTo nodes k node.parent (steps ++ x ∷ [])
    leads_back r x made same s ways forms w found there =
        let before = h s ways forms w found there in
        let m = made_by s ways forms nodes found at node within is r made before.0 before.1 in (
          m.earlier,
          m.there,
          before.2 ∙ (ap (λ u. u ++ reverse steps) m.longer ∙ (append_assoc m.earlier (r.step ∷ []) (reverse steps)
              ∙ (ap (λ y. m.earlier ++ y ∷ reverse steps) (sym same) ∙ sym (ap (λ ys. m.earlier ++ ys) (reverse-append steps (x ∷ [])))))),
        )

    pub leads_end : node.made ≡ None → (s : ClusterState) (ways : List (List (Step A))) (forms : List (List ℕ)) (w : List (Step A)) → AreFound s ways forms nodes
        → slice_get ways k ≡ Some w → reverse steps ≡ w
    leads_end none s ways forms w found there =
        let before = h s ways forms w found there in
        let nothing : IsMade {A = A} s ways at before.0 node.parent None =
        subst (IsMade s ways at before.0 node.parent) none (found.each at before.0 node before.1 (there_at nodes at node within is)).made in
        sym (before.2 ∙ ap (λ u. u ++ reverse steps) nothing)
      where
        there_at : (nodes : List (Node A)) (at : ℕ) (node : Node A) → at < length nodes → node ≡ get_or nodes at node → slice_get nodes at ≡ Some node
        there_at nodes at node within is = slice_get-get_or nodes at node within ∙ ap Some (sym is)

    pub parent_of : (r : Record A) → node.made ≡ Some r → (s : ClusterState) (ways : List (List (Step A))) (forms : List (List ℕ)) → AreFound s ways forms nodes → node.parent < at
    parent_of r made s ways forms found = parent_before s ways forms nodes found at node within is r made

-- what is read twice at one place is one node
pub one_node : {A : Type 0} (nodes : List (Node A)) (at : ℕ) (a b : Node A) → at < length nodes → a ≡ get_or nodes at a → b ≡ get_or nodes at b → a ≡ get_or nodes at b
one_node nodes at a b within ha hb =
    let there : Some a ≡ Some b = ap Some ha ∙ (sym (slice_get-get_or nodes at a within) ∙ (slice_get-get_or nodes at b within ∙ ap Some (sym hb))) in
    let same : a ≡ b = cc (there) in
    same ∙ hb
