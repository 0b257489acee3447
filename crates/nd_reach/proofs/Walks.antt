-- Walks to the states that a search has found.
use Rattle.std.proofs.Common.{◌≡◌, ◌∙◌, ℕ, ◌<◌, List, [], length, sym, ap, subst, arith, Some, None}
use Rattle.std.specs.Prelude.{Box, slice_get, get_or, IfSome}
use Rattle.std.proofs.lemmas.Option.{slice_get-get_or}
use Rattle.nd_protocol.specs.State.{ClusterState}
use Rattle.nd_protocol.specs.Steps.{stepped, after}
use Rattle.nd_protocol.specs.declared.step.Step.{Step}
use Rattle.nd_steps.specs.declared.record.Record.{Record}
use Rattle.nd_cluster.specs.Records.{IsPlanned, IsCommitted, Leads}
use Rattle.nd_cluster.specs.Saved.{state_in, FitsIn, IsSaved}
use Rattle.nd_cluster.specs.declared.saved.Saved.{Saved}
use Rattle.nd_reach.specs.Found.{IsMade, IsNode, AreFound, StandsAt}
use Rattle.nd_reach.specs.declared.node.Node.{Node}
use Rattle.nd_reach.proofs.Order.{after_snoc}

module _ {A : Type 0} (s : ClusterState) (ways : List (List (Step A))) (forms : List (List ℕ)) (nodes : List (Node A)) (h : AreFound s ways forms nodes) (k : ℕ) (node : Node A)
    (within : k < length nodes) (is : node ≡ get_or nodes k node) where
  there : slice_get nodes k ≡ Some node
  there = slice_get-get_or nodes k node within ∙ ap Some (sym is)

  way : slice_get ways k ≡ Some (get_or ways k [])
  way = slice_get-get_or ways k [] (omega (arith, within, h.many))

  fits : IsNode s ways k (get_or ways k []) node
  fits = h.each k (get_or ways k []) node way there

  pub saved_fits : (v : Box (Saved A) A) → node.saved ≡ Some v → FitsIn s.graph v.value
  saved_fits v some =
      let saved : IfSome (Some v) (λ b. IsSaved (after s (get_or ways k [])) b.value) = subst (λ o. IfSome o (λ b. IsSaved (after s (get_or ways k [])) b.value)) some fits.saved in
      subst (λ g. FitsIn g v.value) (h.alike k (get_or ways k []) way).graph saved.fits

  pub saved_leads : (v : Box (Saved A) A) → node.saved ≡ Some v → (w : List (Step A)) → slice_get ways k ≡ Some w → state_in s.graph v.value ≡ after s w
  saved_leads v some w at =
      let saved : IfSome (Some v) (λ b. IsSaved (after s w) b.value) = subst (λ o. IfSome o (λ b. IsSaved (after s w) b.value)) some (h.each k w node at there).saved in
      ap (λ g. state_in g v.value) (sym (h.alike k w at).graph) ∙ saved.value

  pub start_leads : node.made ≡ None → (w : List (Step A)) → slice_get ways k ≡ Some w → s ≡ after s w
  unfolding after
  start_leads none w at =
      let made : IsMade {A = A} s ways k w node.parent None = subst (IsMade s ways k w node.parent) none (h.each k w node at there).made in
      ap (after s) (sym made)

  pub made_by : (r : Record A) → node.made ≡ Some r → (w : List (Step A)) → slice_get ways k ≡ Some w → IsMade s ways k w node.parent (Some r)
  made_by r some w at = subst (IsMade s ways k w node.parent) some (h.each k w node at there).made

  pub parent_before : (r : Record A) → node.made ≡ Some r → node.parent < k
  parent_before r some = let made = made_by r some (get_or ways k []) way in made.before

  pub planned_there : (r : Record A) → node.made ≡ Some r → (t : ClusterState) → ((w : List (Step A)) → slice_get ways node.parent ≡ Some w → t ≡ after s w) → IsPlanned r t
  planned_there r some t leads =
      let made = made_by r some (get_or ways k []) way in
      subst (IsPlanned r) (sym (leads made.earlier made.there)) made.planned

  pub made_leads : (r : Record A) → node.made ≡ Some r → (t u : ClusterState) → ((w : List (Step A)) → slice_get ways node.parent ≡ Some w → t ≡ after s w) → u ≡ stepped t r.step
      → (w : List (Step A)) → slice_get ways k ≡ Some w → u ≡ after s w
  made_leads r some t u leads step w at =
      let made = made_by r some w at in
      step ∙ (ap (λ (t : ClusterState). stepped t r.step) (leads made.earlier made.there)
      ∙ (sym (after_snoc s made.earlier r.step) ∙ ap (after s) (sym made.longer)))

  led_here : (r : Record A) (some : node.made ≡ Some r) (t : ClusterState) → StandsAt s ways k t → Leads r (after s (made_by r some (get_or ways k []) way).earlier) t
  led_here r some t stands =
      let made = made_by r some (get_or ways k []) way in
      record { planned = made.planned; after = stands (get_or ways k []) way ∙ (ap (after s) made.longer ∙ after_snoc s made.earlier r.step) }

  pub committed_there : (r : Record A) → node.made ≡ Some r → (t : ClusterState) → StandsAt s ways k t → IsCommitted r t
  committed_there r some t stands = record { state = _; leads = led_here r some t stands }

  pub back_leads : (r : Record A) → node.made ≡ Some r → (t u : ClusterState) → StandsAt s ways k t → ((v : ClusterState) → Leads r v t → u ≡ v) → StandsAt s ways node.parent u
  back_leads r some t u stands back w at =
      let made = made_by r some (get_or ways k []) way in
      let same : made.earlier ≡ w = cc (made.there, at) in
      back (after s made.earlier) (led_here r some t stands) ∙ ap (after s) same
