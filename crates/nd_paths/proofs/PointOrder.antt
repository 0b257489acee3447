-- The order of the points of a graph is that of times at its locations.
use Rattle.std.proofs.Common.{◌≡◌, ◌⊎◌, inl, inr, ℕ, sym, subst}
use Rattle.nd_time.specs.Time.{Time}
use Rattle.nd_graph.specs.Graph.{Dataflow}
use Rattle.nd_summaries.specs.Walk.{LeadsBefore}
use Rattle.nd_paths.specs.declared.point.Pointstamp.{Pointstamp}
use Rattle.nd_paths.specs.Order.{Fits, CouldResultIn, IsStrictlyBefore}

pub leads_from_could : (g : Dataflow) (s t : Pointstamp) → CouldResultIn g s t → LeadsBefore g.order g s.location s.time t.location t.time
leads_from_could g s t h =
    record { depth_s = h.fits_s.depth; depth_t = h.fits_t.depth; walk = h.walk; leads = h.leads; before = h.before }

pub could_from_leads : (g : Dataflow) (s t : Pointstamp) → LeadsBefore g.order g s.location s.time t.location t.time → CouldResultIn g s t
could_from_leads g s t h = record {
  fits_s = record { depth = h.depth_s };
  fits_t = record { depth = h.depth_t };
  walk = h.walk;
  leads = h.leads;
  before = h.before;
}

module _ (g : Dataflow) (trans : (k l m : ℕ) (s t u : Time) → LeadsBefore g.order g k s l t → LeadsBefore g.order g l t m u → LeadsBefore g.order g k s m u) where
  pub could_trans : (s t u : Pointstamp) → CouldResultIn g s t → CouldResultIn g t u → CouldResultIn g s u
  could_trans s t u h k =
      could_from_leads g s u (trans s.location t.location u.location s.time t.time u.time (leads_from_could g s t h) (leads_from_could g t u k))

module _ (g : Dataflow) (antisym : (k l : ℕ) (s t : Time) → LeadsBefore g.order g k s l t → LeadsBefore g.order g l t k s → (k ≡ l) × (s ≡ t)) where
  pub could_antisym : (s t : Pointstamp) → CouldResultIn g s t → CouldResultIn g t s → s ≡ t
  could_antisym s t h k =
      let (place, time) = antisym s.location t.location s.time t.time (leads_from_could g s t h) (leads_from_could g t s k) in
      λ i. record { location = place i; time = time i }

-- of two points the first could result in the second, or it could not
pub could_or_not : (g : Dataflow) → ((k l : ℕ) (s t : Time) → LeadsBefore g.order g k s l t ⊎ (LeadsBefore g.order g k s l t → ⊥)) → (s t : Pointstamp) → CouldResultIn g s t ⊎ (CouldResultIn g s t → ⊥)
could_or_not g dec s t =
    elim (dec s.location t.location s.time t.time) [ inl p ↦ inl (could_from_leads g s t p) | inr n ↦ inr (λ h. n (leads_from_could g s t h)) ]

-- ---- the strict order

module _ (g : Dataflow) (trans : (s t u : Pointstamp) → CouldResultIn g s t → CouldResultIn g t u → CouldResultIn g s u) (antisym : (s t : Pointstamp) → CouldResultIn g s t → CouldResultIn g t s → s ≡ t) where
  pub strictly_trans : (s t u : Pointstamp) → IsStrictlyBefore g s t → IsStrictlyBefore g t u → IsStrictlyBefore g s u
  strictly_trans s t u p q =
      (trans s t u p.0 q.0, λ e. p.1 (antisym s t p.0 (subst (λ v. CouldResultIn g t v) (sym e) q.0)))

module _ (g : Dataflow) (refl' : (s : Pointstamp) → Fits g s → CouldResultIn g s s) (antisym : (s t : Pointstamp) → CouldResultIn g s t → CouldResultIn g t s → s ≡ t) (dec : (s t : Pointstamp) → CouldResultIn g s t ⊎ (CouldResultIn g s t → ⊥)) where
  pub strictly_or_not : (s t : Pointstamp) → IsStrictlyBefore g s t ⊎ (IsStrictlyBefore g s t → ⊥)
  strictly_or_not s t =
      elim (dec s t) [
        | inl p ↦ elim (dec t s) [
          | inl q ↦ inr (λ k. k.1 (antisym s t p q))
          | inr none ↦ inl (p, λ e. none (subst (λ v. CouldResultIn g v s) e (refl' s p.fits_s)))
        ]
        | inr none ↦ inr (λ k. none k.0)
      ]
