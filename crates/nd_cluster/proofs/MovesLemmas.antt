-- The records of the enabled ones of some steps, step by step.
use Rattle.std.proofs.Common.{◌≡◌, inl, inr, Bool, true, false, not, cond, List, [], ◌∷◌, ◌++◌, map, Some, None, refl, sym, ap, subst, ◌∙◌, append_assoc}
use Rattle.std.proofs.lemmas.List.{append-nil, map-append}
use Rattle.std.proofs.lemmas.List.Elements.{All-nil, All-cons, All-append}
use Rattle.nd_protocol.specs.State.{ClusterState}
use Rattle.nd_protocol.specs.declared.step.Step.{Step}
use Rattle.nd_steps.specs.declared.record.Record.{Record}
use Rattle.nd_cluster.specs.Records.{IsPlanned}
use Rattle.nd_cluster.specs.Choice.{Tries}
use Rattle.nd_cluster.specs.Moves.{AreTheEnabled, ArePlanned, AddsPlanned}

-- ---- tests

pub is_off : (b : Bool) → not b ≡ true → b ≡ false
is_off true h = absurd (cc (h))
is_off false h = refl

pub is_on : (b : Bool) → not b ≡ false → b ≡ true
is_on true h = refl
is_on false h = absurd (cc (h))

-- ---- records

module _ {A : Type 0} (s : ClusterState) where
  -- the enabled ones of two lists, one after the other
  enabled_both : (xs ys es fs : List (Step A)) → AreTheEnabled s xs es → AreTheEnabled s ys fs → AreTheEnabled s (xs ++ ys) (es ++ fs)
  enabled_both [] ys es fs h k = subst (λ (zs : List (Step A)). AreTheEnabled s ys (zs ++ fs)) (sym h) k
  enabled_both (x ∷ xs) ys es fs (inl h) k =
      inl (h.0, (h.1.0 ++ fs, enabled_both xs ys h.1.0 fs h.1.1 k, ap (λ (zs : List (Step A)). zs ++ fs) h.1.2))
  enabled_both (x ∷ xs) ys es fs (inr h) k = inr (h.0, enabled_both xs ys es fs h.1 k)

  steps_of : List (Record A) → List (Step A)
  steps_of rs = map (λ (r : Record A). r.step) rs

  -- nothing is tried
  pub adds_none : (old : List (Record A)) → AddsPlanned s [] old old
  adds_none old = ([], record { steps = refl; each = All-nil (λ (r : Record A). IsPlanned r s) }, sym (append-nil old))

  -- the steps xs are tried, and then the steps ys
  pub adds_both : (old mid new : List (Record A)) (xs ys : List (Step A)) → AddsPlanned s xs old mid → AddsPlanned s ys mid new → AddsPlanned s (xs ++ ys) old new
  unfolding steps_of
  adds_both old mid new xs ys h k =
      let both : AreTheEnabled s (xs ++ ys) (steps_of h.0 ++ steps_of k.0) = enabled_both xs ys (steps_of h.0) (steps_of k.0) h.1.steps k.1.steps in (
        h.0 ++ k.0,
        record {
          steps = subst (AreTheEnabled s (xs ++ ys)) (sym (map-append (λ (r : Record A). r.step) h.0 k.0)) both;
          each = All-append (λ (r : Record A). IsPlanned r s) h.0 k.0 h.1.each k.1.each;
        },
        k.2 ∙ ap (λ (rs : List (Record A)). rs ++ k.0) h.2 ∙ append_assoc old h.0 k.0,
      )

  -- a step is enabled
  pub adds_one : (x : Step A) (r : Record A) (old new : List (Record A)) → Tries s x (Some r) → new ≡ old ++ r ∷ [] → AddsPlanned s (x ∷ []) old new
  adds_one x r old new h is = (
    r ∷ [],
    record {
      steps = inl (h.0, ([], refl, ap (λ (y : Step A). y ∷ []) h.1));
      each = All-cons (λ (r : Record A). IsPlanned r s) r [] h.2 (All-nil (λ (r : Record A). IsPlanned r s));
    },
    is,
  )

  -- a step is refused
  pub adds_refused : (x : Step A) (old : List (Record A)) → Tries {A = A} s x None → AddsPlanned s (x ∷ []) old old
  adds_refused x old h = ([], record { steps = inr (h, refl); each = All-nil (λ (r : Record A). IsPlanned r s) }, sym (append-nil old))

  -- all that is added to an empty list
  pub all_planned : (all : List (Step A)) (new : List (Record A)) → AddsPlanned s all [] new → ArePlanned s all new
  all_planned all new h = subst (ArePlanned s all) (sym h.2) h.1

  -- steps that are tried if a test is true
  pub adds_unless : (b : Bool) (xs : List (Step A)) (old : List (Record A)) → b ≡ false → AddsPlanned s (cond b xs []) old old
  adds_unless b xs old off = subst (λ c. AddsPlanned s (cond c xs []) old old) (sym off) (adds_none old)

  pub adds_if : (b : Bool) (xs : List (Step A)) (old new : List (Record A)) → b ≡ true → AddsPlanned s xs old new → AddsPlanned s (cond b xs []) old new
  adds_if b xs old new on h = subst (λ c. AddsPlanned s (cond c xs []) old new) (sym on) h
