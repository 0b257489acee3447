-- A run, step by step.
use Rattle.std.proofs.Common.{◌≡◌, inl, inr, ℕ, ◌+◌, List, [], ◌∷◌, Option, Some, None, refl, sym, ap, subst, ◌∙◌, add-one, arith}
use Rattle.std.specs.Prelude.{Contains}
use Rattle.std.proofs.lemmas.List.Elements.{Contains-append_left, Contains-append_right, Contains-push}
use Rattle.nd_protocol.specs.State.{ClusterState}
use Rattle.nd_protocol.specs.Enabled.{IsEnabled}
use Rattle.nd_protocol.specs.declared.step.Step.{Step}
use Rattle.nd_cluster.specs.Choice.{Chooses, candidates_from, candidates_by}
use Rattle.nd_cluster.specs.Order.{IsNext, ChoiceIsFirst}
use Rattle.nd_breaks.specs.Breaks.{BreakMap, NoHit}
use Rattle.nd_timeline.specs.Timeline.{TimelineValue, cluster_of}
use Rattle.nd_machine.specs.Seeds.{mix, IsChosen}
use Rattle.nd_machine.specs.Moves.{HasRun, Goes}

pub one_choice : {A : Type 0} (s : ClusterState) (xs : List (Step A)) (choice other : Option (Step A)) → Chooses s xs choice → Chooses s xs other → choice ≡ other
one_choice s [] choice other h k = h ∙ sym k
one_choice s (x ∷ xs) choice other (inl h) (inl k) = h.1 ∙ sym k.1
one_choice s (x ∷ xs) choice other (inl h) (inr k) = absurd (k.0 h.0)
one_choice s (x ∷ xs) choice other (inr h) (inl k) = absurd (h.0 k.0)
one_choice s (x ∷ xs) choice other (inr h) (inr k) = one_choice s xs choice other h.1 k.1

-- the choice is one of the steps
pub chosen_contained : {A : Type 0} (s : ClusterState) (xs : List (Step A)) (x : Step A) → Chooses s xs (Some x) → Contains xs x
chosen_contained s [] x h = absurd (cc (h))
chosen_contained s (y ∷ xs) x (inl h) = let same : y ≡ x = cc (h.1) in subst (Contains (y ∷ xs)) same (Contains-append_left (y ∷ []) xs y (Contains-push [] y))
chosen_contained s (y ∷ xs) x (inr h) = Contains-append_right (y ∷ []) xs x (chosen_contained s xs x h.1)

pub chosen_enabled : {A : Type 0} (s : ClusterState) (xs : List (Step A)) (x : Step A) → Chooses s xs (Some x) → IsEnabled s x
chosen_enabled s [] x h = absurd (cc (h))
chosen_enabled s (y ∷ xs) x (inl h) = let same : y ≡ x = cc (h.1) in subst (IsEnabled s) same h.0
chosen_enabled s (y ∷ xs) x (inr h) = chosen_enabled s xs x h.1

pub goes_enabled : {A : Type 0} (only : Option (List ℕ)) (seed : Option ℕ) (m new : TimelineValue A) (x : Step A) → Goes only seed m x new → IsEnabled (cluster_of m) x
goes_enabled only seed m new x h = by seed h.chosen
  where
    by : (lot : Option ℕ) → IsChosen (cluster_of m) m.cursor only lot (Some x) → IsEnabled (cluster_of m) x
    by None is = is.enabled
    by (Some given) is = chosen_enabled (cluster_of m) (candidates_by (cluster_of m) (mix given m.cursor) only) x is

-- there is one choice for each state, cursor, list of processors and seed
pub one_chosen : {A : Type 0} → ChoiceIsFirst A → (s : ClusterState) (cursor : ℕ) (only : Option (List ℕ)) (seed : Option ℕ) (choice other : Option (Step A))
    → IsChosen s cursor only seed choice → IsChosen s cursor only seed other → choice ≡ other
one_chosen law s cursor only None choice other h k = one_choice s (candidates_from s cursor only) choice other ((law s cursor only choice).1 h) ((law s cursor only other).1 k)
one_chosen law s cursor only (Some given) choice other h k = one_choice s (candidates_by s (mix given cursor) only) choice other h k

-- ---- the steps that a run tries

module _ {A : Type 0} (s k : ClusterState) (cursor at : ℕ) (only : Option (List ℕ)) (seed : Option ℕ) (choice : Option (Step A)) (is : k ≡ s) (here : at ≡ cursor) where
  pub by_turn : seed ≡ None → IsNext k at only choice → IsChosen s cursor only seed choice
  by_turn none h =
      subst (λ (o : Option ℕ). IsChosen s cursor only o choice) (sym none)
      (subst (λ (n : ℕ). IsNext s n only choice) here (subst (λ (q : ClusterState). IsNext q at only choice) is h))

  pub by_lot : (given lot : ℕ) → seed ≡ Some given → lot ≡ mix given at → Chooses k (candidates_by k lot only) choice → IsChosen s cursor only seed choice
  by_lot given lot some drawn h =
      subst (λ (o : Option ℕ). IsChosen s cursor only o choice) (sym some)
      (subst (λ (n : ℕ). Chooses s (candidates_by s n only) choice) (drawn ∙ ap (mix given) here) (subst (λ (q : ClusterState). Chooses q (candidates_by q lot only) choice) is h))

-- ---- runs

module _ {A : Type 0} (only : Option (List ℕ)) (seed : Option ℕ) (breaks : BreakMap) where
  pub not_run : (m : TimelineValue A) → HasRun only seed breaks 0 m m
  unfolding HasRun
  not_run m = refl

  -- one more step, after which the run did not stop
  pub run_on : (n : ℕ) (m mid new : TimelineValue A) (x : Step A) → HasRun only seed breaks n m mid → Goes only seed mid x new → NoHit breaks (cluster_of new) → HasRun only seed breaks (n + 1) m new
  unfolding HasRun
  run_on n m mid new x earlier last no_hit = subst (λ k. HasRun only seed breaks k m new) (sym (add-one n)) (record { mid = mid; step = x; earlier = earlier; last = last; no_hit = no_hit })

pub next_cursor : (a b n : ℕ) → a ≡ b + n → a + 1 ≡ b + (n + 1)
next_cursor a b n is = omega (arith, is)
