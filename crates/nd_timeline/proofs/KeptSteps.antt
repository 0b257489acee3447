-- Kept steps: one more at the end, a prefix of them, and the step at a position.
use Rattle.std.proofs.Common.{◌≡◌, ◌<◌, ◌≤◌, ℕ, zero, suc, ◌+◌, List, [], ◌∷◌, ◌++◌, length, take, get_or, refl, sym, ap, subst, ◌∙◌, arith, add-one, length-append}
use Rattle.std.proofs.lemmas.List.{length-map, length-take-le, map-append, take-map, take_all}
use Rattle.nd_time.specs.Limits.{max_kept}
use Rattle.nd_protocol.specs.State.{ClusterState}
use Rattle.nd_protocol.specs.Steps.{after, stepped}
use Rattle.nd_protocol.specs.Enabled.{AreEnabled}
use Rattle.nd_protocol.specs.Invariant.{KeepsProtocol}
use Rattle.nd_protocol.specs.Laws.{StepKeepsProtocol}
use Rattle.nd_protocol.specs.declared.step.Step.{Step}
use Rattle.nd_steps.specs.declared.record.Record.{Record}
use Rattle.nd_cluster.specs.Records.{IsPlanned, Leads}
use Rattle.nd_timeline.specs.Timeline.{TimelineValue, cluster_of, moved_to, IsTimeline}
use Rattle.nd_timeline.specs.Reached.{steps_of, ArePlanned, IsReached}
use Rattle.nd_timeline.specs.Moves.{JumpMoves}
use Rattle.nd_timeline.specs.Walks.{timeline_at, IsOn}
use Rattle.nd_replies.specs.declared.reply.Reply.TheVariants.{Moved}
use Rattle.nd_timeline.specs.declared.walk.Kept.{Kept}
use Rattle.nd_timeline.specs.declared.walk.Walk.{Walk}

module _ {A : Type 0} where
  pub after-push : (s : ClusterState) (xs : List (Step A)) (x : Step A) → after s (xs ++ x ∷ []) ≡ stepped (after s xs) x
  unfolding after
  after-push s [] x = refl
  after-push s (y ∷ xs) x = after-push (stepped s y) xs x

  pub steps_of-push : (rs : List (Record A)) (r : Record A) → steps_of (rs ++ r ∷ []) ≡ steps_of rs ++ r.step ∷ []
  steps_of-push rs r = map-append (λ x. x.step) rs (r ∷ [])

  pub steps_of-take : (n : ℕ) (rs : List (Record A)) → steps_of (take n rs) ≡ take n (steps_of rs)
  steps_of-take n rs = sym (take-map (λ x. x.step) n rs)

  pub planned-take : (s : ClusterState) (n : ℕ) (rs : List (Record A)) → ArePlanned s rs → ArePlanned s (take n rs)
  planned-take s zero rs h = tt
  planned-take s (suc n) [] h = tt
  planned-take s (suc n) (r ∷ rs) h = (h.0, planned-take (stepped s r.step) n rs h.1)

  pub planned-push : (s : ClusterState) (rs : List (Record A)) (r : Record A) → ArePlanned s rs → IsPlanned r (after s (steps_of rs)) → ArePlanned s (rs ++ r ∷ [])
  unfolding after
  planned-push s [] r h p = (p, tt)
  planned-push s (q ∷ rs) r h p = (h.0, planned-push (stepped s q.step) rs r h.1 p)

  -- a step was planned in the state to which the steps before it lead
  pub planned-at : (s : ClusterState) (rs : List (Record A)) (i : ℕ) (d : Record A) → i < length rs → ArePlanned s rs → IsPlanned (get_or rs i d) (after s (take i (steps_of rs)))
  unfolding after
  planned-at s [] i d lt h = absurd (omega arith)
  planned-at s (r ∷ rs) zero d lt h = h.0
  planned-at s (r ∷ rs) (suc i) d lt h = planned-at (stepped s r.step) rs i d (omega arith) h.1

  -- one more kept step
  pub after-take : (s : ClusterState) (rs : List (Record A)) (i : ℕ) (d : Record A) → i < length rs → after s (take (suc i) (steps_of rs)) ≡ stepped (after s (take i (steps_of rs))) (get_or rs i d).step
  unfolding after
  after-take s [] i d lt = absurd (omega arith)
  after-take s (r ∷ rs) zero d lt = refl
  after-take s (r ∷ rs) (suc i) d lt = after-take (stepped s r.step) rs i d (omega arith)

  -- planned steps keep the protocol invariant
  pub protocol-after : StepKeepsProtocol A → (s : ClusterState) (n : ℕ) (rs : List (Record A)) → KeepsProtocol s → ArePlanned s rs → KeepsProtocol (after s (take n (steps_of rs)))
  unfolding after
  protocol-after law s zero rs was h = was
  protocol-after law s (suc n) [] was h = was
  protocol-after law s (suc n) (r ∷ rs) was h = protocol-after law (stepped s r.step) n rs (law s r.step h.0.state h.0.enabled was) h.1

  -- planned steps are enabled in the state to which the steps before them lead
  pub enabled-steps : (s : ClusterState) (rs : List (Record A)) → ArePlanned s rs → AreEnabled s (steps_of rs)
  enabled-steps s [] h = tt
  enabled-steps s (r ∷ rs) h = (h.0.enabled, enabled-steps (stepped s r.step) rs h.1)

  -- ---- what the calls of a timeline preserve

  pub still_kept : StepKeepsProtocol A → (base cluster : ClusterState) (rs : List (Record A)) (n : ℕ) → IsReached base cluster rs n → KeepsProtocol base → KeepsProtocol cluster
  still_kept law base cluster rs n was protocol = subst KeepsProtocol (sym was.reached) (protocol-after law base n rs protocol was.planned)

  pub is_timeline : (base cluster : ClusterState) (rs : List (Record A)) (n : ℕ) → IsReached base cluster rs n → IsTimeline (record { base = base; kept = steps_of rs; cursor = n })
  is_timeline base cluster rs n was =
      let same : length (steps_of rs) ≡ length rs = length-map rs (λ r. r.step) in
      record { within = omega (arith, same, was.within); few = omega (arith, same, was.few); enabled = enabled-steps base rs was.planned }

  pub begun : (s : ClusterState) (rs : List (Record A)) → rs ≡ [] → (b : ClusterState) → b ≡ s → IsReached b s rs 0
  unfolding after
  begun s rs is b same = rw is (record { within = omega arith; few = omega arith; reached = sym same; planned = tt })

  -- a step is executed at the cursor
  pub extends : (base cluster next : ClusterState) (rs : List (Record A)) (n : ℕ) (r : Record A) → IsReached base cluster rs n → n < max_kept → IsPlanned r cluster → next ≡ stepped cluster r.step
      → IsReached base next (take n rs ++ r ∷ []) (n + 1)
  extends base cluster next rs n r was room made leads =
      let front : List (Record A) = take n rs in
      let count : length front ≡ n = length-take-le n rs was.within in
      let more : length (front ++ r ∷ []) ≡ n + 1 = omega (arith, length-append front (r ∷ []), count) in
      let steps : steps_of front ≡ take n (steps_of rs) = steps_of-take n rs in
      let at_cursor : cluster ≡ after base (steps_of front) = was.reached ∙ ap (after base) (sym steps) in
      let all : take (n + 1) (steps_of (front ++ r ∷ [])) ≡ steps_of (front ++ r ∷ []) = take_all (n + 1) (steps_of (front ++ r ∷ [])) (omega (arith, length-map (front ++ r ∷ []) (λ x. x.step), more)) in
      record {
        within = omega (arith, more);
        few = omega (arith, more);
        reached = leads ∙ ap (λ s. stepped s r.step) at_cursor ∙ sym (after-push base (steps_of front) r.step) ∙ ap (after base) (sym (steps_of-push front r)) ∙ ap (after base) (sym all);
        planned = planned-push base front r (planned-take base n rs was.planned) (subst (λ (s : ClusterState). IsPlanned r s) at_cursor made);
      }

  -- the cluster is that of the timeline's value
  pub seen : (base cluster : ClusterState) (rs : List (Record A)) (n : ℕ) (m : TimelineValue A) → IsReached base cluster rs n → record { base = base; kept = steps_of rs; cursor = n } ≡ m → cluster ≡ cluster_of m
  seen base cluster rs n m was is = was.reached ∙ ap cluster_of is

  -- the record of a kept step leads from its position to the next
  pub kept_at : (base : ClusterState) (rs : List (Record A)) (i : ℕ) (d : Record A) → i < length rs → ArePlanned base rs
      → Leads (get_or rs i d) (after base (take i (steps_of rs))) (after base (take (i + 1) (steps_of rs)))
  kept_at base rs i d lt planned =
      record { planned = planned-at base rs i d lt planned; after = ap (λ k. after base (take k (steps_of rs))) (add-one i) ∙ after-take base rs i d lt }

  -- ---- walks

  -- the cluster of a walk on a timeline is the one that the kept steps lead to
  pub walk_reached : (k : Kept A) (cluster : ClusterState) (n : ℕ) (m : TimelineValue A) (w : Walk A) → IsReached k.base cluster k.steps.items n → timeline_at k n ≡ m → IsOn m w
      → IsReached k.base w.cluster k.steps.items w.at
  walk_reached k cluster n m w was is on =
      let here : IsOn (timeline_at k n) w = subst (λ (m : TimelineValue A). IsOn m w) (sym is) on in
      record { within = omega (arith, here.within, length-map k.steps.items (λ r. r.step)); few = was.few; reached = here.cluster; planned = was.planned }

  pub walk_is_on : (k : Kept A) (n : ℕ) (m : TimelineValue A) (w : Walk A) → timeline_at k n ≡ m → IsReached k.base w.cluster k.steps.items w.at → IsOn m w
  walk_is_on k n m w is was =
      subst (λ (m : TimelineValue A). IsOn m w) is (record { within = omega (arith, was.within, length-map k.steps.items (λ r. r.step)); cluster = was.reached })

  -- a timeline that takes the cluster of a walk has jumped to the walk's position
  pub landed_moves : (k : Kept A) (at n : ℕ) (m : TimelineValue A) (w : Walk A) → timeline_at k at ≡ m → IsOn m w → w.at ≡ n
      → JumpMoves m n (Moved w.at (length (steps_of k.steps.items))) (timeline_at k w.at)
  landed_moves k at n m w is on there =
      let here : IsOn (timeline_at k at) w = subst (λ (m : TimelineValue A). IsOn m w) (sym is) on in
      let within : n ≤ length (steps_of k.steps.items) = omega (arith, here.within, there) in
      let new : TimelineValue A = timeline_at k w.at in
      subst (λ (m : TimelineValue A). JumpMoves m n (Moved w.at (length (steps_of k.steps.items))) new) is (within, there, refl, ap (timeline_at k) there)

  -- a walk that begins at a checkpoint is on the timeline
  pub begins_on : (k : Kept A) (n : ℕ) (m : TimelineValue A) (w : Walk A) → timeline_at k n ≡ m → w.at ≤ length k.steps.items → w.cluster ≡ after k.base (take w.at (steps_of k.steps.items)) → IsOn m w
  begins_on k n m w is within cluster =
      subst (λ (m : TimelineValue A). IsOn m w) is (record { within = omega (arith, within, length-map k.steps.items (λ r. r.step)); cluster = cluster })

  -- the cluster at position 0 is the base
  pub at_start : (m : TimelineValue A) → cluster_of (moved_to m 0) ≡ m.base
  unfolding after
  at_start m = refl
