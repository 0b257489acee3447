-- Copies of kept steps: what holds of the steps holds of the copies.
use Rattle.std.proofs.Common.{◌≡◌, ◌<◌, ℕ, zero, suc, ◌+◌, List, [], ◌∷◌, ◌++◌, length, take, get_or, refl, sym, ap, subst, ◌∙◌, arith}
use Rattle.nd_delta.specs.Delta.{DeltaValue, size}
use Rattle.nd_protocol.specs.State.{ClusterState}
use Rattle.nd_protocol.specs.Steps.{after, stepped}
use Rattle.nd_protocol.specs.Enabled.{IsEnabled}
use Rattle.nd_protocol.specs.declared.step.Step.{Step}
use Rattle.nd_steps.specs.Integers.{changed}
use Rattle.nd_steps.specs.Records.{named, named_by, AreEqual, Makes}
use Rattle.nd_steps.specs.Flows.{keyed_flow}
use Rattle.nd_steps.specs.Feeds.{keyed_feed}
use Rattle.nd_steps.specs.declared.fed_at.FedAt.{FedAt}
use Rattle.nd_steps.specs.declared.flow.Flow.{Flow}
use Rattle.nd_steps.specs.declared.record.Record.{Record}
use Rattle.nd_steps.specs.declared.record.Changes.{Changes}
use Rattle.nd_steps.specs.declared.record.Changes.TheVariants.{Each, Flowed, Fed, Sent, Received}
use Rattle.nd_cluster.specs.Records.{shared, IsPlanned}
use Rattle.nd_timeline.specs.Timeline.{TimelineValue}
use Rattle.nd_timeline.specs.Reached.{steps_of, ArePlanned, IsReached, IsCopy, AreCopies}

module _ {A : Type 0} where
  -- equal changes name equally many keys
  names : (x : Step A) (cs ds : Changes A) → AreEqual cs ds → named_by x ds ≡ named_by x cs
  names x (Each cs) (Each ds) is = ap length is
  names x (Flowed f) (Flowed h) is = ap (λ (h : Flow). length (keyed_flow x h)) is
  names x (Fed f) (Fed h) is = ap (λ (h : FedAt). length (keyed_feed x h)) is
  names x (Sent p c) (Sent q d) is = ap (λ (d : DeltaValue). size d + 1) is.1
  names x (Received from to c) (Received k l d) is = ap (λ (d : DeltaValue). size d + 1) is.2
  names x _ _ is = absurd is

  -- a record of the same step is planned wherever r is, if it names as much and leads where r leads
  pub likewise_planned : (s : ClusterState) (r q : Record A) → q.step ≡ r.step → named q ≡ named r → (Makes s r (stepped s r.step) → Makes s q (stepped s r.step)) → IsPlanned r s → IsPlanned q s
  likewise_planned s r q step count makes h =
      let same : r.step ≡ q.step = sym step in
      record {
        state = h.state;
        enabled = subst (λ (x : Step A). IsEnabled s x) same h.enabled;
        makes = subst (λ (x : Step A). Makes s q (stepped s x)) same (makes h.makes);
        small = subst (λ (x : Step A). named q + shared s x ≡ changed s (stepped s x)) same (ap (λ n. n + shared s r.step) count ∙ h.small);
      }

  -- a copy is planned wherever the record is
  pub copy_planned : (s : ClusterState) (r q : Record A) → q.step ≡ r.step → AreEqual r.changes q.changes → (Makes s r (stepped s r.step) → Makes s q (stepped s r.step)) → IsPlanned r s → IsPlanned q s
  copy_planned s r q step equal makes h =
      let count : named q ≡ named r = ap (λ (x : Step A). named_by x q.changes) step ∙ names r.step r.changes q.changes equal in
      likewise_planned s r q step count makes h

  planned_copies : (s : ClusterState) (rs qs : List (Record A)) → AreCopies rs qs → ArePlanned s rs → ArePlanned s qs
  planned_copies s [] [] is h = tt
  planned_copies s [] (q ∷ qs) is h = absurd is
  planned_copies s (r ∷ rs) [] is h = absurd is
  planned_copies s (r ∷ rs) (q ∷ qs) is h =
      (is.0.planned s h.0, subst (λ (x : Step A). ArePlanned (stepped s x) qs) (sym is.0.step) (planned_copies (stepped s r.step) rs qs is.1 h.1))

  pub same_steps : (rs qs : List (Record A)) → AreCopies rs qs → steps_of qs ≡ steps_of rs
  same_steps [] [] is = refl
  same_steps [] (q ∷ qs) is = absurd is
  same_steps (r ∷ rs) [] is = absurd is
  same_steps (r ∷ rs) (q ∷ qs) is = ap (λ (x : Step A). x ∷ steps_of qs) is.0.step ∙ ap (λ (xs : List (Step A)). r.step ∷ xs) (same_steps rs qs is.1)

  same_length : (rs qs : List (Record A)) → AreCopies rs qs → length qs ≡ length rs
  same_length [] [] is = refl
  same_length [] (q ∷ qs) is = absurd is
  same_length (r ∷ rs) [] is = absurd is
  same_length (r ∷ rs) (q ∷ qs) is = omega (arith, same_length rs qs is.1)

  -- what holds of a timeline holds of its copy
  pub reached_copy : (base cluster b k : ClusterState) (rs qs : List (Record A)) (n : ℕ) → IsReached base cluster rs n → b ≡ base → k ≡ cluster → AreCopies rs qs → IsReached b k qs n
  reached_copy base cluster b k rs qs n was same here copies =
      let count : length qs ≡ length rs = same_length rs qs copies in
      rw (same, here) (record {
        within = omega (arith, count, was.within);
        few = omega (arith, count, was.few);
        reached = was.reached ∙ ap (λ (xs : List (Step A)). after base (take n xs)) (sym (same_steps rs qs copies));
        planned = planned_copies base rs qs copies was.planned;
      })

  pub same_value : (base b : ClusterState) (rs qs : List (Record A)) (n : ℕ) (m : TimelineValue A) → b ≡ base → AreCopies rs qs → record { base = base; kept = steps_of rs; cursor = n } ≡ m → record { base = b; kept = steps_of qs; cursor = n } ≡ m
  same_value base b rs qs n m same copies is =
      let steps : steps_of qs ≡ steps_of rs = same_steps rs qs copies in
      rw (same, steps) is

  -- one more record is copied
  pub copied_next : (i : ℕ) (rs qs : List (Record A)) (d q : Record A) → i < length rs → AreCopies (take i rs) qs → IsCopy (get_or rs i d) q → AreCopies (take (suc i) rs) (qs ++ q ∷ [])
  copied_next i [] qs d q lt is copy = absurd (omega arith)
  copied_next zero (r ∷ rs) [] d q lt is copy = (copy, tt)
  copied_next zero (r ∷ rs) (p ∷ qs) d q lt is copy = absurd is
  copied_next (suc i) (r ∷ rs) [] d q lt is copy = absurd is
  copied_next (suc i) (r ∷ rs) (p ∷ qs) d q lt is copy = (is.0, copied_next i rs qs d q (omega arith) is.1 copy)
