-- What an enabled step finds; and that it leads from a state to a state.
use Rattle.std.proofs.Common.{◌≡◌, ◌⊎◌, inl, inr, ℕ, ℤ, pos, List, zero, suc, ◌<◌, ◌≤◌, length, Bool, true, false, cond, Option, Some, None, refl, sym, subst, arith}
use Rattle.std.proofs.lemmas.Bool.{true_from_ne_false}
use Rattle.std.proofs.lemmas.List.{get_or_default}
use Rattle.std.specs.Prelude.{All}
use Rattle.std.specs.FinMap as fin
use Rattle.nd_time.specs.Limits.{max_count, max_counter, max_processors, max_queue}
use Rattle.nd_processor.specs.State.{idle}
use Rattle.nd_delta.specs.Delta.{DeltaValue, at, part, at-part, has_point}
use Rattle.nd_protocol.specs.State.{ClusterState, processor, queue}
use Rattle.nd_protocol.specs.Exchange.{IsPart}
use Rattle.nd_protocol.specs.declared.part.Part.{Part}
use Rattle.nd_protocol.specs.declared.part.Part.TheVariants.{All as Whole, Points}
use Rattle.nd_protocol.specs.Steps.{chosen, epoch_of, take_outcome, stepped}
use Rattle.nd_protocol.specs.Fitting.{ProcessorIsWithin, IsWithinLimits, IsState}
use Rattle.nd_protocol.specs.Enabled.{HasLargeCount, of_record, of_sink, HasLargeEntry, of_unsent, of_view, GoesBack, HoldsNone, SendsFromNone, IsEnabled}
use Rattle.nd_protocol.specs.declared.step.Step.{Step}
use Rattle.nd_protocol.specs.declared.step.Step.TheVariants.{Feed, Take, Notice, Release, Send, Broadcast, Receive}
use Rattle.nd_protocol.specs.declared.step.Next.{Next as Afterwards}
use Rattle.nd_protocol.specs.declared.step.Next.TheVariants.{Next, Close, Stay, To}
use Rattle.nd_protocol.specs.declared.times.Times.{Times}
use Rattle.nd_protocol.specs.declared.batch.Batch.{Batch}
use Rattle.nd_protocol.specs.Ranges.{NextIsSmall}
use Rattle.nd_time.specs.Time.{Time, last_of}
use Rattle.nd_protocol.specs.declared.refusal.Refusal.TheVariants.{NoProcessor, InputClosed, EpochFull, NoRecord, NoRequest, CounterFull, ValueRange, CountFull, DeltaFull, QueueFull, NotLater}
use Rattle.nd_protocol.proofs.Arcs.{IsTransitive}
use Rattle.nd_protocol.proofs.Shape.{Work, feeding, taking, noticing, releasing, sending, GoesOn, IsPossible, done}
use Rattle.nd_protocol.proofs.StepsLemmas.{many_stepped}
use Rattle.nd_protocol.proofs.Ranges.{below_unless, in_range_unless, batch_time_small}
use Rattle.nd_protocol.proofs.Fitness.{keys_fit}
use Rattle.nd_protocol.proofs.Exchanges.{sent_state, received_state}
use Rattle.nd_map.specs.Cases.{at_least}

some_unless : {X : Type 0} (v : Option X) → (v ≡ None → ⊥) → (x : X) × (v ≡ Some x)
some_unless None h = absurd (h refl)
some_unless (Some x) h = (x, refl)

here_unless : (v : Option (Unit {0})) → (v ≡ None → ⊥) → v ≡ Some tt
here_unless None h = absurd (h refl)
here_unless (Some u) h = refl

more_unless : (n : ℕ) → (n ≡ 0 → ⊥) → 0 < n
more_unless zero h = absurd (h refl)
more_unless (suc n) h = omega arith

goes_on : (next : Afterwards) (epoch : ℕ) → (next ≡ Next → max_counter ≤ epoch → ⊥) → (GoesBack next epoch → ⊥) → NextIsSmall next → GoesOn next epoch
goes_on Next epoch full back small = below_unless epoch max_counter (full refl)
goes_on Close epoch full back small = tt
goes_on Stay epoch full back small = tt
goes_on (To n) epoch full back small = (below_unless epoch n back, small)

module _ {A : Type 0} (s : ClusterState) where
  module _ (p vertex : ℕ) (values : List ℤ) (next : Afterwards) (enabled : IsEnabled {A = A} s (Feed p vertex values next)) where
    pub feed_possible : IsPossible s (feeding p vertex values next)
    feed_possible = record {
      performer_is = below_unless p (length s.processors) (enabled.free NoProcessor);
      finds = some_unless (fin.get (processor s p).tokens vertex) (enabled.free InputClosed);
      numbers = (enabled.numbers.1.0, goes_on next (epoch_of s p vertex) (λ goes full. enabled.free EpochFull (goes, full)) (enabled.free NotLater) enabled.numbers.1.1);
    }

  module _ (p edge : ℕ) (t : Time) (value : ℤ) (enabled : IsEnabled {A = A} s (Take p edge t value)) where
    pub take_possible : IsPossible s (taking p edge t value)
    take_possible = record {
      performer_is = below_unless p (length s.processors) (enabled.free NoProcessor);
      finds = more_unless _ (enabled.free NoRecord);
      numbers = (
        λ is. below_unless (last_of t.counters) max_counter (λ full. enabled.free CounterFull (is, full)),
        in_range_unless (take_outcome s p edge t value) (enabled.free ValueRange),
      );
    }

  module _ (p vertex : ℕ) (t : Time) (enabled : IsEnabled {A = A} s (Notice p vertex t)) where
    pub notice_possible : IsPossible s (noticing p vertex t)
    notice_possible = record {
      performer_is = below_unless p (length s.processors) (enabled.free NoProcessor);
      finds = here_unless _ (enabled.free NoRequest);
      numbers = tt;
    }

  module _ (p vertex : ℕ) (times : Times) (enabled : IsEnabled {A = A} s (Release p vertex times)) where
    pub release_possible : IsPossible s (releasing p vertex times)
    release_possible = record {
      performer_is = below_unless p (length s.processors) (enabled.free NoProcessor);
      finds = here_unless _ (λ none. enabled.free NoRequest (inl (HoldsNone.at_this_time none)));
      numbers = (enabled.admissible, enabled.numbers.1, λ kept. true_from_ne_false _ (λ none. enabled.free NoRequest (inr (kept, none))));
    }

  module _ (p vertex : ℕ) (batch : Batch A) (enabled : IsEnabled s (Send p vertex batch)) where
    pub send_possible : IsPossible s (sending p vertex batch)
    send_possible = record {
      performer_is = below_unless p (length s.processors) (λ le. enabled.free NoProcessor (inl le));
      finds = here_unless _ (λ none. enabled.free NoRequest (SendsFromNone.at_this_time none));
      numbers = (
        true_from_ne_false _ (λ none. enabled.free NoRequest (SendsFromNone.by_operator none)),
        enabled.admissible,
        batch_time_small batch enabled.numbers.1,
        enabled.numbers.1.values,
      );
    }

  module _ (p : ℕ) (part : Part A) (enabled : IsEnabled {A = A} s (Broadcast p part)) where
    pub sender_below : p < length s.processors
    sender_below = below_unless p (length s.processors) (enabled.free NoProcessor)

    room : (q : ℕ) → q < length s.processors → length (queue s p q) < max_queue
    room q lt = below_unless (length (queue s p q)) max_queue (λ full. enabled.free QueueFull (q, lt, full))

  module _ (from to : ℕ) (enabled : IsEnabled {A = A} s (Receive from to)) where
    pub from_below : from < length s.processors
    from_below = below_unless from (length s.processors) (λ le. enabled.free NoProcessor (inl le))

    pub to_below : to < length s.processors
    to_below = below_unless to (length s.processors) (λ le. enabled.free NoProcessor (inr le))

part_or_none : (b : Bool) (z : ℤ) → (cond b z (pos 0) ≡ pos 0) ⊎ (cond b z (pos 0) ≡ z)
part_or_none true z = inr refl
part_or_none false z = inl refl

-- what a broadcast names is a part of what is unsent
chosen_is_part : {A : Type 0} (part : Part A) (c : DeltaValue) → IsPart (chosen part c) c
chosen_is_part Whole c x = inr refl
chosen_is_part (Points points) c x = subst (λ z. (z ≡ pos 0) ⊎ (z ≡ at c x)) (sym (at-part c points x)) (part_or_none (has_point x points) (at c x))

all_within : (s : ClusterState) → (HasLargeCount s → ⊥) → (HasLargeEntry s → ⊥) → All ProcessorIsWithin s.processors
all_within s count entry p d lt = subst ProcessorIsWithin (get_or_default s.processors p idle d lt) (record {
  records = λ k. at_least max_count _ (λ large. count (of_record p k large));
  sinks = λ k. at_least max_count _ (λ large. count (of_sink p k large));
  unsent = λ x. at_least max_count _ (λ large. entry (of_unsent p x large));
})

within_work : (s : ClusterState) (x : Work) → (HasLargeCount (done s x) → ⊥) → (HasLargeEntry (done s x) → ⊥) → IsWithinLimits s → IsWithinLimits (done s x)
unfolding done
within_work s x count entry within =
    let many : length (done s x).processors ≡ length s.processors = many_stepped s x in
    record {
      some = subst (λ n. 0 < n) (sym many) within.some;
      few = subst (λ n. n ≤ max_processors) (sym many) within.few;
      processors = all_within (done s x) count entry;
      views = within.views;
      queues = within.queues;
    }

work_state : IsTransitive → (s : ClusterState) (x : Work) → (HasLargeCount (done s x) → ⊥) → (HasLargeEntry (done s x) → ⊥) → IsState s → IsPossible s x → IsState (done s x)
unfolding done
work_state trans s x count entry state possible = record {
  ordered = state.ordered;
  fits = keys_fit trans s x state.ordered state.fits possible;
  within = within_work s x count entry state.within;
}

-- an enabled step leads from a state to a state
pub state_kept : {A : Type 0} → IsTransitive → (s : ClusterState) (x : Step A) → IsState s → IsEnabled s x → IsState (stepped s x)
unfolding stepped done
state_kept trans s (Feed p vertex values next) state enabled =
    work_state trans s (feeding p vertex values next) (enabled.free CountFull) (enabled.free DeltaFull) state (feed_possible s p vertex values next enabled)
state_kept trans s (Take p edge t value) state enabled =
    work_state trans s (taking p edge t value) (enabled.free CountFull) (enabled.free DeltaFull) state (take_possible s p edge t value enabled)
state_kept trans s (Notice p vertex t) state enabled =
    work_state trans s (noticing p vertex t) (enabled.free CountFull) (enabled.free DeltaFull) state (notice_possible s p vertex t enabled)
state_kept trans s (Release p vertex times) state enabled =
    work_state trans s (releasing p vertex times) (enabled.free CountFull) (enabled.free DeltaFull) state (release_possible s p vertex times enabled)
state_kept trans s (Send p vertex batch) state enabled =
    work_state trans s (sending p vertex batch) (enabled.free CountFull) (enabled.free DeltaFull) state (send_possible s p vertex batch enabled)
state_kept trans s (Broadcast p part) state enabled =
    sent_state s p (chosen part (processor s p).unsent) state (sender_below s p part enabled) (chosen_is_part part (processor s p).unsent) (room s p part enabled)
state_kept trans s (Receive from to) state enabled =
    received_state s from to state (from_below s from to enabled) (to_below s from to enabled) (λ x. at_least max_count _ (λ large. enabled.free DeltaFull (of_view to x large)))
