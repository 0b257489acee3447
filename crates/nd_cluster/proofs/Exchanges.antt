-- Why a broadcast or a receive is enabled or refused, and how much it changes.
use Rattle.std.proofs.Common.{◌≡◌, ◌≢◌, ◌⊎◌, inl, inr, ℕ, ◌+◌, ◌-◌, ◌<◌, ◌≤◌, ℤ, pos, List, [], length, Vec, Result, Ok, Err, Some, None, refl, sym, ap, subst, ◌∙◌, arith, get_or-set_same, get_or-set_other}
use Rattle.std.proofs.lemmas.Bool.{cases_lt, cases_eq}
use Rattle.std.proofs.lemmas.Int.{ints}
use Rattle.std.proofs.lemmas.List.{get_or_past}
use Rattle.std.specs.Prelude.{slice_get, unsigned_abs}
use Rattle.nd_time.specs.Limits.{max_count}
use Rattle.nd_delta.specs.Delta.{DeltaValue, none, at, at-none, plus, size, IsTooLarge, IsPartOf}
use Rattle.nd_processor.specs.State.{ProcessorState, idle}
use Rattle.nd_mesh.specs.Mesh.{row, HasQueue, IsFull}
use Rattle.nd_protocol.specs.State.{ClusterState, processor, view, queue}
use Rattle.nd_protocol.specs.Exchange.{IsPart, sent, received, received_from}
use Rattle.nd_protocol.specs.Steps.{chosen, stepped}
use Rattle.nd_protocol.specs.Fitting.{IsState}
use Rattle.nd_protocol.specs.Laws.{NoticeComesLast}
use Rattle.nd_protocol.specs.Ranges.{NumbersFit}
use Rattle.nd_protocol.specs.Enabled.{HasLargeEntry, of_unsent, of_view, Fails, IsEnabled, NeedsNoMemory, MayWantMemory, IsRefused}
use Rattle.nd_protocol.specs.Refusals.{number_of}
use Rattle.nd_protocol.specs.declared.part.Part.{Part}
use Rattle.nd_protocol.specs.declared.step.Step.{Step}
use Rattle.nd_protocol.specs.declared.step.Step.TheVariants.{Feed, Take, Notice, Release, Send, Broadcast, Receive}
use Rattle.nd_protocol.specs.declared.refusal.Refusal.{Refusal}
use Rattle.nd_protocol.specs.declared.refusal.Refusal.TheVariants.{NoProcessor, DeltaFull, NothingToSend, NotAdmissible, QueueEmpty, QueueFull, Memory}
use Rattle.nd_steps.specs.Refusals.{LeavesUpright, FrontFails}
use Rattle.nd_steps.specs.Integers.{changed}
use Rattle.nd_steps.specs.Counts.{SentChanges, ReceivedChanges}
use Rattle.nd_steps.specs.Fronts.{received-front}
use Rattle.nd_steps.specs.Plans.{LeadsTo}
use Rattle.nd_steps.specs.declared.change.Change.{Change as Single}
use Rattle.nd_cluster.specs.Records.{shared, Plans, ComesLast}
use Rattle.nd_steps.specs.Flows.{flow_changes}
use Rattle.nd_steps.specs.declared.flow.Flow.{Flow}
use Rattle.nd_steps.specs.declared.record.Changes.TheVariants.{Each, Flowed, Sent, Received}
use Rattle.nd_processor.specs.declared.key.ValueAt.{ValueAt}
use Rattle.nd_cluster.specs.Drafted.{Works, take_of}
use Rattle.nd_map.specs.Cases.{zero_or_not}

is_part : (c d : DeltaValue) → IsPartOf c d → IsPart c d
is_part c d h x = elim (zero_or_not (at c x)) [ inl e ↦ inl e | inr some ↦ inr (sym (h x some)) ]

-- ---- a feed, a take, a notice, a release or a send

module _ {A : Type 0} (s : ClusterState) where
  none_shared : (x : Step A) → Works x → shared s x ≡ 0
  none_shared (Feed p vertex values _) works = refl
  none_shared (Take p edge t value) works = refl
  none_shared (Notice p vertex t) works = refl
  none_shared (Release p vertex times) works = refl
  none_shared (Send p vertex batch) works = refl
  none_shared (Broadcast p _) works = absurd works
  none_shared (Receive from to) works = absurd works

  pub work_plans : (x : Step A) (changes : Vec Single A) → Works x → IsEnabled s x → LeadsTo s (stepped s x) changes.items → Plans s x (Each changes)
  work_plans x changes works may leads =
      let all : length changes.items + shared s x ≡ changed s (stepped s x) = omega (arith, leads.small, none_shared x works) in
      record { enabled = may; makes = (leads.runs, leads.arrives); small = all }

  module _ (p : ℕ) (gone : ValueAt) (f : Flow) where
    take_plans : IsEnabled {A = A} s (take_of p gone) → LeadsTo s (stepped {A = A} s (take_of p gone)) (flow_changes p gone f) → Plans {A = A} s (take_of p gone) (Flowed f)
    take_plans may leads =
        let all : length (flow_changes p gone f) + 0 ≡ changed s (stepped {A = A} s (take_of p gone)) = omega (arith, leads.small) in
        record { enabled = may; makes = (leads.runs, leads.arrives); small = all }

    -- a take whose consequence determines its changes
    pub flow_plans : (x : Step A) → x ≡ take_of p gone → IsEnabled s x → LeadsTo s (stepped s x) (flow_changes p gone f) → Plans s x (Flowed f)
    flow_plans x is may leads =
        subst (λ (y : Step A). Plans s y (Flowed f)) (sym is)
        (take_plans (subst (IsEnabled s) is may) (subst (λ (y : Step A). LeadsTo s (stepped s y) (flow_changes p gone f)) is leads))

-- ---- a notice

pub comes_last : {A : Type 0} → NoticeComesLast A → (s : ClusterState) (x : Step A) → IsState s → IsEnabled s x → ComesLast s x
comes_last law s (Feed p vertex values _) state may = tt
comes_last law s (Take p edge t value) state may = tt
comes_last law s (Notice p vertex t) state may = λ keeps. law s p vertex t state keeps may
comes_last law s (Release p vertex times) state may = tt
comes_last law s (Send p vertex batch) state may = tt
comes_last law s (Broadcast p _) state may = tt
comes_last law s (Receive from to) state may = tt

-- ---- a broadcast

module _ {A : Type 0} (s : ClusterState) (p : ℕ) (part : Part A) (c : DeltaValue) (state : IsState s) (here : p < length s.processors) (is : c ≡ chosen part (processor s p).unsent) where
  module _ (some : c ≢ none) (upright : LeavesUpright s.graph (processor s p) c) (room : HasQueue IsFull (row s.queues p) → ⊥) (numbers : NumbersFit {A = A} (Broadcast p part)) where
    stays : LeavesUpright s.graph (processor s p) (chosen part (processor s p).unsent)
    stays = subst (LeavesUpright s.graph (processor s p)) is upright

    enabled : IsEnabled {A = A} s (Broadcast p part)
    enabled = record { free = by; admissible = stays; numbers = numbers }
      where
        by : (r : Refusal) → Fails {A = A} s (Broadcast p part) r → ⊥
        by NoProcessor h = omega (arith, here, h)
        by NothingToSend h = some (is ∙ h)
        by (NotAdmissible x) h = h.is_one.alone (stays x h.is_one.positive)
        by QueueFull (q, lt, full) =
            let sender : p < length s.queues = subst (λ n. p < n) (sym state.fits.each_sender) here in
            room (q, subst (λ n. q < n) (sym (state.fits.each_receiver p [] sender)) lt, full)
        by r h = h

    pub broadcast_plans : SentChanges → IsPartOf c (processor s p).unsent → Plans {A = A} s (Broadcast p part) (Sent p c)
    unfolding stepped
    broadcast_plans law there =
        let to : sent s p c ≡ stepped {A = A} s (Broadcast p part) = ap (sent s p) is in
        let many : changed s (sent s p c) ≡ size c + length s.processors = law s p c state.fits here (is_part c (processor s p).unsent there) in
        let count : size c + 1 + (length s.processors - 1) ≡ changed s (sent s p c) = omega (arith, many, here) in
        record { enabled = enabled; makes = (record { there = here; part = there; room = room }, to); small = count ∙ ap (changed s) to }

-- ---- a receive

abbrev error_or : {T E : Type 0} → E → Result T E → E
error_or d (Ok v) = d
error_or d (Err e) = e

pub error_is : {T E : Type 0} (r : Result T E) (a b : E) → r ≡ Err a → r ≡ Err b → a ≡ b
error_is r a b h k = ap (error_or a) (sym h ∙ k)

no_entry : (z : ℤ) → z ≡ pos 0 → max_count < unsigned_abs z → ⊥
no_entry z e large = omega (arith, ints, e, large)

-- no entry in a state exceeds its limit
small_entries : (s : ClusterState) → IsState s → HasLargeEntry s → ⊥
small_entries s state (of_unsent p x large) = elim (cases_lt p (length s.processors)) [
  | inl lt ↦ let l : unsigned_abs (at (processor s p).unsent x) ≤ max_count = (state.within.processors p idle lt).unsent x in omega (arith, l, large)
  | inr past ↦ no_entry (at (processor s p).unsent x) (ap (λ (q : ProcessorState). at q.unsent x) (get_or_past s.processors p idle past) ∙ at-none x) large
]
small_entries s state (of_view q x large) = elim (cases_lt q (length s.views)) [
  | inl lt ↦ let l : unsigned_abs (at (view s q) x) ≤ max_count = state.within.views q none lt x in omega (arith, l, large)
  | inr past ↦ no_entry (at (view s q) x) (ap (λ (c : DeltaValue). at c x) (get_or_past s.views q none past) ∙ at-none x) large
]

module _ (A : Type 0) (s : ClusterState) (from to : ℕ) (state : IsState s) (here : from < length s.processors) (there : to < length s.processors) where
  two_there : (length s.processors ≤ from) ⊎ (length s.processors ≤ to) → ⊥
  two_there (inl le) = omega (arith, here, le)
  two_there (inr le) = omega (arith, there, le)

  view_there : to < length s.views
  view_there = subst (λ n. to < n) (sym state.fits.each_view) there

  module _ (c : DeltaValue) (front : slice_get (queue s from to) 0 ≡ Some c) where
    -- the receiver's view, and the other views
    view_now : view (stepped {A = A} s (Receive from to)) to ≡ plus (view s to) c
    unfolding stepped
    view_now = ap (λ (t : ClusterState). view t to) (received-front s from to c front) ∙ get_or-set_same s.views to (plus (view s to) c) none view_there

    views_beside : (q : ℕ) → q ≢ to → view (stepped {A = A} s (Receive from to)) q ≡ view s q
    unfolding stepped
    views_beside q other = ap (λ (t : ClusterState). view t q) (received-front s from to c front) ∙ get_or-set_other s.views to q (plus (view s to) c) none other

    unsent_now : (p : ℕ) → (processor (stepped {A = A} s (Receive from to)) p).unsent ≡ (processor s p).unsent
    unfolding stepped
    unsent_now p = ap (λ (t : ClusterState). (processor t p).unsent) (received-front s from to c front)

    not_empty : queue s from to ≡ [] → ⊥
    not_empty e = let none_there : slice_get (queue s from to) 0 ≡ None = ap (λ (cs : List DeltaValue). slice_get cs 0) e in absurd (cc)

    no_large : (IsTooLarge (plus (view s to) c) → ⊥) → HasLargeEntry (stepped {A = A} s (Receive from to)) → ⊥
    no_large room (of_unsent p x large) = small_entries s state (of_unsent p x (subst (λ d. max_count < unsigned_abs (at d x)) (unsent_now p) large))
    no_large room (of_view q x large) = elim (cases_eq q to) [
      | inl e ↦ room (x, subst (λ d. max_count < unsigned_abs (at d x)) (ap (view (stepped {A = A} s (Receive from to))) e ∙ view_now) large)
      | inr other ↦ small_entries s state (of_view q x (subst (λ d. max_count < unsigned_abs (at d x)) (views_beside q other) large))
    ]

    pub receive_plans : ReceivedChanges → (IsTooLarge (plus (view s to) c) → ⊥) → NumbersFit {A = A} (Receive from to) → Plans {A = A} s (Receive from to) (Received from to c)
    unfolding stepped
    receive_plans law room numbers =
        let many : changed s (received s from to) ≡ size c + 1 = law s from to c state.fits here there front in
        let count : size c + 1 + 0 ≡ changed s (received s from to) = omega (arith, many) in
        record {
          enabled = record { free = by; admissible = tt; numbers = numbers };
          makes = (record { from_there = here; to_there = there; front = front; room = room }, refl);
          small = count;
        }
      where
        by : (r : Refusal) → Fails {A = A} s (Receive from to) r → ⊥
        by NoProcessor h = two_there h
        by DeltaFull h = no_large room h
        by QueueEmpty h = not_empty h
        by r h = h

    delta_full : IsTooLarge (plus (view s to) c) → IsRefused {A = A} s (Receive from to) DeltaFull
    delta_full (x, large) = record {
      fails = of_view to x (subst (λ d. max_count < unsigned_abs (at d x)) (sym view_now) large);
      least = record { free = by };
    }
      where
        by : (r : Refusal) → number_of r < 14 → Fails {A = A} s (Receive from to) r → ⊥
        by NoProcessor lt h = two_there h
        by DeltaFull lt h = absurd (omega (arith, lt))
        by QueueEmpty lt h = absurd (omega (arith, lt))
        by r lt h = h

    wants_memory : MayWantMemory {A = A} s (Receive from to)
    wants_memory = record { free = by }
      where
        by : (r : Refusal) → NeedsNoMemory r → Fails {A = A} s (Receive from to) r → ⊥
        by NoProcessor sure h = two_there h
        by DeltaFull sure h = elim sure [
          | inl lt ↦ absurd (omega (arith, lt))
          | inr (inl e) ↦ absurd (cc)
          | inr (inr e) ↦ absurd (cc)
        ]
        by QueueEmpty sure h = not_empty h
        by r sure h = h

  queue_empty : queue s from to ≡ [] → IsRefused {A = A} s (Receive from to) QueueEmpty
  unfolding stepped received
  queue_empty e = record { fails = e; least = record { free = by } }
    where
      stays_so : stepped {A = A} s (Receive from to) ≡ s
      stays_so = ap (received_from s from to) e

      by : (r : Refusal) → number_of r < 17 → Fails {A = A} s (Receive from to) r → ⊥
      by NoProcessor lt h = two_there h
      by DeltaFull lt h = small_entries s state (subst HasLargeEntry stays_so h)
      by QueueEmpty lt h = absurd (omega (arith, lt))
      by r lt h = h

  -- why nothing is received
  pub receive_refused : (r : Refusal) → FrontFails (view s to) (queue s from to) r → r ≢ Memory → IsRefused {A = A} s (Receive from to) r
  receive_refused QueueEmpty h other = queue_empty h
  receive_refused DeltaFull (c, front, large) other = delta_full c front large
  receive_refused Memory h other = absurd (other refl)
  receive_refused r h other = absurd h

  pub receive_wants_memory : FrontFails (view s to) (queue s from to) Memory → MayWantMemory {A = A} s (Receive from to)
  receive_wants_memory (c, front, room) = wants_memory c front
