-- Counts and entries after changes, each at its own place: within their limits, or beyond them.
use Rattle.std.proofs.Common.{◌≡◌, ◌<◌, ◌≤◌, ◌+◌, ℕ, suc, ℤ, pos, ◌+ℤ◌, unsigned_abs, w64, lit<, true, false, cond, List, [], ◌∷◌, Option, Some, None, length, get_or, ◌⊎◌, inl, inr, refl, sym, ap, subst, ◌∙◌, arith}
use Rattle.std.proofs.lemmas.Int.{ints, fits_signed_from_abs}
use Rattle.std.proofs.lemmas.Bool.{cases_lt}
use Rattle.std.proofs.lemmas.List.{get_or_past}
use Rattle.std.specs.FinMap as fin
use Rattle.nd_time.specs.Limits.{max_count, max_counter}
use Rattle.nd_graph.specs.Graph.{Dataflow}
use Rattle.nd_map.specs.Cases.{zero_or_not}
use Rattle.nd_map.specs.Counts.{at as number_at}
use Rattle.nd_paths.specs.declared.point.Pointstamp.{Pointstamp}
use Rattle.nd_delta.specs.Delta.{at as in_change, none as no_change, at-none as in_no_change}
use Rattle.nd_vertex.specs.declared.key.ItemKey.{ItemKey}
use Rattle.nd_processor.specs.State.{ProcessorState, idle, items_at}
use Rattle.nd_protocol.specs.State.{ClusterState, processor, view}
use Rattle.nd_protocol.specs.Fitting.{IsState, ProcessorFits, ProcessorIsWithin}
use Rattle.nd_protocol.specs.Ranges.{IsValue}
use Rattle.nd_protocol.specs.Enabled.{HasLargeCount, of_record, of_sink, HasLargeEntry, of_unsent, of_view}
use Rattle.nd_steps.specs.Places.{Place, place_at, view_of}
use Rattle.nd_steps.specs.Places.{is_place}
use Rattle.nd_steps.proofs.AlikeLemmas.{same_place}
use Rattle.nd_steps.specs.declared.slot.Slot.{Slot}
use Rattle.nd_steps.specs.declared.slot.Slot.TheVariants.{Records, Request, Token, State, Sink, Unsent}
use Rattle.nd_steps.specs.Slots.{from_epoch, stands, SlotWithin}
use Rattle.nd_steps.specs.Integers.{standing, CountAt, EntryAt}
use Rattle.nd_steps.specs.Changes.{place_of}
use Rattle.nd_steps.specs.Plans.{often, total_at, Each, Reaches}
use Rattle.nd_steps.specs.Limits.{after, CountStays, EntryStays}
use Rattle.nd_steps.specs.declared.change.Change.{Change}
use Rattle.nd_steps.proofs.PlacesLemmas.{idle_stands}
use Rattle.nd_steps.proofs.EachLemmas.{no_change as nothing, never_added, gain_alone}

-- ---- a property of the integer at a place, in a state that changes reach

module _ (P : Place → ℤ → Type 0) (s : ClusterState) where
  abbrev pub After : Change → Type 0
  After c = P (place_of c) (standing s (place_of c) +ℤ c.n)

  -- it holds at a place that occurs at most once, if it holds there before, and after each change
  pub holds_at : (k : Place) (cs : List Change) → often k cs ≤ 1 → P k (standing s k) → Each After cs → P k (standing s k +ℤ total_at k cs)
  holds_at k [] few before h = subst (P k) (omega (arith, ints)) before
  holds_at k (c ∷ cs) few before h =
      elim (is_place k (place_of c)) as (λ b. is_place k (place_of c) ≡ b → cond b 1 0 + often k cs ≤ 1 → P k (standing s k +ℤ (cond b c.n (pos 0) +ℤ total_at k cs))) [
        | true ↦ λ t f.
            let none : total_at k cs ≡ pos 0 = never_added k cs (omega (arith, f)) in
            let same : c.n ≡ c.n +ℤ total_at k cs = omega (arith, ints, none) in
            subst (λ z. P k (standing s k +ℤ z)) same (subst (λ x. P x (standing s x +ℤ c.n)) (sym (same_place k (place_of c) t)) h.0)
        | false ↦ λ t f.
            let same : total_at k cs ≡ pos 0 +ℤ total_at k cs = omega (arith, ints) in
            subst (λ z. P k (standing s k +ℤ z)) same (holds_at k cs (omega (arith, f)) before h.1)
      ] refl few

  module _ (t : ClusterState) (cs : List Change) (reaches : Reaches s t cs) where
    holds_then : ((k : Place) → P k (standing s k)) → Each After cs → (k : Place) → P k (standing t k)
    holds_then before after k = subst (P k) (sym (reaches.totals k)) (holds_at k cs (reaches.once k) (before k) after)

    -- if it does not hold after a change it does not hold in t
    fails_then : (j : ℕ) (d : Change) → j < length cs → (After (get_or cs j d) → ⊥) → P (place_of (get_or cs j d)) (standing t (place_of (get_or cs j d))) → ⊥
    fails_then j d lt fails h =
        let k = place_of (get_or cs j d) in
        let e : standing t k ≡ standing s k +ℤ (get_or cs j d).n = reaches.totals k ∙ ap (λ z. standing s k +ℤ z) (gain_alone cs reaches.once j d lt) in
        fails (subst (P k) e h)

-- ---- a change that does not stay within the limit

module _ (P : Change → Type 0) (test : (c : Change) → P c ⊎ (P c → ⊥)) where
  -- the first change of the list that does not satisfy P
  record Miss (cs : List Change) : Type 0 where
    at : ℕ
    within : at < length cs
    fails : (d : Change) → P (get_or cs at d) → ⊥

  missed : (cs : List Change) → (Each P cs → ⊥) → Miss cs
  missed [] h = absurd (h tt)
  missed (c ∷ cs) h = elim (test c) [
    | inl here ↦
        let m = missed cs (λ rest. h (here, rest)) in
        record { at = suc m.at; within = (let w = m.within in omega (arith, w)); fails = m.fails }
    | inr fails ↦ record { at = 0; within = omega arith; fails = λ d. fails }
  ]

not_past : (m n : ℕ) → m < n → n ≤ m → ⊥
not_past m n h k = omega (arith, h, k)

at_most : (n m : ℕ) → (n ≤ m) ⊎ (n ≤ m → ⊥)
at_most n m = elim (cases_lt m n) [ inl lt ↦ inr (not_past m n lt) | inr le ↦ inl le ]

count_test : (k : Place) (z : ℤ) → CountAt k z ⊎ (CountAt k z → ⊥)
count_test (place_at p (Records key)) z = at_most (unsigned_abs z) max_count
count_test (place_at p (Sink key)) z = at_most (unsigned_abs z) max_count
count_test k z = inl tt

entry_test : (k : Place) (z : ℤ) → EntryAt k z ⊎ (EntryAt k z → ⊥)
entry_test (place_at p (Unsent point)) z = at_most (unsigned_abs z) max_count
entry_test (view_of q point) z = at_most (unsigned_abs z) max_count
entry_test k z = inl tt

-- ---- states beyond the limits

past : (n : ℕ) → (n ≤ max_count → ⊥) → max_count < n
past n h = elim (cases_lt max_count n) [ inl lt ↦ lt | inr le ↦ absurd (h le) ]

large_count : (t : ClusterState) (k : Place) → (CountAt k (standing t k) → ⊥) → HasLargeCount t
large_count t (place_at p (Records key)) h = of_record p key (past _ h)
large_count t (place_at p (Sink key)) h = of_sink p key (past _ h)
large_count t k h = absurd (h tt)

large_entry : (t : ClusterState) (k : Place) → (EntryAt k (standing t k) → ⊥) → HasLargeEntry t
large_entry t (place_at p (Unsent point)) h = of_unsent p point (past _ h)
large_entry t (view_of q point) h = of_view q point (past _ h)
large_entry t k h = absurd (h tt)

small_counts : (t : ClusterState) → ((k : Place) → CountAt k (standing t k)) → HasLargeCount t → ⊥
small_counts t h (of_record p k lt) = not_past _ _ lt (h (place_at p (Records k)))
small_counts t h (of_sink p k lt) = not_past _ _ lt (h (place_at p (Sink k)))

small_entries : (t : ClusterState) → ((k : Place) → EntryAt k (standing t k)) → HasLargeEntry t → ⊥
small_entries t h (of_unsent p x lt) = not_past _ _ lt (h (place_at p (Unsent x)))
small_entries t h (of_view q x lt) = not_past _ _ lt (h (view_of q x))

-- ---- a state that a cluster may be in

none_within : (l : Slot) → SlotWithin l (pos 0)
none_within (Records key) = record { count = omega arith; entry = tt; ranged = tt }
none_within (Request point) = record { count = tt; entry = tt; ranged = tt }
none_within (Token vertex) = record { count = tt; entry = tt; ranged = omega arith }
none_within (State vertex key) = record { count = tt; entry = tt; ranged = fits_signed_from_abs w64 (pos 0) (lit< tt) }
none_within (Sink key) = record { count = omega arith; entry = tt; ranged = tt }
none_within (Unsent point) = record { count = tt; entry = omega arith; ranged = tt }

module _ (g : Dataflow) (q : ProcessorState) (fits : ProcessorFits g q) (within : ProcessorIsWithin q) where
  epoch_within : (vertex : ℕ) (x : Option ℕ) → fin.get q.tokens vertex ≡ x → unsigned_abs (from_epoch x) ≤ max_counter + 1
  epoch_within vertex None e = omega arith
  epoch_within vertex (Some epoch) e = let h = (fits.tokens vertex epoch e).1.small 0 0 (omega arith) in omega (arith, h)

  number_within : (vertex : ℕ) (key : ItemKey) → IsValue (number_at (items_at q vertex) key)
  number_within vertex key = elim (zero_or_not (number_at (items_at q vertex) key)) [
    | inl none ↦ subst IsValue (sym none) (none_within (State vertex key)).ranged
    | inr some ↦ (fits.items vertex key some).2
  ]

  processor_within : (l : Slot) → SlotWithin l (stands q l)
  processor_within (Records key) = record { count = within.records key; entry = tt; ranged = tt }
  processor_within (Request point) = record { count = tt; entry = tt; ranged = tt }
  processor_within (Token vertex) = record { count = tt; entry = tt; ranged = epoch_within vertex (fin.get q.tokens vertex) refl }
  processor_within (State vertex key) = record { count = tt; entry = tt; ranged = number_within vertex key }
  processor_within (Sink key) = record { count = within.sinks key; entry = tt; ranged = tt }
  processor_within (Unsent point) = record { count = tt; entry = within.unsent point; ranged = tt }

-- the integers in a cluster's processors are within their limits
pub slot_within : (s : ClusterState) → IsState s → (p : ℕ) (l : Slot) → SlotWithin l (stands (processor s p) l)
slot_within s state p l = elim (cases_lt p (length s.processors)) [
  | inl lt ↦ processor_within s.graph (processor s p) (state.fits.processors p idle lt) (state.within.processors p idle lt) l
  | inr past ↦ subst (λ q. SlotWithin l (stands q l)) (sym (get_or_past s.processors p idle past)) (subst (SlotWithin l) (sym (idle_stands l)) (none_within l))
]

view_within : (s : ClusterState) → IsState s → (q : ℕ) (x : Pointstamp) → unsigned_abs (in_change (view s q) x) ≤ max_count
view_within s state q x = elim (cases_lt q (length s.views)) [
  | inl lt ↦ state.within.views q no_change lt x
  | inr past ↦ subst (λ z. unsigned_abs z ≤ max_count) (sym (ap (λ c. in_change c x) (get_or_past s.views q no_change past) ∙ in_no_change x)) (omega arith)
]

counts_within : (s : ClusterState) → IsState s → (k : Place) → CountAt k (standing s k)
counts_within s state (place_at p l) = (slot_within s state p l).count
counts_within s state (view_of q point) = tt

entries_within : (s : ClusterState) → IsState s → (k : Place) → EntryAt k (standing s k)
entries_within s state (place_at p l) = (slot_within s state p l).entry
entries_within s state (view_of q point) = view_within s state q point

-- ---- both limits

module _ (s : ClusterState) (cs : List Change) (t : ClusterState) (reaches : Reaches s t cs) where
  pub counts_pass : (Each (CountStays s.processors) cs → ⊥) → HasLargeCount t
  unfolding after
  counts_pass h =
      let m = missed (CountStays s.processors) (λ c. count_test (place_of c) _) cs h in
      large_count t (place_of (get_or cs m.at nothing)) (fails_then CountAt s t cs reaches m.at nothing m.within (m.fails nothing))

  pub entries_pass : (Each (EntryStays s.processors) cs → ⊥) → HasLargeEntry t
  unfolding after
  entries_pass h =
      let m = missed (EntryStays s.processors) (λ c. entry_test (place_of c) _) cs h in
      large_entry t (place_of (get_or cs m.at nothing)) (fails_then EntryAt s t cs reaches m.at nothing m.within (m.fails nothing))

  pub counts_fit : Each (CountStays s.processors) cs → HasLargeCount t → ⊥
  unfolding after
  counts_fit h = small_counts t (holds_then CountAt s t cs reaches (counts_within s reaches.state) h)

  pub entries_fit : Each (EntryStays s.processors) cs → HasLargeEntry t → ⊥
  unfolding after
  entries_fit h = small_entries t (holds_then EntryAt s t cs reaches (entries_within s reaches.state) h)
