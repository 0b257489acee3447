-- The changes of a take in the order of a flow: they reach the same state, and everything is added before anything is removed.
use Rattle.std.proofs.Common.{◌≡◌, ◌≢◌, ◌<◌, ◌-◌, ℕ, ℤ, pos, negsuc, ◌+ℤ◌, Bool, true, false, not, List, [], ◌∷◌, ◌++◌, length, refl, sym, ap, subst, ◌∙◌, arith, inl, inr}
use Rattle.std.specs.Prelude.{◌↔◌, IsTrue}
use Rattle.std.specs.List.Sorted.{IsPermutation}
use Rattle.std.proofs.lemmas.Int.{ints}
use Rattle.std.proofs.lemmas.List.{get_or_append_left, get_or-append_right, length-append}
use Rattle.std.proofs.lemmas.List.Sorted.{IsPermutation-append_comm, IsPermutation-append_right, IsPermutation-trans}
use Rattle.nd_map.specs.Cases.{zero_or_not}
use Rattle.nd_processor.specs.State.{ProcessorState}
use Rattle.nd_processor.specs.declared.key.ValueAt.{ValueAt}
use Rattle.nd_protocol.specs.State.{ClusterState}
use Rattle.nd_steps.specs.Integers.{standing}
use Rattle.nd_steps.specs.Changes.{at_key, place_of, Finds}
use Rattle.nd_steps.specs.Limits.{after, CountStays, EntryStays}
use Rattle.nd_steps.specs.Plans.{Each, Reaches, ReachesIn, LeadsTo}
use Rattle.nd_steps.specs.Orders.{StayWithin, IsOrderedFlow}
use Rattle.nd_steps.specs.Flows.{arriving, come_changes, come_key, flow_changes}
use Rattle.nd_steps.specs.declared.change.Change.{Change}
use Rattle.nd_steps.specs.declared.slot.Slot.TheVariants.{Records, Sink, Unsent}
use Rattle.nd_steps.specs.declared.consequence.Consequence.{Consequence}
use Rattle.nd_steps.specs.declared.consequence.Consequence.TheVariants.{Nothing, Record, Count}
use Rattle.nd_steps.proofs.EachLemmas.{each_at, gain_alone}
use Rattle.nd_steps.proofs.PlansLemmas.{after_is, planned_so, reaches_moved}
use Rattle.nd_steps.proofs.ReachesLemmas.{few_enough, little_enough}

-- ---- any order reaches the same state

same_changes : (p : ℕ) (gone : ValueAt) (come : Consequence) (late : Bool) → IsPermutation (come_changes p gone come) (flow_changes p gone (record { come = come; late = late }))
same_changes p gone come true =
    let goes : List Change = at_key p (Records gone) (negsuc 0) ∷ [] in
    let unsent : List Change = at_key p (Unsent gone.point) (negsuc 0) ∷ [] in
    IsPermutation-trans _ _ _
    (IsPermutation-append_comm (goes ++ unsent) (arriving p gone come))
    (IsPermutation-append_right (arriving p gone come) (goes ++ unsent) (unsent ++ goes) (IsPermutation-append_comm goes unsent))
same_changes p gone come false = IsPermutation-append_comm (at_key p (Records gone) (negsuc 0) ∷ []) (at_key p (Unsent gone.point) (negsuc 0) ∷ arriving p gone come)

reached : (ps : List ProcessorState) (s t : ClusterState) (p : ℕ) (gone : ValueAt) (come : Consequence) (late : Bool)
    → ReachesIn ps s t (come_changes p gone come) → ReachesIn ps s t (flow_changes p gone (record { come = come; late = late }))
reached ps s t p gone come late h = (h.0, reaches_moved s t (come_changes p gone come) _ h.1 (same_changes p gone come late))

-- ---- after the first changes the integer at the place is not 0; before the others it is not 0

abbrev leaves : ClusterState → Change → Type 0
leaves s c = standing s (place_of c) +ℤ c.n ≢ pos 0

leads_split : (s t : ClusterState) (front tail : List Change) → Reaches s t (front ++ tail) → Each (CountStays s.processors) (front ++ tail) → Each (EntryStays s.processors) (front ++ tail)
    → Each (leaves s) front → Each (Finds s) tail → LeadsTo s t (front ++ tail)
leads_split s t front tail h counts entries leave find =
    planned_so s t (front ++ tail) h counts entries (length front)
    (λ k d lt first. subst (leaves s) (sym (get_or_append_left front tail d k first)) (each_at (leaves s) front k d leave first))
    (λ k d lt past.
    let there : k - length front < length tail = omega (arith, past, lt, length-append front tail) in
    subst (Finds s) (sym (get_or-append_right front tail (length front) k d refl past)) (each_at (Finds s) tail (k - length front) d find there))

-- a count from which one is subtracted, or to which one is added
one_less : (x y : ℤ) (n : ℕ) → y ≡ x +ℤ negsuc 0 → y ≡ pos n → x ≢ pos 0
one_less x y n e f z = absurd (omega (arith, ints, e, f, z))

one_more : (x : ℤ) (n : ℕ) → x ≡ pos n → x +ℤ pos 1 ≢ pos 0
one_more x n e z = absurd (omega (arith, ints, e, z))

last_of : (x n : ℤ) → n ≢ pos 0 → x +ℤ n ≡ pos 0 → x ≢ pos 0
last_of x n some e z = some (omega (arith, ints, e, z))

leads_late : (s t : ClusterState) (p : ℕ) (gone : ValueAt) (come : Consequence) → Reaches s t (flow_changes p gone (record { come = come; late = true }))
    → Each (CountStays s.processors) (flow_changes p gone (record { come = come; late = true })) → Each (EntryStays s.processors) (flow_changes p gone (record { come = come; late = true }))
    → Finds s (at_key p (Records gone) (negsuc 0)) → Finds s (at_key p (Unsent gone.point) (negsuc 0)) → LeadsTo s t (flow_changes p gone (record { come = come; late = true }))
leads_late s t p gone Nothing h counts entries goes unsent = leads_split s t [] (at_key p (Unsent gone.point) (negsuc 0) ∷ at_key p (Records gone) (negsuc 0) ∷ []) h counts entries tt (unsent, (goes, tt))
leads_late s t p gone (Count vertex) h counts entries goes unsent =
    leads_split s t (at_key p (Sink (record { vertex = vertex; value = gone.value })) (pos 1) ∷ []) (at_key p (Unsent gone.point) (negsuc 0) ∷ at_key p (Records gone) (negsuc 0) ∷ []) h counts entries
    (one_more _ _ refl, tt) (unsent, (goes, tt))
leads_late s t p gone (Record action q edge value) h counts entries goes unsent =
    let key : ValueAt = come_key gone (Record action q edge value) in
    let comes : Change = at_key q (Records key) (pos 1) in
    let sent : Change = at_key p (Unsent key.point) (pos 1) in
    let rest : List Change = at_key p (Unsent gone.point) (negsuc 0) ∷ at_key p (Records gone) (negsuc 0) ∷ [] in
    elim (zero_or_not (standing s (place_of sent) +ℤ pos 1)) [
      | inl none ↦ leads_split s t (comes ∷ []) (sent ∷ rest) h counts entries (one_more _ _ refl, tt) (last_of (standing s (place_of sent)) (pos 1) (λ e. absurd (cc)) none, (unsent, (goes, tt)))
      | inr some ↦ leads_split s t (comes ∷ sent ∷ []) rest h counts entries (one_more _ _ refl, (some, tt)) (unsent, (goes, tt))
    ]

leads_early : (s t : ClusterState) (p : ℕ) (gone : ValueAt) (come : Consequence) → Reaches s t (flow_changes p gone (record { come = come; late = false }))
    → Each (CountStays s.processors) (flow_changes p gone (record { come = come; late = false })) → Each (EntryStays s.processors) (flow_changes p gone (record { come = come; late = false }))
    → Finds s (at_key p (Records gone) (negsuc 0)) → leaves s (at_key p (Unsent gone.point) (negsuc 0)) → LeadsTo s t (flow_changes p gone (record { come = come; late = false }))
leads_early s t p gone Nothing h counts entries goes unsent = leads_split s t (at_key p (Unsent gone.point) (negsuc 0) ∷ []) (at_key p (Records gone) (negsuc 0) ∷ []) h counts entries (unsent, tt) (goes, tt)
leads_early s t p gone (Count vertex) h counts entries goes unsent =
    leads_split s t (at_key p (Unsent gone.point) (negsuc 0) ∷ at_key p (Sink (record { vertex = vertex; value = gone.value })) (pos 1) ∷ []) (at_key p (Records gone) (negsuc 0) ∷ []) h counts entries
    (unsent, (one_more _ _ refl, tt)) (goes, tt)
leads_early s t p gone (Record action q edge value) h counts entries goes unsent =
    let key : ValueAt = come_key gone (Record action q edge value) in
    let comes : Change = at_key q (Records key) (pos 1) in
    let sent : Change = at_key p (Unsent key.point) (pos 1) in
    let first : Change = at_key p (Unsent gone.point) (negsuc 0) in
    let last : List Change = at_key p (Records gone) (negsuc 0) ∷ [] in
    elim (zero_or_not (standing s (place_of sent) +ℤ pos 1)) [
      | inl none ↦ leads_split s t (first ∷ comes ∷ []) (sent ∷ last) h counts entries (unsent, (one_more _ _ refl, tt)) (last_of (standing s (place_of sent)) (pos 1) (λ e. absurd (cc)) none, (goes, tt))
      | inr some ↦ leads_split s t (first ∷ comes ∷ sent ∷ []) last h counts entries (unsent, (one_more _ _ refl, (some, tt))) (goes, tt)
    ]

-- the record that is taken is there
record_there : (s t : ClusterState) (p : ℕ) (gone : ValueAt) (come : Consequence) → Reaches s t (come_changes p gone come) → Finds s (at_key p (Records gone) (negsuc 0))
record_there s t p gone come h =
    let goes : Change = at_key p (Records gone) (negsuc 0) in
    let then : standing t (place_of goes) ≡ standing s (place_of goes) +ℤ negsuc 0
    = h.totals (place_of goes) ∙ ap (λ z. standing s (place_of goes) +ℤ z) (gain_alone (come_changes p gone come) h.once 0 goes (omega arith)) in
    one_less (standing s (place_of goes)) (standing t (place_of goes)) _ then refl

-- the same changes, with the taken record's pointstamp before or after what arrives
each_late : (P : Change → Type 0) (p : ℕ) (gone : ValueAt) (come : Consequence) → Each P (flow_changes p gone (record { come = come; late = false })) → Each P (flow_changes p gone (record { come = come; late = true }))
each_late P p gone Nothing h = h
each_late P p gone (Record action q edge value) h = (h.1.0, (h.1.1.0, (h.0, h.1.1.1)))
each_late P p gone (Count vertex) h = (h.1.0, (h.0, h.1.1))

-- ---- the order of a flow

module _ (ps : List ProcessorState) (p : ℕ) (gone : ValueAt) (come : Consequence) where
  abbrev pub early : List Change
  early = flow_changes p gone (record { come = come; late = false })

  pub early_reached : (s t : ClusterState) → ReachesIn ps s t (come_changes p gone come) → ReachesIn ps s t early
  early_reached s t h = reached ps s t p gone come false h

  leads : (s t : ClusterState) → ReachesIn ps s t (come_changes p gone come) → Each (CountStays s.processors) early → Each (EntryStays s.processors) early
      → (b : Bool) → (IsTrue b ↔ (after s.processors (at_key p (Unsent gone.point) (negsuc 0)) ≢ pos 0)) → LeadsTo s t (flow_changes p gone (record { come = come; late = not b }))
  leads s t h counts entries true here =
      leads_early s t p gone come (early_reached s t h).1 counts entries (record_there s t p gone come h.1) (λ none. here.0 refl (after_is s (at_key p (Unsent gone.point) (negsuc 0)) ∙ none))
  leads s t h counts entries false here =
      let unsent : Change = at_key p (Unsent gone.point) (negsuc 0) in
      let finds_it : Finds s unsent = λ none. absurd (let t : false ≡ true = here.1 (λ e. absurd (omega (arith, ints, none, sym (after_is s unsent) ∙ e))) in cc (t)) in
      leads_late s t p gone come (reached ps s t p gone come true h).1 (each_late (CountStays s.processors) p gone come counts) (each_late (EntryStays s.processors) p gone come entries)
      (record_there s t p gone come h.1) finds_it

  -- within the limits, the flow is late if the pointstamp's unsent integer becomes 0
  pub ordered : StayWithin ps early → (b : Bool) → (IsTrue b ↔ (after ps (at_key p (Unsent gone.point) (negsuc 0)) ≢ pos 0)) → IsOrderedFlow ps p gone come (record { come = come; late = not b })
  ordered within b reads = record {
    leads = λ s t h.
        leads s t h (subst (λ qs. Each (CountStays qs) early) (sym h.0) within.0) (subst (λ qs. Each (EntryStays qs) early) (sym h.0) within.1)
        b (subst (λ qs. IsTrue b ↔ (after qs (at_key p (Unsent gone.point) (negsuc 0)) ≢ pos 0)) (sym h.0) reads);
    counts = λ s t h. few_enough ps s t early (early_reached s t h) within.0;
    entries = λ s t h. little_enough ps s t early (early_reached s t h) within.1;
  }
