-- The effect of a broadcast and of a receive, from the entries of the change that is sent or received.
use Rattle.std.proofs.Common.{◌≡◌, ◌≢◌, ◌<◌, ◌+◌, ℕ, zero, suc, ℤ, pos, neg_ℤ, ◌+ℤ◌, Bool, true, false, cond, List, [], ◌∷◌, ◌++◌, Some, map, length, get_or, get_or-set_other, refl, sym, ap, ◌∙◌, arith, inl, inr, length-append}
use Rattle.std.proofs.lemmas.Int.{ints}
use Rattle.std.proofs.lemmas.Bool.{cases_eq}
use Rattle.std.proofs.lemmas.List.{append-nil}
use Rattle.std.specs.Prelude.{All, slice_get}
use Rattle.std.specs.Ordering.{eq_by_cmp}
use Rattle.nd_map.specs.Counts.{keys_of}
use Rattle.nd_map.specs.Entries.{all_found}
use Rattle.nd_paths.specs.Point.{point_cmp, point_total}
use Rattle.nd_paths.specs.declared.point.Pointstamp.{Pointstamp}
use Rattle.nd_delta.specs.Delta.{DeltaValue, at as in_change, entries, at-entries, sorted-entries, some-entry, or_zero, IsPartOf}
use Rattle.nd_protocol.specs.State.{ClusterState, processor, view, queue}
use Rattle.nd_protocol.specs.Exchange.{sent, received, received_from}
use Rattle.nd_protocol.specs.Fitting.{KeysFit}
use Rattle.nd_steps.specs.Places.{Place, place_at, view_of}
use Rattle.nd_steps.specs.Integers.{queue_cmp}
use Rattle.nd_steps.specs.declared.slot.Slot.TheVariants.{Unsent}
use Rattle.nd_steps.specs.declared.effect.Altered.{Altered}
use Rattle.nd_steps.specs.Effect.{altered, unsent_at, view_at, joined_below, queue_at, queues_altered, places_altered, effect_at, effect_of}
use Rattle.nd_steps.specs.Alterations.{nothing, sent_row, longer_row, longer_rows, received_row, shorter_row}
use Rattle.nd_steps.proofs.Differences.{of_one_map, entries_changed, unlike_queues}
use Rattle.nd_steps.proofs.CountsLemmas.{sent_here, sent_others, longer, received_here, received_others, shorter, of_other_senders, to_others}
use Rattle.nd_steps.proofs.AlterationsLemmas.{same_queue}

-- ---- lists of rows of queues

none_joined : {X : Type 0} (n : ℕ) (f : ℕ → List X) → ((k : ℕ) → k < n → f k ≡ []) → joined_below n f ≡ []
none_joined zero f h = refl
none_joined (suc n) f h = λ i. none_joined n f (λ k lt. h k (omega (arith, lt))) i ++ h n (omega arith) i

each_joined : {X : Type 0} (n : ℕ) (f g : ℕ → List X) → ((k : ℕ) → k < n → f k ≡ g k) → joined_below n f ≡ joined_below n g
each_joined zero f g h = refl
each_joined (suc n) f g h = λ i. each_joined n f g (λ k lt. h k (omega (arith, lt))) i ++ h n (omega arith) i

one_joined : {X : Type 0} (n i : ℕ) (f : ℕ → List X) → i < n → ((k : ℕ) → k < n → k ≢ i → f k ≡ []) → joined_below n f ≡ f i
one_joined zero i f lt h = absurd (omega (arith, lt))
one_joined (suc n) i f lt h = elim (cases_eq i n) [
  | inl e ↦
      (λ j. none_joined n f (λ k below. h k (omega (arith, below)) (λ is. omega (arith, below, is, e))) j ++ f n)
      ∙ ap f (sym e)
  | inr other ↦
      (λ j. one_joined n i f (omega (arith, lt, other)) (λ k below. h k (omega (arith, below))) j ++ h n (omega arith) (λ is. other (sym is)) j)
      ∙ append-nil (f i)
]

-- a queue of another length
unlike : (s t : ClusterState) (from to : ℕ) → length (queue s from to) ≢ length (queue t from to)
    → queue_at s t from to ≡ altered from to (length (queue s from to)) (length (queue t from to))
unlike s t from to apart =
    by (eq_by_cmp queue_cmp (queue s from to) (queue t from to)) (unlike_queues (queue s from to) (queue t from to) apart)
  where
    by : (b : Bool) → ◌≡◌ {A = ℕ} (cond b 0 1) 1 → cond b [] (altered from to (length (queue s from to)) (length (queue t from to))) ≡ altered from to (length (queue s from to)) (length (queue t from to))
    by true e = absurd (omega (arith, e))
    by false e = refl

-- ---- the entries of a change

-- each entry is what the change has at its pointstamp
abbrev IsEntry : DeltaValue → Pointstamp × ℤ → Type 0
IsEntry c e = (in_change c e.0 ≡ e.1) × (e.1 ≢ pos 0)

are_entries : (c : DeltaValue) → All (IsEntry c) (entries c)
are_entries c = all_found point_cmp point_total (λ k v. (in_change c k ≡ v) × (v ≢ pos 0)) (entries c) (sorted-entries c)
    (λ k v is. (sym (at-entries c k) ∙ ap or_zero is, some-entry c k v is))

first_of : {X : Type 0} (P : X → Type 0) (x : X) (xs : List X) → All P (x ∷ xs) → P x
first_of P x xs h = h 0 x (omega arith)

rest_of : {X : Type 0} (P : X → Type 0) (x : X) (xs : List X) → All P (x ∷ xs) → All P xs
rest_of P x xs h k d lt = h (suc k) d (omega (arith, lt))

keys_mapped : (f : Pointstamp → Place) (g : ℤ → ℤ) (es : List (Pointstamp × ℤ)) → keys_of (map (λ e. (f e.0, g e.1)) es) ≡ map (λ e. f e.0) es
keys_mapped f g [] = refl
keys_mapped f g (e ∷ es) = ap (λ ks. f e.0 ∷ ks) (keys_mapped f g es)

-- ---- a broadcast

module _ (s : ClusterState) (p : ℕ) (c : DeltaValue) (fits : KeysFit s) (here : p < length s.processors) (part : IsPartOf c (processor s p).unsent) where
  abbrev then_sent : ClusterState
  then_sent = sent s p c

  sent_places : places_altered s then_sent ≡ map (λ e. place_at p (Unsent e.0)) (entries c)
  sent_places =
      ap keys_of (entries_changed (λ k. place_at p (Unsent k)) (λ a b. of_one_map p (point_cmp a b)) (λ x. refl) neg_ℤ refl (λ z e. omega (arith, ints, e)) c s then_sent
      (sent_here s p c fits here) (sent_others s p c fits here))
      ∙ keys_mapped (λ k. place_at p (Unsent k)) neg_ℤ (entries c)

  sent_value : (e : Pointstamp × ℤ) → IsEntry c e → unsent_at s then_sent (place_at p (Unsent e.0)) ≡ sent_row p e ∷ []
  sent_value e is =
      let before : in_change (processor s p).unsent e.0 ≡ e.1 = part e.0 (λ none. is.1 (sym is.0 ∙ none)) ∙ is.0 in
      let after : in_change (processor then_sent p).unsent e.0 ≡ pos 0 = sent_here s p c fits here e.0 ∙ (let h = is.0 in omega (arith, ints, before, h)) in
      λ i. altered p e.0 (before i) (after i)

  sent_list : (es : List (Pointstamp × ℤ)) → All (IsEntry c) es → (qs : List (Altered ℕ ℕ))
      → effect_at s then_sent (map (λ e. place_at p (Unsent e.0)) es) qs ≡ record nothing { unsent = map (sent_row p) es; queues = qs }
  sent_list [] h qs = refl
  sent_list (e ∷ es) h qs = λ i. record (sent_list es (rest_of (IsEntry c) e es h) qs i) {
    unsent = sent_value e (first_of (IsEntry c) e es h) i ++ (sent_list es (rest_of (IsEntry c) e es h) qs i).unsent;
  }

  one_longer : (to : ℕ) → to < length s.processors → queue_at s then_sent p to ≡ longer_row s.queues p to ∷ []
  one_longer to lt =
      let more : length (queue then_sent p to) ≡ length (queue s p to) + 1 = ap length (longer s p c fits here to lt) ∙ length-append (queue s p to) (c ∷ []) in
      unlike s then_sent p to (λ e. omega (arith, more, e)) ∙ ap (altered p to (length (queue s p to))) more

  as_before : (k q : ℕ) → k ≢ p → queue then_sent k q ≡ queue s k q
  unfolding sent
  as_before k q other = ap (λ (r : List (List DeltaValue)). get_or r q []) (get_or-set_other s.queues p k _ [] other)

  sent_queues : queues_altered s then_sent ≡ longer_rows s.queues p (length s.queues)
  sent_queues =
      one_joined (length s.processors) p _ here
      (λ k lt other. none_joined (length s.processors) (queue_at s then_sent k) (λ to below. same_queue s then_sent k to (as_before k to other)))
      ∙ each_joined (length s.processors) (queue_at s then_sent p) (λ to. longer_row s.queues p to ∷ []) one_longer
      ∙ ap (longer_rows s.queues p) (sym fits.each_sender)

  pub sent_effect_is : record nothing { unsent = map (sent_row p) (entries c); queues = longer_rows s.queues p (length s.queues) } ≡ effect_of s then_sent
  unfolding effect_of
  sent_effect_is =
      sym (sent_list (entries c) (are_entries c) (longer_rows s.queues p (length s.queues)))
      ∙ (λ i. effect_at s then_sent (sym sent_places i) (sym sent_queues i))

-- ---- a receive

module _ (s : ClusterState) (p q : ℕ) (c : DeltaValue) (rest : List DeltaValue) (fits : KeysFit s) (here : p < length s.processors) (there : q < length s.processors) (front : queue s p q ≡ c ∷ rest) where
  abbrev then_received : ClusterState
  then_received = received_from s p q (c ∷ rest)

  received_places : places_altered s then_received ≡ map (λ e. view_of q e.0) (entries c)
  received_places =
      ap keys_of (entries_changed (view_of q) (λ a b. of_one_map q (point_cmp a b)) (λ x. refl) (λ z. z) refl (λ z e. e) c s then_received
      (received_here s p q c rest fits here there) (received_others s p q c rest fits here there))
      ∙ keys_mapped (view_of q) (λ z. z) (entries c)

  received_value : (e : Pointstamp × ℤ) → IsEntry c e → view_at s then_received (view_of q e.0) ≡ received_row q (view s q) e ∷ []
  received_value e is =
      ap (λ z. altered q e.0 (in_change (view s q) e.0) z)
      (received_here s p q c rest fits here there e.0 ∙ ap (λ z. in_change (view s q) e.0 +ℤ z) is.0)

  received_list : (es : List (Pointstamp × ℤ)) → All (IsEntry c) es → (qs : List (Altered ℕ ℕ))
      → effect_at s then_received (map (λ e. view_of q e.0) es) qs ≡ record nothing { views = map (received_row q (view s q)) es; queues = qs }
  received_list [] h qs = refl
  received_list (e ∷ es) h qs = λ i. record (received_list es (rest_of (IsEntry c) e es h) qs i) {
    views = received_value e (first_of (IsEntry c) e es h) i ++ (received_list es (rest_of (IsEntry c) e es h) qs i).views;
  }

  received_queues : queues_altered s then_received ≡ shorter_row s.queues p q ∷ []
  received_queues =
      let less : length (queue then_received p q) + 1 ≡ length (queue s p q)
      = ap (λ (l : List DeltaValue). length l + 1) (shorter s p q c rest fits here there) ∙ (let e : length rest + 1 ≡ length (c ∷ rest) = omega arith in e) ∙ sym (ap length front) in
      one_joined (length s.processors) p _ here
      (λ k lt other. none_joined (length s.processors) (queue_at s then_received k) (λ l below. same_queue s then_received k l (of_other_senders s p q c rest fits here there k l other)))
      ∙ one_joined (length s.processors) q (queue_at s then_received p) there
      (λ l lt other. same_queue s then_received p l (to_others s p q c rest fits here there l other))
      ∙ unlike s then_received p q (λ e. omega (arith, less, e))
      ∙ ap (altered p q (length (queue s p q))) (omega (arith, less))

  pub received_from_is : record nothing { views = map (received_row q (view s q)) (entries c); queues = shorter_row s.queues p q ∷ [] } ≡ effect_of s then_received
  unfolding effect_of
  received_from_is =
      sym (received_list (entries c) (are_entries c) (shorter_row s.queues p q ∷ []))
      ∙ (λ i. effect_at s then_received (sym received_places i) (sym received_queues i))

pub received_effect_is : (s : ClusterState) (p q : ℕ) (c : DeltaValue) → KeysFit s → p < length s.processors → q < length s.processors → slice_get (queue s p q) 0 ≡ Some c
    → record nothing { views = map (received_row q (view s q)) (entries c); queues = shorter_row s.queues p q ∷ [] } ≡ effect_of s (received s p q)
unfolding received
received_effect_is s p q c fits here there first = by (queue s p q) refl first
  where
    by : (cs : List DeltaValue) → queue s p q ≡ cs → slice_get cs 0 ≡ Some c
        → record nothing { views = map (received_row q (view s q)) (entries c); queues = shorter_row s.queues p q ∷ [] } ≡ effect_of s (received_from s p q cs)
    by [] is e = absurd (cc)
    by (d ∷ rest) is e =
        let same_front : d ≡ c = cc in
        received_from_is s p q c rest fits here there (is ∙ ap (λ x. x ∷ rest) same_front)
        ∙ ap (λ x. effect_of s (received_from s p q (x ∷ rest))) (sym same_front)
