-- At how many keys and queues a broadcast or a receive changes a cluster: at one key for each entry of the change, and at the
-- queues that the change enters or leaves.
--     queues_same          the queues are unchanged
--     sent_changed         a broadcast
--     received_changed     a receive
use Rattle.std.proofs.Common.{◌≡◌, ◌≢◌, ◌<◌, ◌+◌, ℕ, ℤ, neg_ℤ, ◌+ℤ◌, ◌-ℤ◌, List, [], ◌∷◌, ◌++◌, Some, map, length, get_or, set, refl, sym, ap, subst, ◌∙◌, arith, true≢false, length-append, get_or-set_same, get_or-set_other}
use Rattle.std.proofs.Math.ListN.{get_or-map}
use Rattle.std.proofs.lemmas.Int.{ints}
use Rattle.std.proofs.lemmas.List.{get_or_default, length-map}
use Rattle.std.specs.Prelude.{slice_get}
use Rattle.std.specs.FinMap as fin
use Rattle.nd_map.specs.Counts.{int_at, none as no_counts, at as number_at, size as keys}
use Rattle.nd_paths.specs.Point.{point_cmp}
use Rattle.nd_paths.specs.declared.point.Pointstamp.{Pointstamp}
use Rattle.nd_delta.specs.Delta.{DeltaValue, none as no_change, at as in_change, plus, minus, at-plus, at-minus, size}
use Rattle.nd_processor.specs.State.{ProcessorState, idle}
use Rattle.nd_protocol.specs.State.{ClusterState, processor, view, queue}
use Rattle.nd_protocol.specs.Exchange.{IsPart, sent, received, received_from}
use Rattle.nd_protocol.specs.Fitting.{KeysFit}
use Rattle.nd_protocol.specs.TruthLaws.{kept-set}
use Rattle.nd_steps.specs.Places.{Place, place_at, view_of}
use Rattle.nd_steps.specs.declared.slot.Slot.TheVariants.{Records, Request, Token, State, Sink, Unsent}
use Rattle.nd_steps.specs.Slots.{from_request, from_epoch}
use Rattle.nd_steps.specs.Integers.{standing, difference, queues_changed, changed}
use Rattle.nd_steps.specs.Places.{is_place}
use Rattle.nd_steps.proofs.AlikeLemmas.{place_itself}
use Rattle.nd_steps.proofs.Differences.{of_one_map, IsNone, keys_changed, alike_queues, unlike_queues, none_below, each_below, one_below}

-- ---- the queues are unchanged
pub queues_same : (s t : ClusterState) → t.queues ≡ s.queues → queues_changed s t ≡ 0
unfolding queues_changed
queues_same s t e =
    none_below (length s.processors) _ (λ p lt. none_below (length s.processors) _ (λ q below.
    alike_queues (queue s p q) (queue t p q) (ap (λ (rows : List (List (List DeltaValue))). get_or (get_or rows p []) q []) e)))

-- ---- a broadcast

module _ (s : ClusterState) (p : ℕ) (c : DeltaValue) (fits : KeysFit s) (here : p < length s.processors) where
  abbrev after : ProcessorState
  after = record (processor s p) { unsent = minus (processor s p).unsent c }

  pub sent_here : (x : Pointstamp) → standing (sent s p c) (place_at p (Unsent x)) ≡ standing s (place_at p (Unsent x)) +ℤ neg_ℤ (in_change c x)
  unfolding sent
  sent_here x = ap (λ (q : ProcessorState). in_change q.unsent x) (get_or-set_same s.processors p after idle here) ∙ at-minus (processor s p).unsent c x ∙ less_is (in_change (processor s p).unsent x) (in_change c x)
    where
      less_is : (a b : ℤ) → a -ℤ b ≡ a +ℤ neg_ℤ b
      less_is a b = omega (arith, ints)

  pub sent_others : (k : Place) → IsNone (λ k. place_at p (Unsent k)) k → standing (sent s p c) k ≡ standing s k
  unfolding sent
  sent_others (place_at n (Records key)) apart = ap (λ m. int_at m key) (kept-set (λ q. q.records) s.processors p after refl n)
  sent_others (place_at n (Request x)) apart = ap (λ m. from_request (fin.get m x)) (kept-set (λ q. q.requests) s.processors p after refl n)
  sent_others (place_at n (Token v)) apart = ap (λ m. from_epoch (fin.get m v)) (kept-set (λ q. q.tokens) s.processors p after refl n)
  sent_others (place_at n (State v key)) apart = ap (λ m. number_at (get_or m v no_counts) key) (kept-set (λ q. q.items) s.processors p after refl n)
  sent_others (place_at n (Sink key)) apart = ap (λ m. int_at m key) (kept-set (λ q. q.sinks) s.processors p after refl n)
  sent_others (place_at n (Unsent x)) apart =
      ap (λ (q : ProcessorState). in_change q.unsent x)
      (get_or-set_other s.processors p n after idle (λ e. true≢false (sym (place_itself (place_at n (Unsent x))) ∙ ap (λ m. is_place (place_at n (Unsent x)) (place_at m (Unsent x))) e ∙ apart x)))
  sent_others (view_of n x) apart = refl

  sent_keys : keys (difference s (sent s p c)) ≡ size c
  sent_keys = keys_changed (λ k. place_at p (Unsent k)) (λ a b. of_one_map p (point_cmp a b)) (λ x. refl) neg_ℤ refl (λ z e. omega (arith, ints, e)) c s (sent s p c) sent_here sent_others

  sender : p < length s.queues
  sender = subst (λ n. p < n) (sym fits.each_sender) here

  pub longer : (q : ℕ) → q < length s.processors → queue (sent s p c) p q ≡ queue s p q ++ c ∷ []
  unfolding sent
  longer q lt =
      let f = λ (changes : List DeltaValue). changes ++ c ∷ [] in
      let row = get_or s.queues p [] in
      let receiver : q < length row = subst (λ n. q < n) (sym (fits.each_receiver p [] sender)) lt in
      ap (λ (r : List (List DeltaValue)). get_or r q []) (get_or-set_same s.queues p (map f row) [] sender)
      ∙ get_or_default (map f row) q [] (f []) (subst (λ n. q < n) (sym (length-map row f)) receiver)
      ∙ get_or-map f row q []

  sent_queues : queues_changed s (sent s p c) ≡ length s.processors
  unfolding queues_changed sent
  sent_queues =
      one_below (length s.processors) p _ here
      (λ k lt other. none_below (length s.processors) _ (λ q below. alike_queues (queue s k q) (queue (sent s p c) k q) (as_before k q other)))
      ∙ each_below (length s.processors) _ (λ q lt. unlike_queues (queue s p q) (queue (sent s p c) p q) (λ e. one_more (queue s p q) (e ∙ ap length (longer q lt))))
    where
      as_before : (k q : ℕ) → k ≢ p → queue (sent s p c) k q ≡ queue s k q
      as_before k q other = ap (λ (r : List (List DeltaValue)). get_or r q []) (get_or-set_other s.queues p k _ [] other)

      one_more : (cs : List DeltaValue) → length cs ≡ length (cs ++ c ∷ []) → ⊥
      one_more cs e = let l = length-append cs (c ∷ []) in omega (arith, e, l)

-- a broadcast changes one key for each entry that is sent, and each queue from the sender
pub sent_changed : (s : ClusterState) (p : ℕ) (c : DeltaValue) → KeysFit s → p < length s.processors → IsPart c (processor s p).unsent → changed s (sent s p c) ≡ size c + length s.processors
sent_changed s p c fits here _ = λ i. sent_keys s p c fits here i + sent_queues s p c fits here i

-- ---- a receive

module _ (s : ClusterState) (p q : ℕ) (c : DeltaValue) (rest : List DeltaValue) (fits : KeysFit s) (here : p < length s.processors) (there : q < length s.processors) where
  abbrev then_state : ClusterState
  then_state = received_from s p q (c ∷ rest)

  pub received_here : (x : Pointstamp) → standing then_state (view_of q x) ≡ standing s (view_of q x) +ℤ in_change c x
  received_here x = ap (λ v. in_change v x) (get_or-set_same s.views q (plus (view s q) c) no_change (subst (λ n. q < n) (sym fits.each_view) there)) ∙ at-plus (view s q) c x

  pub received_others : (k : Place) → IsNone (view_of q) k → standing then_state k ≡ standing s k
  received_others (view_of n x) apart =
      ap (λ v. in_change v x)
      (get_or-set_other s.views q n (plus (view s q) c) no_change (λ e. true≢false (sym (place_itself (view_of n x)) ∙ ap (λ m. is_place (view_of n x) (view_of m x)) e ∙ apart x)))
  received_others (place_at n slot) apart = refl

  received_keys : keys (difference s then_state) ≡ size c
  received_keys = keys_changed (view_of q) (λ a b. of_one_map q (point_cmp a b)) (λ x. refl) (λ z. z) refl (λ z e. e) c s then_state received_here received_others

  row_there : p < length s.queues
  row_there = subst (λ n. p < n) (sym fits.each_sender) here

  queue_there : q < length (get_or s.queues p [])
  queue_there = subst (λ n. q < n) (sym (fits.each_receiver p [] row_there)) there

  pub shorter : queue then_state p q ≡ rest
  shorter =
      ap (λ (r : List (List DeltaValue)). get_or r q []) (get_or-set_same s.queues p (set (get_or s.queues p []) q rest) [] row_there)
      ∙ get_or-set_same (get_or s.queues p []) q rest [] queue_there

  pub of_other_senders : (k l : ℕ) → k ≢ p → queue then_state k l ≡ queue s k l
  of_other_senders k l other = ap (λ (r : List (List DeltaValue)). get_or r l []) (get_or-set_other s.queues p k (set (get_or s.queues p []) q rest) [] other)

  pub to_others : (l : ℕ) → l ≢ q → queue then_state p l ≡ queue s p l
  to_others l other =
      ap (λ (r : List (List DeltaValue)). get_or r l []) (get_or-set_same s.queues p (set (get_or s.queues p []) q rest) [] row_there)
      ∙ get_or-set_other (get_or s.queues p []) q l rest [] other

  received_queues : queue s p q ≡ c ∷ rest → queues_changed s then_state ≡ 1
  unfolding queues_changed
  received_queues front =
      one_below (length s.processors) p _ here
      (λ k lt other. none_below (length s.processors) _ (λ l below. alike_queues (queue s k l) (queue then_state k l) (of_other_senders k l other)))
      ∙ one_below (length s.processors) q _ there (λ l lt other. alike_queues (queue s p l) (queue then_state p l) (to_others l other))
      ∙ unlike_queues (queue s p q) (queue then_state p q) (λ e. one_less (sym (ap length front) ∙ e ∙ ap length shorter))
    where
      one_less : length (c ∷ rest) ≡ length rest → ⊥
      one_less e = omega (arith, e)

-- a receive changes one key for each entry that is received, and the queue from which the change comes
pub received_changed : (s : ClusterState) (from to : ℕ) (c : DeltaValue) → KeysFit s → from < length s.processors → to < length s.processors → slice_get (queue s from to) 0 ≡ Some c → changed s (received s from to) ≡ size c + 1
unfolding received
received_changed s from to c fits here there first = by_front (queue s from to) refl first
  where
    by_front : (cs : List DeltaValue) → queue s from to ≡ cs → slice_get cs 0 ≡ Some c → changed s (received_from s from to cs) ≡ size c + 1
    by_front [] is e = absurd (cc)
    by_front (d ∷ rest) is e =
        let same_front : d ≡ c = cc in
        let front : queue s from to ≡ c ∷ rest = is ∙ ap (λ x. x ∷ rest) same_front in
        ap (λ x. changed s (received_from s from to (x ∷ rest))) same_front
        ∙ (λ i. received_keys s from to c rest fits here there i + received_queues s from to c rest fits here there front i)
