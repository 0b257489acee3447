-- The effect of changes on the processors is what the definition of an effect says of the states before and after.
use Rattle.std.proofs.Common.{◌≡◌, ◌≢◌, ◌≤◌, ◌+◌, ℕ, zero, suc, ℤ, pos, ◌+ℤ◌, true, cond, List, [], ◌∷◌, ◌++◌, Option, Some, None, is_some, map, length, refl, sym, ap, subst, ◌∙◌, arith}
use Rattle.std.proofs.lemmas.Int.{ints}
use Rattle.std.proofs.lemmas.List.{append-nil}
use Rattle.std.specs.Prelude.{not, slice_index_or}
use Rattle.std.specs.List.{flat_map}
use Rattle.std.specs.List.Sorted.{IsPermutation}
use Rattle.std.specs.Ordering.{eq_by_cmp}
use Rattle.std.specs.FinMap as fin
use Rattle.nd_map.specs.Counts.{at, natural, size}
use Rattle.nd_delta.specs.Delta.{DeltaValue, at as in_change}
use Rattle.nd_vertex.specs.Edits.{item_of}
use Rattle.nd_processor.specs.State.{items_at}
use Rattle.nd_protocol.specs.State.{ClusterState, processor, queue}
use Rattle.nd_steps.specs.Places.{Place, place_at}
use Rattle.nd_steps.specs.Slots.{from_request, from_epoch}
use Rattle.nd_steps.specs.Integers.{standing, difference, changed, queue_cmp}
use Rattle.nd_steps.specs.Changes.{place_of, AreByPlace, Fits}
use Rattle.nd_steps.specs.Records.{RunsTo}
use Rattle.nd_steps.specs.Plans.{total_at, Each}
use Rattle.nd_steps.specs.Effect.{altered, item_at, record_at, request_at, sink_at, token_at, unsent_at, view_at, joined_below, queue_at, queues_altered, places_altered, effect_at, effect_of}
use Rattle.nd_steps.specs.Alterations.{only, nothing, beside, number_from, epoch_from, altered_at, altered_by}
use Rattle.nd_steps.specs.declared.change.Change.{Change}
use Rattle.nd_steps.specs.declared.slot.Slot.{Slot}
use Rattle.nd_steps.specs.declared.slot.Slot.TheVariants.{Records, Request, Token, State, Sink, Unsent}
use Rattle.nd_steps.proofs.AlikeLemmas.{same_key}
use Rattle.nd_steps.proofs.RunsLemmas.{shape-applied}
use Rattle.nd_steps.proofs.EachLemmas.{each_through, each_moved, often_moved}
use Rattle.nd_steps.proofs.CountsLemmas.{queues_same}
use Rattle.nd_steps.proofs.Differences.{queue_total}
use Rattle.nd_steps.proofs.PlansLemmas.{moved}
use Rattle.nd_steps.proofs.NamedLemmas.{fits_first, once, some, gains, listed}

-- ---- one change

-- a request that was there is removed, and one that was not is added
flipped : (x y : Option (Unit {0})) (n : ℤ) → from_request y ≡ from_request x +ℤ n → n ≢ pos 0 → not (is_some x) ≡ is_some y
flipped None None n e some = absurd (some (omega (arith, ints, e)))
flipped None (Some _) n e some = refl
flipped (Some _) None n e some = refl
flipped (Some _) (Some _) n e some = absurd (some (omega (arith, ints, e)))

epoch_back : (x : Option ℕ) → epoch_from (from_epoch x) ≡ x
epoch_back None = refl
epoch_back (Some e) = let more : e + 1 ≡ suc e = omega arith in ap (λ m. epoch_from (pos m)) more

one_change : (s t : ClusterState) (p : ℕ) (l : Slot) (n : ℤ) → n ≢ pos 0 → standing t (place_at p l) ≡ standing s (place_at p l) +ℤ n
    → altered_at (processor s p) p l n ≡ effect_at s t (place_at p l ∷ []) []
one_change s t p (Records key) n some e = ap (λ z. record nothing { records = altered p key (at (processor s p).records key) (natural z) }) (sym e)
one_change s t p (Request x) n some e =
    ap (λ b. record nothing { requests = altered p x (is_some (fin.get (processor s p).requests x)) b }) (flipped (fin.get (processor s p).requests x) (fin.get (processor t p).requests x) n e some)
one_change s t p (Token vertex) n some e =
    ap (λ z. record nothing { tokens = altered p vertex (fin.get (processor s p).tokens vertex) (epoch_from z) }) (sym e)
    ∙ ap (λ o. record nothing { tokens = altered p vertex (fin.get (processor s p).tokens vertex) o }) (epoch_back (fin.get (processor t p).tokens vertex))
one_change s t p (State vertex key) n some e = ap (λ z. record nothing { items = altered p (record { vertex = vertex; key = key }) (item_of (items_at (processor s p) vertex) key) (number_from z) }) (sym e)
one_change s t p (Sink key) n some e = ap (λ z. record nothing { sinks = altered p key (at (processor s p).sinks key) (natural z) }) (sym e)
one_change s t p (Unsent x) n some e = ap (λ z. record nothing { unsent = altered p x (in_change (processor s p).unsent x) z }) (sym e)

-- ---- a list of changes

module _ (s t : ClusterState) where
  one_more : (k : Place) (ks : List Place) → beside (effect_at s t (k ∷ []) []) (effect_at s t ks []) ≡ effect_at s t (k ∷ ks) []
  one_more k ks = λ i. record {
    items = append-nil (item_at s t k) i ++ flat_map (item_at s t) ks;
    queues = [];
    records = append-nil (record_at s t k) i ++ flat_map (record_at s t) ks;
    requests = append-nil (request_at s t k) i ++ flat_map (request_at s t) ks;
    sinks = append-nil (sink_at s t k) i ++ flat_map (sink_at s t) ks;
    tokens = append-nil (token_at s t k) i ++ flat_map (token_at s t) ks;
    unsent = append-nil (unsent_at s t k) i ++ flat_map (unsent_at s t) ks;
    views = append-nil (view_at s t k) i ++ flat_map (view_at s t) ks;
  }

  all_changes : (cs : List Change) → Each (λ c. c.n ≢ pos 0) cs → Each (λ c. standing t (place_of c) ≡ standing s (place_of c) +ℤ c.n) cs
      → altered_by s.processors cs ≡ effect_at s t (map place_of cs) []
  all_changes [] some gains = refl
  all_changes (c ∷ cs) some gains =
      (λ i. beside (one_change s t c.p c.slot c.n some.0 gains.0 i) (all_changes cs some.1 gains.1 i))
      ∙ one_more (place_of c) (map place_of cs)

  -- ---- queues that do not change

  none_joined : {X : Type 0} (n : ℕ) (f : ℕ → List X) → ((k : ℕ) → f k ≡ []) → joined_below n f ≡ []
  none_joined zero f h = refl
  none_joined (suc n) f h = λ i. none_joined n f h i ++ h n i

  pub same_queue : (from to : ℕ) → queue t from to ≡ queue s from to → queue_at s t from to ≡ []
  same_queue from to e =
      let alike : eq_by_cmp queue_cmp (queue s from to) (queue t from to) ≡ true = ap (eq_by_cmp queue_cmp (queue s from to)) e ∙ same_key queue_total (queue s from to) in
      ap (λ b. cond b [] (altered from to (length (queue s from to)) (length (queue t from to)))) alike

  same_queues : t.queues ≡ s.queues → queues_altered s t ≡ []
  same_queues e =
      none_joined (length s.processors) _ (λ p. none_joined (length s.processors) (queue_at s t p) (λ q.
      same_queue p q (ap (λ (rows : List (List (List DeltaValue))). slice_index_or (slice_index_or rows p []) q []) e)))

-- ---- the changes of a record, in the order of their places

module _ (s t : ClusterState) (cs ds : List Change) (runs : RunsTo s cs t) (exact : length cs ≤ changed s t)
    (same_ones : IsPermutation cs ds) (rising : AreByPlace ds) where
  kept_queues : t.queues ≡ s.queues
  kept_queues = ap (λ (u : ClusterState). u.queues) (sym runs.1) ∙ (shape-applied s cs).queues

  moves : (k : Place) → standing t k ≡ standing s k +ℤ total_at k cs
  moves k = ap (λ u. standing u k) (sym runs.1) ∙ moved s cs runs.0.fits k

  few : length cs ≤ size (difference s t)
  few = let none = queues_same s t kept_queues in omega (arith, exact, none)

  -- each can be applied to the processors as they are before all of them
  pub can_be_made : Each (Fits (only s.processors)) ds
  can_be_made =
      each_moved (Fits (only s.processors)) cs ds same_ones
      (each_through (Fits s) (Fits (only s.processors)) (λ c h. record { owner = h.owner; inside = h.inside }) cs
      (fits_first s cs runs.0 (λ k. subst (λ n. n ≤ 1) (often_moved k cs ds same_ones) (once s t cs ds moves few same_ones rising k))))

  -- their effect is that of the step
  pub effect_is : altered_by s.processors ds ≡ effect_of s t
  unfolding effect_of
  effect_is =
      all_changes s t ds (some s t cs ds moves few same_ones rising) (gains s t cs ds moves few same_ones rising)
      ∙ (λ i. effect_at s t (places i) (none i))
    where
      none : [] ≡ queues_altered s t
      none = sym (same_queues s t kept_queues)

      places : map place_of ds ≡ places_altered s t
      places = listed s t cs ds moves few same_ones rising
