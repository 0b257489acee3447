-- Checkpoints: they stay valid when later steps are kept or dropped, and lead to the clusters at their positions.
use Rattle.std.proofs.Common.{◌≡◌, ◌<◌, ◌≤◌, inl, inr, ℕ, zero, suc, ◌-◌, ◌*◌, ◌/◌, List, [], ◌∷◌, ◌++◌, length, take, get_or, refl, sym, ap, subst, ◌∙◌, arith, length-append}
use Rattle.std.specs.Prelude.{AllPairs, Contains}
use Rattle.std.proofs.Math.Nat.{mul-div-le}
use Rattle.std.proofs.lemmas.List.Elements.{All-push}
use Rattle.std.proofs.lemmas.List.Quantifiers.{all_pairs_push}
use Rattle.std.proofs.lemmas.List.{length-take-le, get_or-take, take-append-le, length-map}
use Rattle.std.proofs.lemmas.Bool.{cases_lt}
use Rattle.nd_delta.specs.Delta.{DeltaValue}
use Rattle.nd_protocol.specs.State.{ClusterState, queue}
use Rattle.nd_protocol.specs.Steps.{after, stepped}
use Rattle.nd_protocol.specs.Exchange.{sent, received, received_from}
use Rattle.nd_protocol.specs.declared.step.Step.{Step}
use Rattle.nd_protocol.specs.declared.step.Step.TheVariants.{Feed, Take, Notice, Release, Send, Broadcast, Receive}
use Rattle.nd_steps.specs.declared.record.Record.{Record}
use Rattle.nd_cluster.specs.Saved.{state_in, FitsIn, IsSaved}
use Rattle.nd_cluster.specs.Size.{size_of}
use Rattle.nd_timeline.specs.Reached.{steps_of, IsReached}
use Rattle.nd_timeline.specs.Checkpoints.{spacing, steps_per_entry, IsCheckpoint, IsDue, AreCheckpoints, IsLast}
use Rattle.nd_timeline.specs.declared.checkpoint.Checkpoint.{Checkpoint}
use Rattle.nd_timeline.proofs.KeptSteps.{steps_of-take, steps_of-push}

-- a prefix of a longer prefix is a prefix
take_again : {X : Type 0} (k n : ℕ) (xs : List X) → k ≤ n → take k (take n xs) ≡ take k xs
take_again zero n xs h = refl
take_again (suc k) zero xs h = absurd (omega (arith, h))
take_again (suc k) (suc n) [] h = refl
take_again (suc k) (suc n) (x ∷ xs) h = ap (λ ys. x ∷ ys) (take_again k n xs (omega (arith, h)))

-- ---- no step changes the graph

received_graph : (s : ClusterState) (p q : ℕ) (cs : List DeltaValue) → (received_from s p q cs).graph ≡ s.graph
received_graph s p q [] = refl
received_graph s p q (c ∷ rest) = refl

module _ {A : Type 0} where
  stepped_graph : (s : ClusterState) (x : Step A) → (stepped s x).graph ≡ s.graph
  unfolding stepped sent received
  stepped_graph s (Feed p vertex values _) = refl
  stepped_graph s (Take p edge t value) = refl
  stepped_graph s (Notice p vertex t) = refl
  stepped_graph s (Release p vertex times) = refl
  stepped_graph s (Send p vertex batch) = refl
  stepped_graph s (Broadcast p part) = refl
  stepped_graph s (Receive from to) = received_graph s from to (queue s from to)

  after_graph : (s : ClusterState) (xs : List (Step A)) → (after s xs).graph ≡ s.graph
  unfolding after
  after_graph s [] = refl
  after_graph s (x ∷ xs) = after_graph (stepped s x) xs ∙ stepped_graph s x

  -- ---- a checkpoint leads to the cluster at its position

  pub fits_base : (base : ClusterState) (rs : List (Record A)) (c : Checkpoint A) → IsCheckpoint base rs c → FitsIn base.graph c.saved
  fits_base base rs c h = subst (λ g. FitsIn g c.saved) (after_graph base (take c.at (steps_of rs))) h.saved.fits

  pub leads_back : (base : ClusterState) (rs : List (Record A)) (c : Checkpoint A) → IsCheckpoint base rs c → state_in base.graph c.saved ≡ after base (take c.at (steps_of rs))
  leads_back base rs c h =
      subst (λ g. state_in g c.saved ≡ after base (take c.at (steps_of rs))) (after_graph base (take c.at (steps_of rs))) h.saved.value

  -- ---- steps are dropped, and steps are added

  still_after_cut : (base : ClusterState) (rs : List (Record A)) (n : ℕ) (c : Checkpoint A) → IsCheckpoint base rs c → c.at ≤ n → n ≤ length rs → IsCheckpoint base (take n rs) c
  still_after_cut base rs n c h near within =
      let same : take c.at (steps_of (take n rs)) ≡ take c.at (steps_of rs) = ap (take c.at) (steps_of-take n rs) ∙ take_again c.at n (steps_of rs) near in
      record {
        within = omega (arith, near, length-take-le n rs within);
        saved = subst (λ (xs : List (Step A)). IsSaved (after base xs) c.saved) (sym same) h.saved;
      }

  still_after_push : (base : ClusterState) (rs : List (Record A)) (r : Record A) (c : Checkpoint A) → IsCheckpoint base rs c → IsCheckpoint base (rs ++ r ∷ []) c
  still_after_push base rs r c h =
      let count : length (steps_of rs) ≡ length rs = length-map rs (λ r. r.step) in
      let near : c.at ≤ length (steps_of rs) = omega (arith, count, h.within) in
      let same : take c.at (steps_of (rs ++ r ∷ [])) ≡ take c.at (steps_of rs) = ap (take c.at) (steps_of-push rs r) ∙ take-append-le c.at (steps_of rs) (r.step ∷ []) near in
      record {
        within = omega (arith, h.within, length-append rs (r ∷ []));
        saved = subst (λ (xs : List (Step A)). IsSaved (after base xs) c.saved) (sym same) h.saved;
      }

  -- ---- how far apart they are

  -- a checkpoint that is due after a position is due after each earlier one
  due_earlier : (base : ClusterState) (m n : ℕ) (c : Checkpoint A) → IsDue base n c → m ≤ n → IsDue base m c
  due_earlier base m n c h le = record { steps = omega (arith, le, h.steps); entries = omega (arith, le, h.entries) }

  -- the checkpoints are in the order of their positions
  ascending : (base : ClusterState) (cs : List (Checkpoint A)) → AllPairs (λ c d. IsDue base c.at d) cs → (i j : ℕ) (d : Checkpoint A) → i < j → j < length cs → (get_or cs i d).at ≤ (get_or cs j d).at
  ascending base cs spaced i j d before lt = let far = spaced i j d before lt in omega (arith, far.steps)

  -- if the last checkpoint is at n or before, all are
  none_is_past : (base : ClusterState) (cs : List (Checkpoint A)) (last n : ℕ) → AllPairs (λ c d. IsDue base c.at d) cs → IsLast cs last → last ≤ n → (k : ℕ) (d : Checkpoint A) → k < length cs → (get_or cs k d).at ≤ n
  none_is_past base cs last n spaced is near k d lt =
      let end : last ≡ (get_or cs (length cs - 1) d).at = is.some d (omega (arith, lt)) in
      elim (cases_lt k (length cs - 1)) [
        | inl before ↦
            let up : (get_or cs k d).at ≤ (get_or cs (length cs - 1) d).at = ascending base cs spaced k (length cs - 1) d before (omega (arith, lt)) in
            omega (arith, up, end, near)
        | inr h ↦
            let e : k ≡ length cs - 1 = omega (arith, h, lt) in
            let same : (get_or cs k d).at ≡ (get_or cs (length cs - 1) d).at = ap (λ k. (get_or cs k d).at) e in
            omega (arith, same, end, near)
      ]

  -- ---- all of them

  pub no_checkpoints : (base : ClusterState) (rs : List (Record A)) (cs : List (Checkpoint A)) → cs ≡ [] → AreCheckpoints base rs cs
  no_checkpoints base rs cs is = rw is (record {
    each = λ k d lt. absurd (omega (arith, lt));
    from_base = λ k d lt. absurd (omega (arith, lt));
    spaced = λ i j d before lt. absurd (omega (arith, lt));
  })

  pub are_after_cut : (base : ClusterState) (rs : List (Record A)) (cs : List (Checkpoint A)) (last n : ℕ) → AreCheckpoints base rs cs → IsLast cs last → last ≤ n → n ≤ length rs → AreCheckpoints base (take n rs) cs
  are_after_cut base rs cs last n h is near within = record {
    each = λ k d lt. still_after_cut base rs n (get_or cs k d) (h.each k d lt) (none_is_past base cs last n h.spaced is near k d lt) within;
    from_base = h.from_base;
    spaced = h.spaced;
  }

  pub are_after_push : (base : ClusterState) (rs : List (Record A)) (r : Record A) (cs : List (Checkpoint A)) → AreCheckpoints base rs cs → AreCheckpoints base (rs ++ r ∷ []) cs
  are_after_push base rs r cs h = record { each = λ k d lt. still_after_push base rs r (get_or cs k d) (h.each k d lt); from_base = h.from_base; spaced = h.spaced }

  -- a prefix of the checkpoints
  pub are_front : (base : ClusterState) (rs : List (Record A)) (cs : List (Checkpoint A)) (n : ℕ) → AreCheckpoints base rs cs → n ≤ length cs → AreCheckpoints base rs (take n cs)
  are_front base rs cs n h within =
      let count : length (take n cs) ≡ n = length-take-le n cs within in
      let same : (k : ℕ) (d : Checkpoint A) → k < n → get_or cs k d ≡ get_or (take n cs) k d = λ k d there. sym (get_or-take n cs k d there) in
      record {
        each = λ k d lt.
            let there : k < n = omega (arith, lt, count) in
            subst (IsCheckpoint base rs) (same k d there) (h.each k d (omega (arith, there, within)));
        from_base = λ k d lt.
            let there : k < n = omega (arith, lt, count) in
            subst (IsDue base 0) (same k d there) (h.from_base k d (omega (arith, there, within)));
        spaced = λ i j d before lt.
            let there : j < n = omega (arith, lt, count) in
            subst (λ (c : Checkpoint A). IsDue base c.at (get_or (take n cs) j d)) (same i d (omega (arith, before, there)))
            (subst (IsDue base (get_or cs i d).at) (same j d there) (h.spaced i j d before (omega (arith, there, within))));
      }

  -- the saved cluster of a walk is a checkpoint
  pub is_checkpoint : (base cluster : ClusterState) (rs : List (Record A)) (c : Checkpoint A) → IsReached base cluster rs c.at → IsSaved cluster c.saved → IsCheckpoint base rs c
  is_checkpoint base cluster rs c was saved = record { within = was.within; saved = subst (λ (s : ClusterState). IsSaved s c.saved) was.reached saved }

  -- the saved cluster is due if the steps since the last checkpoint are enough for its entries
  pub is_due : (base cluster : ClusterState) (rs : List (Record A)) (c : Checkpoint A) (last since : ℕ) → IsReached base cluster rs c.at → IsSaved cluster c.saved
      → since ≡ c.at - last → spacing ≤ since → size_of cluster ≤ since / steps_per_entry → IsDue base last c
  is_due base cluster rs c last since was saved made enough few =
      let graph : cluster.graph ≡ base.graph = ap (λ (s : ClusterState). s.graph) was.reached ∙ after_graph base (take c.at (steps_of rs)) in
      let same : state_in base.graph c.saved ≡ cluster = ap (λ g. state_in g c.saved) (sym graph) ∙ saved.value in
      let size : size_of (state_in base.graph c.saved) ≡ size_of cluster = ap size_of same in
      let four : 4 * (since / 4) ≤ since = mul-div-le since 4 in
      record { steps = omega (arith, made, enough); entries = omega (arith, size, few, four, made, enough) }

  pub are_more : (base : ClusterState) (rs : List (Record A)) (cs : List (Checkpoint A)) (c : Checkpoint A) (last : ℕ) → AreCheckpoints base rs cs → IsCheckpoint base rs c
      → IsLast cs last → IsDue base last c → AreCheckpoints base rs (cs ++ c ∷ [])
  are_more base rs cs c last h is at_end due = record {
    each = All-push (IsCheckpoint base rs) cs c h.each is;
    from_base = All-push (IsDue base 0) cs c h.from_base (due_earlier base 0 last c due (omega arith));
    spaced = all_pairs_push (λ (c d : Checkpoint A). IsDue base c.at d) cs c h.spaced
        (λ k d lt. due_earlier base (get_or cs k d).at last c due (none_is_past base cs last last h.spaced at_end (omega arith) k d lt));
  }

  -- an element of the list is a checkpoint
  pub is_among : (base : ClusterState) (rs : List (Record A)) (cs : List (Checkpoint A)) (c : Checkpoint A) → AreCheckpoints base rs cs → Contains cs c → IsCheckpoint base rs c
  is_among base rs cs c h at = subst (IsCheckpoint base rs) at.2 (h.each at.0 c at.1)
