-- A move of the state that a search goes on from, and the state to which it leads.
use Rattle.std.proofs.Common.{◌≡◌, ◌≢◌, ◌∙◌, inl, inr, ◌⊎◌, ℕ, zero, suc, ◌+◌, ◌<◌, ◌≤◌, List, [], ◌∷◌, ◌++◌, length, map, refl, sym, ap, subst, arith, length-append, Option, Some, None, Bool, true, false}
use Rattle.std.specs.Prelude.{slice_get, Contains, IfSome}
use Rattle.std.proofs.lemmas.List.{length-set, map-append}
use Rattle.std.proofs.lemmas.List.Elements.{All-push}
use Rattle.nd_delta.specs.Delta.{DeltaValue}
use Rattle.nd_protocol.specs.State.{ClusterState, queue}
use Rattle.nd_protocol.specs.Steps.{stepped, after}
use Rattle.nd_protocol.specs.Exchange.{sent, received, received_from}
use Rattle.nd_protocol.specs.Fitting.{IsState}
use Rattle.nd_protocol.specs.declared.step.Step.{Step}
use Rattle.nd_protocol.specs.declared.step.Step.TheVariants.{Feed, Take, Notice, Release, Send, Broadcast, Receive}
use Rattle.nd_steps.specs.declared.record.Record.{Record}
use Rattle.nd_protocol.specs.Enabled.{IsEnabled}
use Rattle.nd_steps.specs.Integers.{changed}
use Rattle.nd_steps.specs.Records.{named, Makes, MakesWhat}
use Rattle.nd_cluster.specs.Records.{IsPlanned, shared}
use Rattle.nd_cluster.specs.Saved.{IsSaved}
use Rattle.nd_breaks.specs.Conditions.{Holds}
use Rattle.nd_reach.specs.Forms.{form, FormsDetermineStates}
use Rattle.nd_reach.specs.Reach.{HoldsAfter}
use Rattle.nd_reach.specs.Search.{IsGoing}
use Rattle.nd_reach.specs.Found.{Wanted, IsMade, IsNode, IsAlike, AreFound, HasSearched, HasBegun, GoesOn, IsHit, IsFull}
use Rattle.nd_reach.specs.Ways.{IsWay}
use Rattle.nd_reach.specs.declared.node.Node.{Node}
use Rattle.nd_reach.proofs.Places.{still_here, old_or_new, within_list, contains_at, at_contained}
use Rattle.nd_reach.proofs.Listed.{listed_move}
use Rattle.nd_reach.proofs.Order.{after_snoc, way_snoc}
use Rattle.nd_reach.proofs.OneStep.{one_step}
use Rattle.nd_reach.proofs.Searched.{met, added, searched_start}
use Rattle.nd_reach.proofs.First.{first_going, first_searched, not_all}

-- ---- states

received_views : (s : ClusterState) (p q : ℕ) (cs : List DeltaValue) → length (received_from s p q cs).views ≡ length s.views
received_views s p q [] = refl
received_views s p q (c ∷ rest) = length-set s.views q _

received_graph : (s : ClusterState) (p q : ℕ) (cs : List DeltaValue) → (received_from s p q cs).graph ≡ s.graph
received_graph s p q [] = refl
received_graph s p q (c ∷ rest) = refl

module _ {A : Type 0} where
  stepped_views : (s : ClusterState) (x : Step A) → length (stepped s x).views ≡ length s.views
  unfolding stepped sent received
  stepped_views s (Feed p vertex values _) = refl
  stepped_views s (Take p edge t value) = refl
  stepped_views s (Notice p vertex t) = refl
  stepped_views s (Release p vertex times) = refl
  stepped_views s (Send p vertex batch) = refl
  stepped_views s (Broadcast p part) = refl
  stepped_views s (Receive from to) = received_views s from to (queue s from to)

  stepped_graph : (s : ClusterState) (x : Step A) → (stepped s x).graph ≡ s.graph
  unfolding stepped sent received
  stepped_graph s (Feed p vertex values _) = refl
  stepped_graph s (Take p edge t value) = refl
  stepped_graph s (Notice p vertex t) = refl
  stepped_graph s (Release p vertex times) = refl
  stepped_graph s (Send p vertex batch) = refl
  stepped_graph s (Broadcast p part) = refl
  stepped_graph s (Receive from to) = received_graph s from to (queue s from to)

  -- a step leads to a state that is alike
  alike_stepped : (s t : ClusterState) (x : Step A) → IsAlike s t → IsState (stepped t x) → IsAlike s (stepped t x)
  alike_stepped s t x alike state = record {
    state = state;
    graph = stepped_graph t x ∙ alike.graph;
    many = sym state.fits.each_view ∙ (stepped_views t x ∙ (alike.state.fits.each_view ∙ alike.many));
  }

-- ---- forms of states

form_of_way : {A : Type 0} (f : List (Step A) → List ℕ) (ways : List (List (Step A))) (k : ℕ) (y : List ℕ) → slice_get (map f ways) k ≡ Some y
    → (v : List (Step A)) × (slice_get ways k ≡ Some v) × (f v ≡ y)
form_of_way f [] k y is = absurd (cc (is))
form_of_way f (w ∷ ways) zero y is = (w, refl, cc (is))
form_of_way f (w ∷ ways) (suc k) y is = form_of_way f ways k y is

way_of_form : {A : Type 0} (f : List (Step A) → List ℕ) (ways : List (List (Step A))) (k : ℕ) (v : List (Step A)) → slice_get ways k ≡ Some v
    → slice_get (map f ways) k ≡ Some (f v)
way_of_form f [] k v is = absurd (cc (is))
way_of_form f (w ∷ ways) zero v is = ap Some (ap f (cc (is)))
way_of_form f (w ∷ ways) (suc k) v is = way_of_form f ways k v is

-- ---- one move

module _ {A : Type 0} (tell : FormsDetermineStates) (q : Wanted) (forms : List (List ℕ)) (nodes : List (Node A)) (at : ℕ) (t : ClusterState) (moves : List (Step A)) (n : ℕ)
    (x : Step A) (h : GoesOn q forms nodes at t moves n) (next : slice_get moves n ≡ Some x) (state : IsState (stepped t x)) where
  leads : stepped t x ≡ after q.start (h.way ++ x ∷ [])
  leads = ap (λ (u : ClusterState). stepped u x) h.there ∙ sym (after_snoc q.start h.way x)

  here : IsAlike q.start t
  here = subst (IsAlike q.start) (sym h.there) (h.found.alike at h.way h.going.here)

  alike : IsAlike q.start (stepped t x)
  alike = alike_stepped q.start t x here state

  same_state : (k : ℕ) (v : List (Step A)) → slice_get h.ways k ≡ Some v → form (after q.start v) ≡ form (stepped t x) → after q.start v ≡ stepped t x
  same_state k v is forms_same =
      let old = h.found.alike k v is in
      tell (after q.start v) (stepped t x) old.state state (old.graph ∙ sym alike.graph) (old.many ∙ sym alike.many) forms_same

  -- it leads to a state that was found
  pub goes_on_met : Contains forms (form (stepped t x)) → GoesOn q forms nodes at t moves (n + 1)
  goes_on_met there =
      let place = at_contained forms (form (stepped t x)) there in
      let found = form_of_way (λ w. form (after q.start w)) h.ways place.0 (form (stepped t x)) (subst (λ fs. slice_get fs place.0 ≡ Some (form (stepped t x))) h.found.forms_of place.1) in
      let same = same_state place.0 found.0 found.1 found.2 ∙ leads in
      record {
        ways = h.ways;
        way = h.way;
        found = h.found;
        going = met q.allowed q.start one_step h.ways at h.way moves n place.0 x found.0 h.going next found.1 same;
        there = h.there;
        none = h.none;
        within = h.within;
      }

  module _ (fresh : Contains forms (form (stepped t x)) → ⊥) where
    apart : (k : ℕ) (v : List (Step A)) → slice_get h.ways k ≡ Some v → after q.start v ≢ after q.start (h.way ++ x ∷ [])
    apart k v is same =
        let form_same : form (after q.start v) ≡ form (stepped t x) = ap form (same ∙ sym leads) in
        let listed : slice_get forms k ≡ Some (form (stepped t x)) =
        subst (λ fs. slice_get fs k ≡ Some (form (stepped t x))) (sym h.found.forms_of) (way_of_form (λ w. form (after q.start w)) h.ways k v is ∙ ap Some form_same) in
        fresh (contains_at forms k (form (stepped t x)) listed)

    way : IsWay q.allowed q.start (h.way ++ x ∷ [])
    way = way_snoc q.allowed q.start h.way x (h.going.each at h.way h.going.here)
        (listed_move (after q.start h.way) q.allowed moves n x h.going.moves_of next)

    -- it leads to another state, and no more may be looked at
    pub is_full : q.limit ≤ length nodes → IsFull q nodes
    is_full most = record {
      ways = h.ways;
      count = h.found.many;
      first = first_going q.allowed q.start h.ways at h.way moves n h.going;
      none = h.none;
      limit = omega (arith, most, h.found.many, h.within);
      others = not_all q.allowed q.start h.ways (h.way ++ x ∷ []) way apart;
    }

    going_on : IsGoing q.allowed q.start (h.ways ++ (h.way ++ x ∷ []) ∷ []) at h.way moves (n + 1)
    going_on = added q.allowed q.start one_step h.ways at h.way moves n x h.going next (listed_move (after q.start h.way) q.allowed moves n x h.going.moves_of next) apart

    module _ (node : Node A) (made : Record A) (step : made.step ≡ x) (planned : IsPlanned made t) (parent : node.parent ≡ at) (by_move : node.made ≡ Some made)
        (saved : IfSome node.saved (λ b. IsSaved (stepped t x) b.value)) where
      still_made : (k p : ℕ) (w : List (Step A)) (o : Option (Record A)) → IsMade q.start h.ways k w p o → IsMade q.start (h.ways ++ (h.way ++ x ∷ []) ∷ []) k w p o
      still_made k p w None m = m
      still_made k p w (Some r) m = record {
        earlier = m.earlier;
        there = still_here h.ways (h.way ++ x ∷ []) m.earlier p m.there;
        before = m.before;
        planned = m.planned;
        longer = m.longer;
      }

      new_made : IsMade q.start (h.ways ++ (h.way ++ x ∷ []) ∷ []) (length h.ways) (h.way ++ x ∷ []) at (Some made)
      new_made = record {
        earlier = h.way;
        there = still_here h.ways (h.way ++ x ∷ []) h.way at h.going.here;
        before = within_list h.ways at h.way h.going.here;
        planned = subst (IsPlanned made) h.there planned;
        longer = ap (λ y. h.way ++ y ∷ []) (sym step);
      }

      new_node : IsNode q.start (h.ways ++ (h.way ++ x ∷ []) ∷ []) (length h.ways) (h.way ++ x ∷ []) node
      new_node = record {
        made = subst (λ o. IsMade q.start (h.ways ++ (h.way ++ x ∷ []) ∷ []) (length h.ways) (h.way ++ x ∷ []) node.parent o) (sym by_move)
            (subst (λ p. IsMade q.start (h.ways ++ (h.way ++ x ∷ []) ∷ []) (length h.ways) (h.way ++ x ∷ []) p (Some made)) (sym parent) new_made);
        saved = subst (λ u. IfSome node.saved (λ b. IsSaved u b.value)) leads saved;
      }

      found_on : AreFound q.start (h.ways ++ (h.way ++ x ∷ []) ∷ []) (forms ++ form (stepped t x) ∷ []) (nodes ++ node ∷ [])
      found_on = record {
        forms_of = ap (λ fs. fs ++ form (stepped t x) ∷ []) h.found.forms_of
            ∙ (ap (λ f. map (λ w. form (after q.start w)) h.ways ++ f ∷ []) (ap form leads) ∙ sym (map-append (λ w. form (after q.start w)) h.ways ((h.way ++ x ∷ []) ∷ [])));
        many = omega (arith, length-append nodes (node ∷ []), length-append h.ways ((h.way ++ x ∷ []) ∷ []), h.found.many);
        each = λ k w nd hw hn. each_of k w nd (old_or_new h.ways (h.way ++ x ∷ []) w k hw) (old_or_new nodes node nd k hn);
        alike = λ k w hw. alike_of k w (old_or_new h.ways (h.way ++ x ∷ []) w k hw);
      }
        where
          each_of : (k : ℕ) (w : List (Step A)) (nd : Node A) → (slice_get h.ways k ≡ Some w) ⊎ ((k ≡ length h.ways) × (h.way ++ x ∷ [] ≡ w))
              → (slice_get nodes k ≡ Some nd) ⊎ ((k ≡ length nodes) × (node ≡ nd)) → IsNode q.start (h.ways ++ (h.way ++ x ∷ []) ∷ []) k w nd
          each_of k w nd (inl hw) (inl hn) =
              let old = h.found.each k w nd hw hn in
              record { made = still_made k nd.parent w nd.made old.made; saved = old.saved }
          each_of k w nd (inl hw) (inr hn) = absurd (omega (arith, within_list h.ways k w hw, hn.0, h.found.many))
          each_of k w nd (inr hw) (inl hn) = absurd (omega (arith, within_list nodes k nd hn, hw.0, h.found.many))
          each_of k w nd (inr hw) (inr hn) =
              subst (IsNode q.start (h.ways ++ (h.way ++ x ∷ []) ∷ []) k w) hn.1
              (subst (λ w. IsNode q.start (h.ways ++ (h.way ++ x ∷ []) ∷ []) k w node) hw.1
              (subst (λ k. IsNode q.start (h.ways ++ (h.way ++ x ∷ []) ∷ []) k (h.way ++ x ∷ []) node) (sym hw.0) new_node))

          alike_of : (k : ℕ) (w : List (Step A)) → (slice_get h.ways k ≡ Some w) ⊎ ((k ≡ length h.ways) × (h.way ++ x ∷ [] ≡ w)) → IsAlike q.start (after q.start w)
          alike_of k w (inl hw) = h.found.alike k w hw
          alike_of k w (inr hw) = subst (λ w. IsAlike q.start (after q.start w)) hw.1 (subst (IsAlike q.start) leads alike)

      longer_by_one : length (h.ways ++ (h.way ++ x ∷ []) ∷ []) ≡ length h.ways + 1
      longer_by_one = length-append h.ways ((h.way ++ x ∷ []) ∷ [])

      -- it leads to another state, and the condition does not hold there
      pub goes_on_added : length nodes < q.limit → (Holds (stepped t x) q.when → ⊥) → GoesOn q (forms ++ form (stepped t x) ∷ []) (nodes ++ node ∷ []) at t moves (n + 1)
      goes_on_added few not = record {
        ways = h.ways ++ (h.way ++ x ∷ []) ∷ [];
        way = h.way;
        found = found_on;
        going = going_on;
        there = h.there;
        none = All-push (λ w. HoldsAfter q.when q.start w → ⊥) h.ways (h.way ++ x ∷ []) h.none (λ holds. not (subst (λ u. Holds u q.when) (sym leads) holds));
        within = omega (arith, few, h.found.many, longer_by_one);
      }

      -- it leads to another state, and the condition holds there
      pub is_hit : length nodes < q.limit → Holds (stepped t x) q.when → IsHit q (forms ++ form (stepped t x) ∷ []) (nodes ++ node ∷ [])
      is_hit few holds = record {
        earlier = h.ways;
        last = h.way ++ x ∷ [];
        found = found_on;
        first = first_going q.allowed q.start (h.ways ++ (h.way ++ x ∷ []) ∷ []) at h.way moves (n + 1) going_on;
        none = h.none;
        there = subst (λ u. Holds u q.when) leads holds;
        within = omega (arith, few, h.found.many);
      }

-- the same search, in other words
pub same_going : {A : Type 0} (q : Wanted) (forms others : List (List ℕ)) (nodes more : List (Node A)) (at : ℕ) (t u : ClusterState) (moves : List (Step A)) (n : ℕ)
    → GoesOn q forms nodes at t moves n → others ≡ forms → more ≡ nodes → u ≡ t → GoesOn q others more at u moves n
same_going q forms others nodes more at t u moves n h f m s =
    subst (λ fs. GoesOn q fs more at u moves n) (sym f) (subst (λ ns. GoesOn q forms ns at u moves n) (sym m) (subst (λ (v : ClusterState). GoesOn q forms nodes at v moves n) (sym s) h))

pub same_hit : {A : Type 0} (q : Wanted) (forms others : List (List ℕ)) (nodes more : List (Node A)) → IsHit q forms nodes → others ≡ forms → more ≡ nodes → IsHit q others more
same_hit q forms others nodes more h f m = subst (λ fs. IsHit q fs more) (sym f) (subst (λ ns. IsHit q forms ns) (sym m) h)

pub not_there : (forms : List (List ℕ)) (f g : List ℕ) (b : Bool) → (Contains forms f → b ≡ true) → b ≡ false → f ≡ g → Contains forms g → ⊥
not_there forms f g b told not same there = let yes : b ≡ true = told (subst (Contains forms) (sym same) there) in absurd (cc (yes, not))

pub not_held : (b : Bool) (H : Type 0) → (H → b ≡ true) → b ≡ false → H → ⊥
not_held b H told not holds = let yes : b ≡ true = told holds in absurd (cc (yes, not))

pub same_full : {A : Type 0} (q : Wanted) (nodes more : List (Node A)) → IsFull q nodes → more ≡ nodes → IsFull q more
same_full q nodes more h m = subst (λ ns. IsFull q ns) (sym m) h

-- ---- the start

module _ {A : Type 0} (q : Wanted) (node : Node A) (made : node.made ≡ None) (saved : node.saved ≡ None) (state : IsState q.start) where
  start_found : AreFound q.start ([] ∷ []) (form q.start ∷ []) (node ∷ [])
  unfolding after
  start_found = record {
    forms_of = refl;
    many = refl;
    each = start_node;
    alike = start_alike;
  }
    where
      start_node : (k : ℕ) (w : List (Step A)) (nd : Node A) → slice_get ([] ∷ []) k ≡ Some w → slice_get (node ∷ []) k ≡ Some nd → IsNode q.start ([] ∷ []) k w nd
      start_node zero w nd hw hn =
          let same : [] ≡ w = cc (hw) in
          let also : node ≡ nd = cc (hn) in
          let first : IsNode {A = A} q.start ([] ∷ []) 0 [] node = record {
            made = subst (λ o. IsMade {A = A} q.start ([] ∷ []) 0 [] node.parent o) (sym made) refl;
            saved = subst (λ o. IfSome o (λ b. IsSaved (after {A = A} q.start []) b.value)) (sym saved) tt;
          } in
          subst (IsNode q.start ([] ∷ []) 0 w) also (subst (λ w. IsNode q.start ([] ∷ []) 0 w node) same first)
      start_node (suc k) w nd hw hn = absurd (cc (hw))

      start_alike : (k : ℕ) (w : List (Step A)) → slice_get ([] ∷ []) k ≡ Some w → IsAlike q.start (after q.start w)
      start_alike zero w hw =
          let same : [] ≡ w = cc (hw) in
          subst (λ w. IsAlike q.start (after q.start w)) same (record { state = state; graph = refl; many = refl })
      start_alike (suc k) w hw = absurd (cc (hw))

  pub start_hit : 0 < q.limit → Holds q.start q.when → IsHit q (form q.start ∷ []) (node ∷ [])
  unfolding after
  start_hit some holds = record {
    earlier = [];
    last = [];
    found = start_found;
    first = first_searched q.allowed q.start ([] ∷ []) 0 (searched_start q.allowed q.start);
    none = λ k d lt. absurd (omega (arith, lt));
    there = holds;
    within = some;
  }

  pub start_searched : 0 < q.limit → (Holds q.start q.when → ⊥) → HasSearched q (form q.start ∷ []) (node ∷ []) 0
  unfolding after
  start_searched some not = record {
    ways = [] ∷ [];
    found = start_found;
    searched = searched_start q.allowed q.start;
    none = All-push (λ w. HoldsAfter q.when q.start w → ⊥) [] [] (λ k d lt. absurd (omega (arith, lt))) not;
    within = omega (arith, some);
  }

  pub begun : (forms : List (List ℕ)) (nodes : List (Node A)) (b : Bool) → (b ≡ true → Holds q.start q.when) → (Holds q.start q.when → b ≡ true) → 0 < q.limit
      → forms ≡ form q.start ∷ [] → nodes ≡ node ∷ [] → HasBegun q forms nodes b
  begun forms nodes true there back some f m = same_hit q (form q.start ∷ []) forms (node ∷ []) nodes (start_hit some (there refl)) f m
  begun forms nodes false there back some f m =
      let on : HasSearched q (form q.start ∷ []) (node ∷ []) 0 = start_searched some (λ holds. absurd (cc (back holds))) in
      subst (λ fs. HasSearched q fs nodes 0) (sym f) (subst (λ ns. HasSearched q (form q.start ∷ []) ns 0) (sym m) on)

-- the same record in fewer words
pub small_planned : {A : Type 0} (r q : Record A) (t : ClusterState) → IsPlanned r t → q.step ≡ r.step → named q ≡ named r → MakesWhat r q → IsPlanned q t
small_planned r q t planned step many makes = record {
  state = planned.state;
  enabled = subst (IsEnabled t) (sym step) planned.enabled;
  makes = subst (λ x. Makes t q (stepped t x)) (sym step) (makes t (stepped t r.step) planned.makes);
  small = subst (λ x. named q + shared t x ≡ changed t (stepped t x)) (sym step) (subst (λ n. n + shared t r.step ≡ changed t (stepped t r.step)) (sym many) planned.small);
}
