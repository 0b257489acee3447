-- A receive on the stored parts of a cluster: where it leads, and where undoing it leads back to.
use Rattle.std.proofs.Common.{◌≡◌, ℕ, ◌<◌, List, [], ◌∷◌, Result, Ok, Err, IsErr, OnOk, refl, length, get_or, set, sym, ap, subst, ◌∙◌, arith, length-set, get_or-set_same}
use Rattle.std.proofs.lemmas.List.{set-set, set-get_or, length-map}
use Rattle.std.specs.Prelude.{All, None, Some, slice_get}
use Rattle.nd_graph.specs.Graph.{Dataflow}
use Rattle.nd_delta.specs.Delta.{DeltaValue, none, plus, minus, minus-plus}
use Rattle.nd_view.specs.Kept.{Kept, IsFor}
use Rattle.nd_view.specs.Views.{maps, maps-get, maps-set}
use Rattle.nd_processor.specs.State.{ProcessorState}
use Rattle.nd_mesh.specs.Mesh.{row, popped, unpopped, without_oldest, IsVacant, queue as queue_in}
use Rattle.nd_mesh.specs.Laws.{queue-with_queue, unpopped-popped}
use Rattle.nd_protocol.specs.State.{ClusterState, view}
use Rattle.nd_protocol.specs.Exchange.{received}
use Rattle.nd_protocol.specs.Fitting.{IsState}
use Rattle.nd_steps.specs.Fronts.{received-front}
use Rattle.nd_steps.specs.Records.{CanReceive, Receives}
use Rattle.nd_protocol.specs.Seen.{seen}

-- one of the stored views, and all views after it is replaced
module _ (t : ClusterState) (g : Dataflow) (ps : List ProcessorState) (vs : List Kept) (m : List (List (List DeltaValue))) (is : seen g ps vs m ≡ t) (to : ℕ) where
  pub view_there : to < length t.views → to < length vs
  view_there lt =
      let n : length (maps vs) ≡ length vs = length-map vs (λ (v : Kept). v.map) in
      let w : length (maps vs) ≡ length t.views = ap (λ (t : ClusterState). length t.views) is in
      omega (arith, n, w, lt)

  module _ (v : Kept) (lt : to < length vs) (here : v ≡ get_or vs to v) where
    pub view_seen : v.map ≡ view t to
    view_seen = sym (maps-get vs to v none lt here) ∙ ap (λ (t : ClusterState). view t to) is

    pub view_is_for : All (IsFor g) vs → IsFor g v
    view_is_for all = subst (IsFor g) (sym here) (all to v lt)

    -- the map of the new view is f of the old one's
    pub views_after : (w : Kept) (f : DeltaValue → DeltaValue) → w.map ≡ f v.map → maps (set vs to w) ≡ set t.views to (f (view t to))
    views_after w f e = maps-set vs to w ∙ (λ i. set (ap (λ (t : ClusterState). t.views) is i) to ((e ∙ ap f view_seen) i))

-- what was put into a queue is removed again
pub taken_again : {X E : Type 0} (r : Result X E) (m old new : List (List (List DeltaValue))) (from to : ℕ) (c : DeltaValue) → from < length m → to < length (row m from)
    → old ≡ unpopped m from to c → popped old from to ≡ m → (IsErr r → IsVacant (queue_in old from to)) → OnOk r (new ≡ popped old from to) → new ≡ m
taken_again (Ok x) m old new from to c f t is back empty new_is = new_is ∙ back
taken_again (Err e) m old new from to c f t is back empty new_is =
    let some : queue_in old from to ≡ c ∷ queue_in m from to = ap (λ k. queue_in k from to) is ∙ queue-with_queue m from to (c ∷ queue_in m from to) f t in
    absurd (let none : queue_in old from to ≡ [] = empty refl in cc)

-- where a receive leads: a view and a queue change
pub received_leads : (s : ClusterState) (from to : ℕ) (c : DeltaValue) → CanReceive s from to c → record s { views = set s.views to (plus (view s to) c); queues = popped s.queues from to } ≡ received s from to
received_leads s from to c h = sym (received-front s from to c h.front)

-- the stored parts of a cluster before a receive
module _ (t : ClusterState) (g : Dataflow) (ps : List ProcessorState) (vs : List Kept) (m : List (List (List DeltaValue))) (is : seen g ps vs m ≡ t) (from to : ℕ) where
  -- a view that is stored again changes nothing
  pub stored_again : (v w : Kept) → v ≡ get_or vs to v → w ≡ v → seen g ps (set vs to w) m ≡ t
  stored_again v w here same = ap (λ (ws : List Kept). seen g ps ws m) ((λ i. set vs to ((same ∙ here) i)) ∙ set-get_or vs to v) ∙ is

  module _ (c : DeltaValue) (state : IsState t) (h : CanReceive t from to c) where
    pub receiver_stored : to < length vs
    receiver_stored = view_there t g ps vs m is to (subst (λ n. to < n) (sym state.fits.each_view) h.to_there)

    -- the queue has a front
    pub not_vacant : IsVacant (queue_in m from to) → ⊥
    not_vacant vacant =
        let front : slice_get (queue_in m from to) 0 ≡ Some c = subst (λ (s : ClusterState). slice_get (queue_in s.queues from to) 0 ≡ Some c) (sym is) h.front in
        let none : slice_get (queue_in m from to) 0 ≡ None = ap (λ (q : List DeltaValue). slice_get q 0) vacant in
        cc

    -- the parts after it
    pub received_seen : (v w : Kept) → v ≡ get_or vs to v → w.map ≡ plus v.map c → (k : List (List (List DeltaValue))) → k ≡ popped m from to → seen g ps (set vs to w) k ≡ received t from to
    received_seen v w here new k rest =
        let views : maps (set vs to w) ≡ set t.views to (plus (view t to) c) = views_after t g ps vs m is to v receiver_stored here w (λ (d : DeltaValue). plus d c) new in
        let queues : k ≡ popped t.queues from to = rest ∙ ap (λ (s : ClusterState). popped s.queues from to) is in
        let parts : seen g ps (set vs to w) k ≡ record t { views = set t.views to (plus (view t to) c); queues = popped t.queues from to } = λ i. record (is i) { views = views i; queues = queues i } in
        parts ∙ received_leads t from to c h

module _ (s t : ClusterState) (from to : ℕ) (c : DeltaValue) (state : IsState s) (h : Receives s from to c t) where
  arrives : record s { views = set s.views to (plus (view s to) c); queues = popped s.queues from to } ≡ t
  arrives = received_leads s from to c h.0 ∙ h.1

  from_there : from < length s.queues
  from_there = subst (λ n. from < n) (sym state.fits.each_sender) h.0.from_there

  to_there : to < length (row s.queues from)
  to_there = subst (λ n. to < n) (sym (state.fits.each_receiver from [] from_there)) h.0.to_there

  viewer : to < length s.views
  viewer = subst (λ n. to < n) (sym state.fits.each_view) h.0.to_there

  received_views : set s.views to (plus (view s to) c) ≡ t.views
  received_views = ap (λ (t : ClusterState). t.views) arrives

  received_queues : popped s.queues from to ≡ t.queues
  received_queues = ap (λ (t : ClusterState). t.queues) arrives

  map_now : view t to ≡ plus (view s to) c
  map_now = ap (λ (cs : List DeltaValue). get_or cs to none) (sym received_views) ∙ get_or-set_same s.views to (plus (view s to) c) none viewer

  viewer_there : to < length t.views
  viewer_there = let w : length t.views ≡ length s.views = ap (λ (cs : List DeltaValue). length cs) (sym received_views) ∙ length-set s.views to _ in omega (arith, w, viewer)

  many_rows : length t.queues ≡ length s.processors
  many_rows = ap (λ (k : List (List (List DeltaValue))). length k) (sym received_queues) ∙ length-set s.queues from _ ∙ state.fits.each_sender

  pub from_row : from < length t.queues
  from_row = let n = many_rows in let l = h.0.from_there in omega arith

  pub to_row : to < length t.queues
  to_row = let n = many_rows in let l = h.0.to_there in omega arith

  pub receiver_there : to < length (row t.queues from)
  receiver_there =
      let now : row t.queues from ≡ set (row s.queues from) to (without_oldest (queue_in s.queues from to))
      = ap (λ k. row k from) (sym received_queues) ∙ get_or-set_same s.queues from _ [] from_there in
      let n : length (row t.queues from) ≡ length (row s.queues from) = ap (λ (cs : List (List DeltaValue)). length cs) now ∙ length-set (row s.queues from) to _ in
      omega (arith, n, to_there)

  pub received_back : record t { views = set t.views to (minus (view t to) c); queues = unpopped t.queues from to c } ≡ s
  received_back =
      let was : minus (view t to) c ≡ view s to = ap (λ d. minus d c) map_now ∙ minus-plus (view s to) c in
      let old : t.views ≡ set s.views to (plus (view s to) c) = sym received_views in
      let views : set t.views to (minus (view t to) c) ≡ s.views = (λ i. set (old i) to (was i)) ∙ set-set s.views to _ _ ∙ set-get_or s.views to none in
      let queues : unpopped t.queues from to c ≡ s.queues = ap (λ n. unpopped n from to c) (sym received_queues) ∙ unpopped-popped s.queues from to c from_there to_there h.0.front in
      let graph : t.graph ≡ s.graph = ap (λ (t : ClusterState). t.graph) (sym arrives) in
      let processors : t.processors ≡ s.processors = ap (λ (t : ClusterState). t.processors) (sym arrives) in
      λ i. record { graph = graph i; processors = processors i; views = views i; queues = queues i }

pub view_stored : (t : ClusterState) (g : Dataflow) (ps : List ProcessorState) (vs : List Kept) (m : List (List (List DeltaValue))) → seen g ps vs m ≡ t → (s : ClusterState) (from to : ℕ) (c : DeltaValue) → IsState s → Receives s from to c t → to < length vs
view_stored t g ps vs m is s from to c state h = view_there t g ps vs m is to (viewer_there s t from to c state h)

-- the stored parts of a cluster after a receive, which is undone
module _ (t : ClusterState) (g : Dataflow) (ps : List ProcessorState) (vs : List Kept) (m : List (List (List DeltaValue))) (is : seen g ps vs m ≡ t)
    (s : ClusterState) (from to : ℕ) (c : DeltaValue) (state : IsState s) (h : Receives s from to c t) (v w : Kept) (here : v ≡ get_or vs to v) where
  -- the parts before it
  pub received_back_seen : w.map ≡ minus v.map c → (d : DeltaValue) → d ≡ c → (k : List (List (List DeltaValue))) → k ≡ unpopped m from to d → seen g ps (set vs to w) k ≡ s
  received_back_seen old d same k after =
      let lt = view_stored t g ps vs m is s from to c state h in
      let views : maps (set vs to w) ≡ set t.views to (minus (view t to) c) = views_after t g ps vs m is to v lt here w (λ (e : DeltaValue). minus e c) old in
      let queues : k ≡ unpopped t.queues from to c = after ∙ (λ i. unpopped (is i).queues from to (same i)) in
      let parts : seen g ps (set vs to w) k ≡ record t { views = set t.views to (minus (view t to) c); queues = unpopped t.queues from to c } = λ i. record (is i) { views = views i; queues = queues i } in
      parts ∙ received_back s t from to c state h

  -- the parts if the view is stored again, and the change is removed from its queue again
  pub taken_again_seen : w ≡ v → {X E : Type 0} (r : Result X E) (d : DeltaValue) (old new : List (List (List DeltaValue)))
      → old ≡ unpopped m from to d → popped old from to ≡ m → (IsErr r → IsVacant (queue_in old from to)) → OnOk r (new ≡ popped old from to) → seen g ps (set vs to w) new ≡ t
  taken_again_seen same r d old new after undone empty new_is =
      let sender : from < length m = subst (λ (t : ClusterState). from < length t.queues) (sym is) (from_row s t from to c state h) in
      let receiver : to < length (row m from) = subst (λ (t : ClusterState). to < length (row t.queues from)) (sym is) (receiver_there s t from to c state h) in
      let back : new ≡ m = taken_again r m old new from to d sender receiver after undone empty new_is in
      ap (λ (k : List (List (List DeltaValue))). seen g ps (set vs to w) k) back ∙ stored_again t g ps vs m is from to v w here same
