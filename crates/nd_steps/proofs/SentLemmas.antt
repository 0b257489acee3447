-- A broadcast on the stored parts of a cluster: where it leads, and where undoing it leads back to.
use Rattle.std.proofs.Common.{◌≡◌, ℕ, ◌<◌, ◌-ℤ◌, List, length, get_or, set, Result, Ok, Err, OnErr, OnOk, ℤ, refl, sym, ap, subst, ◌∙◌, arith, length-set, get_or-set_same}
use Rattle.std.proofs.lemmas.Int.{ints}
use Rattle.std.proofs.lemmas.List.{set-set, set-get_or, get_or_default}
use Rattle.nd_graph.specs.Graph.{Dataflow}
use Rattle.nd_delta.specs.Delta.{DeltaValue, at, plus, minus, at-minus, plus-minus, IsApart}
use Rattle.nd_view.specs.Kept.{Kept}
use Rattle.nd_processor.specs.State.{ProcessorState, idle}
use Rattle.nd_mesh.specs.Mesh.{pushed, unpushed}
use Rattle.nd_mesh.specs.Laws.{unpushed-pushed}
use Rattle.nd_protocol.specs.State.{ClusterState, processor}
use Rattle.nd_protocol.specs.Exchange.{sent}
use Rattle.nd_protocol.specs.Fitting.{IsState}
use Rattle.nd_steps.specs.Changes.{made, made_in}
use Rattle.nd_steps.specs.Records.{Sends}
use Rattle.nd_protocol.specs.Seen.{seen}
use Rattle.nd_steps.specs.declared.change.Change.{Change}
use Rattle.nd_steps.proofs.Ends.{IsNewest}

-- what always holds, holds in case of an error
pub on_err : {T E : Type 0} (r : Result T E) {P : Type 0} → P → OnErr r P
on_err (Ok v) h = tt
on_err (Err e) h = h

-- one of the stored processors
pub processor_seen : (t : ClusterState) (g : Dataflow) (ps : List ProcessorState) (vs : List Kept) (m : List (List (List DeltaValue))) → seen g ps vs m ≡ t → (p : ℕ) (q : ProcessorState) → p < length ps → q ≡ get_or ps p q → q ≡ processor t p
processor_seen t g ps vs m is p q lt here = here ∙ get_or_default ps p q idle lt ∙ ap (λ (t : ClusterState). processor t p) is

-- where a broadcast leads: a processor and the queues from it change
pub sent_leads : (t : ClusterState) (p : ℕ) (c : DeltaValue) → record t { processors = set t.processors p (record (processor t p) { unsent = minus (processor t p).unsent c }); queues = pushed t.queues p c } ≡ sent t p c
unfolding sent
sent_leads t p c = refl

-- the stored parts after a broadcast
pub sent_seen : (t : ClusterState) (g : Dataflow) (ps : List ProcessorState) (vs : List Kept) (m : List (List (List DeltaValue))) → seen g ps vs m ≡ t → (p : ℕ) (c : DeltaValue) (q r : ProcessorState) → p < length t.processors → q ≡ get_or ps p q
    → r ≡ record q { unsent = minus q.unsent c } → (k : List (List (List DeltaValue))) → k ≡ pushed m p c → seen g (set ps p r) vs k ≡ sent t p c
sent_seen t g ps vs m is p c q r lt here taken k rest =
    let there : p < length ps = subst (λ (s : ClusterState). p < length s.processors) (sym is) lt in
    let same : q ≡ processor t p = processor_seen t g ps vs m is p q there here in
    let parts : seen g (set ps p r) vs k ≡ record t { processors = set t.processors p (record (processor t p) { unsent = minus (processor t p).unsent c }); queues = pushed t.queues p c }
    = (λ i. seen g (set ps p (taken i)) vs (rest i)) ∙ (λ i. record (is i) { processors = set (is i).processors p (record (same i) { unsent = minus (same i).unsent c }); queues = pushed (is i).queues p c }) in
    parts ∙ sent_leads t p c

-- the stored parts after a change
pub made_seen : {X E : Type 0} (r : Result X E) (t : ClusterState) (g : Dataflow) (ps : List ProcessorState) (vs : List Kept) (m : List (List (List DeltaValue))) → seen g ps vs m ≡ t → (d : Change) (q new : ProcessorState) (n : ℤ) → n ≡ d.n → d.p < length t.processors
    → q ≡ get_or ps d.p q → OnOk r (new ≡ made_in q d.slot n) → OnOk r (seen g (set ps d.p new) vs m ≡ made t d)
made_seen (Ok x) t g ps vs m is d q new n whole lt here e =
    let there : d.p < length ps = subst (λ (s : ClusterState). d.p < length s.processors) (sym is) lt in
    let same : q ≡ processor t d.p = processor_seen t g ps vs m is d.p q there here in
    (λ i. seen g (set ps d.p (e i)) vs m) ∙ (λ i. record (is i) { processors = set (is i).processors d.p (made_in (same i) d.slot (whole i)) })
made_seen (Err x) t g ps vs m is d q new n whole lt here e = tt

-- the stored parts after a failed change
pub unmade_seen : {X E : Type 0} (r : Result X E) (t : ClusterState) (g : Dataflow) (ps : List ProcessorState) (vs : List Kept) (m : List (List (List DeltaValue))) → seen g ps vs m ≡ t → (p : ℕ) (q new : ProcessorState) → q ≡ get_or ps p q → OnErr r (new ≡ q)
    → OnErr r (seen g (set ps p new) vs m ≡ t)
unmade_seen (Ok x) t g ps vs m is p q new here e = tt
unmade_seen (Err x) t g ps vs m is p q new here e = ap (λ (qs : List ProcessorState). seen g qs vs m) ((λ i. set ps p ((e ∙ here) i)) ∙ set-get_or ps p q) ∙ is

module _ (s t : ClusterState) (p : ℕ) (c : DeltaValue) (state : IsState s) (h : Sends s p c t) where
  sender : p < length s.queues
  sender = subst (λ n. p < n) (sym state.fits.each_sender) h.0.there

  sent_processors : set s.processors p (record (processor s p) { unsent = minus (processor s p).unsent c }) ≡ t.processors
  unfolding sent
  sent_processors = ap (λ (t : ClusterState). t.processors) h.1

  sent_queues : pushed s.queues p c ≡ t.queues
  unfolding sent
  sent_queues = ap (λ (t : ClusterState). t.queues) h.1

  sent_views : s.views ≡ t.views
  unfolding sent
  sent_views = ap (λ (t : ClusterState). t.views) h.1

  sent_graph : s.graph ≡ t.graph
  unfolding sent
  sent_graph = ap (λ (t : ClusterState). t.graph) h.1

  here_now : processor t p ≡ record (processor s p) { unsent = minus (processor s p).unsent c }
  here_now = ap (λ (qs : List ProcessorState). get_or qs p idle) (sym sent_processors) ∙ get_or-set_same s.processors p _ idle h.0.there

  sender_there : p < length t.processors
  sender_there = let n : length t.processors ≡ length s.processors = ap (λ (qs : List ProcessorState). length qs) (sym sent_processors) ∙ length-set s.processors p _ in omega (arith, n, h.0.there)

  pub row_there : p < length t.queues
  row_there = let n : length t.queues ≡ length s.queues = ap (λ (k : List (List (List DeltaValue))). length k) (sym sent_queues) ∙ length-set s.queues p _ in omega (arith, n, sender)

  pub is_apart : IsApart c (processor t p).unsent
  is_apart x some =
      let left : at (processor t p).unsent x ≡ at (processor s p).unsent x -ℤ at c x = ap (λ (q : ProcessorState). at q.unsent x) here_now ∙ at-minus (processor s p).unsent c x in
      let part : at (processor s p).unsent x ≡ at c x = h.0.part x some in
      omega (arith, ints, left, part)

  pub is_newest : IsNewest t.queues p c
  is_newest = subst (λ k. IsNewest k p c) sent_queues (ap (λ k. pushed k p c) (unpushed-pushed s.queues p c sender))

  pub sent_back : record t { processors = set t.processors p (record (processor t p) { unsent = plus (processor t p).unsent c }); queues = unpushed t.queues p } ≡ s
  sent_back =
      let q : ProcessorState = processor s p in
      let unsent : plus (processor t p).unsent c ≡ q.unsent = ap (λ (r : ProcessorState). plus r.unsent c) here_now ∙ plus-minus q.unsent c in
      let was : t.processors ≡ set s.processors p (record q { unsent = minus q.unsent c }) = sym sent_processors in
      let all : set t.processors p (record (processor t p) { unsent = plus (processor t p).unsent c }) ≡ s.processors
      = (λ i. set (was i) p (record (here_now i) { unsent = unsent i }))
      ∙ set-set s.processors p _ _ ∙ set-get_or s.processors p idle in
      let queues : unpushed t.queues p ≡ s.queues = ap (λ n. unpushed n p) (sym sent_queues) ∙ unpushed-pushed s.queues p c sender in
      let graph : t.graph ≡ s.graph = sym sent_graph in
      let views : t.views ≡ s.views = sym sent_views in
      λ i. record { graph = graph i; processors = all i; views = views i; queues = queues i }

pub sender_stored : (t : ClusterState) (g : Dataflow) (ps : List ProcessorState) (vs : List Kept) (m : List (List (List DeltaValue))) → seen g ps vs m ≡ t → (s : ClusterState) (p : ℕ) (c : DeltaValue) → IsState s → Sends s p c t → p < length ps
sender_stored t g ps vs m is s p c state h = subst (λ (t : ClusterState). p < length t.processors) (sym is) (sender_there s t p c state h)
