-- Changes that are sent and received: a part of what a processor has to send goes to all queues, if what stays is upright; the
-- front of a queue is added to a view.
use Rattle.std.proofs.Common.{◌≡◌, inl, inr, ℕ, ◌+◌, ◌<◌, ◌≤◌, pos, ◌-ℤ◌, List, [], ◌∷◌, ◌++◌, map, length, get_or, set, refl, sym, ap, subst, ◌∙◌, arith, length-append, length-set, get_or-set_same, get_or-set_other}
use Rattle.std.proofs.lemmas.Int.{ints}
use Rattle.std.proofs.lemmas.List.{get_or_default, length-map}
use Rattle.std.proofs.lemmas.List.Elements.{All-map, All-push, All-set, All-head, All-tail}
use Rattle.std.specs.Prelude.{All, unsigned_abs}
use Rattle.nd_time.specs.Limits.{max_count, max_queue, max_processors}
use Rattle.nd_graph.specs.Graph.{Dataflow}
use Rattle.std.proofs.Math.ListN.{get_or-map}
use Rattle.nd_paths.specs.Order.{IsStrictlyBefore}
use Rattle.nd_delta.specs.Delta.{DeltaValue, none, at, plus, minus, at-plus, at-minus}
use Rattle.nd_delta.specs.Upright.{IsUpright}
use Rattle.nd_processor.specs.State.{ProcessorState, idle}
use Rattle.nd_protocol.specs.State.{ClusterState, processor, view, queue}
use Rattle.nd_protocol.specs.Exchange.{IsPart, StaysUpright, sent, received_from, received}
use Rattle.nd_protocol.specs.Fitting.{DeltaFits, ProcessorFits, KeysFit, DeltaIsWithin, ProcessorIsWithin, QueueIsWithin, IsState}
use Rattle.nd_protocol.specs.Invariant.{supporting, Supports}
use Rattle.nd_protocol.proofs.Core.{Broadcasts, Receives}
use Rattle.nd_protocol.proofs.Reading.{reading}
use Rattle.nd_protocol.proofs.Counts.{count-set_same, kept-set}
use Rattle.std.proofs.lemmas.Bool.{cases_eq}
use Rattle.nd_protocol.proofs.Fitness.{plus_fits}

-- the list of all queues, from which the one from p to q is read
abbrev row : List (List (List DeltaValue)) → ℕ → List (List DeltaValue)
row queues p = get_or queues p []

module _ (s : ClusterState) (p : ℕ) (here : p < length s.processors) (fits : KeysFit s) where
  sender : p < length s.queues
  sender = subst (λ n. p < n) (sym fits.each_sender) here

  receiver : (q : ℕ) → q < length s.processors → q < length (row s.queues p)
  receiver q lt = subst (λ n. q < n) (sym (fits.each_receiver p [] sender)) lt

  module _ (c : DeltaValue) (stays : StaysUpright s p c) where
    unsent_here : (processor (sent s p c) p).unsent ≡ minus (processor s p).unsent c
    unfolding sent
    unsent_here = ap (λ (q : ProcessorState). q.unsent) (get_or-set_same s.processors p (record (processor s p) { unsent = minus (processor s p).unsent c }) idle here)

    queue_here : (q : ℕ) → q < length s.processors → queue (sent s p c) p q ≡ queue s p q ++ c ∷ []
    unfolding sent
    queue_here q lt =
        let f = λ (changes : List DeltaValue). changes ++ c ∷ [] in
        ap (λ (r : List (List DeltaValue)). get_or r q []) (get_or-set_same s.queues p (map f (row s.queues p)) [] sender)
        ∙ get_or_default (map f (row s.queues p)) q [] (f []) (subst (λ n. q < n) (sym (length-map (row s.queues p) f)) (receiver q lt))
        ∙ get_or-map f (row s.queues p) q []

    pub broadcasts : Broadcasts (IsStrictlyBefore s.graph) at p c (reading s) (reading (sent s p c))
    unfolding sent
    broadcasts = record {
      here = here;
      n = length-set s.processors p _;
      truth = λ x. count-set_same s.processors p (record (processor s p) { unsent = minus (processor s p).unsent c }) x refl;
      supports = λ k x. kept-set (λ q. supporting s.graph q x) s.processors p (record (processor s p) { unsent = minus (processor s p).unsent c }) refl k;
      unsent = λ x.
          let now = ap (λ d. at d x) unsent_here in
          let less = at-minus (processor s p).unsent c x in
          omega (arith, ints);
      stays = subst (λ d. IsUpright (IsStrictlyBefore s.graph) (Supports s.graph (processor s p)) (at d)) (sym unsent_here) stays;
      unsent_others = λ k other. ap (λ (q : ProcessorState). q.unsent) (get_or-set_other s.processors p k _ idle other);
      view = λ q. refl;
      queue = queue_here;
      queue_others = λ k q other. ap (λ (r : List (List DeltaValue)). get_or r q []) (get_or-set_other s.queues p k _ [] other);
    }

  module _ (q : ℕ) (there : q < length s.processors) (c : DeltaValue) (rest : List DeltaValue) (front : queue s p q ≡ c ∷ rest) where
    queue_rest : queue (received_from s p q (c ∷ rest)) p q ≡ rest
    queue_rest =
        ap (λ (r : List (List DeltaValue)). get_or r q []) (get_or-set_same s.queues p (set (row s.queues p) q rest) [] sender)
        ∙ get_or-set_same (row s.queues p) q rest [] (receiver q there)

    queue_others : (k l : ℕ) → (k ≡ p → l ≡ q → ⊥) → queue (received_from s p q (c ∷ rest)) k l ≡ queue s k l
    queue_others k l apart =
        elim (cases_eq k p) [
          | inl is ↦
              ap (λ n. queue (received_from s p q (c ∷ rest)) n l) is
              ∙ ap (λ (r : List (List DeltaValue)). get_or r l []) (get_or-set_same s.queues p (set (row s.queues p) q rest) [] sender)
              ∙ get_or-set_other (row s.queues p) q l rest [] (λ e. apart is e) ∙ ap (λ n. queue s n l) (sym is)
          | inr other ↦ ap (λ (r : List (List DeltaValue)). get_or r l []) (get_or-set_other s.queues p k (set (row s.queues p) q rest) [] other)
        ]

    pub receives : Receives (IsStrictlyBefore s.graph) at p q c (reading s) (reading (received_from s p q (c ∷ rest)))
    receives = record {
      from_here = here;
      to_here = there;
      n = refl;
      truth = λ x. refl;
      supports = λ k x. refl;
      unsent = λ k. refl;
      view = λ x. ap (λ v. at v x) (get_or-set_same s.views q (plus (view s q) c) none (subst (λ n. q < n) (sym fits.each_view) there)) ∙ at-plus (view s q) c x;
      view_others = λ k other. get_or-set_other s.views q k (plus (view s q) c) none other;
      queue = front ∙ ap (λ cs. c ∷ cs) (sym queue_rest);
      queue_others = queue_others;
    }

-- ---- states

part_fits : (g : Dataflow) (c d : DeltaValue) → IsPart c d → DeltaFits g d → DeltaFits g c
part_fits g c d part fits x some = elim (part x) [ inl none_there ↦ absurd (some none_there) | inr same ↦ fits x (λ e. some (same ∙ e)) ]

rest_fits : (g : Dataflow) (c d : DeltaValue) → IsPart c d → DeltaFits g d → DeltaFits g (minus d c)
rest_fits g c d part fits x some =
    let less : at (minus d c) x ≡ at d x -ℤ at c x = at-minus d c x in
    fits x (λ e. elim (part x) [ inl none_there ↦ some (omega (arith, ints)) | inr same ↦ some (omega (arith, ints)) ])

part_within : (c d : DeltaValue) → IsPart c d → DeltaIsWithin d → DeltaIsWithin c
part_within c d part within x =
    elim (part x) [
      | inl none_there ↦ subst (λ z. unsigned_abs z ≤ max_count) (sym none_there) (omega arith)
      | inr same ↦ subst (λ z. unsigned_abs z ≤ max_count) (sym same) (within x)
    ]

rest_within : (c d : DeltaValue) → IsPart c d → DeltaIsWithin d → DeltaIsWithin (minus d c)
rest_within c d part within x =
    let less : at (minus d c) x ≡ at d x -ℤ at c x = at-minus d c x in
    elim (part x) [
      | inl none_there ↦ subst (λ z. unsigned_abs z ≤ max_count) (let e : at d x ≡ at (minus d c) x = omega (arith, ints) in e) (within x)
      | inr same ↦ subst (λ z. unsigned_abs z ≤ max_count) (let e : pos 0 ≡ at (minus d c) x = omega (arith, ints) in e) (omega arith)
    ]

pub sent_state : (s : ClusterState) (p : ℕ) (c : DeltaValue) → IsState s → p < length s.processors → IsPart c (processor s p).unsent → ((q : ℕ) → q < length s.processors → length (queue s p q) < max_queue) → IsState (sent s p c)
unfolding sent
sent_state s p c state here part room =
    let g : Dataflow = s.graph in
    let q : ProcessorState = processor s p in
    let fit : ProcessorFits g q = state.fits.processors p idle here in
    let limit : ProcessorIsWithin q = state.within.processors p idle here in
    let from : p < length s.queues = subst (λ n. p < n) (sym state.fits.each_sender) here in
    let r : List (List DeltaValue) = row s.queues p in
    let wide : length r ≡ length s.processors = state.fits.each_receiver p [] from in
    let push = λ (changes : List DeltaValue). changes ++ c ∷ [] in
    let many : length (sent s p c).processors ≡ length s.processors = length-set s.processors p _ in
    let fits_row : All (λ changes. All (DeltaFits g) changes) (map push r) =
    All-map (λ changes. All (DeltaFits g) changes) push r (λ k d lt. All-push (DeltaFits g) (get_or r k d) c (state.fits.queues p [] from k d lt) (part_fits g c q.unsent part fit.unsent)) in
    let within_row : All QueueIsWithin (map push r) =
    All-map QueueIsWithin push r (λ k d lt.
    let short : length (queue s p k) < max_queue = room k (subst (λ n. k < n) wide lt) in
    let same : length (get_or r k d) ≡ length (queue s p k) = ap length (get_or_default r k d [] lt) in
    let more : length (get_or r k d ++ c ∷ []) ≡ length (get_or r k d) + 1 = length-append (get_or r k d) (c ∷ []) in
    record { few = omega arith; entries = All-push DeltaIsWithin (get_or r k d) c (state.within.queues p [] from k d lt).entries (part_within c q.unsent part limit.unsent) }) in
    record {
      ordered = state.ordered;
      fits = record {
        processors = All-set (ProcessorFits g) s.processors p _ (record {
          records = fit.records;
          requests = fit.requests;
          tokens = fit.tokens;
          vertices = fit.vertices;
          items = fit.items;
          sinks = fit.sinks;
          unsent = rest_fits g c q.unsent part fit.unsent;
        }) state.fits.processors;
        views = state.fits.views;
        queues = All-set (λ row. All (λ changes. All (DeltaFits g) changes) row) s.queues p (map push r) fits_row state.fits.queues;
        each_view = state.fits.each_view ∙ sym many;
        each_sender = length-set s.queues p (map push r) ∙ state.fits.each_sender ∙ sym many;
        each_receiver = All-set (λ row. length row ≡ length (sent s p c).processors) s.queues p (map push r) (length-map r push ∙ wide ∙ sym many)
            (λ k d lt. state.fits.each_receiver k d lt ∙ sym many);
      };
      within = record {
        some = subst (λ n. 0 < n) (sym many) state.within.some;
        few = subst (λ n. n ≤ max_processors) (sym many) state.within.few;
        processors = All-set ProcessorIsWithin s.processors p _ (record {
          records = limit.records;
          sinks = limit.sinks;
          unsent = rest_within c q.unsent part limit.unsent;
        }) state.within.processors;
        views = state.within.views;
        queues = All-set (λ row. All QueueIsWithin row) s.queues p (map push r) within_row state.within.queues;
      };
    }

front_state : (s : ClusterState) (p q : ℕ) (c : DeltaValue) (rest : List DeltaValue) → IsState s → p < length s.processors → q < length s.processors → queue s p q ≡ c ∷ rest → DeltaIsWithin (plus (view s q) c) → IsState (received_from s p q (c ∷ rest))
front_state s p q c rest state here there front small =
    let g : Dataflow = s.graph in
    let from : p < length s.queues = subst (λ n. p < n) (sym state.fits.each_sender) here in
    let r : List (List DeltaValue) = row s.queues p in
    let wide : length r ≡ length s.processors = state.fits.each_receiver p [] from in
    let to : q < length r = subst (λ n. q < n) (sym wide) there in
    let seen : q < length s.views = subst (λ n. q < n) (sym state.fits.each_view) there in
    let old : All (DeltaFits g) (c ∷ rest) = subst (All (DeltaFits g)) front (state.fits.queues p [] from q [] to) in
    let limits : QueueIsWithin (c ∷ rest) = subst QueueIsWithin front (state.within.queues p [] from q [] to) in
    let short : length (c ∷ rest) ≤ max_queue = limits.few in
    let wide_now : length (set r q rest) ≡ length s.processors = length-set r q rest ∙ wide in
    record {
      ordered = state.ordered;
      fits = record {
        processors = state.fits.processors;
        views = All-set (DeltaFits g) s.views q (plus (view s q) c) (plus_fits g (view s q) c (state.fits.views q none seen) (All-head (DeltaFits g) c rest old)) state.fits.views;
        queues = All-set (λ row. All (λ changes. All (DeltaFits g) changes) row) s.queues p (set r q rest)
            (All-set (λ changes. All (DeltaFits g) changes) r q rest (All-tail (DeltaFits g) c rest old) (state.fits.queues p [] from)) state.fits.queues;
        each_view = length-set s.views q (plus (view s q) c) ∙ state.fits.each_view;
        each_sender = length-set s.queues p (set r q rest) ∙ state.fits.each_sender;
        each_receiver = All-set (λ row. length row ≡ length s.processors) s.queues p (set r q rest) wide_now state.fits.each_receiver;
      };
      within = record {
        some = state.within.some;
        few = state.within.few;
        processors = state.within.processors;
        views = All-set DeltaIsWithin s.views q (plus (view s q) c) small state.within.views;
        queues = All-set (λ row. All QueueIsWithin row) s.queues p (set r q rest)
            (All-set QueueIsWithin r q rest (record { few = omega arith; entries = All-tail DeltaIsWithin c rest limits.entries }) (state.within.queues p [] from)) state.within.queues;
      };
    }

pub received_state : (s : ClusterState) (p q : ℕ) → IsState s → p < length s.processors → q < length s.processors → DeltaIsWithin (view (received s p q) q) → IsState (received s p q)
unfolding received
received_state s p q state here there = by (queue s p q) refl
  where
    by : (cs : List DeltaValue) → queue s p q ≡ cs → DeltaIsWithin (view (received_from s p q cs) q) → IsState (received_from s p q cs)
    by [] e small = state
    by (c ∷ rest) e small =
        let is : view (received_from s p q (c ∷ rest)) q ≡ plus (view s q) c = get_or-set_same s.views q (plus (view s q) c) none (subst (λ n. q < n) (sym state.fits.each_view) there) in
        front_state s p q c rest state here there e (subst DeltaIsWithin is small)
