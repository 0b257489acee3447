-- The keys that a step writes fit the graph.
use Rattle.std.proofs.Common.{◌≡◌, ◌≢◌, ◌⊎◌, inl, inr, ℕ, ◌+◌, ◌-◌, ◌<◌, ◌≤◌, ℤ, pos, negsuc, ◌+ℤ◌, Bool, true, false, cond, not, [], length, get_or, set, Option, Some, None, refl, sym, ap, subst, subst₂, ◌∙◌, arith, Ordering, length-append, length-set, get_or-set_same, get_or-set_other}
use Rattle.std.specs.Option.{option_map_or}
use Rattle.std.specs.Ordering.{eq_by_cmp}
use Rattle.std.specs.Cmp.{IsTotalOrder}
use Rattle.std.specs.FinMap as fin
use Rattle.std.proofs.lemmas.Cmp.{nat_cmp_total}
use Rattle.std.proofs.lemmas.Map.Views.{tells_apart}
use Rattle.std.proofs.lemmas.Option.{slice_get-get_or}
use Rattle.std.proofs.lemmas.List.{length-map}
use Rattle.nd_time.specs.Time.{Time}
use Rattle.nd_graph.specs.declared.op.Op.{Op}
use Rattle.nd_graph.specs.declared.op.Op.TheVariants.{Input, Sum, Distinct, Sink}
use Rattle.nd_graph.specs.declared.op.Route.TheVariants.{Local}
use Rattle.nd_graph.specs.declared.graph.Edge.{Edge}
use Rattle.nd_graph.specs.Graph.{Dataflow, depths, depth_past_vertex, op_at}
use Rattle.nd_paths.specs.Order.{Fits}
use Rattle.nd_summaries.specs.Walk.{HasDepth}
use Rattle.nd_paths.specs.Point.{point_total, point_exact}
use Rattle.nd_paths.specs.declared.point.Pointstamp.{Pointstamp}
use Rattle.nd_protocol.proofs.Arcs.{depth_within}
use Rattle.nd_processor.specs.Keys.{value_at_total, value_at_exact, sink_total, sink_exact}
use Rattle.nd_processor.specs.State.{ProcessorState, Requests, items_at, token_point}
use Rattle.nd_map.specs.Counts.{Counts, Number, natural, none, at, set as with_number, added, at-set, at-only}
use Rattle.nd_time.specs.Listing.{time_cmp}
use Rattle.nd_protocol.specs.Steps.{target_of, record_key, moved_token, moved_request, point_at}
use Rattle.nd_processor.specs.declared.key.ValueAt.{ValueAt}
use Rattle.nd_processor.specs.declared.key.SinkKey.{SinkKey}
use Rattle.nd_vertex.specs.Items.{Items, item_key, item_total, item_exact}
use Rattle.nd_vertex.specs.declared.key.ItemKey.{ItemKey}
use Rattle.nd_vertex.specs.Table.{Outcome, on_record, on_notice, is_zero}
use Rattle.nd_protocol.specs.declared.step.Next.{Next as Afterwards}
use Rattle.nd_protocol.specs.declared.step.Next.TheVariants.{Next, Close, Stay, To}
use Rattle.nd_protocol.specs.Ranges.{IsSmall, TimesAreSmall, IsValue}
use Rattle.nd_protocol.specs.Times.{GoesLater}
use Rattle.nd_protocol.specs.declared.times.Later.{Later}
use Rattle.nd_protocol.proofs.Shape.{GoesOn}
use Rattle.std.proofs.lemmas.List.Elements.{All-nil, All-cons}
use Rattle.nd_protocol.specs.Fitting.{IsOrdered, IsAtVertex, IsAtEdge, ProcessorFits}
use Rattle.std.proofs.lemmas.Bool.{cases_eq}

-- ---- an edit of a map changes no other key

module _ {K X : Type 0} {R : K → K → Ordering} (o : IsTotalOrder R) (tells : fin.IsAntisymmetric R) where
  pub inserted : (m : fin.FinMap R X) (k : K) (v : X) (q : K) → (q ≡ k) ⊎ (fin.get (fin.insert m k v) q ≡ fin.get m q)
  inserted m k v q =
      elim (eq_by_cmp R q k) as (λ b. eq_by_cmp R q k ≡ b → (q ≡ k) ⊎ (fin.get (fin.insert m k v) q ≡ fin.get m q)) [
        | true ↦ λ t. inl (tells_apart tells q k t)
        | false ↦ λ t. inr (fin.get-insert o m k v q ∙ ap (λ b. cond b (Some v) (fin.get m q)) t)
      ] refl

  pub removed : (m : fin.FinMap R X) (k q : K) → (q ≡ k) ⊎ (fin.get (fin.remove m k) q ≡ fin.get m q)
  removed m k q =
      elim (eq_by_cmp R q k) as (λ b. eq_by_cmp R q k ≡ b → (q ≡ k) ⊎ (fin.get (fin.remove m k) q ≡ fin.get m q)) [
        | true ↦ λ t. inl (tells_apart tells q k t)
        | false ↦ λ t. inr (fin.get-remove o m k q ∙ ap (λ b. cond b None (fin.get m q)) t)
      ] refl

  -- the same, with the value that is found there
  pub inserted_is : (m : fin.FinMap R X) (k : K) (v : X) (q : K) (w : X) → fin.get (fin.insert m k v) q ≡ Some w → ((q ≡ k) × (w ≡ v)) ⊎ (fin.get m q ≡ Some w)
  inserted_is m k v q w found =
      elim (eq_by_cmp R q k) as (λ b. eq_by_cmp R q k ≡ b → ((q ≡ k) × (w ≡ v)) ⊎ (fin.get m q ≡ Some w)) [
        | true ↦ λ t. (let is : Some v ≡ Some w = sym (fin.get-insert o m k v q ∙ ap (λ b. cond b (Some v) (fin.get m q)) t) ∙ found in inl (tells_apart tells q k t, (let e : w ≡ v = cc in e)))
        | false ↦ λ t. inr (sym (fin.get-insert o m k v q ∙ ap (λ b. cond b (Some v) (fin.get m q)) t) ∙ found)
      ] refl

  pub removed_is : (m : fin.FinMap R X) (k q : K) (w : X) → fin.get (fin.remove m k) q ≡ Some w → fin.get m q ≡ Some w
  removed_is m k q w found =
      elim (eq_by_cmp R q k) as (λ b. eq_by_cmp R q k ≡ b → fin.get m q ≡ Some w) [
        | true ↦ λ t. (let is : None ≡ Some w = sym (fin.get-remove o m k q ∙ ap (λ b. cond b None (fin.get m q)) t) ∙ found in absurd (cc))
        | false ↦ λ t. sym (fin.get-remove o m k q ∙ ap (λ b. cond b None (fin.get m q)) t) ∙ found
      ] refl

module _ {K X : Type 0} {R : K → K → Ordering} {N : Number X} (o : IsTotalOrder R) (tells : fin.IsAntisymmetric R) where
  pub set_cases : (m : Counts R N) (k : K) (v : X) (q : K) → (q ≡ k) ⊎ (at (with_number o m k v) q ≡ at m q)
  set_cases m k v q =
      elim (eq_by_cmp R q k) as (λ b. eq_by_cmp R q k ≡ b → (q ≡ k) ⊎ (at (with_number o m k v) q ≡ at m q)) [
        | true ↦ λ t. inl (tells_apart tells q k t)
        | false ↦ λ t. inr (at-set o m k v q ∙ ap (λ b. cond b v (at m q)) t)
      ] refl

-- ---- what the operators do to items

edited : (items edits : Items) (k q : ItemKey) (t : Time) → k.time ≡ t → (q ≡ k) ⊎ (at edits q ≡ at items q) → at edits q ≢ pos 0 → (q.time ≡ t) ⊎ (at items q ≢ pos 0)
edited items edits k q t at_t h some = elim h [ inl same ↦ inl (ap (λ (j : ItemKey). j.time) same ∙ at_t) | inr same ↦ inr (λ e. some (same ∙ e)) ]

pub items_recorded : (o : Op) (items : Items) (t : Time) (v : ℤ) (q : ItemKey) → at (on_record o items t v).items q ≢ pos 0 → (q.time ≡ t) ⊎ (at items q ≢ pos 0)
items_recorded Sum items t v q some =
    let k : ItemKey = item_key t (pos 0) in
    edited items (added item_total items k v) k q t refl (set_cases item_total item_exact items k (at items k +ℤ v) q) some
items_recorded Distinct items t v q some =
    let k : ItemKey = item_key t v in
    elim (is_zero (at items k)) as (λ b. at (cond b (with_number item_total items k (pos 1)) items) q ≢ pos 0 → (q.time ≡ t) ⊎ (at items q ≢ pos 0)) [
      | true ↦ λ h. edited items (with_number item_total items k (pos 1)) k q t refl (set_cases item_total item_exact items k (pos 1) q) h
      | false ↦ λ h. inr h
    ] some
items_recorded o items t v q some = inr some

still_there : (b : Bool) (v : ℤ) → cond b v (pos 0) ≢ pos 0 → v ≢ pos 0
still_there true v some = some
still_there false v some = absurd (some refl)

pub items_noticed : (o : Op) (items : Items) (t : Time) (q : ItemKey) → at (on_notice o items t).items q ≢ pos 0 → (q.time ≡ t) ⊎ (at items q ≢ pos 0)
items_noticed Sum items t q some =
    let k : ItemKey = item_key t (pos 0) in
    edited items (with_number item_total items k (pos 0)) k q t refl (set_cases item_total item_exact items k (pos 0) q) some
items_noticed Distinct items t q some =
    let p : ItemKey → Bool = λ k. not (eq_by_cmp time_cmp k.time t) in
    inr (still_there (p q) (at items q) (λ e. some (at-only item_total item_exact p items q ∙ e)))
items_noticed o items t q some = inr some

-- only a sink counts
pub counts_sink : (o : Op) (items : Items) (t : Time) (v : ℤ) → (on_record o items t v).counts ≡ true → o ≡ Sink
counts_sink Sink items t v e = refl
counts_sink o items t v e = absurd (cc)

-- ---- the processor that is written

-- an edge leads to a vertex of the graph
target_below : (g : Dataflow) → IsOrdered g → (edge d : ℕ) → length g.vertices ≤ edge → HasDepth g edge d → target_of g edge < length g.vertices
target_below g o edge d place has =
    let inside : edge < length (depths g) = (depth_within g edge d has).0 in
    let count : length (depths g) ≡ length g.vertices + length g.edges = length-append _ _ ∙ (λ i. length-map g.vertices (λ v. v.depth) i + length-map g.edges (λ e. depth_past_vertex g.vertices e.from) i) in
    let i : ℕ = edge - length g.vertices in
    let lt : i < length g.edges = omega arith in
    let any : Edge = record { name = []; from = 0; port = 0; to = 0; route = Local } in
    subst (λ v. option_map_or (λ (e : Edge). e.to) v 0 < length g.vertices) (sym (slice_get-get_or g.edges i any lt)) (o.joined i any lt).to

-- each item and its number fit their types
abbrev pub AreValues : Items → Type 0
AreValues items = (k : ItemKey) → at items k ≢ pos 0 → IsValue k.item × IsValue (at items k)

-- the items of a vertex after those of some vertex were written
items_written : (g : Dataflow) (q : ProcessorState) (vertex : ℕ) (t : Time) (items : Items) → ((k : ItemKey) → at items k ≢ pos 0 → (k.time ≡ t) ⊎ (at (items_at q vertex) k ≢ pos 0)) → AreValues items
    → IsAtVertex g (point_at vertex t) → ProcessorFits g q
    → (v : ℕ) (k : ItemKey) → at (get_or (set q.items vertex items) v none) k ≢ pos 0 → IsAtVertex g (point_at v k.time) × IsValue k.item × IsValue (at (get_or (set q.items vertex items) v none) k)
items_written g q vertex t items items_are values there fit v k some =
    let inside : vertex < length q.items = subst (λ n. vertex < n) (sym fit.vertices) there.place in
    elim (cases_eq v vertex) [
      | inl here ↦
          let is : get_or (set q.items vertex items) v none ≡ items = ap (λ w. get_or (set q.items vertex items) w none) here ∙ get_or-set_same q.items vertex items none inside in
          let some_here : at items k ≢ pos 0 = λ e. some (ap (λ m. at m k) is ∙ e) in
          let place : IsAtVertex g (point_at v k.time) = elim (items_are k some_here) [
            | inl same ↦ subst₂ (λ w u. IsAtVertex g (point_at w u)) (sym here) (sym same) there
            | inr old ↦ subst (λ w. IsAtVertex g (point_at w k.time)) (sym here) (fit.items vertex k old).0
          ] in
          (place, (values k some_here).0, subst (λ m. IsValue (at m k)) (sym is) (values k some_here).1)
      | inr other ↦
          let is : get_or (set q.items vertex items) v none ≡ items_at q v = get_or-set_other q.items vertex v items none other in
          let old = fit.items v k (λ e. some (ap (λ m. at m k) is ∙ e)) in
          (old.0, old.1, subst (λ m. IsValue (at m k)) (sym is) old.2)
    ]

pub taken_fits : (g : Dataflow) → IsOrdered g → (q : ProcessorState) (edge : ℕ) (t : Time) (value : ℤ) (outcome : Outcome) (op : Op)
    → ((k : ItemKey) → at outcome.items k ≢ pos 0 → (k.time ≡ t) ⊎ (at (items_at q (target_of g edge)) k ≢ pos 0)) → AreValues outcome.items
    → (outcome.counts ≡ true → op ≡ Sink) → op ≡ op_at g (target_of g edge)
    → IsAtEdge g (point_at edge t) → IsValue value → Fits g (point_at (target_of g edge) t) → ProcessorFits g q
    → ProcessorFits g (record q {
      records = added value_at_total q.records (record_key edge t value) (negsuc 0);
      requests = cond outcome.asks (fin.insert q.requests (point_at (target_of g edge) t) tt) q.requests;
      items = set q.items (target_of g edge) outcome.items;
      sinks = cond outcome.counts (added sink_total q.sinks (record { vertex = target_of g edge; value = value }) (pos 1)) q.sinks;
    })
taken_fits g o q edge t value outcome op items_are values counts op_is place fine target_fits fit =
    let target : ℕ = target_of g edge in
    let m : Pointstamp = point_at target t in
    let sink : SinkKey = record { vertex = target; value = value } in
    let below : target < length g.vertices = target_below g o edge (length t.counters) place.place place.fits.depth in
    let there : IsAtVertex g m = record { place = below; fits = target_fits; small = place.small } in
    record {
      records = λ k some. elim (set_cases value_at_total value_at_exact q.records (record_key edge t value) (natural (pos (at q.records (record_key edge t value)) +ℤ negsuc 0)) k) [
        | inl same ↦ subst (λ (j : ValueAt). IsAtEdge g j.point × IsValue j.value) (sym same) (place, fine)
        | inr same ↦ fit.records k (λ e. some (same ∙ e))
      ];
      requests = λ x found. elim outcome.asks as (λ b. fin.get (cond b (fin.insert q.requests m tt) q.requests) x ≡ Some tt → IsAtVertex g x) [
        | true ↦ λ h. elim (inserted point_total point_exact q.requests m tt x) [
          | inl same ↦ subst (IsAtVertex g) (sym same) there
          | inr same ↦ fit.requests x (sym same ∙ h)
        ]
        | false ↦ λ h. fit.requests x h
      ] found;
      tokens = fit.tokens;
      vertices = length-set q.items target outcome.items ∙ fit.vertices;
      items = items_written g q target t outcome.items items_are values there fit;
      sinks = λ k some. elim outcome.counts as (λ b. (b ≡ true → op ≡ Sink) → at (cond b (added sink_total q.sinks sink (pos 1)) q.sinks) k ≢ 0 → (op_at g k.vertex ≡ Sink) × (k.vertex < length g.vertices) × IsValue k.value) [
        | true ↦ λ is_sink h. elim (set_cases sink_total sink_exact q.sinks sink (natural (pos (at q.sinks sink) +ℤ pos 1)) k) [
          | inl same ↦ subst (λ (j : SinkKey). (op_at g j.vertex ≡ Sink) × (j.vertex < length g.vertices) × IsValue j.value) (sym same) (sym op_is ∙ is_sink refl, below, fine)
          | inr same ↦ fit.sinks k (λ e. h (same ∙ e))
        ]
        | false ↦ λ is_sink h. fit.sinks k h
      ] counts some;
      unsent = fit.unsent;
    }

pub noticed_fits : (g : Dataflow) (q : ProcessorState) (vertex : ℕ) (t : Time) (outcome : Outcome)
    → ((k : ItemKey) → at outcome.items k ≢ pos 0 → (k.time ≡ t) ⊎ (at (items_at q vertex) k ≢ pos 0)) → AreValues outcome.items
    → IsAtVertex g (point_at vertex t) → ProcessorFits g q → ProcessorFits g (record q { requests = fin.remove q.requests (point_at vertex t); items = set q.items vertex outcome.items })
noticed_fits g q vertex t outcome items_are values place fit = record {
  records = fit.records;
  requests = λ z found. elim (removed point_total point_exact q.requests (point_at vertex t) z) [ inl same ↦ subst (IsAtVertex g) (sym same) place | inr same ↦ fit.requests z (sym same ∙ found) ];
  tokens = fit.tokens;
  vertices = length-set q.items vertex outcome.items ∙ fit.vertices;
  items = items_written g q vertex t outcome.items items_are values place fit;
  sinks = fit.sinks;
  unsent = fit.unsent;
}

-- the location of an input's token does not depend on the epoch
other_epoch : (g : Dataflow) (vertex e f : ℕ) → IsSmall f → IsAtVertex g (token_point vertex e) → IsAtVertex g (token_point vertex f)
other_epoch g vertex e f small h = record { place = h.place; fits = record { depth = h.fits.depth }; small = All-cons IsSmall f [] small (All-nil IsSmall) }

moved_fits : (g : Dataflow) (q : ProcessorState) (vertex epoch : ℕ) → fin.get q.tokens vertex ≡ Some epoch → (next : Afterwards) → GoesOn next epoch → ProcessorFits g q
    → (v e : ℕ) → fin.get (moved_token q.tokens vertex epoch next) v ≡ Some e → (op_at g v ≡ Input) × IsAtVertex g (token_point v e)
moved_fits g q vertex epoch here Next room fit v e found =
    let old = fit.tokens vertex epoch here in
    elim (inserted_is nat_cmp_total fin.nat_cmp-IsAntisymmetric q.tokens vertex (epoch + 1) v e found) [
      | inl (same, is) ↦
          subst (λ w. (op_at g w ≡ Input) × IsAtVertex g (token_point w e)) (sym same) (old.0, other_epoch g vertex epoch e (omega arith) old.1)
      | inr there ↦ fit.tokens v e there
    ]
moved_fits g q vertex epoch here (To n) room fit v e found =
    let old = fit.tokens vertex epoch here in
    elim (inserted_is nat_cmp_total fin.nat_cmp-IsAntisymmetric q.tokens vertex n v e found) [
      | inl (same, is) ↦
          subst (λ w. (op_at g w ≡ Input) × IsAtVertex g (token_point w e)) (sym same) (old.0, other_epoch g vertex epoch e (subst IsSmall (sym is) room.1) old.1)
      | inr there ↦ fit.tokens v e there
    ]
moved_fits g q vertex epoch here Close room fit v e found = fit.tokens v e (removed_is nat_cmp_total fin.nat_cmp-IsAntisymmetric q.tokens vertex v e found)
moved_fits g q vertex epoch here Stay room fit v e found = fit.tokens v e found

pub fed_fits : (g : Dataflow) (q : ProcessorState) (vertex epoch : ℕ) → fin.get q.tokens vertex ≡ Some epoch → (next : Afterwards) → GoesOn next epoch → ProcessorFits g q → ProcessorFits g (record q { tokens = moved_token q.tokens vertex epoch next })
fed_fits g q vertex epoch here next room fit = record {
  records = fit.records;
  requests = fit.requests;
  tokens = moved_fits g q vertex epoch here next room fit;
  vertices = fit.vertices;
  items = fit.items;
  sinks = fit.sinks;
  unsent = fit.unsent;
}

-- the location of a request does not depend on the time
other_time : (g : Dataflow) (vertex : ℕ) (t : Time) (to : Later) → GoesLater g.order t (Some to) → TimesAreSmall t (Some to) → IsAtVertex g (point_at vertex t) → IsAtVertex g (point_at vertex to.time)
other_time g vertex t to later small h = record { place = h.place; fits = record { depth = subst (HasDepth g vertex) later.0.depth h.fits.depth }; small = small.1 }

kept_or_removed : (keep : Bool) (m : Requests) (k z : Pointstamp) → fin.get (cond keep m (fin.remove m k)) z ≡ Some tt → fin.get m z ≡ Some tt
kept_or_removed true m k z found = found
kept_or_removed false m k z found = removed_is point_total point_exact m k z tt found

request_moved : (g : Dataflow) (m : Requests) (vertex : ℕ) (t : Time) (to : Option Later) → GoesLater g.order t to → TimesAreSmall t to → IsAtVertex g (point_at vertex t)
    → ((z : Pointstamp) → fin.get m z ≡ Some tt → IsAtVertex g z) → (z : Pointstamp) → fin.get (moved_request m vertex t to) z ≡ Some tt → IsAtVertex g z
request_moved g m vertex t None later small place old z found = old z (removed_is point_total point_exact m (point_at vertex t) z tt found)
request_moved g m vertex t (Some to) later small place old z found =
    elim (inserted_is point_total point_exact (cond to.keep m (fin.remove m (point_at vertex t))) (point_at vertex to.time) tt z tt found) [
      | inl (same, is) ↦ subst (IsAtVertex g) (sym same) (other_time g vertex t to later small place)
      | inr there ↦ old z (kept_or_removed to.keep m (point_at vertex t) z there)
    ]

pub released_fits : (g : Dataflow) (q : ProcessorState) (vertex : ℕ) (t : Time) (to : Option Later) → GoesLater g.order t to → TimesAreSmall t to → IsAtVertex g (point_at vertex t) → ProcessorFits g q
    → ProcessorFits g (record q { requests = moved_request q.requests vertex t to })
released_fits g q vertex t to later small place fit = record {
  records = fit.records;
  requests = request_moved g q.requests vertex t to later small place fit.requests;
  tokens = fit.tokens;
  vertices = fit.vertices;
  items = fit.items;
  sinks = fit.sinks;
  unsent = fit.unsent;
}
