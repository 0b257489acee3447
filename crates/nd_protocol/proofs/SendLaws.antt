-- The laws of sends: what is sent is later, and not passed, and nothing else changes.
use Rattle.std.proofs.Common.{◌≡◌, inr, ℕ, ◌+◌, ◌-◌, ◌<◌, pos, ◌+ℤ◌, ◌-ℤ◌, length, get_or, count_by, slice_get, Some, refl, sym, ap, subst, ◌∙◌, arith}
use Rattle.std.proofs.lemmas.Int.{ints}
use Rattle.std.proofs.lemmas.List.{set-get_or}
use Rattle.std.specs.Ordering.{int_eq}
use Rattle.std.specs.FinMap as fin
use Rattle.nd_map.specs.Counts.{Counts, naturals, at}
use Rattle.nd_time.specs.Time.{Time}
use Rattle.nd_graph.specs.Graph.{Dataflow}
use Rattle.nd_graph.specs.declared.graph.Edge.{Edge}
use Rattle.nd_paths.specs.Order.{IsStrictlyBefore}
use Rattle.nd_paths.specs.declared.point.Pointstamp.{Pointstamp}
use Rattle.nd_delta.specs.Delta.{DeltaValue, at as in_change}
use Rattle.nd_view.specs.View.{IsPassed}
use Rattle.nd_processor.specs.Keys.{value_at_cmp}
use Rattle.nd_processor.specs.State.{ProcessorState, idle}
use Rattle.nd_processor.specs.declared.key.ValueAt.{ValueAt}
use Rattle.nd_protocol.specs.State.{ClusterState, processor, view, truth}
use Rattle.nd_protocol.specs.Steps.{directed, record_key, point_at, batch_time, posted_records, with_records, posted, gain, stepped}
use Rattle.nd_protocol.specs.Fitting.{IsState}
use Rattle.nd_protocol.specs.Invariant.{KeepsProtocol}
use Rattle.nd_protocol.specs.Enabled.{GoesNowhere, IsEnabled}
use Rattle.nd_protocol.specs.Sending.{Appears, LeavesOn, IsAfterSend}
use Rattle.nd_protocol.specs.declared.batch.Batch.{Batch}
use Rattle.nd_protocol.specs.declared.step.Step.TheVariants.{Send}
use Rattle.nd_protocol.specs.declared.refusal.Refusal.TheVariants.{NoProcessor}
use Rattle.nd_protocol.proofs.Arcs.{IsTransitive, CouldIsTransitive}
use Rattle.nd_protocol.proofs.Counts.{count, truth-count, kept-set}
use Rattle.nd_protocol.proofs.EnabledLemmas.{send_possible}
use Rattle.nd_protocol.proofs.InvariantLemmas.{held}
use Rattle.nd_protocol.proofs.Ranges.{below_unless}
use Rattle.nd_protocol.proofs.Sends.{posted_later}
use Rattle.nd_protocol.proofs.Sent.{records_at, appears, all_made, none_made, directed_below}
use Rattle.nd_protocol.proofs.Shape.{sending, performed, done, IsPossible}
use Rattle.nd_protocol.proofs.StepsLemmas.{after_field, many_stepped, adds}

leaves_on : (g : Dataflow) (vertex port l i : ℕ) (e : Edge) → l ≡ length g.vertices + i → slice_get g.edges i ≡ Some e → e.from ≡ vertex → e.port ≡ port → LeavesOn g vertex port l e
leaves_on g vertex port l i e place is from on =
    let number : i ≡ l - length g.vertices = omega arith in
    record { place = omega arith; edge = subst (λ m. slice_get g.edges m ≡ Some e) number is; from = from; on = on }

module _ {A : Type 0} (s : ClusterState) (p vertex : ℕ) (b : Batch A) where
  -- a field other than the records and the unsent change
  field_kept : {X : Type 0} (f : ProcessorState → X) → ((q : ProcessorState) (m : Counts value_at_cmp naturals) → f (record q { records = m }) ≡ f q) → ((q : ProcessorState) (d : DeltaValue) → f (record q { unsent = d }) ≡ f q)
      → (k : ℕ) → f (processor (stepped s (Send p vertex b)) k) ≡ f (processor s k)
  unfolding stepped done
  field_kept f keeps_records keeps_unsent k = after_field s (sending p vertex b) f keeps_records keeps_unsent k ∙ ap (λ qs. f (get_or qs k idle)) (set-get_or s.processors p idle)

  records_after : (k : ℕ) → (processor (stepped s (Send p vertex b)) k).records ≡ (get_or (with_records s.processors (posted_records s p vertex b)) k idle).records
  unfolding stepped posted
  records_after k = kept-set (λ q. q.records) (posted s p vertex b) p _ refl k

  unsent_after : p < length s.processors → (x : Pointstamp)
      → in_change (processor (stepped s (Send p vertex b)) p).unsent x ≡ in_change (processor s p).unsent x +ℤ (in_change (truth (stepped s (Send p vertex b)).processors) x -ℤ in_change (truth s.processors) x)
  unfolding stepped done
  unsent_after here x =
      let t : ClusterState = stepped s (Send p vertex b) in
      let d : DeltaValue = gain s.processors (performed s (sending p vertex b)) in
      let more : in_change (processor t p).unsent x ≡ in_change (processor s p).unsent x +ℤ in_change d x = (adds s (sending p vertex b) here).unsent x in
      let grown : pos (count t.processors x) ≡ pos (count s.processors x) +ℤ in_change d x = (adds s (sending p vertex b) here).truth x in
      let old : in_change (truth s.processors) x ≡ pos (count s.processors x) = truth-count s.processors x in
      let new : in_change (truth t.processors) x ≡ pos (count t.processors x) = truth-count t.processors x in
      omega (arith, ints)

  unsent_others : (k : ℕ) → (k ≡ p → ⊥) → p < length s.processors → (processor (stepped s (Send p vertex b)) k).unsent ≡ (processor s k).unsent
  unfolding stepped done
  unsent_others k other here = (adds s (sending p vertex b) here).unsent_others k other

  pub send_is_exact : IsState s → IsEnabled s (Send p vertex b) → IsAfterSend s (stepped s (Send p vertex b)) p vertex b
  unfolding stepped done
  send_is_exact state enabled =
      let g : Dataflow = s.graph in
      let n : ℕ = length s.processors in
      let t : Time = batch_time b in
      let here : p < n = (send_possible s p vertex b enabled).performer_is in
      let there : (d : ℕ) → b.dest ≡ Some d → d < n = λ d is. below_unless d n (λ le. enabled.free NoProcessor (inr (subst (GoesNowhere s) (sym is) le))) in
      record {
        made = λ l e v leaves.
            let i : ℕ = l - length g.vertices in
            let k : ℕ = directed b.dest e.route n p v in
            let place : length g.vertices + i ≡ l = omega (arith, leaves.place) in
            let made : records_at (with_records s.processors (posted_records s p vertex b)) k (record_key (length g.vertices + i) t v) ≡ records_at s.processors k (record_key (length g.vertices + i) t v) + count_by (int_eq v) b.values
            = all_made b.dest n p vertex b.port t v (length g.vertices) g.edges i e (leaves.edge, leaves.from, leaves.on) b.values s.processors (directed_below b.dest e.route n p v here there) in
            ap (λ m. at m (record_key l t v)) (records_after k)
            ∙ subst (λ m. records_at (with_records s.processors (posted_records s p vertex b)) k (record_key m t v) ≡ records_at s.processors k (record_key m t v) + count_by (int_eq v) b.values) place made;
        others = λ k r apart.
            ap (λ m. at m r) (records_after k)
            ∙ none_made b.dest n p vertex b.port t k r (length g.vertices) g.edges
            (λ v i e leaves to is.
            apart e (leaves_on g vertex b.port r.point.location i e (ap (λ (d : ValueAt). d.point.location) is) leaves.0 leaves.1 leaves.2)
            (ap (λ (d : ValueAt). d.point.time) is)
            (to ∙ ap (λ w. directed b.dest e.route n p w) (sym (ap (λ (d : ValueAt). d.value) is))))
            b.values s.processors;
        unsent = unsent_after here;
        unsent_others = λ k other. unsent_others k other here;
        requests = field_kept (λ q. q.requests) (λ q m. refl) (λ q d. refl);
        tokens = field_kept (λ q. q.tokens) (λ q m. refl) (λ q d. refl);
        items = field_kept (λ q. q.items) (λ q m. refl) (λ q d. refl);
        sinks = field_kept (λ q. q.sinks) (λ q m. refl) (λ q d. refl);
        many = many_stepped s (sending p vertex b);
        graph = refl;
        views = refl;
        queues = refl;
      }

  pub sent_is_later : IsState s → IsEnabled s (Send p vertex b)
      → (fin.get (processor s p).requests (point_at vertex b.time) ≡ Some tt)
      × (fin.get (processor (stepped s (Send p vertex b)) p).requests (point_at vertex b.time) ≡ Some tt)
      × ((r : ValueAt) → Appears s (stepped s (Send p vertex b)) r → IsStrictlyBefore s.graph (point_at vertex b.time) r.point)
  sent_is_later state enabled =
      let y : Pointstamp = point_at vertex b.time in
      let possible : IsPossible s (sending p vertex b) = send_possible s p vertex b enabled in (
        possible.finds,
        ap (λ m. fin.get m y) (field_kept (λ q. q.requests) (λ q m. refl) (λ q d. refl) p) ∙ possible.finds,
        λ r more. appears (IsStrictlyBefore s.graph y) (posted_records s p vertex b)
            (posted_later s state.ordered p vertex b possible.finds possible.numbers (state.fits.processors p idle possible.performer_is))
            s.processors more.0 r (subst (λ m. at (processor s more.0).records r < at m r) (records_after more.0) more.1),
      )

  pub sent_is_not_passed : IsTransitive → CouldIsTransitive → (q : ℕ) → IsState s → KeepsProtocol s → IsEnabled s (Send p vertex b) → q < length s.processors
      → (r : ValueAt) → Appears s (stepped s (Send p vertex b)) r → IsPassed s.graph (view s q) r.point → ⊥
  sent_is_not_passed trans could q state keeps enabled there r more is_passed =
      let later = sent_is_later state enabled in
      held trans could s state.ordered keeps p q ((send_possible s p vertex b enabled).performer_is) there (point_at vertex b.time) r.point later.0 (later.2 r more).0 is_passed
