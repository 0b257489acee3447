-- A take: the record on the edge is the cause of what its target emits and of the request.
use Rattle.std.proofs.Common.{◌≡◌, inl, inr, ℕ, ◌+◌, ◌<◌, ◌≤◌, ℤ, pos, negsuc, cond, length, get_or, Some, refl, sym, subst, ◌∙◌, arith}
use Rattle.std.specs.FinMap as fin
use Rattle.nd_time.specs.Time.{Time}
use Rattle.nd_graph.specs.declared.op.Action.TheVariants.{Identity}
use Rattle.nd_graph.specs.declared.graph.Arc.{Arc}
use Rattle.nd_graph.specs.Graph.{Dataflow}
use Rattle.nd_paths.specs.declared.point.Pointstamp.{Pointstamp}
use Rattle.nd_paths.specs.Order.{IsStrictlyBefore}
use Rattle.nd_processor.specs.State.{ProcessorState, items_at, one_at, in_records, in_requests, held}
use Rattle.nd_protocol.specs.State.{ClusterState, processor}
use Rattle.nd_protocol.specs.Steps.{emitted, target_of, record_key, point_at}
use Rattle.nd_processor.specs.declared.key.ValueAt.{ValueAt}
use Rattle.nd_vertex.specs.Table.{Outcome}
use Rattle.nd_protocol.specs.Steps.{take_outcome, notice_outcome}
use Rattle.nd_protocol.specs.Fitting.{IsOrdered, IsAtEdge, IsAtVertex, ProcessorFits}
use Rattle.nd_protocol.specs.Ranges.{IsValue}
use Rattle.nd_protocol.proofs.Ranges.{AllKeys-flat, past_small, emitted_small, recorded_value, noticed_number, IsFine, notice_fine}
use Rattle.nd_protocol.proofs.Shape.{taking, noticing, FitsTypes, IsSmallKey, HasCause}
use Rattle.nd_graph.specs.Graph.{op_at}
use Rattle.nd_map.specs.Counts.{at, added}
use Rattle.nd_processor.specs.HeldLaws.{point_cases, one_at_itself, in_records-taken, in_requests-remove}
use Rattle.nd_processor.specs.Keys.{value_at_total, sink_total}
use Rattle.std.specs.Prelude.{All, slice_set}
use Rattle.nd_protocol.proofs.Arcs.{IsTransitive, irreflexive, along, arc_of_edge}
use Rattle.nd_protocol.proofs.Counts.{AllAt-flat}
use Rattle.nd_protocol.proofs.Emissions.{AllAt-wider, emitted_later, emitted_on_edges}
use Rattle.nd_protocol.proofs.Keys.{AreValues, taken_fits, noticed_fits, items_recorded, items_noticed, counts_sink}
use Rattle.nd_protocol.proofs.Requests.{in_requests-asked, in_requests-not_less}
use Rattle.nd_protocol.proofs.Supports.{still_supports}

pub take_cause : IsTransitive → (s : ClusterState) → IsOrdered s.graph → (p edge : ℕ) (t : Time) (value : ℤ) → 0 < at (processor s p).records (record_key edge t value) → FitsTypes s (taking p edge t value) → ProcessorFits s.graph (processor s p) → HasCause s (taking p edge t value)
take_cause trans s o p edge t value some numbers fit =
    let there = fit.records (record_key edge t value) (λ e. omega arith) in
    let place : IsAtEdge s.graph (point_at edge t) = there.0 in
    let g : Dataflow = s.graph in
    let q : ProcessorState = processor s p in
    let k : ValueAt = record_key edge t value in
    let target : ℕ = target_of g edge in
    let outcome : Outcome = take_outcome s p edge t value in
    let y : Pointstamp = point_at edge t in
    let m : Pointstamp = point_at target t in
    let arc : Arc = record { from = edge; action = Identity; to = target } in
    let on : IsStrictlyBefore g y m = along g o arc (arc_of_edge g edge (length t.counters) place.place place.fits.depth) t place.fits in
    let r : ProcessorState = record q {
      records = added value_at_total q.records k (negsuc 0);
      requests = cond outcome.asks (fin.insert q.requests m tt) q.requests;
      items = slice_set q.items target outcome.items;
      sinks = cond outcome.counts (added sink_total q.sinks (record { vertex = target; value = value }) (pos 1)) q.sinks;
    } in
    let less : (z : Pointstamp) → in_records (added value_at_total q.records k (negsuc 0)) z + one_at y z ≡ in_records q.records z = λ z. in_records-taken q.records k 1 z (omega arith) in
    let asked : (z : Pointstamp) → in_requests r.requests z ≤ in_requests q.requests z + one_at m z = λ z. in_requests-asked outcome.asks q.requests m z in
    let gone : held r y < held q y =
    elim (point_cases y m) [
      | inl same ↦ absurd (irreflexive g y (subst (λ z. IsStrictlyBefore g y z) (sym same) on))
      | inr apart ↦ omega (arith, less y, asked y, one_at_itself y)
    ] in
    record {
      fits = taken_fits g o q edge t value outcome (op_at g target) (items_recorded (op_at g target) (items_at q target) t value)
          (λ k is_there. (recorded_value (op_at g target) (items_at q target) t value k there.1 (λ old. (fit.items target k old).1) is_there, numbers.1.items k))
          (counts_sink (op_at g target) (items_at q target) t value) refl place there.1 on.0.fits_t fit;
      edges = AllAt-flat (λ z. length g.vertices ≤ z.location) (emitted g (length s.processors) p target t) (emitted_on_edges g (length s.processors) p target t) outcome.emissions;
      small = AllKeys-flat IsSmallKey (emitted g (length s.processors) p target t) outcome.emissions
          (λ k d lt. emitted_small g (length s.processors) p target t (get_or outcome.emissions k d) (past_small (op_at g target) t numbers.0 place.small) (numbers.1.emissions k d lt));
      cause = y;
      later = AllAt-flat (IsStrictlyBefore g y) (emitted g (length s.processors) p target t)
          (λ e. AllAt-wider (IsStrictlyBefore g m) (IsStrictlyBefore g y) (λ z h. trans g y m z o.accepted on h) (emitted g (length s.processors) p target t e)
          (emitted_later g o (length s.processors) p target t on.0.fits_t e)) outcome.emissions;
      grows = λ z. elim (point_cases z m) [
        | inl same ↦ inl (subst (λ w. IsStrictlyBefore g y w) (sym same) on)
        | inr apart ↦ inr (omega (arith, less z, asked z))
      ];
      goes = inl gone;
      supports = λ z h. inl (still_supports g q r.requests z (in_requests-not_less outcome.asks q.requests m z) h);
    }

pub notice_cause : (s : ClusterState) → IsOrdered s.graph → (p vertex : ℕ) (t : Time) → fin.get (processor s p).requests (point_at vertex t) ≡ Some tt → ProcessorFits s.graph (processor s p) → HasCause s (noticing p vertex t)
notice_cause s o p vertex t found fit =
    let place : IsAtVertex s.graph (point_at vertex t) = fit.requests (point_at vertex t) found in
    let g : Dataflow = s.graph in
    let q : ProcessorState = processor s p in
    let outcome : Outcome = notice_outcome s p vertex t in
    let y : Pointstamp = point_at vertex t in
    let r : ProcessorState = record q { requests = fin.remove q.requests y; items = slice_set q.items vertex outcome.items } in
    let fine : All (IsFine (op_at g vertex) t) outcome.emissions = notice_fine (op_at g vertex) (items_at q vertex) t place.small (λ j some. (fit.items vertex j some).2) in
    let values : AreValues outcome.items = λ k some. elim (noticed_number (op_at g vertex) (items_at q vertex) t k) [
      | inl none_there ↦ absurd (some none_there)
      | inr same ↦ let old = fit.items vertex k (λ e. some (same ∙ e)) in (old.1, subst IsValue (sym same) old.2)
    ] in
    let less : (z : Pointstamp) → in_requests (fin.remove q.requests y) z + one_at y z ≡ in_requests q.requests z = λ z. in_requests-remove q.requests y z found in
    let gone : held r y < held q y = omega (arith, less y, one_at_itself y) in
    record {
      fits = noticed_fits g q vertex t outcome (items_noticed (op_at g vertex) (items_at q vertex) t) values place fit;
      edges = AllAt-flat (λ z. length g.vertices ≤ z.location) (emitted g (length s.processors) p vertex t) (emitted_on_edges g (length s.processors) p vertex t) outcome.emissions;
      small = AllKeys-flat IsSmallKey (emitted g (length s.processors) p vertex t) outcome.emissions
          (λ k d lt. emitted_small g (length s.processors) p vertex t (get_or outcome.emissions k d) (fine k d lt).0 (fine k d lt).1);
      cause = y;
      later = AllAt-flat (IsStrictlyBefore g y) (emitted g (length s.processors) p vertex t) (emitted_later g o (length s.processors) p vertex t place.fits) outcome.emissions;
      grows = λ z. inr (omega (arith, less z));
      goes = inl gone;
      supports = λ z h. elim (point_cases z y) [ inl same ↦ inr (same, gone) | inr apart ↦ inl (still_supports g q r.requests z (omega (arith, less z)) h) ];
    }
