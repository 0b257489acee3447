-- Each step adds an upright change to the truth, and is a step of the protocol.
use Rattle.std.proofs.Common.{◌≡◌, ◌≢◌, inl, inr, ℕ, ◌<◌, ◌<ℤ◌, pos, ◌+ℤ◌, length, get_or, set, refl, sym, ap, subst, ◌∙◌, arith, length-set, get_or-set_same, get_or-set_other}
use Rattle.std.proofs.lemmas.Int.{ints}
use Rattle.nd_paths.specs.Order.{IsStrictlyBefore}
use Rattle.nd_paths.specs.declared.point.Pointstamp.{Pointstamp}
use Rattle.nd_delta.specs.Delta.{DeltaValue, at, plus, at-plus}
use Rattle.nd_delta.specs.Upright.{IsUpright}
use Rattle.nd_processor.specs.Keys.{value_at_cmp}
use Rattle.nd_processor.specs.State.{ProcessorState, idle, held}
use Rattle.nd_protocol.specs.State.{ClusterState, processor}
use Rattle.nd_protocol.proofs.Core.{Adds, Performs}
use Rattle.nd_map.specs.Counts.{Counts, naturals}
use Rattle.nd_protocol.specs.Steps.{gain, with_gain}
use Rattle.nd_protocol.specs.Fitting.{IsOrdered, ProcessorFits, KeysFit}
use Rattle.nd_protocol.specs.Invariant.{supporting, Supports, IsSettled}
use Rattle.nd_protocol.proofs.Shape.{Work, performer, performed, done, feeding, taking, noticing, releasing, sending, IsPossible, written, come, performed-writes, unsent-written, HasCause}
use Rattle.nd_protocol.proofs.Reading.{reading}
use Rattle.nd_protocol.proofs.Arcs.{IsTransitive, irreflexive}
use Rattle.nd_protocol.proofs.Counts.{count, gain-count, count-set_same, kept-set, kept-records, length-records}
use Rattle.nd_protocol.proofs.Causes.{loses, upright_gain}
use Rattle.nd_protocol.proofs.Takes.{take_cause, notice_cause}
use Rattle.nd_protocol.proofs.Feeds.{feed_cause}
use Rattle.nd_protocol.proofs.Releases.{release_cause}
use Rattle.nd_protocol.proofs.Sends.{send_cause}
use Rattle.nd_protocol.proofs.Readings.{counted, balanced_of, settled_of}
use Rattle.nd_protocol.proofs.Preservation.{performed_balanced}

module _ (s : ClusterState) (x : Work) where
  -- a field other than the records and the unsent change
  pub after_field : {X : Type 0} (f : ProcessorState → X) → ((q : ProcessorState) (m : Counts value_at_cmp naturals) → f (record q { records = m }) ≡ f q) → ((q : ProcessorState) (d : DeltaValue) → f (record q { unsent = d }) ≡ f q)
      → (k : ℕ) → f (processor (done s x) k) ≡ f (get_or (set s.processors (performer x) (written s x)) k idle)
  unfolding done
  after_field f keeps_records keeps_unsent k =
      kept-set f (performed s x) (performer x) _ (keeps_unsent _ _) k
      ∙ ap (λ qs. f (get_or qs k idle)) (performed-writes s x)
      ∙ kept-records f keeps_records (set s.processors (performer x) (written s x)) (come s x) k

  supporting_here : performer x < length s.processors → (z : Pointstamp) → supporting s.graph (processor (done s x) (performer x)) z ≡ supporting s.graph (written s x) z
  supporting_here here z =
      after_field (λ q. supporting s.graph q z) (λ q m. refl) (λ q d. refl) (performer x)
      ∙ ap (λ q. supporting s.graph q z) (get_or-set_same s.processors (performer x) (written s x) idle here)

  supporting_there : (k : ℕ) → k ≢ performer x → (z : Pointstamp) → supporting s.graph (processor (done s x) k) z ≡ supporting s.graph (processor s k) z
  supporting_there k other z =
      after_field (λ q. supporting s.graph q z) (λ q m. refl) (λ q d. refl) k
      ∙ ap (λ q. supporting s.graph q z) (get_or-set_other s.processors (performer x) k (written s x) idle other)

  -- what is unsent, without the change that the step adds to it
  unsent_performed : (k : ℕ) → (get_or (performed s x) k idle).unsent ≡ (processor s k).unsent
  unsent_performed k =
      ap (λ qs. (get_or qs k idle).unsent) (performed-writes s x)
      ∙ kept-records (λ q. q.unsent) (λ q m. refl) (set s.processors (performer x) (written s x)) (come s x) k
      ∙ kept-set (λ q. q.unsent) s.processors (performer x) (written s x) (unsent-written s x) k

  many_performed : length (performed s x) ≡ length s.processors
  many_performed = ap length (performed-writes s x) ∙ length-records (set s.processors (performer x) (written s x)) (come s x) ∙ length-set s.processors (performer x) (written s x)

  pub many_stepped : length (done s x).processors ≡ length s.processors
  unfolding done
  many_stepped = length-set (performed s x) (performer x) _ ∙ many_performed

  unsent_here : performer x < length s.processors → (processor (done s x) (performer x)).unsent ≡ plus (processor s (performer x)).unsent (gain s.processors (performed s x))
  unfolding done
  unsent_here here =
      ap (λ q. q.unsent) (get_or-set_same (performed s x) (performer x) _ idle (subst (λ n. performer x < n) (sym many_performed) here))
      ∙ ap (λ d. plus d (gain s.processors (performed s x))) (unsent_performed (performer x))

  unsent_there : (k : ℕ) → k ≢ performer x → (processor (done s x) k).unsent ≡ (processor s k).unsent
  unfolding done
  unsent_there k other = ap (λ q. q.unsent) (get_or-set_other (performed s x) (performer x) k _ idle other) ∙ unsent_performed k

  -- the step adds its gain to the truth, and to what its performer has to send
  pub adds : performer x < length s.processors → Adds (IsStrictlyBefore s.graph) at (performer x) (at (gain s.processors (performed s x))) (reading s) (reading (done s x))
  unfolding done
  adds here = record {
    here = here;
    n = many_stepped;
    truth = λ z.
        let now : count (with_gain s.processors (performer x) (performed s x)) z ≡ count (performed s x) z = count-set_same (performed s x) (performer x) _ z refl in
        let moves : at (gain s.processors (performed s x)) z +ℤ pos (count s.processors z) ≡ pos (count (performed s x) z) = gain-count s.processors (performed s x) z in
        omega (arith, ints);
    unsent = λ z. ap (λ d. at d z) (unsent_here here) ∙ at-plus (processor s (performer x)).unsent (gain s.processors (performed s x)) z;
    unsent_others = unsent_there;
    view = λ q. refl;
    queue = λ k q. refl;
  }

  -- a step keeps a settled cluster settled
  pub settled_kept : performer x < length s.processors → IsSettled s → IsSettled (done s x)
  unfolding done
  settled_kept here settled =
      settled_of (done s x) (performed_balanced (IsStrictlyBefore s.graph) at (performer x) (at (gain s.processors (performed s x))) (reading s) (reading (done s x)) (adds here) (balanced_of s settled))

pub cause_of : IsTransitive → (s : ClusterState) (x : Work) → IsOrdered s.graph → KeysFit s → IsPossible s x → HasCause s x
cause_of trans s (feeding p vertex values next) o fits possible =
    let here : ProcessorFits s.graph (processor s p) = fits.processors p idle possible.performer_is in
    let (epoch, found) = possible.finds in
    feed_cause s o p vertex epoch values next found possible.numbers here
cause_of trans s (taking p edge t value) o fits possible =
    let here : ProcessorFits s.graph (processor s p) = fits.processors p idle possible.performer_is in
    take_cause trans s o p edge t value possible.finds possible.numbers here
cause_of trans s (noticing p vertex t) o fits possible =
    let here : ProcessorFits s.graph (processor s p) = fits.processors p idle possible.performer_is in
    notice_cause s o p vertex t possible.finds here
cause_of trans s (releasing p vertex times) o fits possible =
    let here : ProcessorFits s.graph (processor s p) = fits.processors p idle possible.performer_is in
    release_cause s p vertex times possible.finds possible.numbers here
cause_of trans s (sending p vertex batch) o fits possible =
    let here : ProcessorFits s.graph (processor s p) = fits.processors p idle possible.performer_is in
    send_cause s o p vertex batch possible.finds possible.numbers here

module _ (s : ClusterState) (x : Work) (o : IsOrdered s.graph) (here : performer x < length s.processors) (c : HasCause s x) where
  loses_cause : held (written s x) c.cause < held (processor s (performer x)) c.cause → at (gain s.processors (performed s x)) c.cause <ℤ pos 0
  loses_cause less =
      subst (λ qs. at (gain s.processors qs) c.cause <ℤ pos 0) (sym (performed-writes s x))
      (loses (IsStrictlyBefore s.graph) (irreflexive s.graph) s.processors (performer x) here (written s x) (come s x) c.cause c.later c.grows less)

  -- the change that the step adds to the truth is upright, given what the performer holds
  upright_step : IsUpright (IsStrictlyBefore s.graph) (Supports s.graph (processor s (performer x))) (at (gain s.processors (performed s x)))
  upright_step =
      let H : Pointstamp → Type 0 = Supports s.graph (processor s (performer x)) in
      subst (λ qs. IsUpright (IsStrictlyBefore s.graph) H (at (gain s.processors qs))) (sym (performed-writes s x))
      (upright_gain (IsStrictlyBefore s.graph) (irreflexive s.graph) s.processors (performer x) here (written s x) (come s x) c.cause c.later c.grows H
      (elim c.goes [
        | inl less ↦ inl (loses (IsStrictlyBefore s.graph) (irreflexive s.graph) s.processors (performer x) here (written s x) (come s x) c.cause c.later c.grows less)
        | inr supports ↦ inr supports
      ]))

  performs : Performs (IsStrictlyBefore s.graph) at (performer x) (at (gain s.processors (performed s x))) (reading s) (reading (done s x))
  unfolding done
  performs = record {
    adds = adds s x here;
    justified = upright_step;
    moved = λ z h. elim (c.supports z h) [
      | inl still ↦ inl (subst (λ m. 0 < m) (sym (supporting_here s x here z)) still)
      | inr (same, less) ↦ inr (subst (λ y. at (gain s.processors (performed s x)) y <ℤ pos 0) (sym same) (loses_cause less))
    ];
    counted = λ k lt z. counted (done s x) k (subst (λ n. k < n) (sym (many_stepped s x)) lt) z;
    others = λ k other z. supporting_there s x k other z;
  }

pub performs_of : IsTransitive → (s : ClusterState) (x : Work) → IsOrdered s.graph → KeysFit s → IsPossible s x
    → Performs (IsStrictlyBefore s.graph) at (performer x) (at (gain s.processors (performed s x))) (reading s) (reading (done s x))
performs_of trans s x o fits possible = performs s x o possible.performer_is (cause_of trans s x o fits possible)
