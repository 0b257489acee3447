-- Each enabled step is a step of the protocol, and so is each of a list of enabled steps.
use Rattle.std.proofs.Common.{◌≡◌, inl, inr, ℕ, ◌<◌, List, [], ◌∷◌, length, refl, sym, subst}
use Rattle.nd_paths.specs.Order.{IsStrictlyBefore}
use Rattle.nd_paths.specs.declared.point.Pointstamp.{Pointstamp}
use Rattle.nd_delta.specs.Delta.{DeltaValue, at}
use Rattle.nd_protocol.specs.State.{ClusterState, processor, queue}
use Rattle.nd_protocol.specs.Exchange.{sent, received_from, received}
use Rattle.nd_protocol.specs.Steps.{gain, chosen, stepped, after}
use Rattle.nd_protocol.specs.Fitting.{IsState}
use Rattle.nd_protocol.specs.Invariant.{IsSettled, KeepsProtocol, IsFinished}
use Rattle.nd_protocol.specs.Enabled.{IsEnabled, AreEnabled}
use Rattle.nd_protocol.specs.declared.step.Step.{Step}
use Rattle.nd_protocol.specs.declared.step.Step.TheVariants.{Feed, Take, Notice, Release, Send, Broadcast, Receive}
use Rattle.nd_protocol.specs.declared.refusal.Refusal.TheVariants.{QueueEmpty}
use Rattle.nd_protocol.proofs.Arcs.{IsTransitive, CouldIsTransitive, strict_order}
use Rattle.nd_protocol.proofs.Core.{IsSound, Steps}
use Rattle.nd_protocol.proofs.Preservation.{sent_balanced, taken_balanced, step_kept as kept_by_step}
use Rattle.nd_protocol.proofs.Reading.{reading}
use Rattle.nd_protocol.proofs.Readings.{change_finite, balanced_of, settled_of, sound_of, keeps_of}
use Rattle.nd_protocol.proofs.Shape.{Work, feeding, taking, noticing, releasing, sending, performer, performed, IsPossible, done}
use Rattle.nd_protocol.proofs.StepsLemmas.{performs_of, settled_kept}
use Rattle.nd_protocol.proofs.Exchanges.{broadcasts, receives}
use Rattle.nd_protocol.proofs.EnabledLemmas.{feed_possible, take_possible, notice_possible, release_possible, send_possible, sender_below, from_below, to_below, state_kept}
use Rattle.nd_protocol.proofs.InvariantLemmas.{stays_finished}

-- ---- one step

work_steps : IsTransitive → (s : ClusterState) (x : Work) → IsState s → IsPossible s x → Steps (IsStrictlyBefore s.graph) at (reading s) (reading (done s x))
work_steps trans s x state possible = inl (performer x, at (gain s.processors (performed s x)), performs_of trans s x state.ordered state.fits possible)

front_steps : (s : ClusterState) (p q : ℕ) → IsState s → p < length s.processors → q < length s.processors → (cs : List DeltaValue) → queue s p q ≡ cs → (cs ≡ [] → ⊥)
    → Steps (IsStrictlyBefore s.graph) at (reading s) (reading (received_from s p q cs))
front_steps s p q state here there [] e some = absurd (some refl)
front_steps s p q state here there (c ∷ rest) e some = inr (inr (p, q, c, receives s p here state.fits q there c rest e))

pub protocol_step : {A : Type 0} → IsTransitive → (s : ClusterState) (x : Step A) → IsState s → IsEnabled s x → Steps (IsStrictlyBefore s.graph) at (reading s) (reading (stepped s x))
unfolding stepped done received
protocol_step trans s (Feed p vertex values next) state enabled = work_steps trans s (feeding p vertex values next) state (feed_possible s p vertex values next enabled)
protocol_step trans s (Take p edge t value) state enabled = work_steps trans s (taking p edge t value) state (take_possible s p edge t value enabled)
protocol_step trans s (Notice p vertex t) state enabled = work_steps trans s (noticing p vertex t) state (notice_possible s p vertex t enabled)
protocol_step trans s (Release p vertex times) state enabled = work_steps trans s (releasing p vertex times) state (release_possible s p vertex times enabled)
protocol_step trans s (Send p vertex batch) state enabled = work_steps trans s (sending p vertex batch) state (send_possible s p vertex batch enabled)
protocol_step trans s (Broadcast p part) state enabled =
    let c : DeltaValue = chosen part (processor s p).unsent in
    inr (inl (p, c, broadcasts s p (sender_below s p part enabled) state.fits c enabled.admissible))
protocol_step trans s (Receive from to) state enabled =
    front_steps s from to state (from_below s from to enabled) (to_below s from to enabled) (queue s from to) refl (enabled.free QueueEmpty)

same_graph : {A : Type 0} (s : ClusterState) (x : Step A) → (stepped s x).graph ≡ s.graph
unfolding stepped sent received
same_graph s (Feed p vertex values _) = refl
same_graph s (Take p edge t value) = refl
same_graph s (Notice p vertex t) = refl
same_graph s (Release p vertex times) = refl
same_graph s (Send p vertex batch) = refl
same_graph s (Broadcast p part) = refl
same_graph s (Receive from to) = by (queue s from to)
  where
    by : (cs : List DeltaValue) → (received_from s from to cs).graph ≡ s.graph
    by [] = refl
    by (c ∷ rest) = refl

pub step_kept : {A : Type 0} → IsTransitive → (s : ClusterState) (x : Step A) → IsState s → IsEnabled s x → KeepsProtocol s → KeepsProtocol (stepped s x)
step_kept trans s x state enabled keeps =
    keeps_of (stepped s x) (subst (λ g. IsSound (IsStrictlyBefore g) at (reading (stepped s x))) (sym (same_graph s x))
    (kept_by_step (IsStrictlyBefore s.graph) (strict_order trans s.graph state.ordered) at change_finite (reading s) (reading (stepped s x)) (protocol_step trans s x state enabled) (sound_of s keeps)))

front_settled : IsTransitive → (s : ClusterState) (p q : ℕ) → IsState s → p < length s.processors → q < length s.processors → (cs : List DeltaValue) → queue s p q ≡ cs → IsSettled s → IsSettled (received_from s p q cs)
front_settled trans s p q state here there [] e settled = settled
front_settled trans s p q state here there (c ∷ rest) e settled =
    let t : ClusterState = received_from s p q (c ∷ rest) in
    settled_of t (taken_balanced (IsStrictlyBefore s.graph) (strict_order trans s.graph state.ordered) at change_finite p q c (reading s) (reading t) (receives s p here state.fits q there c rest e) (balanced_of s settled))

pub step_settled : {A : Type 0} → IsTransitive → (s : ClusterState) (x : Step A) → IsState s → IsEnabled s x → IsSettled s → IsSettled (stepped s x)
unfolding stepped done received
step_settled trans s (Feed p vertex values next) state enabled settled = settled_kept s (feeding p vertex values next) (feed_possible s p vertex values next enabled).performer_is settled
step_settled trans s (Take p edge t value) state enabled settled = settled_kept s (taking p edge t value) (take_possible s p edge t value enabled).performer_is settled
step_settled trans s (Notice p vertex t) state enabled settled = settled_kept s (noticing p vertex t) (notice_possible s p vertex t enabled).performer_is settled
step_settled trans s (Release p vertex times) state enabled settled = settled_kept s (releasing p vertex times) (release_possible s p vertex times enabled).performer_is settled
step_settled trans s (Send p vertex batch) state enabled settled = settled_kept s (sending p vertex batch) (send_possible s p vertex batch enabled).performer_is settled
step_settled trans s (Broadcast p part) state enabled settled =
    let c : DeltaValue = chosen part (processor s p).unsent in
    let t : ClusterState = sent s p c in
    settled_of t (sent_balanced (IsStrictlyBefore s.graph) (strict_order trans s.graph state.ordered) at change_finite p c (reading s) (reading t) (broadcasts s p (sender_below s p part enabled) state.fits c enabled.admissible) (balanced_of s settled))
step_settled trans s (Receive from to) state enabled settled = front_settled trans s from to state (from_below s from to enabled) (to_below s from to enabled) (queue s from to) refl settled

-- ---- a list of steps, each enabled after those before it

pub run_kept : {A : Type 0} → IsTransitive → (s : ClusterState) (xs : List (Step A)) → IsState s → KeepsProtocol s → AreEnabled s xs → IsState (after s xs) × KeepsProtocol (after s xs)
unfolding after
run_kept trans s [] state keeps enabled = (state, keeps)
run_kept trans s (x ∷ xs) state keeps enabled = run_kept trans (stepped s x) xs (state_kept trans s x state enabled.0) (step_kept trans s x state enabled.0 keeps) enabled.1

-- what is finished stays finished
pub run_finished : {A : Type 0} → IsTransitive → CouldIsTransitive → (s : ClusterState) (xs : List (Step A)) → IsState s → KeepsProtocol s → AreEnabled s xs → (t : Pointstamp) → IsFinished s t → IsFinished (after s xs) t
unfolding after
run_finished trans could s [] state keeps enabled t finished = finished
run_finished trans could s (x ∷ xs) state keeps enabled t finished =
    run_finished trans could (stepped s x) xs (state_kept trans s x state enabled.0) (step_kept trans s x state enabled.0 keeps) enabled.1 t
    (stays_finished trans could s (stepped s x) state.ordered (same_graph s x) (protocol_step trans s x state enabled.0) keeps t finished)
