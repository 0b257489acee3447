-- What the protocol invariant says to a reader of a view.
use Rattle.std.proofs.Common.{◌≡◌, ℕ, ◌<◌, ◌≤◌, ◌≤ℤ◌, ◌<ℤ◌, pos, length, Some, sym, ap, subst, ◌∙◌, arith}
use Rattle.std.proofs.lemmas.List.Sums.{get_or-le-sum_by}
use Rattle.std.specs.FinMap as fin
use Rattle.nd_processor.specs.State.{idle, held as held_at, in_requests}
use Rattle.std.proofs.lemmas.Int.{ints, by_lt_z}
use Rattle.nd_graph.specs.Graph.{Dataflow}
use Rattle.nd_paths.specs.Order.{CouldResultIn, IsStrictlyBefore}
use Rattle.nd_paths.specs.declared.point.Pointstamp.{Pointstamp}
use Rattle.nd_delta.specs.Delta.{DeltaValue, at}
use Rattle.nd_view.specs.View.{IsPassed, IsPrecursor}
use Rattle.nd_protocol.specs.State.{ClusterState, processor, view, truth}
use Rattle.nd_protocol.proofs.Core.{IsStrictOrder, IsDownward, Steps}
use Rattle.nd_protocol.specs.Fitting.{IsOrdered}
use Rattle.nd_protocol.specs.Invariant.{KeepsProtocol, IsFinished}
use Rattle.nd_protocol.proofs.Reading.{reading}
use Rattle.nd_protocol.proofs.Arcs.{IsTransitive, CouldIsTransitive, strict_order}
use Rattle.nd_protocol.proofs.Counts.{count, truth-count}
use Rattle.nd_protocol.proofs.Readings.{change_finite, sound_of}
use Rattle.nd_protocol.proofs.Requests.{request_counts}
use Rattle.nd_protocol.proofs.Safety.{safe, stays}

could_down : CouldIsTransitive → (g : Dataflow) (t : Pointstamp) → IsDownward (IsStrictlyBefore g) (λ x. CouldResultIn g x t)
could_down could g t x y r h = could g x y t r.0 h

strictly_down : IsTransitive → (g : Dataflow) → IsOrdered g → (t : Pointstamp) → IsDownward (IsStrictlyBefore g) (λ x. IsStrictlyBefore g x t)
strictly_down trans g o t x y r h = let order : IsStrictOrder (IsStrictlyBefore g) = strict_order trans g o in order.transitive x y t r h

quiet : (v : DeltaValue) (D : Pointstamp → Type 0) → ((x : Pointstamp) → pos 0 <ℤ at v x → D x → ⊥) → (x : Pointstamp) → D x → at v x ≤ℤ pos 0
quiet v D none x d = by_lt_z (pos 0) (at v x) (λ positive. absurd (none x positive d)) (λ le. le)

pub passed : IsTransitive → CouldIsTransitive → (s : ClusterState) → IsOrdered s.graph → KeepsProtocol s → (q : ℕ) → q < length s.processors → (t : Pointstamp) → IsPassed s.graph (view s q) t → IsFinished s t
passed trans could s o keeps q lt t is_passed x before =
    truth-count s.processors x ∙ ap pos (safe (IsStrictlyBefore s.graph) (strict_order trans s.graph o) at change_finite (λ x. CouldResultIn s.graph x t) (could_down could s.graph t) (reading s) (sound_of s keeps) q lt
    (quiet (view s q) (λ x. CouldResultIn s.graph x t) (λ z positive d. is_passed z (record { positive = positive; before = d }))) x before)

-- a request is outstanding, so no view has passed what it could result in
pub held : IsTransitive → CouldIsTransitive → (s : ClusterState) → IsOrdered s.graph → KeepsProtocol s → (p q : ℕ) → p < length s.processors → q < length s.processors → (x t : Pointstamp)
    → fin.get (processor s p).requests x ≡ Some tt → CouldResultIn s.graph x t → IsPassed s.graph (view s q) t → ⊥
held trans could s o keeps p q here there x t found before is_passed =
    let none : at (truth s.processors) x ≡ pos 0 = passed trans could s o keeps q there t is_passed x before in
    let counts : at (truth s.processors) x ≡ pos (count s.processors x) = truth-count s.processors x in
    let part : held_at (processor s p) x ≤ count s.processors x = get_or-le-sum_by (λ q. held_at q x) s.processors p idle here in
    let one : 0 < in_requests (processor s p).requests x = request_counts (processor s p).requests x found in
    absurd (omega (arith, ints))

pub last : IsTransitive → (s : ClusterState) → IsOrdered s.graph → KeepsProtocol s → (q : ℕ) → q < length s.processors → (t : Pointstamp) → ((x : Pointstamp) → IsPrecursor s.graph (view s q) t x → ⊥) → (x : Pointstamp) → IsStrictlyBefore s.graph x t → at (truth s.processors) x ≡ pos 0
last trans s o keeps q lt t none x before =
    truth-count s.processors x ∙ ap pos (safe (IsStrictlyBefore s.graph) (strict_order trans s.graph o) at change_finite (λ x. IsStrictlyBefore s.graph x t) (strictly_down trans s.graph o t) (reading s) (sound_of s keeps) q lt
    (quiet (view s q) (λ x. IsStrictlyBefore s.graph x t) (λ z positive d. none z (record { positive = positive; before = d }))) x before)

same_number : (m : ℕ) → pos m ≡ pos 0 → m ≡ 0
same_number m e = omega (arith, ints)

-- what is finished stays finished after a step of the protocol
pub stays_finished : IsTransitive → CouldIsTransitive → (s t : ClusterState) → IsOrdered s.graph → t.graph ≡ s.graph → Steps (IsStrictlyBefore s.graph) at (reading s) (reading t) → KeepsProtocol s → (x : Pointstamp) → IsFinished s x → IsFinished t x
stays_finished trans could s t o same step keeps x finished z before =
    truth-count t.processors z ∙ ap pos (stays (IsStrictlyBefore s.graph) (strict_order trans s.graph o) at change_finite (λ y. CouldResultIn s.graph y x) (could_down could s.graph x) (reading s) (reading t) step (sound_of s keeps)
    (λ y d. same_number ((reading s).truth y) (sym (truth-count s.processors y) ∙ finished y d)) z (subst (λ g. CouldResultIn g z x) same before))
