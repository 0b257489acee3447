-- A notice that is enabled has no precursor: among finitely many precursors one would be the least.
use Rattle.std.proofs.Common.{◌≡◌, ◌≢◌, ℕ, pos, Less, Greater, ap, ◌∙◌}
use Rattle.std.proofs.lemmas.Cmp.{tied_itself}
use Rattle.std.specs.Ordering.{ordering_reverse}
use Rattle.nd_time.specs.Time.{Time}
use Rattle.nd_paths.specs.Order.{IsStrictlyBefore}
use Rattle.nd_paths.specs.Point.{point_cmp, point_total}
use Rattle.nd_paths.specs.declared.point.Pointstamp.{Pointstamp}
use Rattle.nd_delta.specs.Delta.{DeltaValue, at}
use Rattle.nd_delta.specs.Least.{IsLeast}
use Rattle.nd_view.specs.View.{IsPrecursor}
use Rattle.nd_protocol.specs.State.{ClusterState, view, truth}
use Rattle.nd_protocol.specs.Steps.{point_at}
use Rattle.nd_protocol.specs.Fitting.{IsState}
use Rattle.nd_protocol.specs.Invariant.{KeepsProtocol}
use Rattle.nd_protocol.specs.Enabled.{IsEnabled}
use Rattle.nd_protocol.specs.declared.step.Step.TheVariants.{Notice}
use Rattle.nd_protocol.specs.declared.refusal.Refusal.TheVariants.{NotYet}
use Rattle.nd_protocol.proofs.Core.{IsStrictOrder, IsFinite}
use Rattle.nd_protocol.proofs.Descent.{induction}
use Rattle.nd_protocol.proofs.Arcs.{IsTransitive}
use Rattle.nd_protocol.proofs.Readings.{change_finite}
use Rattle.nd_protocol.proofs.EnabledLemmas.{notice_possible}
use Rattle.nd_protocol.proofs.InvariantLemmas.{last}
use Rattle.nd_map.specs.Cases.{not_zero}

-- one pointstamp is listed before another
abbrev IsListedBefore : Pointstamp → Pointstamp → Type 0
IsListedBefore x y = point_cmp x y ≡ Less

listed_order : IsStrictOrder IsListedBefore
listed_order = record {
  irreflexive = λ x less. absurd (cc (less, tied_itself point_total x));
  transitive = λ x y z less more. point_total.trans x y z less more;
}

turned : (x y : Pointstamp) → point_cmp x y ≡ Greater → point_cmp y x ≡ Less
turned x y greater = point_total.antisymm y x ∙ ap ordering_reverse greater

-- if a property of the points of a change has no least point, no point has it
none_without_least : (c : DeltaValue) (P : Pointstamp → Type 0) → ((x : Pointstamp) → P x → at c x ≢ pos 0) → ((x : Pointstamp) → IsLeast P x → ⊥) → (x : Pointstamp) → P x → ⊥
none_without_least c P some no_least =
    let points : IsFinite (at c) = change_finite c in
    induction listed_order P (λ x. ⊥) points.0 (λ y is_one. points.1 y (some y is_one))
    (λ x is_one earlier. no_least x (record { is_one = is_one; first = λ y other greater. earlier y (turned x y greater) other }))

pub comes_last : {A : Type 0} → IsTransitive → (s : ClusterState) (p vertex : ℕ) (t : Time) → IsState s → KeepsProtocol s → IsEnabled {A = A} s (Notice p vertex t)
    → (x : Pointstamp) → IsStrictlyBefore s.graph x (point_at vertex t) → at (truth s.processors) x ≡ pos 0
comes_last {A = A} trans s p vertex t state keeps enabled =
    let P : Pointstamp → Type 0 = IsPrecursor s.graph (view s p) (point_at vertex t) in
    last trans s state.ordered keeps p ((notice_possible {A = A} s p vertex t enabled).performer_is) (point_at vertex t)
    (none_without_least (view s p) P (λ x before. not_zero (at (view s p) x) before.positive) (λ x least. enabled.free (NotYet x) least))
