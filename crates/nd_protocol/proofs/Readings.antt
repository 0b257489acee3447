-- The invariant of a cluster is that of its reading.
use Rattle.std.proofs.Common.{◌≡◌, ◌≢◌, inl, inr, ℕ, ◌<◌, ◌≤◌, ℤ, pos, ◌+ℤ◌, true, false, cond, List, [], ◌∷◌, map, length, drop, Some, refl, sym, ap, ◌∙◌, arith}
use Rattle.std.proofs.lemmas.Map.Views.{tells_apart}
use Rattle.std.proofs.lemmas.List.Sums.{get_or-le-sum_by}
use Rattle.std.specs.FinMap.{find}
use Rattle.nd_paths.specs.Point.{point_cmp, point_exact}
use Rattle.nd_paths.specs.Order.{IsStrictlyBefore}
use Rattle.nd_paths.specs.declared.point.Pointstamp.{Pointstamp}
use Rattle.nd_delta.specs.Delta.{DeltaValue, at, or_zero, entries, at-entries, at-none, at-plus, is_point}
use Rattle.nd_protocol.specs.State.{ClusterState, processor, view, queue}
use Rattle.nd_processor.specs.State.{idle, held}
use Rattle.nd_protocol.specs.Invariant.{sum_of, total, Supports, pending, IsSettled, KeepsProtocol}
use Rattle.nd_protocol.proofs.Core.{IsIn, IsFinite, IsBalanced, IsSound, sum_at, pending as reading_pending}
use Rattle.nd_protocol.proofs.Reading.{reading}
use Rattle.nd_protocol.proofs.Counts.{truth-count}
use Rattle.nd_protocol.proofs.Preservation.{total_same}
use Rattle.nd_protocol.proofs.Supports.{supporting_held}
use Rattle.nd_protocol.proofs.UprightSums.{upright_same}

found : (es : List (Pointstamp × ℤ)) (x : Pointstamp) → or_zero (find point_cmp x es) ≢ pos 0 → IsIn (map (λ e. e.0) es) x
found [] x h = h refl
found (e ∷ es) x h =
    elim (is_point x e.0) as (λ b. is_point x e.0 ≡ b → or_zero (cond b (Some e.1) (find point_cmp x es)) ≢ pos 0 → IsIn (map (λ e. e.0) (e ∷ es)) x) [
      | true ↦ λ t g. inl (sym (tells_apart point_exact x e.0 t))
      | false ↦ λ t g. inr (found es x g)
    ] refl h

-- a change is 0 except at finitely many pointstamps
pub change_finite : (c : DeltaValue) → IsFinite (at c)
change_finite c = (map (λ e. e.0) (entries c), λ x h. found (entries c) x (λ e. h (sym (at-entries c x) ∙ e)))

pub at-sum_of : (cs : List DeltaValue) (x : Pointstamp) → at (sum_of cs) x ≡ sum_at at cs x
at-sum_of [] x = at-none x
at-sum_of (c ∷ cs) x = at-plus c (sum_of cs) x ∙ ap (λ z. at c x +ℤ z) (at-sum_of cs x)

at-pending : (s : ClusterState) (p q k : ℕ) (x : Pointstamp) → at (pending s p q k) x ≡ reading_pending (IsStrictlyBefore s.graph) at (reading s) p q k x
at-pending s p q k x =
    at-plus (sum_of (drop k (queue s p q))) (processor s p).unsent x ∙ ap (λ z. z +ℤ at (processor s p).unsent x) (at-sum_of (drop k (queue s p q)) x)

pub counted : (s : ClusterState) (p : ℕ) → p < length s.processors → (x : Pointstamp) → (reading s).supports p x ≤ (reading s).truth x
counted s p lt x =
    let part : held (processor s p) x ≤ (reading s).truth x = get_or-le-sum_by (λ q. held q x) s.processors p idle lt in
    omega (arith, supporting_held s.graph (processor s p) x)

sums_same : (s : ClusterState) (q : ℕ) (x : Pointstamp)
    → total (length s.processors) (λ p. reading_pending (IsStrictlyBefore s.graph) at (reading s) p q 0 x) ≡ total (length s.processors) (λ p. at (pending s p q 0) x)
sums_same s q x =
    total_same (length s.processors) (λ p. at (pending s p q 0) x) (λ p. reading_pending (IsStrictlyBefore s.graph) at (reading s) p q 0 x) (λ p _. sym (at-pending s p q 0 x))

pub balanced_of : (s : ClusterState) → IsSettled s → IsBalanced (IsStrictlyBefore s.graph) at (reading s)
balanced_of s settled q lt x = sym (truth-count s.processors x) ∙ settled.balance q lt x ∙ ap (λ z. at (view s q) x +ℤ z) (sym (sums_same s q x))

pub settled_of : (s : ClusterState) → IsBalanced (IsStrictlyBefore s.graph) at (reading s) → IsSettled s
settled_of s balanced = record { balance = λ q lt x. truth-count s.processors x ∙ balanced q lt x ∙ ap (λ z. at (view s q) x +ℤ z) (sums_same s q x) }

pub sound_of : (s : ClusterState) → KeepsProtocol s → IsSound (IsStrictlyBefore s.graph) at (reading s)
sound_of s keeps = record {
  balance = balanced_of s keeps.settled;
  upright = λ p q k lp lq le. upright_same (IsStrictlyBefore s.graph) (Supports s.graph (processor s p)) (at (pending s p q k)) (reading_pending (IsStrictlyBefore s.graph) at (reading s) p q k)
      (λ x. sym (at-pending s p q k x)) (keeps.upright p q k lp lq le);
  counted = counted s;
}

pub keeps_of : (s : ClusterState) → IsSound (IsStrictlyBefore s.graph) at (reading s) → KeepsProtocol s
keeps_of s sound = record {
  settled = settled_of s sound.balance;
  upright = λ p q k lp lq le. upright_same (IsStrictlyBefore s.graph) (Supports s.graph (processor s p)) (reading_pending (IsStrictlyBefore s.graph) at (reading s) p q k) (at (pending s p q k))
      (at-pending s p q k) (sound.upright p q k lp lq le);
}
