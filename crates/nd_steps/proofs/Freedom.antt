-- A broadcast to which no refusal applies leaves an upright unsent change: whether a point is supported can be decided, and among
-- the points that are not, the first in the list is the least. What a release or a send needs of its times can be decided, too.
use Rattle.std.proofs.Common.{◌≡◌, ◌⊎◌, inl, inr, ℕ, zero, suc, ◌<◌, ◌≤◌, ℤ, pos, ◌<ℤ◌, List, length, get_or, Some, refl, sym, ap, subst, ◌∙◌, arith}
use Rattle.std.specs.Prelude.{Contains}
use Rattle.std.proofs.lemmas.Bool.{cases_eq}
use Rattle.std.proofs.lemmas.Int.{ints, by_lt_z}
use Rattle.std.proofs.lemmas.List.{get_or_default}
use Rattle.nd_graph.specs.Graph.{Dataflow}
use Rattle.nd_paths.specs.Order.{IsStrictlyBefore}
use Rattle.nd_paths.specs.declared.point.Pointstamp.{Pointstamp}
use Rattle.nd_delta.specs.Delta.{DeltaValue, at, entries, minus}
use Rattle.nd_delta.specs.Least.{IsLeast, AllUpTo, all-points, least-index, place_of}
use Rattle.nd_delta.specs.Upright.{IsSupported, IsUpright, IsUnsupported}
use Rattle.nd_protocol.specs.State.{ClusterState, processor}
use Rattle.nd_protocol.specs.Steps.{batch_time, chosen}
use Rattle.nd_protocol.specs.Ranges.{NumbersFit}
use Rattle.nd_protocol.specs.Enabled.{Fails, IsEnabled}
use Rattle.nd_protocol.specs.declared.step.Step.{Step}
use Rattle.nd_protocol.specs.declared.step.Step.TheVariants.{Release, Send, Broadcast}
use Rattle.nd_protocol.specs.declared.refusal.Refusal.{Refusal}
use Rattle.nd_protocol.specs.declared.refusal.Refusal.TheVariants.{NotAdmissible, NotLater, TooEarly}
use Rattle.nd_steps.specs.Refusals.{supporting_points}
use Rattle.nd_steps.proofs.LaterLemmas.{Decided, not_early, goes_later}
use Rattle.nd_steps.proofs.SupportLemmas.{leaves_upright, leaves_alone}

less : (i j : ℤ) → Decided (i <ℤ j)
less i j = by_lt_z i j (λ h. inl h) (λ h. inr (λ k. absurd (omega (arith, ints, h, k))))

both : (P Q : Type 0) → Decided P → Decided Q → Decided (P × Q)
both P Q (inl p) (inl q) = inl (p, q)
both P Q (inl p) (inr never) = inr (λ k. never k.1)
both P Q (inr never) q = inr (λ k. never k.0)

-- some number below n satisfies P, or none does
some_below : (P : ℕ → Type 0) → ((k : ℕ) → Decided (P k)) → (n : ℕ) → ((k : ℕ) × (k < n) × P k) ⊎ ((k : ℕ) → k < n → P k → ⊥)
some_below P dec zero = inr (λ k lt. absurd (omega (arith, lt)))
some_below P dec (suc n) =
    elim (dec n) [
      | inl p ↦ inl (n, omega arith, p)
      | inr here ↦ elim (some_below P dec n) [
        | inl q ↦ inl (q.0, omega (arith, q.1), q.2)
        | inr below ↦ inr (λ k lt p. elim (cases_eq k n) [ inl e ↦ here (subst P e p) | inr ne ↦ below k (omega (arith, lt, ne)) p ])
      ]
    ]

module _ (R : Pointstamp → Pointstamp → Type 0) (decided : (y x : Pointstamp) → Decided (R y x)) (m : DeltaValue) (held : List Pointstamp) where
  -- a negative point before x is among the entries
  negative : (x : Pointstamp) → Decided ((y : Pointstamp) × R y x × (at m y <ℤ pos 0))
  negative x =
      let d : Pointstamp × ℤ = (x, pos 0) in
      let P : ℕ → Type 0 = λ k. R (get_or (entries m) k d).0 x × (at m (get_or (entries m) k d).0 <ℤ pos 0) in
      elim (some_below P (λ k. both (R (get_or (entries m) k d).0 x) (at m (get_or (entries m) k d).0 <ℤ pos 0) (decided (get_or (entries m) k d).0 x) (less (at m (get_or (entries m) k d).0) (pos 0))) (length (entries m))) [
        | inl found ↦ inl ((get_or (entries m) found.0 d).0, found.2.0, found.2.1)
        | inr none ↦ inr (λ w.
            let place = place_of m w.0 (λ e. absurd (omega (arith, ints, e, w.2))) in
            let is : (get_or (entries m) place.index d).0 ≡ w.0 = ap (λ z. z.0) (get_or_default (entries m) place.index d (w.0, at m w.0) place.in_range) ∙ place.is in
            none place.index place.in_range (subst (λ z. R z x) (sym is) w.1, subst (λ z. at m z <ℤ pos 0) (sym is) w.2))
      ]

  -- a held point before x
  token : (x : Pointstamp) → Decided ((y : Pointstamp) × R y x × Contains held y)
  token x =
      elim (some_below (λ k. R (get_or held k x) x) (λ k. decided (get_or held k x) x) (length held)) [
        | inl found ↦ inl (get_or held found.0 x, found.2, (found.0, found.1, get_or_default held found.0 (get_or held found.0 x) x found.1))
        | inr none ↦ inr (λ w.
            let k = w.2.0 in
            let is : get_or held k x ≡ w.0 = get_or_default held k x w.0 w.2.1 ∙ w.2.2 in
            none k w.2.1 (subst (λ z. R z x) (sym is) w.1))
      ]

  supported : (x : Pointstamp) → Decided (IsSupported R (Contains held) (at m) x)
  supported x =
      elim (negative x) [
        | inl n ↦ inl (n.0, n.1, inl n.2)
        | inr none ↦ elim (token x) [
          | inl t ↦ inl (t.0, t.1, inr t.2)
          | inr never ↦ inr (λ w. elim w.2 [ inl low ↦ none (w.0, w.1, low) | inr among ↦ never (w.0, w.1, among) ])
        ]
      ]

  -- each of the first entries is supported or not positive, if there is no least point that is neither
  fine : ((x : Pointstamp) → IsLeast (IsUnsupported R (Contains held) (at m)) x → ⊥) → Pointstamp → (i : ℕ) → i ≤ length (entries m) → AllUpTo (λ x. IsUnsupported R (Contains held) (at m) x → ⊥) (entries m) i
  fine free o zero le = λ k lt d. absurd (omega (arith, lt))
  fine free o (suc i) le =
      let before = fine free o i (omega (arith, le)) in
      let here : i < length (entries m) = omega (arith, le) in
      let z : Pointstamp × ℤ = get_or (entries m) i (o, pos 0) in
      let good : IsUnsupported R (Contains held) (at m) z.0 → ⊥ = λ u. free z.0
      (least-index m (λ x. IsUnsupported R (Contains held) (at m) x) (λ x. IsUnsupported R (Contains held) (at m) x → ⊥)
      (λ y v e. absurd (omega (arith, ints, e, v.positive))) (λ y v g. g v) i z here (sym (get_or_default (entries m) i z (o, pos 0) here)) before u) in
      λ k lt d. elim (cases_eq k i) [
        | inl e ↦ subst (λ j. IsUnsupported R (Contains held) (at m) (get_or (entries m) j d).0 → ⊥) (sym e)
            (subst (λ w. IsUnsupported R (Contains held) (at m) w.0 → ⊥) (sym (get_or_default (entries m) i d (o, pos 0) here)) good)
        | inr ne ↦ before k (omega (arith, lt, ne)) d
      ]

  pub upright : ((x : Pointstamp) → IsLeast (IsUnsupported R (Contains held) (at m)) x → ⊥) → IsUpright R (Contains held) (at m)
  upright free x positive =
      elim (supported x) [
        | inl s ↦ s
        | inr never ↦ absurd (all-points m (λ y. IsUnsupported R (Contains held) (at m) y → ⊥) (length (entries m)) (omega arith)
            (fine free x (length (entries m)) (omega arith)) x (λ e. absurd (omega (arith, ints, e, positive))) (record { positive = positive; alone = never }))
      ]

pub enabled : {A : Type 0} (g : Dataflow) → ((s t : Pointstamp) → Decided (IsStrictlyBefore g s t)) → (s : ClusterState) (x : Step A) → s.graph ≡ g → NumbersFit x → ((r : Refusal) → Fails s x r → ⊥) → IsEnabled s x
enabled g decided s (Broadcast p part) is numbers free =
    let q = processor s p in
    let c = chosen part q.unsent in
    let order : (y x : Pointstamp) → Decided (IsStrictlyBefore s.graph y x) = subst (λ h. (y x : Pointstamp) → Decided (IsStrictlyBefore h y x)) (sym is) decided in
    record {
      free = free;
      admissible = leaves_upright s.graph q c (minus q.unsent c) (supporting_points s.graph q) refl refl
          (upright (IsStrictlyBefore s.graph) order (minus q.unsent c) (supporting_points s.graph q)
          (λ x l. free (NotAdmissible x) (leaves_alone s.graph q c (minus q.unsent c) (supporting_points s.graph q) refl refl (Some x) l)));
      numbers = numbers;
    }
enabled g decided s (Release p vertex times) is numbers free = record { free = free; admissible = goes_later s.graph.order times.time times.to (free NotLater); numbers = numbers }
enabled g decided s (Send p vertex batch) is numbers free = record { free = free; admissible = not_early s.graph.order batch.time (batch_time batch) (free TooEarly); numbers = numbers }
enabled g decided s x is numbers free = record { free = free; admissible = tt; numbers = numbers }
