-- Whether a time is at or after another, and whether it is strictly after it, can be decided.
use Rattle.std.proofs.Common.{◌≡◌, ◌⊎◌, inl, inr, ℕ, ◌≤◌, Bool, true, false, Option, Some, None, List, [], ◌∷◌, length, IsTrue, ◌↔◌, refl, sym, ap, ◌∙◌, arith, true≢false}
use Rattle.std.proofs.lemmas.Bool.{cases_eq, cases_lt}
use Rattle.std.proofs.lemmas.Cmp.{tied_itself}
use Rattle.std.proofs.lemmas.Map.Views.{tells_apart}
use Rattle.std.specs.Ordering.{nat_cmp, eq_by_cmp, is_eq, is_le}
use Rattle.std.specs.Cmp.Lexicographic.{slice_cmp}
use Rattle.nd_time.specs.Time.{Time}
use Rattle.nd_time.specs.Order.{AreAtMost, IsEachAtMost, IsAtOrBeforeBy}
use Rattle.nd_time.specs.declared.order.TimeOrder.{TimeOrder}
use Rattle.nd_time.specs.declared.order.TimeOrder.TheVariants.{Lexicographic, Product}
use Rattle.nd_time.specs.Lexical.{at_most as lexically_at_most, compares}
use Rattle.nd_time.specs.Listing.{time_cmp, time_total, time_exact}
use Rattle.nd_protocol.specs.Times.{GoesLater}
use Rattle.nd_protocol.specs.declared.times.Later.{Later}

abbrev pub Decided : Type 0 → Type 0
Decided P = P ⊎ (P → ⊥)

by_test : {P : Type 0} (b : Bool) → IsTrue b ↔ P → Decided P
by_test true h = inl (h.0 refl)
by_test false h = inr (λ p. absurd (true≢false (sym (h.1 p))))

at_most : (m n : ℕ) → Decided (m ≤ n)
at_most m n = elim (cases_lt n m) [ inl lt ↦ inr (λ le. absurd (omega (arith, lt, le))) | inr le ↦ inl le ]

each_at_most : (xs ys : List ℕ) → Decided (IsEachAtMost xs ys)
each_at_most [] [] = inl tt
each_at_most [] (y ∷ ys) = inr (λ h. h)
each_at_most (x ∷ xs) [] = inr (λ h. h)
each_at_most (x ∷ xs) (y ∷ ys) =
    elim (at_most x y) [
      | inr more ↦ inr (λ h. more h.0)
      | inl le ↦ elim (each_at_most xs ys) [ inr never ↦ inr (λ h. never h.1) | inl rest ↦ inl (le, rest) ]
    ]

are_at_most : (order : TimeOrder) (xs ys : List ℕ) → length xs ≡ length ys → Decided (AreAtMost order xs ys)
are_at_most Lexicographic xs ys depth =
    by_test (is_le (slice_cmp nat_cmp xs ys)) (lexically_at_most xs ys depth, compares xs ys)
are_at_most Product xs ys depth = each_at_most xs ys

before : (order : TimeOrder) (s t : Time) → Decided (IsAtOrBeforeBy order s t)
before order s t =
    elim (cases_eq (length s.counters) (length t.counters)) [
      | inr other ↦ inr (λ h. other h.depth)
      | inl depth ↦ elim (at_most s.epoch t.epoch) [
        | inr later ↦ inr (λ h. later h.epoch)
        | inl epoch ↦ elim (are_at_most order s.counters t.counters depth) [
          | inr not ↦ inr (λ h. not h.counters)
          | inl counters ↦ inl (record { depth = depth; epoch = epoch; counters = counters })
        ]
      ]
    ]

same : (s t : Time) → Decided (s ≡ t)
same s t =
    by_test (eq_by_cmp time_cmp s t) (
      (λ e. tells_apart time_exact s t e),
      (λ e. ap (eq_by_cmp time_cmp s) (sym e) ∙ ap is_eq (tied_itself time_total s)),
    )

-- a time is at or before another, if it is false that it is not
pub not_early : (order : TimeOrder) (s t : Time) → ((IsAtOrBeforeBy order s t → ⊥) → ⊥) → IsAtOrBeforeBy order s t
not_early order s t h = elim (before order s t) [ inl early ↦ early | inr never ↦ absurd (h never) ]

-- a capability goes to a later time, if it is false that it does not
pub goes_later : (order : TimeOrder) (t : Time) (to : Option Later) → ((GoesLater order t to → ⊥) → ⊥) → GoesLater order t to
goes_later order t None h = tt
goes_later order t (Some to) h =
    elim (before order t to.time) [
      | inr never ↦ absurd (h (λ l. never l.0))
      | inl early ↦ elim (same t to.time) [
        | inl e ↦ absurd (h (λ l. l.1 e))
        | inr apart ↦ (early, apart)
      ]
    ]
