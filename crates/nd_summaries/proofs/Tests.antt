-- The tests by which summaries and counters are compared.
use Rattle.std.proofs.Common.{◌≡◌, inl, inr, ◌↔◌, ℕ, true, false, IsTrue, Less, Equal, Greater, List, [], ◌∷◌, length, refl, arith}
use Rattle.std.specs.Ordering.{nat_cmp, is_le, ordering_then}
use Rattle.std.specs.Cmp.Lexicographic.{slice_cmp}
use Rattle.std.proofs.lemmas.Bool.{cases_lt}
use Rattle.std.proofs.lemmas.Bool.Decides.{nat_tests, eqb_tells, leb_tells}
use Rattle.nd_time.specs.Lexical.{at_most as lexically_at_most, compares}
use Rattle.nd_time.specs.declared.order.TimeOrder.{TimeOrder}
use Rattle.nd_time.specs.declared.order.TimeOrder.TheVariants.{Lexicographic, Product}
use Rattle.nd_summaries.specs.declared.summary.Summary.{Summary}
use Rattle.nd_time.specs.Order.{IsEachAtMost}
use Rattle.nd_summaries.specs.Summary.{AddsAtMost, AtMost}
use Rattle.nd_summaries.specs.Steps.{at_most, adds_at_most, each_at_most}

pub each_decided : (a b : List ℕ) → IsTrue (each_at_most a b) ↔ IsEachAtMost a b
each_decided [] [] = (λ _. tt, λ _. refl)
each_decided [] (y ∷ b) = (λ h. absurd (cc), λ h. absurd h)
each_decided (x ∷ a) [] = (λ h. absurd (cc), λ h. absurd h)
each_decided (x ∷ a) (y ∷ b) =
    elim (leb_tells x y) [
      | inl t ↦ (
        λ h. (t.1, (each_decided a b).0 (rw t.0 at h)),
        λ h. rw t.0 ((each_decided a b).1 h.1),
      )
      | inr f ↦ (λ h. absurd (let bad : false ≡ true = rw f.0 at h in cc), λ h. absurd (omega (arith, h.0, f.1)))
    ]

pub adds_lexically : (a b : ℕ) (k l : List ℕ) → length k ≡ length l → IsTrue (is_le (ordering_then (nat_cmp a b) (slice_cmp nat_cmp k l))) ↔ AddsAtMost Lexicographic (record { keep = 0; add = a; constants = k }) (record { keep = 0; add = b; constants = l })
adds_lexically a b k l e =
    elim (cases_lt a b) [
      | inl less ↦ (λ _. inl less, λ _. (let is : nat_cmp a b ≡ Less = grind (arith, nat_tests) in rw is refl))
      | inr ge ↦ elim (eqb_tells a b) [
        | inl same ↦
            let is : nat_cmp a b ≡ Equal = grind (arith, nat_tests) in (
              λ h. inr (same.1, lexically_at_most k l e (rw is at h)),
              λ h. elim h [ inl p ↦ absurd (omega (arith, p, same.1)) | inr p ↦ rw is (compares k l p.1) ],
            )
        | inr other ↦
            let is : nat_cmp a b ≡ Greater = grind (arith, nat_tests) in (
              λ h. absurd (let bad : false ≡ true = rw is at h in cc),
              λ h. elim h [ inl p ↦ absurd (omega (arith, p, ge)) | inr p ↦ absurd (other.1 p.0) ],
            )
      ]
    ]

adds_decided : (o : TimeOrder) (s t : Summary) → length s.constants ≡ length t.constants → IsTrue (adds_at_most o s t) ↔ AddsAtMost o s t
adds_decided Lexicographic s t e = adds_lexically s.add t.add s.constants t.constants e
adds_decided Product s t e =
    elim (leb_tells s.add t.add) [
      | inl le ↦ (
        λ h. (le.1, (each_decided s.constants t.constants).0 (rw le.0 at h)),
        λ h. rw le.0 ((each_decided s.constants t.constants).1 h.1),
      )
      | inr ge ↦ (λ h. absurd (let bad : false ≡ true = rw ge.0 at h in cc), λ h. absurd (omega (arith, h.0, ge.1)))
    ]

-- the test says whether one summary is at most another
pub at_most_decided : (o : TimeOrder) (s t : Summary) → IsTrue (at_most o s t) ↔ AtMost o s t
at_most_decided o s t =
    elim (eqb_tells s.keep t.keep) [
      | inr n ↦ (λ h. absurd (let bad : false ≡ true = rw n.0 at h in cc), λ h. absurd (n.1 h.keep))
      | inl k ↦ elim (eqb_tells (length s.constants) (length t.constants)) [
        | inr n ↦ (λ h. absurd (let bad : false ≡ true = rw (k.0, n.0) at h in cc), λ h. absurd (n.1 h.size))
        | inl e ↦ (
          λ h. record { keep = k.1; size = e.1; least = (adds_decided o s t e.1).0 (rw (k.0, e.0) at h) },
          λ h. rw (k.0, e.0) ((adds_decided o s t e.1).1 h.least),
        )
      ]
    ]
