-- Comparing summaries, and extending them by an action that takes a constant away.
use Rattle.std.proofs.Common.{◌≡◌, ◌↔◌, ℕ, ◌+◌, ◌-◌, ◌<◌, Bool, true, false, IsTrue, IsSome, Option, Some, None, List, [], ◌∷◌, ◌++◌, length, refl, sym, ◌∙◌, ap, arith}
use Rattle.std.specs.Option.{is_some, option_to_list}
use Rattle.std.specs.Ordering.{nat_cmp, is_le}
use Rattle.std.specs.Cmp.Lexicographic.{slice_cmp}
use Rattle.std.proofs.lemmas.List.{append-nil}
use Rattle.nd_time.specs.Time.{IsLexicallyAtMost}
use Rattle.nd_time.specs.Lexical.{at_most, compares}
use Rattle.nd_graph.specs.declared.op.Action.TheVariants.{Egress, Feedback}
use Rattle.nd_summaries.specs.declared.summary.Summary.{Summary}
use Rattle.nd_summaries.specs.Steps.{step, then_act}
use Rattle.nd_summaries.proofs.Raised.{egress_front, feedback_front}

left_none : (k left : List ℕ) (o : Option ℕ) → is_some o ≡ false → IsSome o ↔ (0 < length k) → k ≡ left ++ option_to_list o → (k ≡ []) × (left ≡ [])
left_none [] [] o n h e = (refl, refl)
left_none [] (y ∷ left) o n h e = absurd (cc)
left_none (x ∷ k) left None n h e = let some = h.1 (omega arith) in absurd (cc)
left_none (x ∷ k) left (Some y) n h e = absurd (cc)

-- an egress of a summary without constants
pub egress_end : (s : Summary) (k : ℕ) (left : List ℕ) (o : Option ℕ) → is_some o ≡ false → IsSome o ↔ (0 < length s.constants) → s.constants ≡ left ++ option_to_list o → k ≡ s.keep - 1 → record { keep = k; add = 0; constants = left } ≡ step Egress s
egress_end s k left o n h e q =
    let parts = left_none s.constants left o n h e in
    ap (λ c. record { keep = k; add = 0; constants = c }) parts.1 ∙ ap (λ r. record { keep = r; add = 0; constants = [] }) q ∙ ap (λ c. then_act Egress s.keep s.add c) (sym parts.0)

-- a feedback of a summary without constants
pub feedback_end : (s : Summary) (left : List ℕ) (o : Option ℕ) → is_some o ≡ false → IsSome o ↔ (0 < length s.constants) → s.constants ≡ left ++ option_to_list o → record { keep = s.keep; add = s.add + 1; constants = left } ≡ step Feedback s
feedback_end s left o n h e =
    let parts = left_none s.constants left o n h e in
    ap (λ c. record { keep = s.keep; add = s.add + 1; constants = c }) parts.1 ∙ ap (λ c. then_act Feedback s.keep s.add c) (sym parts.0)

-- an egress takes the last constant away
pub egress_last : (s : Summary) (left : List ℕ) (o : Option ℕ) → is_some o ≡ true → s.constants ≡ left ++ option_to_list o → record { keep = s.keep; add = s.add; constants = left } ≡ step Egress s
egress_last s left None n e = absurd (cc)
egress_last s left (Some x) n e = sym (by_last left) ∙ ap (then_act Egress s.keep s.add) (sym e)
  where
    by_last : (k : List ℕ) → then_act Egress s.keep s.add (k ++ x ∷ []) ≡ record { keep = s.keep; add = s.add; constants = k }
    by_last [] = refl
    by_last (y ∷ k) = ap (λ c. record { keep = s.keep; add = s.add; constants = c }) (egress_front (y ∷ k) x [] ∙ append-nil (y ∷ k))

-- a feedback adds 1 to the last constant
pub feedback_last : (s : Summary) (left : List ℕ) (x : ℕ) → s.constants ≡ left ++ x ∷ [] → record { keep = s.keep; add = s.add; constants = left ++ (x + 1) ∷ [] } ≡ step Feedback s
feedback_last s left x e = sym (by_last left) ∙ ap (then_act Feedback s.keep s.add) (sym e)
  where
    by_last : (k : List ℕ) → then_act Feedback s.keep s.add (k ++ x ∷ []) ≡ record { keep = s.keep; add = s.add; constants = k ++ (x + 1) ∷ [] }
    by_last [] = refl
    by_last (y ∷ k) = ap (λ c. record { keep = s.keep; add = s.add; constants = c }) (feedback_front (y ∷ k) x [])

-- comparing decides the lexicographic order
pub lexical_decided : (b : Bool) (xs ys : List ℕ) → length xs ≡ length ys → b ≡ is_le (slice_cmp nat_cmp xs ys) → IsTrue b ↔ IsLexicallyAtMost xs ys
lexical_decided b xs ys e is = (λ yes. at_most xs ys e (sym is ∙ yes), λ h. is ∙ compares xs ys h)
