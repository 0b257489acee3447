-- Counters are ordered, and actions keep the order.
use Rattle.std.proofs.Common.{◌≡◌, ◌⊎◌, inl, inr, ℕ, zero, suc, ◌+◌, ◌-◌, ◌<◌, List, [], ◌∷◌, ◌++◌, length, take, drop, refl, sym, ◌∙◌, ap, subst, arith, append_assoc, length-append}
use Rattle.std.proofs.lemmas.Bool.{cases_lt, cases_eq}
use Rattle.nd_time.specs.Time.{IsSmallerAtFirstDifference, IsLexicallyAtMost, egress_of, feedback_of}
use Rattle.nd_graph.specs.declared.op.Action.{Action}
use Rattle.nd_graph.specs.declared.op.Action.TheVariants.{Identity, Ingress, Egress, Feedback}
use Rattle.nd_graph.specs.declared.graph.Arc.{Arc}
use Rattle.nd_graph.specs.Graph.{acted}
use Rattle.nd_time.specs.declared.order.TimeOrder.{TimeOrder}
use Rattle.nd_time.specs.declared.order.TimeOrder.TheVariants.{Lexicographic, Product}
use Rattle.nd_time.specs.Order.{AreAtMost, IsEachAtMost}
use Rattle.nd_summaries.specs.Walk.{effect}

-- ---- the first difference of two lists

pub smaller_here : (x y : ℕ) (xs ys : List ℕ) → x < y → IsSmallerAtFirstDifference (x ∷ xs) (y ∷ ys)
smaller_here x y xs ys h = record { common = []; x = x; y = y; xs_rest = xs; ys_rest = ys; xs_is = refl; ys_is = refl; smaller = h }

-- the same numbers in front keep the order
pub smaller_back : (k a b : List ℕ) → IsSmallerAtFirstDifference a b → IsSmallerAtFirstDifference (k ++ a) (k ++ b)
smaller_back k a b d = record {
  common = k ++ d.common;
  x = d.x;
  y = d.y;
  xs_rest = d.xs_rest;
  ys_rest = d.ys_rest;
  xs_is = ap (λ l. k ++ l) d.xs_is ∙ sym (append_assoc k d.common (d.x ∷ d.xs_rest));
  ys_is = ap (λ l. k ++ l) d.ys_is ∙ sym (append_assoc k d.common (d.y ∷ d.ys_rest));
  smaller = d.smaller;
}

-- the order of the first parts of two lists decides
pub smaller_front : (k l a b : List ℕ) → IsSmallerAtFirstDifference k l → IsSmallerAtFirstDifference (k ++ a) (l ++ b)
smaller_front k l a b d = record {
  common = d.common;
  x = d.x;
  y = d.y;
  xs_rest = d.xs_rest ++ a;
  ys_rest = d.ys_rest ++ b;
  xs_is = ap (λ m. m ++ a) d.xs_is ∙ append_assoc d.common (d.x ∷ d.xs_rest) a;
  ys_is = ap (λ m. m ++ b) d.ys_is ∙ append_assoc d.common (d.y ∷ d.ys_rest) b;
  smaller = d.smaller;
}

smaller_rest : (x y : ℕ) (xs ys : List ℕ) → x ≡ y → IsSmallerAtFirstDifference xs ys → IsSmallerAtFirstDifference (x ∷ xs) (y ∷ ys)
smaller_rest x y xs ys e d = subst (λ z. IsSmallerAtFirstDifference (x ∷ xs) (z ∷ ys)) e (smaller_back (x ∷ []) xs ys d)

-- the first numbers differ, or the rests do
first_or_rest : (x y : ℕ) (xs ys common : List ℕ) (a b : ℕ) (r s : List ℕ) → x ∷ xs ≡ common ++ a ∷ r → y ∷ ys ≡ common ++ b ∷ s → a < b → (x < y) ⊎ ((x ≡ y) × IsSmallerAtFirstDifference xs ys)
first_or_rest x y xs ys [] a b r s e f h =
    let p : x ≡ a = cc in
    let q : y ≡ b = cc in
    inl (omega (arith, p, q, h))
first_or_rest x y xs ys (c ∷ common) a b r s e f h =
    inr (cc, record { common = common; x = a; y = b; xs_rest = r; ys_rest = s; xs_is = cc; ys_is = cc; smaller = h })

compared_firsts : (x y : ℕ) (xs ys : List ℕ) → IsSmallerAtFirstDifference (x ∷ xs) (y ∷ ys) → (x < y) ⊎ ((x ≡ y) × IsSmallerAtFirstDifference xs ys)
compared_firsts x y xs ys d = first_or_rest x y xs ys d.common d.x d.y d.xs_rest d.ys_rest d.xs_is d.ys_is d.smaller

not_empty : (xs ys : List ℕ) → IsSmallerAtFirstDifference xs ys → (0 < length xs) × (0 < length ys)
not_empty xs ys d =
    (omega (arith, ap length d.xs_is, length-append d.common (d.x ∷ d.xs_rest)), omega (arith, ap length d.ys_is, length-append d.common (d.y ∷ d.ys_rest)))

-- ---- the order

pub smaller_trans : (a b c : List ℕ) → IsSmallerAtFirstDifference a b → IsSmallerAtFirstDifference b c → IsSmallerAtFirstDifference a c
smaller_trans [] b c h k = absurd (omega (arith, (not_empty [] b h).0))
smaller_trans (x ∷ a) [] c h k = absurd (omega (arith, (not_empty [] c k).0))
smaller_trans (x ∷ a) (y ∷ b) [] h k = absurd (omega (arith, (not_empty (y ∷ b) [] k).1))
smaller_trans (x ∷ a) (y ∷ b) (z ∷ c) h k =
    elim (compared_firsts x y a b h) [
      | inl p ↦ elim (compared_firsts y z b c k) [ inl q ↦ smaller_here x z a c (omega (arith, p, q)) | inr q ↦ smaller_here x z a c (omega (arith, p, q.0)) ]
      | inr p ↦ elim (compared_firsts y z b c k) [ inl q ↦ smaller_here x z a c (omega (arith, p.0, q)) | inr q ↦ smaller_rest x z a c (p.0 ∙ q.0) (smaller_trans a b c p.1 q.1) ]
    ]

pub smaller_irrefl : (a : List ℕ) → IsSmallerAtFirstDifference a a → ⊥
smaller_irrefl [] h = omega (arith, (not_empty [] [] h).0)
smaller_irrefl (x ∷ a) h = elim (compared_firsts x x a a h) [ inl p ↦ omega (arith, p) | inr p ↦ smaller_irrefl a p.1 ]

pub then_at : (a b c : List ℕ) → IsSmallerAtFirstDifference a b → IsLexicallyAtMost b c → IsSmallerAtFirstDifference a c
then_at a b c h k = elim k [ inl q ↦ subst (λ d. IsSmallerAtFirstDifference a d) q h | inr q ↦ smaller_trans a b c h q ]

pub most_trans : (a b c : List ℕ) → IsLexicallyAtMost a b → IsLexicallyAtMost b c → IsLexicallyAtMost a c
most_trans a b c h k = elim h [ inl p ↦ subst (λ d. IsLexicallyAtMost d c) (sym p) k | inr p ↦ inr (then_at a b c p k) ]

pub most_antisym : (a b : List ℕ) → IsLexicallyAtMost a b → IsLexicallyAtMost b a → a ≡ b
most_antisym a b h k = elim h [ inl p ↦ p | inr p ↦ absurd (smaller_irrefl a (then_at a b a p k)) ]

most_rest : (x y : ℕ) (a b : List ℕ) → x ≡ y → IsLexicallyAtMost a b → IsLexicallyAtMost (x ∷ a) (y ∷ b)
most_rest x y a b e h = elim h [ inl p ↦ inl (cc) | inr p ↦ inr (smaller_rest x y a b e p) ]

-- of two lists of the same length, one is smaller, or they are equal
pub compared : (a b : List ℕ) → length a ≡ length b → IsLexicallyAtMost a b ⊎ IsSmallerAtFirstDifference b a
compared [] [] e = inl (inl refl)
compared [] (y ∷ b) e = absurd (omega arith)
compared (x ∷ a) [] e = absurd (omega arith)
compared (x ∷ a) (y ∷ b) e =
    elim (cases_lt x y) [
      | inl l ↦ inl (inr (smaller_here x y a b l))
      | inr l ↦ elim (cases_eq x y) [
        | inl q ↦ elim (compared a b (omega arith)) [ inl p ↦ inl (most_rest x y a b q p) | inr p ↦ inr (smaller_rest y x b a (sym q) p) ]
        | inr n ↦ inr (smaller_here y x b a (omega arith))
      ]
    ]

-- ---- actions and walks

pub length-egress : (c : List ℕ) → length (egress_of c) ≡ length c - 1
length-egress [] = refl
length-egress (x ∷ []) = refl
length-egress (x ∷ y ∷ c) = let h = length-egress (y ∷ c) in omega arith

pub length-feedback : (c : List ℕ) → length (feedback_of c) ≡ length c
length-feedback [] = refl
length-feedback (x ∷ []) = refl
length-feedback (x ∷ y ∷ c) = let h = length-feedback (y ∷ c) in omega arith

-- the number of counters after an action depends only on their number before it
pub length-acted : (x : Action) (c d : List ℕ) → length c ≡ length d → length (acted x c) ≡ length (acted x d)
length-acted Identity c d e = e
length-acted Ingress c d e = omega (arith, length-append c (0 ∷ []), length-append d (0 ∷ []))
length-acted Egress c d e = omega (arith, length-egress c, length-egress d)
length-acted Feedback c d e = omega (arith, length-feedback c, length-feedback d)

egress_mono : (a b : List ℕ) → length a ≡ length b → IsSmallerAtFirstDifference a b → IsLexicallyAtMost (egress_of a) (egress_of b)
egress_mono [] b e h = absurd (omega (arith, (not_empty [] b h).0))
egress_mono (x ∷ a) [] e h = absurd (omega arith)
egress_mono (x ∷ []) (y ∷ []) e h = inl refl
egress_mono (x ∷ []) (y ∷ z ∷ b) e h = absurd (omega arith)
egress_mono (x ∷ w ∷ a) (y ∷ []) e h = absurd (omega arith)
egress_mono (x ∷ w ∷ a) (y ∷ z ∷ b) e h =
    elim (compared_firsts x y (w ∷ a) (z ∷ b) h) [
      | inl p ↦ inr (smaller_here x y (egress_of (w ∷ a)) (egress_of (z ∷ b)) p)
      | inr p ↦ most_rest x y (egress_of (w ∷ a)) (egress_of (z ∷ b)) p.0 (egress_mono (w ∷ a) (z ∷ b) (omega arith) p.1)
    ]

last_mono : (x y : ℕ) → IsSmallerAtFirstDifference (x ∷ []) (y ∷ []) → x < y
last_mono x y h = elim (compared_firsts x y [] [] h) [ inl p ↦ p | inr p ↦ absurd (omega (arith, (not_empty [] [] p.1).0)) ]

feedback_mono : (a b : List ℕ) → length a ≡ length b → IsSmallerAtFirstDifference a b → IsSmallerAtFirstDifference (feedback_of a) (feedback_of b)
feedback_mono [] b e h = absurd (omega (arith, (not_empty [] b h).0))
feedback_mono (x ∷ a) [] e h = absurd (omega arith)
feedback_mono (x ∷ []) (y ∷ []) e h = smaller_here (x + 1) (y + 1) [] [] (omega (arith, last_mono x y h))
feedback_mono (x ∷ []) (y ∷ z ∷ b) e h = absurd (omega arith)
feedback_mono (x ∷ w ∷ a) (y ∷ []) e h = absurd (omega arith)
feedback_mono (x ∷ w ∷ a) (y ∷ z ∷ b) e h =
    elim (compared_firsts x y (w ∷ a) (z ∷ b) h) [
      | inl p ↦ smaller_here x y (feedback_of (w ∷ a)) (feedback_of (z ∷ b)) p
      | inr p ↦ smaller_rest x y (feedback_of (w ∷ a)) (feedback_of (z ∷ b)) p.0 (feedback_mono (w ∷ a) (z ∷ b) (omega arith) p.1)
    ]

act_smaller : (x : Action) (a b : List ℕ) → length a ≡ length b → IsSmallerAtFirstDifference a b → IsLexicallyAtMost (acted x a) (acted x b)
act_smaller Identity a b e h = inr h
act_smaller Ingress a b e h = inr (smaller_front a b (0 ∷ []) (0 ∷ []) h)
act_smaller Egress a b e h = egress_mono a b e h
act_smaller Feedback a b e h = inr (feedback_mono a b e h)

pub act_mono : (x : Action) (a b : List ℕ) → length a ≡ length b → IsLexicallyAtMost a b → IsLexicallyAtMost (acted x a) (acted x b)
act_mono x a b e h = elim h [ inl p ↦ inl (ap (acted x) p) | inr p ↦ act_smaller x a b e p ]

pub effect-append : (w v : List Arc) (c : List ℕ) → effect (w ++ v) c ≡ effect v (effect w c)
effect-append [] v c = refl
effect-append (x ∷ w) v c = effect-append w v (acted x.action c)

-- ---- each number at most the one at its place

pub each_refl : (a : List ℕ) → IsEachAtMost a a
each_refl [] = tt
each_refl (x ∷ a) = (omega arith, each_refl a)

pub each_trans : (a b c : List ℕ) → IsEachAtMost a b → IsEachAtMost b c → IsEachAtMost a c
each_trans [] [] [] h k = tt
each_trans [] [] (z ∷ c) h k = absurd k
each_trans [] (y ∷ b) c h k = absurd h
each_trans (x ∷ a) [] c h k = absurd h
each_trans (x ∷ a) (y ∷ b) [] h k = absurd k
each_trans (x ∷ a) (y ∷ b) (z ∷ c) h k = (omega (arith, h.0, k.0), each_trans a b c h.1 k.1)

pub lexical_from_each : (a b : List ℕ) → IsEachAtMost a b → IsLexicallyAtMost a b
lexical_from_each [] [] h = inl refl
lexical_from_each [] (y ∷ b) h = absurd h
lexical_from_each (x ∷ a) [] h = absurd h
lexical_from_each (x ∷ a) (y ∷ b) h =
    elim (cases_lt x y) [
      | inl l ↦ inr (smaller_here x y a b l)
      | inr l ↦ most_rest x y a b (omega (arith, h.0, l)) (lexical_from_each a b h.1)
    ]

pub each_append : (a b k l : List ℕ) → IsEachAtMost a b → IsEachAtMost k l → IsEachAtMost (a ++ k) (b ++ l)
each_append [] [] k l h j = j
each_append [] (y ∷ b) k l h j = absurd h
each_append (x ∷ a) [] k l h j = absurd h
each_append (x ∷ a) (y ∷ b) k l h j = (h.0, each_append a b k l h.1 j)

pub each_take : (n : ℕ) (a b : List ℕ) → IsEachAtMost a b → IsEachAtMost (take n a) (take n b)
each_take zero a b h = tt
each_take (suc n) [] [] h = tt
each_take (suc n) [] (y ∷ b) h = absurd h
each_take (suc n) (x ∷ a) [] h = absurd h
each_take (suc n) (x ∷ a) (y ∷ b) h = (h.0, each_take n a b h.1)

pub each_drop : (n : ℕ) (a b : List ℕ) → IsEachAtMost a b → IsEachAtMost (drop n a) (drop n b)
each_drop zero a b h = h
each_drop (suc n) [] [] h = tt
each_drop (suc n) [] (y ∷ b) h = absurd h
each_drop (suc n) (x ∷ a) [] h = absurd h
each_drop (suc n) (x ∷ a) (y ∷ b) h = each_drop n a b h.1

each_egress : (a b : List ℕ) → IsEachAtMost a b → IsEachAtMost (egress_of a) (egress_of b)
each_egress [] [] h = tt
each_egress [] (y ∷ b) h = absurd h
each_egress (x ∷ a) [] h = absurd h
each_egress (x ∷ []) (y ∷ []) h = tt
each_egress (x ∷ []) (y ∷ z ∷ b) h = absurd h.1
each_egress (x ∷ w ∷ a) (y ∷ []) h = absurd h.1
each_egress (x ∷ w ∷ a) (y ∷ z ∷ b) h = (h.0, each_egress (w ∷ a) (z ∷ b) h.1)

each_feedback : (a b : List ℕ) → IsEachAtMost a b → IsEachAtMost (feedback_of a) (feedback_of b)
each_feedback [] [] h = tt
each_feedback [] (y ∷ b) h = absurd h
each_feedback (x ∷ a) [] h = absurd h
each_feedback (x ∷ []) (y ∷ []) h = (omega (arith, h.0), tt)
each_feedback (x ∷ []) (y ∷ z ∷ b) h = absurd h.1
each_feedback (x ∷ w ∷ a) (y ∷ []) h = absurd h.1
each_feedback (x ∷ w ∷ a) (y ∷ z ∷ b) h = (h.0, each_feedback (w ∷ a) (z ∷ b) h.1)

pub each_act : (x : Action) (a b : List ℕ) → IsEachAtMost a b → IsEachAtMost (acted x a) (acted x b)
each_act Identity a b h = h
each_act Ingress a b h = each_append a b (0 ∷ []) (0 ∷ []) h (omega arith, tt)
each_act Egress a b h = each_egress a b h
each_act Feedback a b h = each_feedback a b h

-- ---- the same for both orders

pub order_refl : (o : TimeOrder) (a : List ℕ) → AreAtMost o a a
order_refl Lexicographic a = inl refl
order_refl Product a = each_refl a

pub order_trans : (o : TimeOrder) (a b c : List ℕ) → AreAtMost o a b → AreAtMost o b c → AreAtMost o a c
order_trans Lexicographic a b c h k = most_trans a b c h k
order_trans Product a b c h k = each_trans a b c h k

pub order_lexical : (o : TimeOrder) (a b : List ℕ) → AreAtMost o a b → IsLexicallyAtMost a b
order_lexical Lexicographic a b h = h
order_lexical Product a b h = lexical_from_each a b h

pub order_antisym : (o : TimeOrder) (a b : List ℕ) → AreAtMost o a b → AreAtMost o b a → a ≡ b
order_antisym o a b h k = most_antisym a b (order_lexical o a b h) (order_lexical o b a k)

each_or_not : (a b : List ℕ) → length a ≡ length b → IsEachAtMost a b ⊎ (IsEachAtMost a b → ⊥)
each_or_not [] [] e = inl tt
each_or_not [] (y ∷ b) e = absurd (omega arith)
each_or_not (x ∷ a) [] e = absurd (omega arith)
each_or_not (x ∷ a) (y ∷ b) e =
    elim (cases_lt y x) [
      | inl l ↦ inr (λ h. omega (arith, h.0, l))
      | inr l ↦ elim (each_or_not a b (omega arith)) [ inl p ↦ inl (omega arith, p) | inr n ↦ inr (λ h. n h.1) ]
    ]

pub order_or_not : (o : TimeOrder) (a b : List ℕ) → length a ≡ length b → AreAtMost o a b ⊎ (AreAtMost o a b → ⊥)
order_or_not Lexicographic a b e =
    elim (compared a b e) [ inl p ↦ inl p | inr p ↦ inr (λ k. smaller_irrefl b (then_at b a b p k)) ]
order_or_not Product a b e = each_or_not a b e

order_act : (o : TimeOrder) (x : Action) (a b : List ℕ) → length a ≡ length b → AreAtMost o a b → AreAtMost o (acted x a) (acted x b)
order_act Lexicographic x a b e h = act_mono x a b e h
order_act Product x a b e h = each_act x a b h

-- walks keep the order, and the number of counters after a walk depends only on their number before it
pub order_effect : (o : TimeOrder) (w : List Arc) (a b : List ℕ) → length a ≡ length b → AreAtMost o a b → AreAtMost o (effect w a) (effect w b)
order_effect o [] a b e h = h
order_effect o (x ∷ w) a b e h =
    order_effect o w (acted x.action a) (acted x.action b) (length-acted x.action a b e) (order_act o x.action a b e h)

pub same_depth : (w : List Arc) (a b : List ℕ) → length a ≡ length b → length (effect w a) ≡ length (effect w b)
same_depth [] a b e = e
same_depth (x ∷ w) a b e = same_depth w (acted x.action a) (acted x.action b) (length-acted x.action a b e)
