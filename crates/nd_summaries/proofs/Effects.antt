-- A summary does what its walk does, and summaries are ordered like their results.
use Rattle.std.proofs.Common.{◌≡◌, ◌⊎◌, inl, inr, ℕ, zero, suc, ◌+◌, ◌-◌, ◌<◌, ◌≤◌, List, [], ◌∷◌, ◌++◌, length, take, refl, sym, ◌∙◌, ap, subst, arith, append_assoc, length-append, length-take}
use Rattle.std.proofs.lemmas.Bool.{cases_lt}
use Rattle.std.proofs.lemmas.List.{append-nil}
use Rattle.nd_time.specs.Time.{IsSmallerAtFirstDifference, IsLexicallyAtMost, egress_of, feedback_of}
use Rattle.nd_graph.specs.declared.op.Action.{Action}
use Rattle.nd_graph.specs.declared.op.Action.TheVariants.{Identity, Ingress, Egress, Feedback}
use Rattle.nd_graph.specs.declared.graph.Arc.{Arc}
use Rattle.nd_graph.specs.Graph.{LeadsTo, acted}
use Rattle.nd_summaries.specs.declared.summary.Summary.{Summary}
use Rattle.nd_time.specs.declared.order.TimeOrder.{TimeOrder}
use Rattle.nd_time.specs.declared.order.TimeOrder.TheVariants.{Lexicographic, Product}
use Rattle.nd_time.specs.Order.{AreAtMost, IsEachAtMost}
use Rattle.nd_summaries.specs.Walk.{effect}
use Rattle.nd_summaries.specs.Summary.{raised, applied, AddsAtMost, AtMost}
use Rattle.nd_summaries.specs.Steps.{identity, then_act, step, after}
use Rattle.nd_summaries.proofs.Orders.{smaller_front, smaller_back, most_trans, most_antisym, each_refl, each_trans, each_act, each_append, lexical_from_each, act_mono, length-acted, length-egress, length-feedback}
use Rattle.nd_summaries.proofs.Raised.{raised_smaller, each_raised, feedback_raised, feedback_front, egress_front, egress_kept, length-applied}

-- s applies to times of depth d, and leaves times of depth e
pub record IsFor (d e : ℕ) (s : Summary) : Type 0 where
  pub kept : s.keep ≤ d
  pub depth : s.keep + length s.constants ≡ e
  pub top : s.keep ≡ 0 → s.add ≡ 0

-- how many counters a summary leaves
pub length-applied_for : (d e : ℕ) (s : Summary) (c : List ℕ) → IsFor d e s → length c ≡ d → length (applied s c) ≡ e
length-applied_for d e s c f h = length-applied s c (omega (arith, f.kept)) ∙ f.depth

pub IsFor-identity : (d : ℕ) → IsFor d d (identity d)
IsFor-identity d = record { kept = omega arith; depth = omega arith; top = λ _. refl }

for_act : (x : Action) (d e f r a : ℕ) (k : List ℕ) → LeadsTo x e f → r ≤ d → r + length k ≡ e → (r ≡ 0 → a ≡ 0) → IsFor d f (then_act x r a k)
for_act Identity d e f r a k l h j t = record { kept = h; depth = omega arith; top = t }
for_act Ingress d e f r a k l h j t = record { kept = h; depth = omega (arith, length-append k (0 ∷ [])); top = t }
for_act Egress d e f r a [] l h j t = record { kept = omega arith; depth = omega arith; top = λ _. refl }
for_act Egress d e f r a (x ∷ k) l h j t = record { kept = h; depth = omega (arith, length-egress (x ∷ k)); top = t }
for_act Feedback d e f r a [] l h j t = record { kept = h; depth = omega arith; top = λ z. absurd (omega (arith, l.0)) }
for_act Feedback d e f r a (x ∷ k) l h j t = record { kept = h; depth = omega (arith, length-feedback (x ∷ k)); top = t }

pub IsFor-step : (x : Action) (d e f : ℕ) (s : Summary) → LeadsTo x e f → IsFor d e s → IsFor d f (step x s)
IsFor-step x d e f s l h = for_act x d e f s.keep s.add s.constants l h.kept h.depth h.top

-- one action after a summary
applied_act : (x : Action) (r a : ℕ) (k c : List ℕ) → r ≤ length c → applied (then_act x r a k) c ≡ acted x (applied (record { keep = r; add = a; constants = k }) c)
applied_act Identity r a k c h = refl
applied_act Ingress r a k c h = sym (append_assoc (raised a (take r c)) k (0 ∷ []))
applied_act Egress r a [] c h =
    append-nil (raised 0 (take (r - 1) c)) ∙ egress_kept r a c h ∙ ap egress_of (sym (append-nil (raised a (take r c))))
applied_act Egress r a (x ∷ k) c h = sym (egress_front (raised a (take r c)) x k)
applied_act Feedback r a [] c h =
    append-nil (raised (a + 1) (take r c)) ∙ sym (feedback_raised a (take r c)) ∙ ap feedback_of (sym (append-nil (raised a (take r c))))
applied_act Feedback r a (x ∷ k) c h = sym (feedback_front (raised a (take r c)) x k)

pub applied-step : (x : Action) (s : Summary) (c : List ℕ) → s.keep ≤ length c → applied (step x s) c ≡ acted x (applied s c)
applied-step x s c h = applied_act x s.keep s.add s.constants c h

pub step-keep : (x : Action) (r a : ℕ) (k : List ℕ) → (then_act x r a k).keep ≤ r
step-keep Identity r a k = omega arith
step-keep Ingress r a k = omega arith
step-keep Egress r a [] = omega arith
step-keep Egress r a (x ∷ k) = omega arith
step-keep Feedback r a [] = omega arith
step-keep Feedback r a (x ∷ k) = omega arith

-- what a summary followed by a walk does
pub applied-after : (w : List Arc) (s : Summary) (c : List ℕ) → s.keep ≤ length c → applied (after w s) c ≡ effect w (applied s c)
applied-after [] s c h = refl
applied-after (x ∷ w) s c h =
    let k = step-keep x.action s.keep s.add s.constants in
    applied-after w (step x.action s) c (omega arith) ∙ ap (effect w) (applied-step x.action s c h)

pub after-append : (w v : List Arc) (s : Summary) → after (w ++ v) s ≡ after v (after w s)
after-append [] v s = refl
after-append (x ∷ w) v s = after-append w v (step x.action s)

-- s is less than t, if both keep the same number of counters
pub record Below (s t : Summary) : Type 0 where
  pub keep : s.keep ≡ t.keep
  pub size : length s.constants ≡ length t.constants
  pub least : (s.add < t.add) ⊎ ((s.add ≡ t.add) × IsSmallerAtFirstDifference s.constants t.constants)

keeps_some : (r a b : ℕ) → (r ≡ 0 → b ≡ 0) → a < b → 0 < r
keeps_some zero a b h k = absurd (omega (arith, h refl))
keeps_some (suc r) a b h k = omega arith

-- a summary that is less gives an earlier result, for each time
pub applied-Below : (s t : Summary) (d e : ℕ) (c : List ℕ) → IsFor d e t → length c ≡ d → Below s t → IsSmallerAtFirstDifference (applied s c) (applied t c)
applied-Below s t d e c f h b =
    let P : ℕ → Type 0 = λ r. IsSmallerAtFirstDifference (raised s.add (take r c) ++ s.constants) (applied t c) in
    let kept : List ℕ = take t.keep c in
    subst P (sym b.keep) (elim b.least [
      | inl p ↦
          let some : 0 < length kept = omega (arith, length-take t.keep c, keeps_some t.keep s.add t.add f.top p, f.kept) in
          smaller_front (raised s.add kept) (raised t.add kept) s.constants t.constants (raised_smaller s.add t.add kept some p)
      | inr p ↦
          let back = smaller_back (raised t.add kept) s.constants t.constants p.1 in
          subst (λ a. IsSmallerAtFirstDifference (raised a kept ++ s.constants) (applied t c)) (sym p.0) back
    ])

-- ---- at most

pub AtMost-refl : (o : TimeOrder) (s : Summary) → AtMost o s s
AtMost-refl Lexicographic s = record { keep = refl; size = refl; least = inr (refl, inl refl) }
AtMost-refl Product s = record { keep = refl; size = refl; least = (omega arith, each_refl s.constants) }

lexical_trans : (s t u : Summary) → AddsAtMost Lexicographic s t → AddsAtMost Lexicographic t u → AddsAtMost Lexicographic s u
lexical_trans s t u h k =
    elim h [
      | inl p ↦ inl (elim k [ inl q ↦ omega (arith, p, q) | inr q ↦ omega (arith, p, q.0) ])
      | inr p ↦ elim k [ inl q ↦ inl (omega (arith, p.0, q)) | inr q ↦ inr (p.0 ∙ q.0, most_trans s.constants t.constants u.constants p.1 q.1) ]
    ]

adds_trans : (o : TimeOrder) (s t u : Summary) → AddsAtMost o s t → AddsAtMost o t u → AddsAtMost o s u
adds_trans Lexicographic s t u h k = lexical_trans s t u h k
adds_trans Product s t u h k = (omega (arith, h.0, k.0), each_trans s.constants t.constants u.constants h.1 k.1)

pub AtMost-trans : (o : TimeOrder) (s t u : Summary) → AtMost o s t → AtMost o t u → AtMost o s u
AtMost-trans o s t u h k = record { keep = h.keep ∙ k.keep; size = h.size ∙ k.size; least = adds_trans o s t u h.least k.least }

-- what is at most by product is so lexicographically
product_lexical : (s t : Summary) → AddsAtMost Product s t → AddsAtMost Lexicographic s t
product_lexical s t h =
    elim (cases_lt s.add t.add) [
      | inl l ↦ inl l
      | inr l ↦ inr (omega (arith, h.0, l), lexical_from_each s.constants t.constants h.1)
    ]

pub AtMost-from_product : (o : TimeOrder) (s t : Summary) → AtMost Product s t → AtMost o s t
AtMost-from_product Lexicographic s t h = record { keep = h.keep; size = h.size; least = product_lexical s t h.least }
AtMost-from_product Product s t h = h

pub AtMost-lexical : (o : TimeOrder) (s t : Summary) → AtMost o s t → AtMost Lexicographic s t
AtMost-lexical Lexicographic s t h = h
AtMost-lexical Product s t h = record { keep = h.keep; size = h.size; least = product_lexical s t h.least }

-- what is at most adds at most as much
pub AtMost-add : (o : TimeOrder) (s t : Summary) → AtMost o s t → s.add ≤ t.add
AtMost-add o s t h = elim (AtMost-lexical o s t h).least [ inl p ↦ omega (arith, p) | inr p ↦ omega (arith, p.0) ]

lexical_antisym : (s t : Summary) → AtMost Lexicographic s t → AtMost Lexicographic t s → s ≡ t
lexical_antisym s t h k =
    elim h.least [
      | inl p ↦ elim k.least [ inl q ↦ absurd (omega (arith, p, q)) | inr q ↦ absurd (omega (arith, p, q.0)) ]
      | inr p ↦ elim k.least [
        | inl q ↦ absurd (omega (arith, p.0, q))
        | inr q ↦ (let e = most_antisym s.constants t.constants p.1 q.1 in λ i. record { keep = h.keep i; add = p.0 i; constants = e i })
      ]
    ]

pub AtMost-antisym : (o : TimeOrder) (s t : Summary) → AtMost o s t → AtMost o t s → s ≡ t
AtMost-antisym o s t h k = lexical_antisym s t (AtMost-lexical o s t h) (AtMost-lexical o t s k)

lexical_act : (y : Action) (a b : ℕ) (k l : List ℕ) → length k ≡ length l → (a < b) ⊎ ((a ≡ b) × IsLexicallyAtMost k l) → (a < b) ⊎ ((a ≡ b) × IsLexicallyAtMost (acted y k) (acted y l))
lexical_act y a b k l e h = elim h [ inl p ↦ inl p | inr p ↦ inr (p.0, act_mono y k l e p.1) ]

-- the parts of two summaries that keep the same number: what they add and their constants
abbrev Parts : TimeOrder → ℕ → List ℕ → ℕ → List ℕ → Type 0
Parts Lexicographic a k b l = (a < b) ⊎ ((a ≡ b) × IsLexicallyAtMost k l)
Parts Product a k b l = (a ≤ b) × IsEachAtMost k l

parts_of : (o : TimeOrder) (s t : Summary) → AddsAtMost o s t → Parts o s.add s.constants t.add t.constants
parts_of Lexicographic s t h = h
parts_of Product s t h = h

from_parts : (o : TimeOrder) (s t : Summary) → Parts o s.add s.constants t.add t.constants → AddsAtMost o s t
from_parts Lexicographic s t h = h
from_parts Product s t h = h

parts_act : (o : TimeOrder) (y : Action) (a b : ℕ) (k l : List ℕ) → length k ≡ length l → Parts o a k b l → Parts o a (acted y k) b (acted y l)
parts_act Lexicographic y a b k l e h = lexical_act y a b k l e h
parts_act Product y a b k l e h = (h.0, each_act y k l h.1)

parts_more : (o : TimeOrder) (a b : ℕ) → Parts o a [] b [] → Parts o (a + 1) [] (b + 1) []
parts_more Lexicographic a b h = elim h [ inl p ↦ inl (omega arith) | inr p ↦ inr (ap (λ n. n + 1) p.0, inl refl) ]
parts_more Product a b h = (omega (arith, h.0), tt)

step_most : (o : TimeOrder) (x : Action) (r a b : ℕ) (k l : List ℕ) → length k ≡ length l → Parts o a k b l → AtMost o (then_act x r a k) (then_act x r b l)
step_most o Identity r a b k l e h =
    record { keep = refl; size = e; least = from_parts o (then_act Identity r a k) (then_act Identity r b l) h }
step_most o Ingress r a b k l e h =
    record { keep = refl; size = length-acted Ingress k l e; least = from_parts o (then_act Ingress r a k) (then_act Ingress r b l) (parts_act o Ingress a b k l e h) }
step_most o Egress r a b [] [] e h = AtMost-refl o (record { keep = r - 1; add = 0; constants = [] })
step_most o Egress r a b [] (y ∷ l) e h = absurd (omega arith)
step_most o Egress r a b (x ∷ k) [] e h = absurd (omega arith)
step_most o Egress r a b (x ∷ k) (y ∷ l) e h = record {
  keep = refl;
  size = length-acted Egress (x ∷ k) (y ∷ l) e;
  least = from_parts o (then_act Egress r a (x ∷ k)) (then_act Egress r b (y ∷ l)) (parts_act o Egress a b (x ∷ k) (y ∷ l) e h);
}
step_most o Feedback r a b [] [] e h =
    record { keep = refl; size = refl; least = from_parts o (then_act Feedback r a []) (then_act Feedback r b []) (parts_more o a b h) }
step_most o Feedback r a b [] (y ∷ l) e h = absurd (omega arith)
step_most o Feedback r a b (x ∷ k) [] e h = absurd (omega arith)
step_most o Feedback r a b (x ∷ k) (y ∷ l) e h = record {
  keep = refl;
  size = length-acted Feedback (x ∷ k) (y ∷ l) e;
  least = from_parts o (then_act Feedback r a (x ∷ k)) (then_act Feedback r b (y ∷ l)) (parts_act o Feedback a b (x ∷ k) (y ∷ l) e h);
}

-- extending both by an arc keeps the order
pub AtMost-step : (o : TimeOrder) (x : Action) (s t : Summary) → AtMost o s t → AtMost o (step x s) (step x t)
AtMost-step o x s t h =
    let P : ℕ → Type 0 = λ r. AtMost o (then_act x r s.add s.constants) (step x t) in
    subst P (sym h.keep) (step_most o x t.keep s.add t.add s.constants t.constants h.size (parts_of o s t h.least))

-- ---- what is at most gives a result that is at most the other's

at_or_Below : (s t : Summary) → AtMost Lexicographic s t → Below s t ⊎ (s ≡ t)
at_or_Below s t h =
    elim h.least [
      | inl p ↦ inl (record { keep = h.keep; size = h.size; least = inl p })
      | inr p ↦ elim p.1 [ inl q ↦ inr (λ i. record { keep = h.keep i; add = p.0 i; constants = q i }) | inr q ↦ inl (record { keep = h.keep; size = h.size; least = inr (p.0, q) }) ]
    ]

applied_lexical : (s t : Summary) (d e : ℕ) (c : List ℕ) → IsFor d e t → length c ≡ d → AtMost Lexicographic s t → IsLexicallyAtMost (applied s c) (applied t c)
applied_lexical s t d e c f h m =
    elim (at_or_Below s t m) [ inl b ↦ inr (applied-Below s t d e c f h b) | inr q ↦ inl (ap (λ u. applied u c) q) ]

applied_each : (s t : Summary) (c : List ℕ) → AtMost Product s t → IsEachAtMost (applied s c) (applied t c)
applied_each s t c m =
    let P : ℕ → Type 0 = λ r. IsEachAtMost (raised s.add (take r c) ++ s.constants) (applied t c) in
    let front = each_raised s.add t.add (take t.keep c) (take t.keep c) m.least.0 (each_refl (take t.keep c)) in
    subst P (sym m.keep) (each_append (raised s.add (take t.keep c)) (raised t.add (take t.keep c)) s.constants t.constants front m.least.1)

pub applied-AtMost : (o : TimeOrder) (s t : Summary) (d e : ℕ) (c : List ℕ) → IsFor d e t → length c ≡ d → AtMost o s t → AreAtMost o (applied s c) (applied t c)
applied-AtMost Lexicographic s t d e c f h m = applied_lexical s t d e c f h m
applied-AtMost Product s t d e c f h m = applied_each s t c m
