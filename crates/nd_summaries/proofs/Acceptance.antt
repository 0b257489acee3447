-- A closed walk fails, in both orders, exactly if its summary adds nothing, which is so exactly if it passes no feedback of its
-- least depth.
use Rattle.std.proofs.Common.{◌≡◌, inl, inr, ◌↔◌, ℕ, zero, suc, ◌+◌, ◌<◌, ◌≤◌, List, [], ◌∷◌, ◌++◌, length, take, drop, replicate, refl, sym, ◌∙◌, ap, subst, arith, length-take}
use Rattle.std.specs.Prelude.{slice_index}
use Rattle.std.proofs.lemmas.Bool.{cases_lt}
use Rattle.std.proofs.lemmas.List.{take-append-drop, length-replicate, take_at}
use Rattle.nd_time.specs.Time.{IsSmallerAtFirstDifference}
use Rattle.nd_graph.specs.declared.op.Action.{Action}
use Rattle.nd_graph.specs.declared.op.Action.TheVariants.{Identity, Ingress, Egress, Feedback}
use Rattle.nd_graph.specs.declared.graph.Arc.{Arc}
use Rattle.nd_graph.specs.Graph.{Dataflow, depths}
use Rattle.nd_time.specs.declared.order.TimeOrder.{TimeOrder}
use Rattle.nd_summaries.specs.declared.summary.Summary.{Summary}
use Rattle.nd_time.specs.Order.{AreAtMost}
use Rattle.nd_summaries.specs.Walk.{FailsBy, IsWalk, PassesFeedback, TurnsBack, effect, least_depth}
use Rattle.nd_summaries.specs.Summary.{raised, applied}
use Rattle.nd_summaries.specs.Steps.{summary_of, identity, then_act, step, after}
use Rattle.nd_summaries.proofs.Orders.{smaller_irrefl, smaller_front, then_at, order_refl, order_lexical}
use Rattle.nd_summaries.proofs.Raised.{raised-zero, raised_smaller, length-raised}
use Rattle.nd_summaries.proofs.Effects.{IsFor, IsFor-identity, IsFor-step, length-applied_for, step-keep}
use Rattle.nd_summaries.proofs.Graphs.{DepthsAgree, depth_within, has_depth, starts_inside}
use Rattle.nd_summaries.proofs.Walks.{IsFor-walk, applied-walk}
use Rattle.nd_summaries.proofs.Cuts.{leads_from, walk-keep}

-- ---- what adds nothing

top_keeps : (r a : ℕ) → (r ≡ 0 → a ≡ 0) → 0 < a → 0 < r
top_keeps zero a h k = absurd (omega (arith, h refl))
top_keeps (suc r) a h k = omega arith

-- a summary that adds something makes all counters lexicographically greater
rises : (d : ℕ) (s : Summary) (c : List ℕ) → IsFor d d s → length c ≡ d → 0 < s.add → IsSmallerAtFirstDifference c (applied s c)
rises d s c f h k =
    let kept : List ℕ = take s.keep c in
    let keeps = top_keeps s.keep s.add f.top k in
    let some : 0 < length kept = omega (arith, length-take s.keep c, f.kept) in
    let more = subst (λ l. IsSmallerAtFirstDifference l (raised s.add kept)) (raised-zero kept) (raised_smaller 0 s.add kept some k) in
    subst (λ l. IsSmallerAtFirstDifference l (applied s c)) (take-append-drop s.keep c) (smaller_front kept (raised s.add kept) (drop s.keep c) s.constants more)

-- a summary that adds nothing leaves some counters as they are
stays : (d : ℕ) (s : Summary) → IsFor d d s → s.add ≡ 0 → (c : List ℕ) × (length c ≡ d) × (applied s c ≡ c)
stays d s f z =
    let o : List ℕ = replicate d 0 in
    let size : length o ≡ d = length-replicate d 0 in
    let kept : List ℕ = raised s.add (take s.keep o) in
    let whole : length kept ≡ s.keep = omega (arith, length-raised s.add (take s.keep o), length-take s.keep o, f.kept, size) in
    let front : take s.keep (applied s o) ≡ kept = take_at kept s.constants s.keep whole in
    let same : raised s.add kept ≡ kept = ap (λ a. raised a kept) z ∙ raised-zero kept in
    (applied s o, length-applied_for d d s o f size, ap (λ l. raised s.add l ++ s.constants) front ∙ ap (λ l. l ++ s.constants) same)

module _ (o : TimeOrder) (g : Dataflow) (agree : DepthsAgree g) (l : ℕ) (x : Arc) (w : List Arc) (h : IsWalk g l (x ∷ w) l) where
  -- a closed walk that adds nothing fails
  pub turns_back : (summary_of g l (x ∷ w)).add ≡ 0 → TurnsBack o g l (x ∷ w)
  turns_back z =
      let s : Summary = summary_of g l (x ∷ w) in
      let (c, size, same) = stays (slice_index (depths g) l) s (IsFor-walk g (x ∷ w) l l agree h) z in
      let does : effect (x ∷ w) c ≡ c = sym (applied-walk g (x ∷ w) l c size) ∙ same in
      record {
        counters = c;
        depth = has_depth g l (length c) (starts_inside g agree x w l l h) size;
        back = subst (λ e. AreAtMost o e c) (sym does) (order_refl o c);
      }

  -- one that fails adds nothing
  pub adds_nothing : TurnsBack o g l (x ∷ w) → (summary_of g l (x ∷ w)).add ≡ 0
  adds_nothing t =
      let s : Summary = summary_of g l (x ∷ w) in
      elim (cases_lt 0 s.add) [
        | inl k ↦
            let size = (depth_within g l (length t.counters) t.depth).1 in
            let up = rises (slice_index (depths g) l) s t.counters (IsFor-walk g (x ∷ w) l l agree h) size k in
            let more = subst (IsSmallerAtFirstDifference t.counters) (applied-walk g (x ∷ w) l t.counters size) up in
            absurd (smaller_irrefl t.counters (then_at t.counters (effect (x ∷ w) t.counters) t.counters more (order_lexical o (effect (x ∷ w) t.counters) t.counters t.back)))
        | inr z ↦ omega arith
      ]

-- ---- what a walk adds, and the feedbacks that it passes

-- an action that keeps as many counters does not make the added number smaller
add_stays : (x : Action) (r a : ℕ) (k : List ℕ) → (r ≡ 0 → a ≡ 0) → r ≤ (then_act x r a k).keep → a ≤ (then_act x r a k).add
add_stays Identity r a k t h = omega arith
add_stays Ingress r a k t h = omega arith
add_stays Egress zero a [] t h = omega (arith, t refl)
add_stays Egress (suc r) a [] t h = absurd (omega arith)
add_stays Egress r a (x ∷ k) t h = omega arith
add_stays Feedback r a [] t h = omega arith
add_stays Feedback r a (x ∷ k) t h = omega arith

feedback_adds : (x : Action) (r a : ℕ) (k : List ℕ) → x ≡ Feedback → length k ≡ 0 → (then_act x r a k).add ≡ a + 1
feedback_adds x r a [] e h = ap (λ y. (then_act y r a []).add) e
feedback_adds x r a (y ∷ k) e h = absurd (omega arith)

feedback_keeps : (x : Action) (r a : ℕ) (k : List ℕ) → x ≡ Feedback → (then_act x r a k).keep ≡ r
feedback_keeps x r a [] e = ap (λ y. (then_act y r a []).keep) e
feedback_keeps x r a (y ∷ k) e = ap (λ z. (then_act z r a (y ∷ k)).keep) e

-- an action other than a feedback of the depth that is kept adds nothing
adds_none : (x : Action) (r a : ℕ) (k : List ℕ) → (x ≡ Feedback → length k ≡ 0 → ⊥) → (r ≡ (then_act x r a k).keep → a ≡ 0) → (then_act x r a k).add ≡ 0
adds_none Identity r a k n h = h refl
adds_none Ingress r a k n h = h refl
adds_none Egress r a [] n h = refl
adds_none Egress r a (x ∷ k) n h = h refl
adds_none Feedback r a [] n h = absurd (n refl refl)
adds_none Feedback r a (x ∷ k) n h = h refl

keep_falls : (w : List Arc) (s : Summary) → (after w s).keep ≤ s.keep
keep_falls [] s = omega arith
keep_falls (x ∷ w) s = omega (arith, keep_falls w (step x.action s), step-keep x.action s.keep s.add s.constants)

module _ (g : Dataflow) (agree : DepthsAgree g) (d : ℕ) where
  add_grows : (w : List Arc) (a b : ℕ) (s : Summary) → IsWalk g a w b → IsFor d (slice_index (depths g) a) s → s.keep ≤ (after w s).keep → s.add ≤ (after w s).add
  add_grows [] a b s h f k = omega arith
  add_grows (x ∷ w) a b s h f k =
      let t : Summary = step x.action s in
      let f' = IsFor-step x.action d (slice_index (depths g) a) (slice_index (depths g) x.to) s (leads_from g a b x w agree h) f in
      let low : t.keep ≤ s.keep = step-keep x.action s.keep s.add s.constants in
      let low' : (after w t).keep ≤ t.keep = keep_falls w t in
      let first = add_stays x.action s.keep s.add s.constants f.top (omega arith) in
      let rest = add_grows w x.to b t h.2 f' (omega arith) in
      omega (arith, first, rest)

  first_adds : (x : Arc) (w : List Arc) (a b : ℕ) (s : Summary) → IsWalk g a (x ∷ w) b → IsFor d (slice_index (depths g) a) s → x.action ≡ Feedback → slice_index (depths g) x.from ≡ (after (x ∷ w) s).keep → 0 < (after (x ∷ w) s).add
  first_adds x w a b s h f is at' =
      let t : Summary = step x.action s in
      let f' = IsFor-step x.action d (slice_index (depths g) a) (slice_index (depths g) x.to) s (leads_from g a b x w agree h) f in
      let here : slice_index (depths g) a ≡ slice_index (depths g) x.from = ap (slice_index (depths g)) (sym h.1) in
      let low = keep_falls w t in
      let low' : t.keep ≡ s.keep = feedback_keeps x.action s.keep s.add s.constants is in
      let none : length s.constants ≡ 0 = omega (arith, f.depth) in
      let one = feedback_adds x.action s.keep s.add s.constants is none in
      let rest = add_grows w x.to b t h.2 f' (omega (arith, f.depth)) in
      omega (arith, one, rest)

  -- a feedback of the depth that is kept adds something
  passing_adds : (w : List Arc) (a b : ℕ) (s : Summary) → IsWalk g a w b → IsFor d (slice_index (depths g) a) s → PassesFeedback g w (after w s).keep → 0 < (after w s).add
  passing_adds [] a b s h f (y, (k, l, e), is, at') = absurd (omega arith)
  passing_adds (x ∷ w) a b s h f (y, (zero, l, e), is, at') =
      first_adds x w a b s h f (ap (λ u. u.action) e ∙ is) (ap (λ u. slice_index (depths g) u.from) e ∙ at')
  passing_adds (x ∷ w) a b s h f (y, (suc k, l, e), is, at') =
      let f' = IsFor-step x.action d (slice_index (depths g) a) (slice_index (depths g) x.to) s (leads_from g a b x w agree h) f in
      passing_adds w x.to b (step x.action s) h.2 f' (y, (k, omega arith, e), is, at')

  -- with no such feedback nothing is added
  none_adds : (w : List Arc) (a b : ℕ) (s : Summary) → IsWalk g a w b → IsFor d (slice_index (depths g) a) s → (PassesFeedback g w (after w s).keep → ⊥) → (s.keep ≡ (after w s).keep → s.add ≡ 0) → (after w s).add ≡ 0
  none_adds [] a b s h f none start = start refl
  none_adds (x ∷ w) a b s h f none start =
      let t : Summary = step x.action s in
      let f' = IsFor-step x.action d (slice_index (depths g) a) (slice_index (depths g) x.to) s (leads_from g a b x w agree h) f in
      let here : slice_index (depths g) x.from ≡ slice_index (depths g) a = ap (slice_index (depths g)) h.1 in
      none_adds w x.to b t h.2 f'
      (λ p. none (p.0, (suc p.1.0, omega (arith, p.1.1), p.1.2), p.2, p.3))
      (λ same.
      adds_none x.action s.keep s.add s.constants
      (λ is no.
      let kept : t.keep ≡ s.keep = feedback_keeps x.action s.keep s.add s.constants is in
      none (x, (0, omega arith, refl), is, omega (arith, f.depth)))
      (λ kept. start (kept ∙ same)))

-- ---- the law

module _ (o : TimeOrder) (g : Dataflow) (agree : DepthsAgree g) (l : ℕ) (x : Arc) (w : List Arc) (h : IsWalk g l (x ∷ w) l) where
  pub closed_fails : TurnsBack o g l (x ∷ w) ↔ (PassesFeedback g (x ∷ w) (least_depth g l (x ∷ w)) → ⊥)
  closed_fails =
      let d : ℕ = slice_index (depths g) l in
      let f = IsFor-identity d in
      let kept : (summary_of g l (x ∷ w)).keep ≡ least_depth g l (x ∷ w) = walk-keep g (x ∷ w) l l agree h in (
        λ back p.
            let zero' = adds_nothing o g agree l x w h back in
            let some = passing_adds g agree d (x ∷ w) l l (identity d) h f (subst (PassesFeedback g (x ∷ w)) (sym kept) p) in
            omega (arith, zero', some),
        λ none. turns_back o g agree l x w h (none_adds g agree d (x ∷ w) l l (identity d) h f (λ p. none (subst (PassesFeedback g (x ∷ w)) kept p)) (λ _. refl)),
      )

pub fails_alike : (o u : TimeOrder) (g : Dataflow) (l : ℕ) → DepthsAgree g → FailsBy o g l → FailsBy u g l
fails_alike o u g l agree f =
    let none = adds_nothing o g agree l f.arc f.walk f.closed f.back in
    record { arc = f.arc; walk = f.walk; closed = f.closed; back = turns_back u g agree l f.arc f.walk f.closed none }
