-- A row shows whether its location fails, and the rows of an accepted graph decide its order.
use Rattle.std.proofs.Common.{◌≡◌, inl, inr, ℕ, ◌+◌, ◌<◌, List, [], ◌∷◌, ◌++◌, length, get_or, take, refl, sym, ◌∙◌, ap, subst, arith, length-append}
use Rattle.std.specs.Prelude.{Contains, slice_index}
use Rattle.std.proofs.lemmas.List.{get_or_default, take_more}
use Rattle.std.proofs.lemmas.List.Elements.{Contains-push_cases}
use Rattle.nd_graph.specs.declared.graph.Arc.{Arc}
use Rattle.nd_graph.specs.Graph.{Dataflow, arcs, depths}
use Rattle.nd_time.specs.declared.order.TimeOrder.{TimeOrder}
use Rattle.nd_summaries.specs.declared.summary.Summary.{Summary}
use Rattle.nd_summaries.specs.Walk.{FailsBy, IsAcceptedBy, IsWalk}
use Rattle.nd_summaries.specs.Steps.{identity, step, after, summary_of}
use Rattle.nd_summaries.specs.Row.{listed, Closes, IsRow, ShowsFail}
use Rattle.nd_summaries.proofs.Effects.{AtMost-step, AtMost-add, after-append}
use Rattle.nd_summaries.proofs.Graphs.{DepthsAgree, depth_within, walks_joined}
use Rattle.nd_summaries.proofs.Cuts.{end_of, walk_front, walk_back, last_arc}
use Rattle.nd_summaries.proofs.Acceptance.{adds_nothing, turns_back}

module _ (o : TimeOrder) (g : Dataflow) (agree : DepthsAgree g) (a : ℕ) (row : List (List Summary)) (h : IsRow o g a row) where
  pub fails_shown : FailsBy o g a → ShowsFail (arcs g) a row
  fails_shown fails =
      let i : Summary = identity (slice_index (depths g) a) in
      let x : Arc = fails.arc in
      let w : List Arc = fails.walk in
      let none = adds_nothing o g agree a x w fails.closed fails.back in
      let (v, y, e) = last_arc x w in
      let whole : IsWalk g a (v ++ (y ∷ [])) a = subst (λ u. IsWalk g a u a) e fails.closed in
      let front : IsWalk g a v (end_of a v) = walk_front g v (y ∷ []) a a whole in
      let end = walk_back g v (y ∷ []) a a whole in
      let (u, k, m) = h.covers v (end_of a v) front in
      let next = AtMost-add o (step y.action u) (step y.action (after v i)) (AtMost-step o y.action u (after v i) m) in
      let last : (step y.action (after v i)).add ≡ (after (v ++ (y ∷ [])) i).add = ap (λ t. t.add) (sym (after-append v (y ∷ []) i)) in
      let all : (after (v ++ (y ∷ [])) i).add ≡ (after (x ∷ w) i).add = ap (λ t. (after t i).add) (sym e) in
      let zero' : (step y.action (after v i)).add ≡ 0 = last ∙ (all ∙ none) in
      (y, end.0, end.2, (u, subst (λ b. Contains (listed row b) u) (sym end.1) k, omega (arith, next, zero')))

  pub shown_fails : ShowsFail (arcs g) a row → FailsBy o g a
  shown_fails (x, in', to, (s, k, z)) =
      let (w, walk, is) = h.walks x.from s k in
      let i : Summary = identity (slice_index (depths g) a) in
      let closed : IsWalk g a (w ++ (x ∷ [])) a = walks_joined g w (x ∷ []) a x.from a walk (in', refl, to) in
      let none : (after (w ++ (x ∷ [])) i).add ≡ 0 = ap (λ t. t.add) (after-append w (x ∷ []) i) ∙ ap (λ t. (step x.action t).add) (sym is) ∙ z in
      fails_from_list (w ++ (x ∷ [])) (omega (arith, length-append w (x ∷ []))) closed none
    where
      fails_from_list : (w : List Arc) → 0 < length w → IsWalk g a w a → (summary_of g a w).add ≡ 0 → FailsBy o g a
      fails_from_list [] k walk z = absurd (omega arith)
      fails_from_list (y ∷ w) k walk z = record { arc = y; walk = w; closed = walk; back = turns_back o g agree a y w walk z }

pub accepted_from_none : (o : TimeOrder) (g : Dataflow) → ((l : ℕ) → l < length (depths g) → FailsBy o g l → ⊥) → IsAcceptedBy o g
accepted_from_none o g none = record { strict = λ l f. none l (depth_within g l (length f.back.counters) f.back.depth).0 f }

-- ---- steps of the code

-- the list of a row at a location, at any default
pub listed_at : (row : List (List Summary)) (l : ℕ) (list : List Summary) → l < length row → list ≡ get_or row l list → list ≡ listed row l
listed_at row l list low is = is ∙ get_or_default row l list [] low

-- one more arc shows nothing
pub shows_more : (xs : List Arc) (l : ℕ) (row : List (List Summary)) (i : ℕ) (d : Arc) → i < length xs → (ShowsFail (take i xs) l row → ⊥) → ((get_or xs i d).to ≡ l → Closes (listed row (get_or xs i d).from) (get_or xs i d) → ⊥) → ShowsFail (take (i + 1) xs) l row → ⊥
shows_more xs l row i d low none here (x, in', to, closes) =
    elim (Contains-push_cases (take i xs) (get_or xs i d) x (subst (λ ys. Contains ys x) (take_more xs i d low) in')) [
      | inl old ↦ none (x, old, to, closes)
      | inr new ↦ here (ap (λ y. y.to) new ∙ to) (subst (λ y. Closes (listed row y.from) y) (sym new) closes)
    ]
