-- The answer of a search that has ended.
use Rattle.std.proofs.Common.{◌≡◌, ◌∙◌, ℕ, ◌+◌, ◌-◌, List, [], ◌∷◌, ◌++◌, length, refl, sym, ap, subst, arith, length-append, Option, Some, None, true}
use Rattle.std.specs.Prelude.{slice_get}
use Rattle.nd_protocol.specs.declared.step.Step.{Step}
use Rattle.nd_reach.specs.Found.{Wanted, HasSearched, IsHit, HasEnded, HasRun}
use Rattle.nd_reach.specs.declared.search.End.{End}
use Rattle.nd_reach.specs.declared.search.End.TheVariants.{Hit}
use Rattle.nd_reach.specs.Reach.{HoldsAfter, IsReached}
use Rattle.nd_reach.specs.Ways.{AreFirst}
use Rattle.nd_reach.specs.declared.reached.Reached.TheVariants.{Way, Nowhere}
use Rattle.nd_reach.specs.declared.node.Node.{Node}
use Rattle.nd_reach.proofs.Places.{last_here}
use Rattle.nd_reach.proofs.First.{first_searched, all_searched}

module _ {A : Type 0} (q : Wanted) (forms : List (List ℕ)) (nodes : List (Node A)) where
  pub hit_count : (h : IsHit q forms nodes) → length nodes ≡ length h.earlier + 1
  hit_count h = h.found.many ∙ length-append h.earlier (h.last ∷ [])

  pub hit_last : (h : IsHit q forms nodes) (n : ℕ) → n ≡ length nodes → slice_get (h.earlier ++ h.last ∷ []) (n - 1) ≡ Some h.last
  hit_last h n is =
      let at : n - 1 ≡ length h.earlier = omega (arith, is, hit_count h) in
      ap (slice_get (h.earlier ++ h.last ∷ [])) at ∙ last_here h.earlier h.last

  pub hit_reached : (h : IsHit q forms nodes) (steps : List (Step A)) → steps ≡ h.last → IsReached q.allowed q.when q.limit q.start (Way steps)
  hit_reached h steps is = record {
    earlier = h.earlier;
    first = subst (λ w. AreFirst q.allowed q.start (h.earlier ++ w ∷ [])) (sym is) h.first;
    within = h.within;
    none = h.none;
    there = subst (HoldsAfter q.when q.start) (sym is) h.there;
  }

  pub all_reached : (h : HasSearched q forms nodes (length nodes)) (n : ℕ) → n ≡ length nodes → IsReached {A = A} q.allowed q.when q.limit q.start (Nowhere n true)
  all_reached h n is = record {
    ways = h.ways;
    first = first_searched q.allowed q.start h.ways (length nodes) h.searched;
    count = is ∙ h.found.many;
    within = omega (arith, is, h.found.many, h.within);
    none = h.none;
    all = (λ _. all_searched q.allowed q.start h.ways (length nodes) h.searched (omega (arith, h.found.many)), λ _. refl);
    full = λ e. absurd (cc (e));
  }

  pub as_hit : (end : Option End) (e : End) → end ≡ Some e → e ≡ Hit → HasRun q forms nodes end → IsHit q forms nodes
  as_hit end e some hit run = subst (HasEnded q forms nodes) hit (subst (HasRun q forms nodes) some run)

  pub as_all : (end : Option End) → end ≡ None → HasRun q forms nodes end → HasSearched q forms nodes (length nodes)
  as_all end none run = subst (HasRun q forms nodes) none run
