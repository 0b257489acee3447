use Rattle.std.proofs.Common.{◌≡◌, ◌↔◌, inl, inr, ◌<◌, ◌∙◌, ◌==◌, ℕ, Bool, not, true, false, IsTrue, List, length, sym, ap, arith}
use Rattle.std.proofs.lemmas.Bool.Decides.{eqb_tells}
use Rattle.nd_graph.specs.declared.graph.Arc.{Arc}
use Rattle.nd_summaries.specs.Walk.{IsWalk}
use Rattle.nd_summaries.proofs.Decisions.{walk_from_list, list_from_walk}
use Rattle.nd_summaries.proofs.summaries.Summaries.leads.Goals as goal

decided : (b : Bool) (n : ℕ) (P : Type 0) → b ≡ (n == 0) → (0 < n → P) → (P → 0 < n) → IsTrue (not b) ↔ P
decided b n P is from to =
    elim (eqb_tells n 0) [
      | inl t ↦ (λ h. absurd (let bad : false ≡ true = sym (ap not (is ∙ t.0)) ∙ h in cc), λ p. absurd (omega (arith, to p, t.1)))
      | inr f ↦ (λ _. from (positive n f.1), λ _. ap not (is ∙ f.0))
    ]
  where
    positive : (n : ℕ) → (n ≡ 0 → ⊥) → 0 < n
    positive n h = omega arith

pub returns : goal.returns
returns g c =
    let h = c.summaries.ensures.minimal in
    decided c.is_empty.result (length c.summaries.result.now) ((w : List Arc) × IsWalk c.args.self.now c.args.from w c.args.to) c.is_empty.ensures
    (λ low. walk_from_list c.args.self.now.order c.args.self.now c.args.from c.args.to c.summaries.result.now h 0 low)
    (λ walk. list_from_walk c.args.self.now.order c.args.self.now c.args.from c.args.to c.summaries.result.now h walk)
