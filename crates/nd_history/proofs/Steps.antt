-- Each step keeps the rule of the claim word
use Rattle.std.proofs.Common.{◌≡◌, ℕ, ◌+◌, ◌-◌, ◌%◌, ◌^◌, ◌<◌, ◌≤◌, List, [], ◌∷◌, ◌++◌, length, length-append, slice_index, set, arith, refl, sym, subst, ◌∙◌}
use mathlib.Core.Option.{some, some-injective}
use lib.ListN.{get_elem?}
use Rattle.atomic_table.specs.Table.{State, Allows, Splits, Joins, Final, Seen, keeps}
use Rattle.nd_history.specs.declared.hand.Hand.{Hand}
use Rattle.nd_history.specs.Claims.{times, once_below}
use Rattle.nd_history.specs.Hands.{hand, total, allowance_of, weight_of, times_in, IsClaimed}
use Rattle.nd_history.proofs.Totals.{times-append, times_none, once_more, total_set, total_snoc, total_at, only_one}

-- the hand after a draw
abbrev drew : Hand → ℕ → Hand
drew v n = hand v.each (v.allowance - 1) (v.drawn ++ n ∷ [])

kept : (all n : ℕ) (views : List Hand) (id : ℕ) (v : Hand) → IsClaimed all (n ∷ []) views → get_elem? views id ≡ some v → 0 < v.allowance → IsClaimed all (((n + 1) % 2 ^ 64) ∷ []) (set views id (drew v n))
kept all n views id v h at some_left =
    let w = drew v n in
    let most : v.allowance ≤ total allowance_of views = total_at allowance_of views id v at in
    let next : (n + 1) % 2 ^ 64 ≡ n + 1 = omega (arith, h.allowed, h.fits) in
    let P : ℕ → Type 0 = λ m. IsClaimed all (m ∷ []) (set views id w) in
    let now : IsClaimed all ((n + 1) ∷ []) (set views id w) = record {
      one_word = refl;
      allowed = omega (arith, h.allowed, total_set allowance_of views id v w at);
      weighed = omega (arith, h.weighed, total_set weight_of views id v w at, length-append v.drawn (n ∷ []));
      drawn = λ x. omega (arith, h.drawn x, total_set (times_in x) views id v w at, times-append x v.drawn (n ∷ []), once_more x n);
      fits = h.fits;
    } in
    subst P (sym next) now

module _ {S : Type 0} (all : ℕ) where
  pub draws : (slots id : ℕ) (v : Hand) (c : List (ℕ × S)) → 0 < v.allowance
      → Allows (λ (s : State S Hand). IsClaimed all s.words s.views) slots id (v, c) 0 (λ n. (n + 1) % 2 ^ 64) (λ n after. after ≡ (hand v.each (v.allowance - 1) (v.drawn ++ n ∷ []), c))
  draws slots id v c some_left s h homes at fits =
      let n = slice_index s.words 0 in
      let P : List ℕ → Type 0 = λ ws. IsClaimed all ws s.views in
      let Q : List ℕ → Type 0 = λ ws. IsClaimed all (set ws 0 ((n + 1) % 2 ^ 64)) (set s.views id (drew v n)) in
      let was : IsClaimed all (n ∷ []) s.views = subst P h.one_word h in
      (drew v n, keeps, tt, subst Q (sym h.one_word) (kept all n s.views id v was at some_left), refl)

  pub deals : (id : ℕ) (v : Hand) → v.each ≤ v.allowance
      → Splits (λ (s : State S Hand). IsClaimed all s.words s.views) id v (hand v.each (v.allowance - v.each) v.drawn) (hand v.each v.each [])
  deals id v enough s h at =
      let l = hand v.each (v.allowance - v.each) v.drawn in
      let r = hand v.each v.each [] in
      let views = set s.views id l in record {
        one_word = h.one_word;
        allowed = omega (arith, h.allowed, total_set allowance_of s.views id v l at, total_snoc allowance_of views r);
        weighed = omega (arith, h.weighed, total_set weight_of s.views id v l at, total_snoc weight_of views r);
        drawn = λ x. omega (arith, h.drawn x, total_set (times_in x) s.views id v l at, total_snoc (times_in x) views r);
        fits = h.fits;
      }

  pub merges : (id : ℕ) (v : Hand) (other : ℕ) (w : Hand)
      → Joins (λ (s : State S Hand). IsClaimed all s.words s.views) id v other w (hand v.each (v.allowance + w.allowance) (v.drawn ++ w.drawn)) (hand 0 0 [])
  merges id v other w s h at apart at_other =
      let b = hand v.each (v.allowance + w.allowance) (v.drawn ++ w.drawn) in
      let e = hand 0 0 [] in
      let views = set s.views id b in record {
        one_word = h.one_word;
        allowed = omega (arith, h.allowed, total_set allowance_of s.views id v b at, total_set allowance_of views other w e at_other);
        weighed = omega (arith, h.weighed, total_set weight_of s.views id v b at, total_set weight_of views other w e at_other, length-append v.drawn w.drawn);
        drawn = λ x. omega (arith, h.drawn x, total_set (times_in x) s.views id v b at, total_set (times_in x) views other w e at_other, times-append x v.drawn w.drawn);
        fits = h.fits;
      }

  -- what the last seat learns at the end
  pub learns : (id : ℕ) (v : Hand) (words : List ℕ) (slots : List S) (word : ℕ) → Final (Seen (λ (s : State S Hand). IsClaimed all s.words s.views) id v) words slots → get_elem? words 0 ≡ some word → v.allowance + length v.drawn ≡ all
      → (x : ℕ) → times x v.drawn ≡ once_below x word
  learns id v words slots word (s, (h, at), same, homes, rest) at_word whole x =
      let n = slice_index s.words 0 in
      let P : List ℕ → Type 0 = λ ws. get_elem? ws 0 ≡ some word in
      let first : get_elem? (n ∷ []) 0 ≡ some word = subst P h.one_word (subst P (sym same) at_word) in
      let word_is : n ≡ word = some-injective n word first in
      let Q : ℕ → Type 0 = λ m. times x v.drawn ≡ once_below x m in
      let weight : total weight_of s.views ≡ weight_of v = h.weighed ∙ sym whole in
      let none : (w : Hand) → weight_of w ≡ 0 → times_in x w ≡ 0 = (λ w e. times_none x w.drawn (omega arith)) in
      subst Q word_is (sym (only_one (times_in x) weight_of none s.views id v at weight) ∙ h.drawn x)

  -- it has drawn as many numbers as the word says
  pub counts : (id : ℕ) (v : Hand) (words : List ℕ) (slots : List S) (word : ℕ) → Final (Seen (λ (s : State S Hand). IsClaimed all s.words s.views) id v) words slots → get_elem? words 0 ≡ some word → v.allowance + length v.drawn ≡ all
      → word ≡ length v.drawn
  counts id v words slots word (s, (h, at), same, homes, rest) at_word whole =
      let n = slice_index s.words 0 in
      let P : List ℕ → Type 0 = λ ws. get_elem? ws 0 ≡ some word in
      let first : get_elem? (n ∷ []) 0 ≡ some word = subst P h.one_word (subst P (sym same) at_word) in
      let word_is : n ≡ word = some-injective n word first in
      let weight : total weight_of s.views ≡ weight_of v = h.weighed ∙ sym whole in
      let none : (w : Hand) → weight_of w ≡ 0 → allowance_of w ≡ 0 = (λ w e. omega arith) in
      let left : total allowance_of s.views ≡ v.allowance = only_one allowance_of weight_of none s.views id v at weight in
      omega (arith, word_is, left, h.allowed, whole)
