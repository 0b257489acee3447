-- Turns: one more position, the history of a condition, and the least hit.
use Rattle.std.proofs.Common.{◌≡◌, ◌≢◌, ◌↔◌, ◌<◌, ◌≤◌, ℕ, ◌+◌, ◌-◌, ℤ, pos, Bool, true, false, cond, List, [], ◌∷◌, ◌++◌, map, length, get_or, Some, inl, inr, refl, sym, subst, ◌∙◌, arith}
use Rattle.std.specs.Prelude.{slice_get, Contains, IsTrue, MatchBool}
use Rattle.std.proofs.lemmas.Bool.{cases_lt}
use Rattle.std.proofs.lemmas.List.{length-map, map-append}
use Rattle.std.proofs.lemmas.List.Elements.{Contains-get_or, Contains-append_left, Contains-push, Contains-push_cases}
use Rattle.std.proofs.lemmas.List.Quantifiers.{all_pairs_push}
use Rattle.nd_history.specs.Least.{NoHit, IsLeast}
use Rattle.nd_history.specs.Turns.{Differs, IsTurn, AreTurns, AreFirstTurns, AreAllTurns, AreListed}
use Rattle.nd_history.proofs.WalkLemmas.{no_hit_more}
use Rattle.nd_history.specs.History.{ShowsIf, AreChanges, none_yet, no_change, one_change, AreFirst, AreAll, IsHistory}
use Rattle.nd_timeline.specs.declared.changed.Changed.{Changed}
use Rattle.nd_history.specs.declared.change_list.ChangeList.{ChangeList}
use Rattle.nd_history.specs.declared.turn_list.TurnList.{TurnList}

abbrev pub positions_of : List Changed → List ℕ
positions_of cs = map (λ c. c.position) cs

module _ (Hit : ℕ → Type 0) where
  -- ---- one more position

  -- a turn of a range is one of a longer range
  wider : (lo hi end k : ℕ) → hi ≤ end → IsTurn Hit lo hi k → IsTurn Hit lo end k
  wider lo hi end k le t = let within : k ≤ hi = t.within in record { above = t.above; within = omega (arith, within, le); differs = t.differs }

  -- a range of one position has no turns
  pub no_turns : (lo : ℕ) → AreTurns Hit lo lo []
  no_turns lo = record {
    ascending = λ i j d lt within. absurd (omega arith);
    exact = λ k. ((λ c. let lt : c.0 < 0 = c.1 in absurd (omega (arith, lt))), (λ t. let above : lo < k = t.above in let within : k ≤ lo = t.within in absurd (omega (arith, above, within))));
  }

  -- the next position is no turn
  pub no_more : (lo i : ℕ) (ks : List ℕ) → AreTurns Hit lo i ks → (Differs Hit (i + 1) → ⊥) → AreTurns Hit lo (i + 1) ks
  no_more lo i ks are same = record {
    ascending = are.ascending;
    exact = λ k. ((λ c. wider lo i (i + 1) k (omega arith) ((are.exact k).0 c)), back k);
  }
    where
      back : (k : ℕ) → IsTurn Hit lo (i + 1) k → Contains ks k
      back k t =
          elim (cases_lt k (i + 1)) [
            | inl less ↦ (are.exact k).1 (record { above = t.above; within = omega (arith, less); differs = t.differs })
            | inr more ↦ let within : k ≤ i + 1 = t.within in let here : k ≡ i + 1 = omega (arith, within, more) in absurd (same (subst (Differs Hit) here t.differs))
          ]

  -- the next position is a turn
  pub one_more : (lo i : ℕ) (ks : List ℕ) → lo ≤ i → AreTurns Hit lo i ks → Differs Hit (i + 1) → AreTurns Hit lo (i + 1) (ks ++ (i + 1) ∷ [])
  one_more lo i ks le are other = record {
    ascending = all_pairs_push (λ j k. j < k) ks (i + 1) are.ascending before;
    exact = λ k. (on k, back k);
  }
    where
      before : (k : ℕ) (d : ℕ) → k < length ks → get_or ks k d < i + 1
      before k d lt = let t : IsTurn Hit lo i (get_or ks k d) = (are.exact (get_or ks k d)).0 (Contains-get_or ks k d lt) in let within : get_or ks k d ≤ i = t.within in omega (arith, within)

      last : IsTurn Hit lo (i + 1) (i + 1)
      last = record { above = omega (arith, le); within = omega arith; differs = other }

      on : (k : ℕ) → Contains (ks ++ (i + 1) ∷ []) k → IsTurn Hit lo (i + 1) k
      on k c =
          elim (Contains-push_cases ks (i + 1) k c) [
            | inl old ↦ wider lo i (i + 1) k (omega arith) ((are.exact k).0 old)
            | inr new ↦ subst (IsTurn Hit lo (i + 1)) new last
          ]

      back : (k : ℕ) → IsTurn Hit lo (i + 1) k → Contains (ks ++ (i + 1) ∷ []) k
      back k t =
          elim (cases_lt k (i + 1)) [
            | inl less ↦ Contains-append_left ks ((i + 1) ∷ []) k ((are.exact k).1 (record { above = t.above; within = omega (arith, less); differs = t.differs }))
            | inr more ↦ let within : k ≤ i + 1 = t.within in let here : i + 1 ≡ k = omega (arith, within, more) in subst (Contains (ks ++ (i + 1) ∷ [])) here (Contains-push ks (i + 1))
          ]

  -- ---- the history of whether there is a hit

  module _ (i : ℕ) where
    here : i + 1 - 1 ≡ i
    here = omega arith

    turned : (m n : ℤ) → ShowsIf (Hit i) m → ShowsIf (Hit (i + 1)) n → n ≢ m → Differs Hit (i + 1)
    turned m n (inl was) (inr is) differs = inr (is.1, subst Hit (sym here) was.1)
    turned m n (inr was) (inl is) differs = inl (is.1, λ hit. was.1 (subst Hit here hit))
    turned m n (inl was) (inl is) differs = absurd (differs (is.0 ∙ sym was.0))
    turned m n (inr was) (inr is) differs = absurd (differs (is.0 ∙ sym was.0))

    unturned : (n : ℤ) → ShowsIf (Hit i) n → ShowsIf (Hit (i + 1)) n → Differs Hit (i + 1) → ⊥
    unturned n (inl was) (inl is) (inl d) = d.1 (subst Hit (sym here) was.1)
    unturned n (inl was) (inl is) (inr d) = d.0 is.1
    unturned n (inr was) (inr is) (inl d) = is.1 d.0
    unturned n (inr was) (inr is) (inr d) = was.1 (subst Hit here d.1)
    unturned n (inl was) (inr is) d = let never : pos 1 ≡ pos 0 = sym was.0 ∙ is.0 in cc
    unturned n (inr was) (inl is) d = let never : pos 0 ≡ pos 1 = sym was.0 ∙ is.0 in cc

  -- the changes that were observed are the turns
  turns_of : {lo end : ℕ} {cs : List Changed} → AreChanges (λ i. ShowsIf (Hit i)) lo end cs → (lo ≤ end) × AreTurns Hit lo end (positions_of cs)
  turns_of {lo} none_yet = (omega arith, no_turns lo)
  turns_of {lo} (no_change i cs n earlier was is) = let h = turns_of earlier in (omega (arith, h.0), no_more lo i (positions_of cs) h.1 (unturned i n was is))
  turns_of {lo} (one_change i cs n earlier c) =
      let h = turns_of earlier in
      let longer = map-append (λ (c : Changed). c.position) cs (record { position = i + 1; entry = n } ∷ []) in
      (omega (arith, h.0), subst (AreTurns Hit lo (i + 1)) (sym longer) (one_more lo i (positions_of cs) h.0 h.1 (turned i c.before n c.was c.is c.differs)))

  -- ---- what is listed

  listed_if : (b : Bool) (lo hi : ℕ) (cs : List Changed) → MatchBool b (AreFirst (λ i. ShowsIf (Hit i)) lo hi cs) (AreAll (λ i. ShowsIf (Hit i)) lo hi cs)
      → MatchBool b (AreFirstTurns Hit lo hi (positions_of cs)) (AreAllTurns Hit lo hi (positions_of cs))
  listed_if true lo hi cs are =
      let end : ℕ = are.end in
      let back : end ≡ end + 1 - 1 = omega arith in
      let h = turns_of are.first in record {
        count = length-map cs (λ (c : Changed). c.position) ∙ are.count;
        next = end + 1;
        more = record { above = omega (arith, h.0); within = omega (arith, are.within); differs = turned end are.more.before are.next are.more.was are.more.is are.more.differs };
        first = subst (λ n. AreTurns Hit lo n (positions_of cs)) back h.1;
      }
  listed_if false lo hi cs are = record { few = omega (arith, are.few, length-map cs (λ (c : Changed). c.position)); all = (turns_of are.all).1 }

  -- the history of whether there is a hit is what is listed of the turns
  pub listed_of : {A : Type 0} (lo hi : ℕ) (told : ChangeList A) (t : TurnList A) → IsTrue t.at_lo ↔ Hit lo → t.positions ≡ positions_of told.changes → t.more ≡ told.more
      → IsHistory (λ i. ShowsIf (Hit i)) lo hi told → AreListed Hit lo hi t
  listed_of lo hi told t at_lo positions more is =
      let Listed : Bool → List ℕ → Type 0 = λ b ks. MatchBool b (AreFirstTurns Hit lo hi ks) (AreAllTurns Hit lo hi ks) in
      record { at_lo = at_lo; listed = subst (Listed t.more) (sym positions) (subst (λ b. Listed b (positions_of told.changes)) (sym more) (listed_if told.more lo hi told.changes is)) }

  -- ---- the least hit

  -- if there is no hit at the first position, the first turn is the least hit
  least : {lo end : ℕ} {cs : List Changed} → AreChanges (λ i. ShowsIf (Hit i)) lo end cs → (Hit lo → ⊥) → IsLeast Hit lo end (slice_get (positions_of cs) 0)
  least {lo} none_yet before = λ i from lt hit. let same : i ≡ lo = omega (arith, from, lt) in before (subst Hit same hit)
  least {lo} (no_change i cs n earlier was is) before = by cs (least earlier before)
    where
      by : (cs : List Changed) → IsLeast Hit lo i (slice_get (positions_of cs) 0) → IsLeast Hit lo (i + 1) (slice_get (positions_of cs) 0)
      by [] free = no_hit_more Hit lo (i + 1) free (λ hit. unturned i n was is (inl (hit, λ h. free i (turns_of earlier).0 (omega arith) (subst Hit (here i) h))))
      by (c ∷ cs) h = (h.0, omega (arith, h.1), h.2, h.3)
  least {lo} (one_change i cs n earlier c) before = by cs (least earlier before)
    where
      hit : NoHit Hit lo (i + 1) → Hit (i + 1)
      hit free = elim (turned i c.before n c.was c.is c.differs) [
        | inl d ↦ d.0
        | inr d ↦ absurd (free i (turns_of earlier).0 (omega arith) (subst Hit (here i) d.1))
      ]

      by : (cs : List Changed) → IsLeast Hit lo i (slice_get (positions_of cs) 0) → IsLeast Hit lo (i + 1) (slice_get (positions_of (cs ++ record { position = i + 1; entry = n } ∷ [])) 0)
      by [] free = (omega (arith, (turns_of earlier).0), omega arith, hit free, free)
      by (c ∷ cs) h = (h.0, omega (arith, h.1), h.2, h.3)

  -- it is that of a longer range, too
  longer : (lo end hi : ℕ) (ks : List ℕ) → 0 < length ks → end ≤ hi → IsLeast Hit lo end (slice_get ks 0) → IsLeast Hit lo hi (slice_get ks 0)
  longer lo end hi [] some le h = absurd (omega (arith, some))
  longer lo end hi (k ∷ ks) some le h = (h.0, omega (arith, h.1, le), h.2, h.3)

  pub least_of : {A : Type 0} (lo hi : ℕ) (told : ChangeList A) (b : Bool) → lo ≤ hi → IsTrue b ↔ Hit lo → IsHistory (λ i. ShowsIf (Hit i)) lo hi told → IsLeast Hit lo hi (cond b (Some lo) (slice_get (positions_of told.changes) 0))
  least_of lo hi told true le at_lo is = (omega arith, le, at_lo.0 refl, λ i from lt. absurd (omega (arith, from, lt)))
  least_of lo hi told false le at_lo is = by told.more is
    where
      none : Hit lo → ⊥
      none hit = let never : false ≡ true = at_lo.1 hit in cc

      by : (b : Bool) → MatchBool b (AreFirst (λ i. ShowsIf (Hit i)) lo hi told.changes) (AreAll (λ i. ShowsIf (Hit i)) lo hi told.changes) → IsLeast Hit lo hi (slice_get (positions_of told.changes) 0)
      by true are = longer lo are.end hi (positions_of told.changes) (omega (arith, are.count, length-map told.changes (λ (c : Changed). c.position))) (omega (arith, are.within)) (least are.first none)
      by false are = least are.all none
