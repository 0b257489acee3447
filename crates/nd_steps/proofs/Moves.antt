-- A processor before and after one part of a step, which processor p performs, and the changes of
-- that part. A change at a key of the processor's maps says what is added there. A change of what p
-- has to send says by how much the number outstanding at a pointstamp grows.
--     stays, moves_then      no changes, and changes one after the other
--     put_moves              one key has another integer
--     one_more, one_less     a change of what p has to send
use Rattle.std.proofs.Common.{◌≡◌, ◌≢◌, ◌⊎◌, inl, inr, ℕ, ℤ, pos, negsuc, ◌+ℤ◌, Bool, true, false, cond, List, [], ◌∷◌, ◌++◌, length, refl, sym, ap, subst, ◌∙◌, arith, true≢false}
use Rattle.std.proofs.lemmas.Int.{ints}
use Rattle.nd_paths.specs.declared.point.Pointstamp.{Pointstamp}
use Rattle.nd_delta.specs.Delta.{is_point}
use Rattle.nd_processor.specs.State.{ProcessorState, one_at, held}
use Rattle.nd_steps.specs.Places.{place_at, is_place}
use Rattle.nd_steps.specs.Slots.{stands, puts, SlotIsThere, SlotMay}
use Rattle.nd_steps.specs.Changes.{at_key, place_of, made_in}
use Rattle.nd_steps.specs.Plans.{total_at, Each}
use Rattle.nd_steps.specs.declared.change.Change.{Change}
use Rattle.nd_steps.specs.declared.slot.Slot.{Slot}
use Rattle.nd_steps.specs.declared.slot.Slot.TheVariants.{Unsent}
use Rattle.nd_steps.proofs.AlikeLemmas.{same_place, place_itself, other_place, same_owner, same_slot, unsent-test}
use Rattle.nd_steps.proofs.PlacesLemmas.{stands-puts, stands-puts_other, items-puts}
use Rattle.nd_steps.proofs.EachLemmas.{total-append, each-append, each_through, nothing_at}

-- a key of a map that a step writes itself; what is unsent follows from what is outstanding
abbrev pub IsWritten : Slot → Type 0
IsWritten (Unsent x) = ⊥
IsWritten l = Unit {0}

-- a change of what processor p has to send
abbrev pub IsSent : ℕ → Change → Type 0
IsSent p c = (IsWritten c.slot → ⊥) × (c.p ≡ p)

-- a change of a map of processor i that a step writes, or of what processor p has to send
abbrev pub IsOf : ℕ → ℕ → Change → Type 0
IsOf p i c = (IsWritten c.slot × (c.p ≡ i)) ⊎ IsSent p c

-- the state of processor i was q and is r, and the changes say what is added
pub record Moves (p i : ℕ) (q r : ProcessorState) (cs : List Change) : Type 0 where
  pub keys : (l : Slot) → IsWritten l → stands r l ≡ stands q l +ℤ total_at (place_at i l) cs
  pub outstanding : (x : Pointstamp) → pos (held r x) ≡ pos (held q x) +ℤ total_at (place_at p (Unsent x)) cs
  pub unsent : r.unsent ≡ q.unsent
  pub items : length r.items ≡ length q.items
  pub alone : Each (IsOf p i) cs

pub nothing_more : (z : ℤ) → z ≡ z +ℤ pos 0
nothing_more z = omega (arith, ints)

pub stays : (p i : ℕ) (q : ProcessorState) → Moves p i q q []
stays p i q = record { keys = λ l h. nothing_more (stands q l); outstanding = λ x. nothing_more (pos (held q x)); unsent = refl; items = refl; alone = tt }

pub moves_then : {p i : ℕ} {q r t : ProcessorState} {cs ds : List Change} → Moves p i q r cs → Moves p i r t ds → Moves p i q t (cs ++ ds)
moves_then {p} {i} {cs = cs} {ds = ds} a b = record {
  keys = λ l h.
      let x = a.keys l h in
      let y = b.keys l h in
      let z = total-append (place_at i l) cs ds in
      omega (arith, ints, x, y, z);
  outstanding = λ w.
      let x = a.outstanding w in
      let y = b.outstanding w in
      let z = total-append (place_at p (Unsent w)) cs ds in
      omega (arith, ints, x, y, z);
  unsent = b.unsent ∙ a.unsent;
  items = b.items ∙ a.items;
  alone = each-append (IsOf p i) cs ds a.alone b.alone;
}

-- ---- where changes add nothing

-- no change of what p has to send is at a key of another map
sent_apart : (k p : ℕ) (l : Slot) → IsWritten l → (c : Change) → IsSent p c → place_at k l ≢ place_of c
sent_apart k p l written c sent e = sent.0 (subst IsWritten (same_slot k c.p l c.slot e) written)

pub nothing_sent : (k p : ℕ) (l : Slot) → IsWritten l → (cs : List Change) → Each (IsSent p) cs → total_at (place_at k l) cs ≡ pos 0
nothing_sent k p l written cs h = nothing_at (IsSent p) (place_at k l) (sent_apart k p l written) cs h

module _ (p i k : ℕ) (cs : List Change) (alone : Each (IsOf p i) cs) where
  -- nothing is added in the maps of another processor
  pub nothing_written : (l : Slot) → IsWritten l → k ≢ i → total_at (place_at k l) cs ≡ pos 0
  nothing_written l written other = nothing_at (IsOf p i) (place_at k l) apart cs alone
    where
      apart : (c : Change) → IsOf p i c → place_at k l ≢ place_of c
      apart c (inl own) e = other (same_owner k c.p l c.slot e ∙ own.1)
      apart c (inr sent) e = sent_apart k p l written c sent e

  -- nothing is added to what another processor has to send
  pub nothing_unsent : (x : Pointstamp) → k ≢ p → total_at (place_at k (Unsent x)) cs ≡ pos 0
  nothing_unsent x other = nothing_at (IsOf p i) (place_at k (Unsent x)) apart cs alone
    where
      apart : (c : Change) → IsOf p i c → place_at k (Unsent x) ≢ place_of c
      apart c (inl own) e = subst IsWritten (sym (same_slot k c.p (Unsent x) c.slot e)) own.0
      apart c (inr sent) e = other (same_owner k c.p (Unsent x) c.slot e ∙ sent.1)

-- ---- one key

unsent-puts : (q : ProcessorState) (l : Slot) (z : ℤ) → IsWritten l → (puts q l z).unsent ≡ q.unsent
unsent-puts q (Unsent x) z written = absurd written
unsent-puts q l z written = refl

-- n is added at one key, and the changes es say how much more is outstanding
module _ (p i : ℕ) (q : ProcessorState) (j : Slot) (n : ℤ) (es : List Change) (r : ProcessorState) (is : r ≡ made_in q j n) where
  pub put_moves : IsWritten j → SlotIsThere q j → SlotMay j (stands q j +ℤ n) → Each (IsSent p) es
      → ((x : Pointstamp) → pos (held r x) ≡ pos (held q x) +ℤ total_at (place_at p (Unsent x)) es) → Moves p i q r (at_key i j n ∷ es)
  put_moves written there may sent outstanding = record {
    keys = λ l h. ap (λ (t : ProcessorState). stands t l) is ∙ at_slot l (nothing_sent i p l h es sent);
    outstanding = λ x. outstanding x ∙ ap (λ z. pos (held q x) +ℤ z) (at_unsent x);
    unsent = ap (λ (t : ProcessorState). t.unsent) is ∙ unsent-puts q j (stands q j +ℤ n) written;
    items = ap (λ (t : ProcessorState). length t.items) is ∙ items-puts q j (stands q j +ℤ n);
    alone = (inl (written, refl), each_through (IsSent p) (IsOf p i) (λ c h. inr h) es sent);
  }
    where
      at_slot : (l : Slot) → total_at (place_at i l) es ≡ pos 0 → stands (made_in q j n) l ≡ stands q l +ℤ total_at (place_at i l) (at_key i j n ∷ es)
      at_slot l none = elim (is_place (place_at i l) (place_at i j))
          as (λ b. is_place (place_at i l) (place_at i j) ≡ b → stands (made_in q j n) l ≡ stands q l +ℤ (cond b n (pos 0) +ℤ total_at (place_at i l) es)) [
            | true ↦ λ t.
                let same : l ≡ j = same_slot i i l j (same_place (place_at i l) (place_at i j) t) in
                let a : stands (made_in q j n) l ≡ stands q j +ℤ n = ap (stands (made_in q j n)) same ∙ stands-puts q j (stands q j +ℤ n) there may in
                let b : stands q j ≡ stands q l = ap (stands q) (sym same) in
                omega (arith, ints, a, b, none)
            | false ↦ λ t.
                let a : stands (made_in q j n) l ≡ stands q l
                = stands-puts_other q j (stands q j +ℤ n) l there (λ e. true≢false (sym (place_itself (place_at i j)) ∙ ap (λ k. is_place (place_at i k) (place_at i j)) (sym e) ∙ t)) in
                omega (arith, ints, a, none)
          ] refl

      at_unsent : (x : Pointstamp) → total_at (place_at p (Unsent x)) es ≡ total_at (place_at p (Unsent x)) (at_key i j n ∷ es)
      at_unsent x =
          let apart = other_place (place_at p (Unsent x)) (place_at i j) (λ e. subst IsWritten (sym (same_slot p i (Unsent x) j e)) written) in
          none (total_at (place_at p (Unsent x)) es) ∙ ap (λ b. cond b n (pos 0) +ℤ total_at (place_at p (Unsent x)) es) (sym apart)
        where
          none : (z : ℤ) → z ≡ pos 0 +ℤ z
          none z = omega (arith, ints)

-- ---- a change of what is sent

pub sent_one : (p : ℕ) (y : Pointstamp) (n : ℤ) → IsSent p (at_key p (Unsent y) n)
sent_one p y n = ((λ h. h), refl)

module _ (p : ℕ) (y x : Pointstamp) (es : List Change) where
  abbrev rest : ℤ
  rest = total_at (place_at p (Unsent x)) es

  more_by_test : (b : Bool) (t : ℤ) → cond b (pos 1) (pos 0) +ℤ t ≡ pos (cond b 1 0) +ℤ t
  more_by_test true t = refl
  more_by_test false t = refl

  pub one_more : total_at (place_at p (Unsent x)) (at_key p (Unsent y) (pos 1) ∷ es) ≡ pos (one_at y x) +ℤ rest
  one_more = ap (λ b. cond b (pos 1) (pos 0) +ℤ rest) (unsent-test p x y) ∙ more_by_test (is_point x y) rest

  less_by_test : (b : Bool) (t : ℤ) → cond b (negsuc 0) (pos 0) +ℤ t +ℤ pos (cond b 1 0) ≡ t
  less_by_test true t = omega (arith, ints)
  less_by_test false t = omega (arith, ints)

  pub one_less : total_at (place_at p (Unsent x)) (at_key p (Unsent y) (negsuc 0) ∷ es) +ℤ pos (one_at y x) ≡ rest
  one_less = ap (λ b. cond b (negsuc 0) (pos 0) +ℤ rest +ℤ pos (one_at y x)) (unsent-test p x y) ∙ less_by_test (is_point x y) rest
