-- Replacing integers with a need for memory, and adding the entries of a change one by one.
use Rattle.std.proofs.Common.{◌≡◌, ◌≢◌, ◌≤◌, ◌*◌, ℤ, pos, Bool, true, false, cond, List, ◌∷◌, Some, refl, sym, ap, subst, ◌∙◌, ◌⊎◌, inl, inr, arith, w64, to_z, of_z, unsigned_abs}
use Rattle.std.specs.Prelude.{◌+ℤ◌, ◌-ℤ◌}
use Rattle.std.specs.FinMap.{find}
use Rattle.std.proofs.lemmas.Int.{ints, to_z-of_z, fits_signed_from_abs}
use Rattle.nd_time.specs.Limits.{max_count}
use Rattle.nd_map.specs.Entries.{find-head, absent_in_tail, listed-tail}
use Rattle.nd_map.specs.Listed.{IsListed}
use Rattle.nd_paths.specs.Point.{point_cmp, point_total}
use Rattle.nd_paths.specs.declared.point.Pointstamp.{Pointstamp}
use Rattle.nd_delta.specs.Delta.{DeltaValue, at, set, combined, entries, is_point, or_zero, same, set-at, set-set, at-set_same, at-plus, at-minus, at-entries}
use Rattle.nd_view.specs.Room.{IsWithinRoom, AreWithin, IsAdded, among}
use Rattle.nd_view.proofs.Fors.{signed}
use Rattle.nd_view.proofs.Moves.{alike, at-elsewhere}
use Rattle.nd_map.specs.Cases.{zero_or_not}

-- if replacing old by new takes memory, replacing new by old takes none
pub turned : (old new : ℤ) → (IsWithinRoom old new → ⊥) → IsWithinRoom new old
turned old new never = by (zero_or_not new) (zero_or_not old)
  where
    by : (new ≡ pos 0) ⊎ (new ≢ pos 0) → (old ≡ pos 0) ⊎ (old ≢ pos 0) → IsWithinRoom new old
    by (inl e) o = absurd (never (record { absent = λ _. e; positive = λ p. absurd (omega (arith, ints, p, e)) }))
    by (inr some) (inl z) = record { absent = λ e. absurd (some e); positive = λ p. absurd (omega (arith, ints, p, z)) }
    by (inr some) (inr old_some) = record {
      absent = λ e. absurd (some e);
      positive = λ p. absurd (never (record { absent = λ e. absurd (old_some e); positive = λ _. p }));
    }

-- the double negation of fitting within room is fitting within room
pub within_room : (old new : ℤ) → ((IsWithinRoom old new → ⊥) → ⊥) → IsWithinRoom old new
within_room old new h = record {
  absent = λ z. elim (zero_or_not new) [ inl e ↦ e | inr some ↦ absurd (h (λ w. some (w.absent z))) ];
  positive = λ up. elim (signed old) [ inl p ↦ p | inr never ↦ absurd (h (λ w. never (w.positive up))) ];
}

-- an integer as the code stores it
pub small : (z : ℤ) → unsigned_abs z ≤ 2 * max_count → to_z w64 (of_z w64 z) ≡ z
small z fits = to_z-of_z w64 z (fits_signed_from_abs w64 z (omega (arith, fits)))

-- an integer with another added, or subtracted
abbrev pub moved_by : Bool → ℤ → ℤ → ℤ
moved_by minus x y = cond minus (x -ℤ y) (x +ℤ y)

nothing : (minus : Bool) (x y : ℤ) → y ≡ pos 0 → moved_by minus x y ≡ x
nothing true x y none = omega (arith, ints, none)
nothing false x y none = omega (arith, ints, none)

-- ---- the first of some entries, and the others
module _ (e : Pointstamp × ℤ) (es : List (Pointstamp × ℤ)) where
  pub among-here : (q : Pointstamp) → q ≡ e.0 → among (e ∷ es) q ≡ e.1
  among-here q is = ap (among (e ∷ es)) is ∙ ap or_zero (find-head point_cmp point_total e es)

  pub among-there : (q : Pointstamp) → is_point q e.0 ≡ false → among (e ∷ es) q ≡ among es q
  among-there q other = ap (λ b. or_zero (cond b (Some e.1) (find point_cmp q es))) other

  module _ (listed : IsListed point_cmp (e ∷ es)) where
    pub among-tail : among es e.0 ≡ pos 0
    among-tail = ap or_zero (absent_in_tail point_cmp e es listed)

    pub within-tail : AreWithin (e ∷ es) → AreWithin es
    within-tail h q = elim (alike q e.0) [
      | inl is ↦ let none : among es q ≡ pos 0 = ap (among es) is ∙ among-tail in subst (λ z. unsigned_abs z ≤ max_count) (sym none) (omega arith)
      | inr other ↦ subst (λ z. unsigned_abs z ≤ max_count) (among-there q other) (h q)
    ]

  pub still : (minus : Bool) (m n : DeltaValue) → IsListed point_cmp (e ∷ es) → IsAdded minus es m n → at n e.0 ≡ at m e.0
  still minus m n listed h = h e.0 ∙ nothing minus (at m e.0) (among es e.0) (among-tail listed)

  -- the others are added, and then the first, whatever was at its point before
  pub added_more : (minus : Bool) (m s t u : DeltaValue) (x n : ℤ) → s ≡ set m e.0 x → IsAdded minus es s t → u ≡ set t e.0 n → n ≡ moved_by minus (at m e.0) e.1 → IsAdded minus (e ∷ es) m u
  added_more minus m s t u x n s_is h u_is n_is q = elim (alike q e.0) [
    | inl is ↦
        ap (λ c. at c q) u_is ∙ ap (at (set t e.0 n)) is ∙ at-set_same t e.0 n ∙ n_is
        ∙ (λ j. moved_by minus (at m (sym is j)) (sym (among-here q is) j))
    | inr other ↦
        ap (λ c. at c q) u_is ∙ at-elsewhere t e.0 n q other ∙ h q
        ∙ (λ j. moved_by minus ((ap (λ c. at c q) s_is ∙ at-elsewhere m e.0 x q other) j) (sym (among-there q other) j))
  ]

-- entries that consist of a first one and the others
module _ (es : List (Pointstamp × ℤ)) (e : Pointstamp × ℤ) (rest : List (Pointstamp × ℤ)) (is : es ≡ e ∷ rest) (listed : IsListed point_cmp es) where
  here : IsListed point_cmp (e ∷ rest)
  here = subst (IsListed point_cmp) is listed

  pub rest_listed : IsListed point_cmp rest
  rest_listed = listed-tail point_cmp e rest here

  pub rest_within : AreWithin es → AreWithin rest
  rest_within h = within-tail e rest here (subst AreWithin is h)

  pub first_within : AreWithin es → unsigned_abs e.1 ≤ max_count
  first_within h = subst (λ z. unsigned_abs z ≤ max_count) (ap (λ l. among l e.0) is ∙ among-here e rest e.0 refl) (h e.0)

  -- the integer at the first entry's point after the others were added
  pub rest_still : (minus : Bool) (m n : DeltaValue) → IsAdded minus rest m n → at n e.0 ≡ at m e.0
  rest_still minus m n h = still e rest minus m n here h

  pub all_added : (minus : Bool) (m s t u : DeltaValue) (x n : ℤ) → s ≡ set m e.0 x → IsAdded minus rest s t → u ≡ set t e.0 n → n ≡ moved_by minus (at m e.0) e.1 → IsAdded minus es m u
  all_added minus m s t u x n s_is h u_is n_is = subst (λ l. IsAdded minus l m u) (sym is) (added_more e rest minus m s t u x n s_is h u_is n_is)

  -- the first entry was set before the others were added
  pub all_after : (minus : Bool) (m s t : DeltaValue) (n : ℤ) → s ≡ set m e.0 n → IsAdded minus rest s t → n ≡ moved_by minus (at m e.0) e.1 → IsAdded minus es m t
  all_after minus m s t n s_is h n_is =
      let stays : t ≡ set t e.0 n = sym (ap (set t e.0) (sym (rest_still minus s t h ∙ ap (λ c. at c e.0) s_is ∙ at-set_same m e.0 n)) ∙ set-at t e.0) in
      all_added minus m s t t n n s_is h stays n_is

-- a point gets another integer, and then its own again
pub set_back : (m s t : DeltaValue) (k : Pointstamp) (v w : ℤ) → s ≡ set m k v → t ≡ set s k w → w ≡ at m k → t ≡ m
set_back m s t k v w s_is t_is w_is = t_is ∙ ap (λ c. set c k w) s_is ∙ set-set m k v w ∙ ap (set m k) w_is ∙ set-at m k

-- all entries of a change
pub added_all : (minus : Bool) (d m n : DeltaValue) → IsAdded minus (entries d) m n → n ≡ combined minus m d
added_all true d m n h = same n (combined true m d) (λ q. h q ∙ ap (λ z. at m q -ℤ z) (at-entries d q) ∙ sym (at-minus m d q))
added_all false d m n h = same n (combined false m d) (λ q. h q ∙ ap (λ z. at m q +ℤ z) (at-entries d q) ∙ sym (at-plus m d q))

pub within_entries : (d : DeltaValue) → ((q : Pointstamp) → unsigned_abs (at d q) ≤ max_count) → AreWithin (entries d)
within_entries d h q = subst (λ z. unsigned_abs z ≤ max_count) (sym (at-entries d q)) (h q)
