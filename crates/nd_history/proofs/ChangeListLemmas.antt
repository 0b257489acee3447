-- The history of an entry: where it changes, and what is listed of that.
use Rattle.std.proofs.Common.{◌≡◌, ◌≤◌, ℕ, zero, suc, ◌+◌, ◌-◌, ℤ, Bool, true, false, not, cond, List, [], ◌∷◌, ◌++◌, map, filter, length, refl, sym, ap, subst, ◌∙◌, arith, length-append}
use Rattle.std.specs.Prelude.{MatchBool}
use Rattle.std.specs.List.{range_with_len}
use Rattle.std.specs.Ordering.{int_eq}
use Rattle.std.proofs.lemmas.Bool.Decides.{Decides-int_eq, Decides-not}
use Rattle.std.proofs.lemmas.List.{append-nil, append_assoc, map-append, take_all, take-append-le}
use Rattle.std.proofs.lemmas.List.Elements.{filter-append}
use Rattle.nd_time.specs.Limits.{max_told}
use Rattle.nd_history.specs.Changes.{is_other, positions, changed, changes_between}
use Rattle.nd_history.specs.ChangeList.{AreFirstChanges}
use Rattle.nd_history.specs.History.{AreChanges, none_yet, no_change, one_change, AreFirst, AreAll, IsHistory}
use Rattle.nd_timeline.specs.declared.changed.Changed.{Changed}
use Rattle.nd_history.specs.declared.change_list.ChangeList.{ChangeList}

-- a range of one number more
one_more : (a n : ℕ) → range_with_len a (n + 1) ≡ range_with_len a n ++ (a + n) ∷ []
one_more a zero = let here : a ≡ a + zero = omega arith in ap (λ b. b ∷ []) here
one_more a (suc n) =
    let more : suc n + 1 ≡ suc (n + 1) = omega arith in
    let on : a + 1 + n ≡ a + suc n = omega arith in
    ap (range_with_len a) more ∙ ap (λ is. a ∷ is) (one_more (a + 1) n ∙ ap (λ b. range_with_len (a + 1) n ++ b ∷ []) on)

module _ (entry : ℕ → ℤ) (lo : ℕ) where
  -- ---- where it changes

  -- the change at a position, if there is one
  abbrev change_at : ℕ → List Changed
  change_at i = map (changed entry) (cond (is_other entry i) (i ∷ []) [])

  -- the changes up to one position more
  next : (i : ℕ) → lo ≤ i → changes_between entry lo (i + 1) ≡ changes_between entry lo i ++ change_at (i + 1)
  unfolding changes_between
  next i le =
      let count : i + 1 - lo ≡ i - lo + 1 = omega (arith, le) in
      let last : lo + 1 + (i - lo) ≡ i + 1 = omega (arith, le) in
      let all : positions lo (i + 1) ≡ positions lo i ++ (i + 1) ∷ [] = ap (range_with_len (lo + 1)) count ∙ one_more (lo + 1) (i - lo) ∙ ap (λ k. positions lo i ++ k ∷ []) last in
      ap (λ is. map (changed entry) (filter (is_other entry) is)) all
      ∙ ap (map (changed entry)) (filter-append (is_other entry) (positions lo i) ((i + 1) ∷ []))
      ∙ map-append (changed entry) (filter (is_other entry) (positions lo i)) (cond (is_other entry (i + 1)) ((i + 1) ∷ []) [])

  -- the changes up to some positions more
  later : (i n : ℕ) → lo ≤ i → (rest : List Changed) × (changes_between entry lo (i + n) ≡ changes_between entry lo i ++ rest)
  later i zero le = let here : i + zero ≡ i = omega arith in ([], ap (changes_between entry lo) here ∙ sym (append-nil (changes_between entry lo i)))
  later i (suc n) le =
      let before = later i n le in
      let on : i + suc n ≡ i + n + 1 = omega arith in (
        before.0 ++ change_at (i + n + 1),
        ap (changes_between entry lo) on ∙ next (i + n) (omega (arith, le)) ∙ ap (λ cs. cs ++ change_at (i + n + 1)) before.1
            ∙ append_assoc (changes_between entry lo i) before.0 (change_at (i + n + 1)),
      )

  change_if : (i : ℕ) (b : Bool) → is_other entry i ≡ b → change_at i ≡ map (changed entry) (cond b (i ∷ []) [])
  change_if i b is = ap (λ b. map (changed entry) (cond b (i ∷ []) [])) is

  none_here : changes_between entry lo lo ≡ []
  unfolding changes_between
  none_here = let no : lo - lo ≡ 0 = omega arith in ap (λ n. map (changed entry) (filter (is_other entry) (range_with_len (lo + 1) n))) no

  before : (i : ℕ) → entry (i + 1 - 1) ≡ entry i
  before i = let back : i + 1 - 1 ≡ i = omega arith in ap entry back

  -- the changes that were observed are those of the entry
  all_of : {end : ℕ} {cs : List Changed} → AreChanges (λ i n. n ≡ entry i) lo end cs → (lo ≤ end) × (changes_between entry lo end ≡ cs)
  all_of none_yet = (omega arith, none_here)
  all_of (no_change i cs n earlier was is) =
      let h = all_of earlier in
      let no : is_other entry (i + 1) ≡ false = ap not ((Decides-int_eq (entry (i + 1)) (entry (i + 1 - 1))).1 (sym is ∙ was ∙ sym (before i))) in
      (omega (arith, h.0), next i h.0 ∙ (λ j. h.1 j ++ change_if (i + 1) false no j) ∙ append-nil cs)
  all_of (one_change i cs n earlier c) =
      let h = all_of earlier in
      let yes : is_other entry (i + 1) ≡ true = (Decides-not (int_eq (entry (i + 1)) (entry (i + 1 - 1))) (Decides-int_eq (entry (i + 1)) (entry (i + 1 - 1)))).1 (λ e. c.differs (c.is ∙ e ∙ before i ∙ sym c.was)) in
      (omega (arith, h.0), next i h.0 ∙ (λ j. h.1 j ++ change_if (i + 1) true yes j) ∙ ap (λ n. cs ++ record { position = i + 1; entry = n } ∷ []) (sym c.is))

  -- ---- what is listed

  module _ {A : Type 0} (hi : ℕ) (told : ChangeList A) where
    first_of : told.more ≡ true → AreFirst (λ i n. n ≡ entry i) lo hi told.changes → AreFirstChanges (changes_between entry lo hi) told
    first_of some first =
        let end : ℕ = first.end in
        let cs : List Changed = told.changes in
        let x : Changed = record { position = end + 1; entry = first.next } in
        let h = all_of (one_change end cs first.next first.first first.more) in
        let rest = later (end + 1) (hi - (end + 1)) h.0 in
        let last : hi ≡ end + 1 + (hi - (end + 1)) = omega (arith, first.within) in
        let count : length cs ≡ max_told = first.count in
        let all : changes_between entry lo hi ≡ cs ++ (x ∷ rest.0) = ap (changes_between entry lo) last ∙ rest.1 ∙ ap (λ all. all ++ rest.0) h.1 ∙ append_assoc cs (x ∷ []) rest.0 in
        subst (λ all. AreFirstChanges all told) (sym all) (record {
          changes = sym (take-append-le max_told cs (x ∷ rest.0) (omega (arith, count)) ∙ take_all max_told cs (omega (arith, count)));
          more = (λ _. omega (arith, count, length-append cs (x ∷ rest.0)), λ _. some);
        })

    all_are : told.more ≡ false → AreAll (λ i n. n ≡ entry i) lo hi told.changes → AreFirstChanges (changes_between entry lo hi) told
    all_are none are = subst (λ all. AreFirstChanges all told) (sym (all_of are.all).1) (record {
      changes = sym (take_all max_told told.changes are.few);
      more = (λ some. absurd (let never : true ≡ false = sym some ∙ none in cc), λ lt. absurd (omega (arith, lt, are.few)));
    })

    by : (b : Bool) → told.more ≡ b → MatchBool b (AreFirst (λ i n. n ≡ entry i) lo hi told.changes) (AreAll (λ i n. n ≡ entry i) lo hi told.changes) → AreFirstChanges (changes_between entry lo hi) told
    by true = first_of
    by false = all_are

    -- the history of the entry is what is listed of its changes
    pub told_of : IsHistory (λ i n. n ≡ entry i) lo hi told → AreFirstChanges (changes_between entry lo hi) told
    told_of = by told.more refl
