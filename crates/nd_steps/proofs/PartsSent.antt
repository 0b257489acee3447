-- Parts of a change: which entries they have, and what stays after they are removed.
use Rattle.std.proofs.Common.{◌≡◌, ◌≢◌, ◌<◌, ◌≤◌, ℕ, zero, suc, ℤ, pos, Bool, true, false, cond, List, [], ◌∷◌, length, get_or, Option, Some, None, Ordering, Less, Equal, Greater, refl, sym, ap, subst, ◌∙◌, arith}
use Rattle.std.specs.Prelude.{Contains}
use Rattle.std.specs.Ordering.{is_eq, ordering_reverse}
use Rattle.std.specs.Cmp.{IsTotalOrder}
use Rattle.std.specs.FinMap.{IsAntisymmetric, find}
use Rattle.std.proofs.lemmas.Int.{ints}
use Rattle.std.proofs.lemmas.Cmp.{tied_itself}
use Rattle.std.proofs.lemmas.List.{nil_from_length}
use Rattle.std.proofs.lemmas.List.Folds.{list_any_at}
use Rattle.std.proofs.lemmas.Map.Views.{tells_apart, Contains-from_any}
use Rattle.nd_map.specs.Listed.{IsListed}
use Rattle.nd_map.specs.Entries.{listed-tail, absent_in_tail, find-head, found_at, rises}
use Rattle.nd_paths.specs.Point.{point_cmp, point_total, point_exact}
use Rattle.nd_paths.specs.declared.point.Pointstamp.{Pointstamp}
use Rattle.nd_delta.specs.Delta.{DeltaValue, none, at, part, minus, size, same, is_point, has_point, or_zero, entries, at-none, at-part, at-minus, at-entries, sorted-entries, some-entry, IsPartOf}
use Rattle.nd_protocol.specs.Steps.{chosen}
use Rattle.nd_protocol.specs.declared.part.Part.{Part}
use Rattle.nd_protocol.specs.declared.part.Part.TheVariants.{All, Points}

-- an entry at one of the points is in the part
pub entry_in_part : (m : DeltaValue) (ks : List Pointstamp) (i : ℕ) (x : Pointstamp) → i < length ks → x ≡ get_or ks i x → at m x ≢ pos 0 → part m ks ≢ none
entry_in_part m ks i x lt is some e =
    let has : has_point x ks ≡ true = list_any_at (is_point x) ks i x lt (ap (is_point x) (sym is) ∙ ap is_eq (tied_itself point_total x)) in
    some (sym (at-part m ks x ∙ ap (λ b. cond b (at m x) (pos 0)) has) ∙ ap (λ c. at c x) e ∙ at-none x)

-- if the change has no entry at any of the points, the part is empty
pub part_is_none : (m : DeltaValue) (ks : List Pointstamp) (i : ℕ) → length ks ≤ i → ((k : ℕ) → k < i → (d : Pointstamp) → at m (get_or ks k d) ≡ pos 0) → part m ks ≡ none
part_is_none m ks i past h = same (part m ks) none (λ q. at-part m ks q ∙ by q (has_point q ks) refl ∙ sym (at-none q))
  where
    by : (q : Pointstamp) (b : Bool) → has_point q ks ≡ b → cond b (at m q) (pos 0) ≡ pos 0
    by q true e =
        let found : Contains ks q = Contains-from_any (tells_apart point_exact) q ks e in
        ap (at m) (sym found.2) ∙ h found.0 (omega (arith, found.1)) q
    by q false e = refl

-- a change of size 0 is the change without entries
pub none_of_size : (m : DeltaValue) → size m ≡ 0 → m ≡ none
none_of_size m e =
    same m none (λ q. sym (at-entries m q) ∙ ap (λ es. or_zero (find point_cmp q es)) (nil_from_length (entries m) e) ∙ sym (at-none q))

-- the chosen part is a part of the change
pub chosen_there : {A : Type 0} (p : Part A) (m : DeltaValue) → IsPartOf (chosen p m) m
chosen_there All m x some = refl
chosen_there (Points ks) m x some = by (has_point x ks) refl
  where
    by : (b : Bool) → has_point x ks ≡ b → at m x ≡ at (part m ks) x
    by true e = sym (at-part m ks x ∙ ap (λ b. cond b (at m x) (pos 0)) e)
    by false e = absurd (some (at-part m ks x ∙ ap (λ b. cond b (at m x) (pos 0)) e))

-- ---- a part with as many entries as the change

not_tied : (r : Ordering) → r ≢ Equal → is_eq r ≡ false
not_tied Less h = refl
not_tied Equal h = absurd (h refl)
not_tied Greater h = refl

module _ {K X : Type 0} (R : K → K → Ordering) (o : IsTotalOrder R) (exact : IsAntisymmetric R) where
  -- what a lookup finds in one list it also finds in the other
  abbrev IsAmong : List (K × X) → List (K × X) → Type 0
  IsAmong es fs = (k : K) (v : X) → find R k es ≡ Some v → find R k fs ≡ Some v

  -- a lookup finds no key before that of the first entry
  head_first : (f : K × X) (fs : List (K × X)) (k : K) (v : X) → IsListed R (f ∷ fs) → find R k (f ∷ fs) ≡ Some v → R f.0 k ≢ Greater
  head_first f fs k v listed found = let there = found_at R exact (f ∷ fs) k v found in at_index there.index there.in_range there.is
    where
      at_index : (i : ℕ) → i < length (f ∷ fs) → get_or (f ∷ fs) i (k, v) ≡ (k, v) → R f.0 k ≢ Greater
      at_index zero lt is greater = let tied : R f.0 k ≡ Equal = ap (λ e. R f.0 e.0) (sym is) ∙ tied_itself o f.0 in absurd (cc (tied, greater))
      at_index (suc i) lt is greater = let less : R f.0 k ≡ Less = ap (λ e. R f.0 e.0) (sym is) ∙ rises R o (f ∷ fs) listed 0 (suc i) (k, v) (omega arith) lt in absurd (cc (less, greater))

  -- a key that is found, but not at the first entry, is found in the others
  past_head : (f : K × X) (fs : List (K × X)) (k : K) (v : X) → is_eq (R k f.0) ≡ false → find R k (f ∷ fs) ≡ Some v → find R k fs ≡ Some v
  past_head f fs k v other found = ap (λ b. cond b (Some f.1) (find R k fs)) (sym other) ∙ found

  later : (e : K × X) (es : List (K × X)) (k : K) (v : X) → IsListed R (e ∷ es) → find R k es ≡ Some v → is_eq (R k e.0) ≡ false
  later e es k v listed found = not_tied (R k e.0) (λ tied.
      let nothing : find R e.0 es ≡ None = absent_in_tail R e es listed in
      let some : find R e.0 es ≡ Some v = ap (λ j. find R j es) (sym (exact k e.0 tied)) ∙ found in
      absurd (cc (nothing, some)))

  -- if the first entries are the same, the others of one list are among the others of the other
  among_others : (e f : K × X) (es fs : List (K × X)) → e.0 ≡ f.0 → IsListed R (e ∷ es) → IsAmong (e ∷ es) (f ∷ fs) → IsAmong es fs
  among_others e f es fs key listed among k v found =
      let other = later e es k v listed found in
      past_head f fs k v (subst (λ j. is_eq (R k j) ≡ false) key other) (among k v (ap (λ b. cond b (Some e.1) (find R k es)) other ∙ found))

  -- if the other list's first entry comes earlier, the list is among the entries after it
  among_later : (e f : K × X) (es fs : List (K × X)) → R e.0 f.0 ≡ Greater → IsListed R (e ∷ es) → IsAmong (e ∷ es) (f ∷ fs) → IsAmong (e ∷ es) fs
  among_later e f es fs greater listed among k v found =
      past_head f fs k v (not_tied (R k f.0) (λ tied. head_first e es k v listed found (ap (R e.0) (exact k f.0 tied) ∙ greater))) (among k v found)

  pub as_many : (es fs : List (K × X)) → IsListed R es → IsListed R fs → IsAmong es fs → (length es ≤ length fs) × (length es ≡ length fs → es ≡ fs)
  as_many [] [] _ _ among = (omega arith, λ _. refl)
  as_many [] (f ∷ fs) _ _ among = (omega arith, λ e. absurd (omega (arith, e)))
  as_many (e ∷ es) [] _ _ among = absurd (let found : None ≡ Some e.1 = among e.0 e.1 (find-head R o e es) in cc)
  as_many (e ∷ es) (f ∷ fs) es_listed fs_listed among =
      let here : find R e.0 (f ∷ fs) ≡ Some e.1 = among e.0 e.1 (find-head R o e es) in
      elim (R e.0 f.0) as (λ r. R e.0 f.0 ≡ r → (length (e ∷ es) ≤ length (f ∷ fs)) × (length (e ∷ es) ≡ length (f ∷ fs) → e ∷ es ≡ f ∷ fs)) [
        | Less ↦ λ less. absurd (head_first f fs e.0 e.1 fs_listed here (o.antisymm f.0 e.0 ∙ ap ordering_reverse less))
        | Equal ↦ λ tied.
            let key : e.0 ≡ f.0 = exact e.0 f.0 tied in
            let found : Some e.1 ≡ Some f.1 = sym here ∙ ap (λ k. find R k (f ∷ fs)) key ∙ find-head R o f fs in
            let value : e.1 ≡ f.1 = cc in
            let rest = as_many es fs (listed-tail R e es es_listed) (listed-tail R f fs fs_listed) (among_others e f es fs key es_listed among) in
            (omega (arith, rest.0), λ same i. (key i, value i) ∷ rest.1 (omega (arith, same)) i)
        | Greater ↦ λ greater.
            let rest = as_many (e ∷ es) fs es_listed (listed-tail R f fs fs_listed) (among_later e f es fs greater es_listed among) in
            (omega (arith, rest.0), λ same. absurd (omega (arith, rest.0, same)))
      ] refl

pub nothing_stays : (m piece : DeltaValue) → IsPartOf piece m → size piece ≡ size m → minus m piece ≡ none
nothing_stays m piece h e = same (minus m piece) none (λ q. let d = at-minus m piece q in let s : at m q ≡ at piece q = alike q in let z = at-none q in omega (arith, ints))
  where
    found_there : (k : Pointstamp) (v : ℤ) → find point_cmp k (entries piece) ≡ Some v → (o : Option ℤ) → find point_cmp k (entries m) ≡ o → o ≡ Some v
    found_there k v found o is =
        let some : v ≢ pos 0 = some-entry piece k v found in
        let at_piece : at piece k ≡ v = sym (at-entries piece k) ∙ ap or_zero found in
        let at_m : or_zero o ≡ v = sym (ap or_zero is) ∙ at-entries m k ∙ h k (λ z. some (sym at_piece ∙ z)) ∙ at_piece in
        by o some at_m
      where
        by : (x : Option ℤ) → v ≢ pos 0 → or_zero x ≡ v → x ≡ Some v
        by None some z = absurd (some (sym z))
        by (Some w) some z = ap Some z

    entries_alike : entries piece ≡ entries m
    entries_alike = (as_many point_cmp point_total point_exact (entries piece) (entries m) (sorted-entries piece) (sorted-entries m) (λ k v found. found_there k v found (find point_cmp k (entries m)) refl)).1 e

    alike : (q : Pointstamp) → at m q ≡ at piece q
    alike q = sym (at-entries m q) ∙ ap (λ es. or_zero (find point_cmp q es)) (sym entries_alike) ∙ at-entries piece q
