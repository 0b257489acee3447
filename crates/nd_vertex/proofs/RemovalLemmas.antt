-- The edits that remove all items at a timestamp, and the items that are left.
use Rattle.std.proofs.Common.{◌≡◌, ◌≢◌, ◌-◌, ◌^◌, suc, ℤ, pos, negsuc, FitsSigned, w64, IfSome, Ordering, Less, Equal, Greater, Bool, true, false, cond, not, ◌&&◌, ◌||◌, List, [], ◌∷◌, map, get_or, Some, None, refl, sym, ap, subst, ◌∙◌, arith}
use Rattle.std.specs.Prelude.{All, is_some}
use Rattle.std.specs.List.{IsDistinct, AllByRecursion, filter}
use Rattle.std.specs.declared.ops.Bound.TheVariants.{Included}
use Rattle.std.specs.BTreeMap.Range.{IsLeBy, range_contains, entries_between}
use Rattle.std.specs.Ordering.{eq_by_cmp, int_cmp, is_eq, is_gt, is_le, is_lt, ordering_reverse, ordering_then}
use Rattle.std.specs.FinMap.{find}
use Rattle.std.specs.FinMap.Entries.{is_some-find}
use Rattle.std.proofs.lemmas.List.Elements.{All-filter, All-map}
use Rattle.std.proofs.lemmas.Cmp.{tied_itself}
use Rattle.std.proofs.lemmas.Map.Views.{tells_apart}
use Rattle.nd_map.specs.Counts.{at, only, at-only, at-absent, same, has_key, keys_of, entries}
use Rattle.nd_map.specs.Listed.{IsListed}
use Rattle.nd_map.specs.Entries.{all_found, find-index, absent_in_tail, listed-tail}
use Rattle.nd_time.specs.Time.{Time}
use Rattle.nd_time.specs.Listing.{time_cmp, time_total}
use Rattle.nd_vertex.specs.Items.{Items, item_cmp, item_key, item_total, item_exact}
use Rattle.nd_vertex.specs.Kept.{IsNumber, IsKept}
use Rattle.nd_vertex.specs.Edits.{LeadsTo, item_of, with_item, edited, keys}
use Rattle.nd_vertex.specs.declared.key.ItemKey.{ItemKey}
use Rattle.nd_vertex.specs.declared.effect.ItemEdit.{ItemEdit}
use Rattle.nd_vertex.proofs.EditsLemmas.{is_key, has, at_with}
use Rattle.std.proofs.lemmas.Bool.{or_parts}
use Rattle.nd_map.specs.Ends.{not_below, not_above}

-- whether an item is at a timestamp
abbrev pub is_at : Time → ItemKey → Bool
is_at t k = eq_by_cmp time_cmp k.time t

abbrev pub gone : ItemKey × ℤ → ItemEdit
gone e = record { key = e.0; old = Some e.1; new = None }

-- the edits that remove the entries at a timestamp
abbrev pub removed : Time → List (ItemKey × ℤ) → List ItemEdit
removed t es = map gone (filter (λ e. is_at t e.0) es)

-- one more entry
removed-cons : (t : Time) (e : ItemKey × ℤ) (es : List (ItemKey × ℤ)) (b : Bool) → is_at t e.0 ≡ b → removed t (e ∷ es) ≡ cond b (gone e ∷ removed t es) (removed t es)
removed-cons t e es true is = ap (λ c. map gone (cond c (e ∷ filter (λ x. is_at t x.0) es) (filter (λ x. is_at t x.0) es))) is
removed-cons t e es false is = ap (λ c. map gone (cond c (e ∷ filter (λ x. is_at t x.0) es) (filter (λ x. is_at t x.0) es))) is

-- ---- which items the edits are of

names : (a b c h : Bool) → (b ≡ true → a ≡ c) → cond c (b || (a && h)) (a && h) ≡ (a && (b || h))
names true true true h e = refl
names true true false h e = absurd (let f : true ≡ false = e refl in cc)
names false true true h e = absurd (let f : false ≡ true = e refl in cc)
names false true false h e = refl
names true false true h e = refl
names true false false h e = refl
names false false true h e = refl
names false false false h e = refl

pub has-removed : (t : Time) (es : List (ItemKey × ℤ)) (q : ItemKey) → has q (removed t es) ≡ (is_at t q && has_key item_cmp q (keys_of es))
has-removed t [] q = none (is_at t q)
  where
    none : (b : Bool) → false ≡ (b && false)
    none true = refl
    none false = refl
has-removed t (e ∷ es) q =
    ap (has q) (removed-cons t e es (is_at t e.0) refl) ∙ split (is_at t e.0)
    ∙ (λ i. cond (is_at t e.0) (is_key q e.0 || has-removed t es q i) (has-removed t es q i))
    ∙ names (is_at t q) (is_key q e.0) (is_at t e.0) (has_key item_cmp q (keys_of es)) (λ s. ap (is_at t) (tells_apart item_exact q e.0 s))
  where
    split : (b : Bool) → has q (cond b (gone e ∷ removed t es) (removed t es)) ≡ cond b (is_key q e.0 || has q (removed t es)) (has q (removed t es))
    split true = refl
    split false = refl

-- ---- the items that are left

taken : (b c : Bool) (z : ℤ) → cond c (pos 0) (cond b (pos 0) z) ≡ cond (b || c) (pos 0) z
taken true true z = refl
taken true false z = refl
taken false c z = refl

at-gone : (es : List (ItemKey × ℤ)) (m : Items) (q : ItemKey) → at (edited m (map gone es)) q ≡ cond (has q (map gone es)) (pos 0) (at m q)
at-gone [] m q = refl
at-gone (e ∷ es) m q =
    at-gone es (with_item m e.0 None) q ∙ ap (cond (has q (map gone es)) (pos 0)) (at_with m e.0 None q) ∙ taken (is_key q e.0) (has q (map gone es)) (at m q)

left : (a h : Bool) (z : ℤ) → (h ≡ false → z ≡ pos 0) → cond (a && h) (pos 0) z ≡ cond (not a) z (pos 0)
left true true z e = refl
left true false z e = e refl
left false h z e = refl

pub leaves : (t : Time) (m : Items) → edited m (removed t (entries m)) ≡ only item_total (λ (k : ItemKey). not (eq_by_cmp time_cmp k.time t)) m
leaves t m =
    same item_total item_exact _ _ (λ q.
    at-gone (filter (λ e. is_at t e.0) (entries m)) m q ∙ ap (λ b. cond b (pos 0) (at m q)) (has-removed t (entries m) q)
    ∙ left (is_at t q) (has_key item_cmp q (keys_of (entries m))) (at m q) (at-absent m q)
    ∙ sym (at-only item_total item_exact (λ (k : ItemKey). not (eq_by_cmp time_cmp k.time t)) m q))

-- ---- the edits can be applied

all_apart : (k : ItemKey) (es : List ItemEdit) → has k es ≡ false → AllByRecursion (λ y. is_key k y ≡ false) (keys es)
all_apart k [] h = tt
all_apart k (e ∷ es) h = let both = or_parts (is_key k e.key) (has k es) h in (both.0, all_apart k es both.1)

no_more : (a h : Bool) → h ≡ false → (a && h) ≡ false
no_more true h e = e
no_more false h e = refl

one_less : (b : Bool) (e : ItemEdit) (es : List ItemEdit) → has e.key es ≡ false → IsDistinct is_key (keys es) → IsDistinct is_key (keys (cond b (e ∷ es) es))
unfolding IsDistinct
one_less true e es h once = (all_apart e.key es h, once)
one_less false e es h once = once

pub once : (t : Time) (es : List (ItemKey × ℤ)) → IsListed item_cmp es → IsDistinct is_key (keys (removed t es))
unfolding IsDistinct
once t [] h = tt
once t (e ∷ es) h =
    let absent : has e.0 (removed t es) ≡ false
    = has-removed t es e.0 ∙ no_more (is_at t e.0) (has_key item_cmp e.0 (keys_of es)) (sym (is_some-find item_cmp e.0 es) ∙ ap is_some (absent_in_tail item_cmp e es h)) in
    subst (λ xs. IsDistinct is_key (keys xs)) (sym (removed-cons t e es (is_at t e.0) refl)) (one_less (is_at t e.0) (gone e) (removed t es) absent (once t es (listed-tail item_cmp e es h)))

-- each entry is found at its key
module _ (m : Items) (listed : IsListed item_cmp (entries m)) (found : (k : ItemKey) → find item_cmp k (entries m) ≡ item_of m k) (t : Time) where
  pub leads_removed : LeadsTo m (removed t (entries m)) (only item_total (λ (k : ItemKey). not (eq_by_cmp time_cmp k.time t)) m)
  leads_removed = record {
    can_edit = record {
      olds = All-map (λ e. item_of m e.key ≡ e.old) gone (filter (λ e. is_at t e.0) (entries m))
          (All-filter (λ e. is_at t e.0) (λ e. item_of m e.0 ≡ Some e.1) (entries m) (λ i d lt. sym (found (get_or (entries m) i d).0) ∙ find-index item_cmp item_total (entries m) i d listed lt));
      news = All-map (λ e. e.new ≢ Some (pos 0)) gone (filter (λ e. is_at t e.0) (entries m)) (λ i d lt e. absurd (cc));
      once = once t (entries m) listed;
    };
    changes = All-map (λ e. e.old ≢ e.new) gone (filter (λ e. is_at t e.0) (entries m)) (λ i d lt e. absurd (cc));
    edited_is = leaves t m;
  }

-- ---- the edits are those of the entries between two keys

-- the first and the last key at a timestamp
abbrev pub first_at : Time → ItemKey
first_at t = item_key t (negsuc (2 ^ 63 - 1))

abbrev pub last_at : Time → ItemKey
last_at t = item_key t (pos (2 ^ 63 - 1))

pub forward : (t : Time) → IsLeBy item_cmp (first_at t) (last_at t)
forward t = ap (λ r. is_gt (ordering_then r (int_cmp (negsuc (2 ^ 63 - 1)) (pos (2 ^ 63 - 1))))) (tied_itself time_total t)

-- an item that fits 64 bits is at a timestamp if it is between these keys
within : (t : Time) (k : ItemKey) → FitsSigned w64 k.item → range_contains item_cmp (Included (first_at t)) (Included (last_at t)) k ≡ is_at t k
within t k fits = rw (time_total.antisymm k.time t) (by (time_cmp t k.time))
  where
    by : (r : Ordering) → (is_le (ordering_then r (int_cmp (negsuc (2 ^ 63 - 1)) k.item)) && not (is_lt (ordering_then r (int_cmp (pos (2 ^ 63 - 1)) k.item)))) ≡ is_eq (ordering_reverse r)
    by Less = refl
    by Equal = λ i. not_below k.item fits i && not (not_above k.item fits i)
    by Greater = refl

-- tests that agree on each element leave the same elements
same_kept : {X : Type 0} (p q : X → Bool) (xs : List X) → All (λ x. p x ≡ q x) xs → filter p xs ≡ filter q xs
same_kept p q [] h = refl
same_kept p q (x ∷ xs) h =
    let rest = same_kept p q xs (λ i d lt. h (suc i) d (omega (arith, lt))) in
    λ i. cond (h 0 x (omega arith) i) (x ∷ rest i) (rest i)

pub removed_between : (t : Time) (es : List (ItemKey × ℤ)) → IsKept es → map gone (entries_between item_cmp (Included (first_at t)) (Included (last_at t)) es) ≡ removed t es
removed_between t es kept =
    ap (map gone)
    (same_kept (λ e. range_contains item_cmp (Included (first_at t)) (Included (last_at t)) e.0) (λ e. is_at t e.0) es
    (all_found item_cmp item_total (λ k _. range_contains item_cmp (Included (first_at t)) (Included (last_at t)) k ≡ is_at t k) es kept.listed
    (λ k v is. let number : IsNumber k v = subst (λ x. IfSome x (IsNumber k)) is (kept.numbers k) in within t k number.item)))
