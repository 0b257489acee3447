-- The terms of std's tree, in terms of lists in the order of their keys.
use Rattle.std.proofs.Common.{◌≡◌, ◌<◌, ◌+◌, ℕ, suc, Bool, true, false, cond, not, ◌&&◌, T, List, [], ◌∷◌, ◌++◌, length, get_or, drop, Option, Some, None, Result, Ok, IfOk, Ordering, Less, Equal, Greater, refl, sym, ap, subst, ◌∙◌, append_assoc, add-one}
use Rattle.std.specs.Ordering.{eq_by_cmp, is_lt, match_ordering, ordering_reverse}
use Rattle.std.specs.Cmp.{IsTotalOrder, eq_by_cmp_equiv}
use Rattle.std.specs.List.{AllByRecursion}
use Rattle.std.specs.List.Sorted.{IsStrictlySortedBy}
use Rattle.std.specs.Map.{keys_of, lookup, remove_entry}
use Rattle.std.specs.BTreeMap.{BTreeMap, IsFromIterResult, is_at, insert_entry}
use Rattle.std.specs.FinMap.{IsAntisymmetric, find, put}
use Rattle.std.specs.FinMap.Entries.{below_all, by_order, same_entries}
use Rattle.std.proofs.lemmas.Map.Keys.{IsDistinct-from_sorted}
use Rattle.std.proofs.lemmas.Map.Made.{update_all_none}
use Rattle.nd_map.specs.Listed.{IsListed, without}
use Rattle.nd_map.specs.Entries.{drop-at}
use Rattle.nd_map.specs.Edits.{edited}
use Rattle.nd_map.specs.Maps.{listed-put, listed-without}
use Rattle.nd_map.specs.declared.tree.Edit.{Edit}
use Rattle.nd_map.specs.declared.tree.Edit.TheVariants.{Keep, Put, Remove}
use Rattle.nd_map.proofs.Places.{keeps}
use Rattle.nd_map.specs.Cases.{first, second, less, equal}

placed : {A : Type 0} (r : Ordering) (a b x y : A) → x ≡ y → match_ordering r a b x ≡ by_order r a b y
placed Less a b x y e = refl
placed Equal a b x y e = refl
placed Greater a b x y e = e

both : (a b : Bool) → T a → T b → T (a && b)
both true b p q = q
both false b p q = p

module _ {K X : Type 0} (R : K → K → Ordering) where
  pub find_is : (k : K) (es : List (K × X)) → lookup (is_at (R k)) es ≡ find R k es
  find_is k [] = refl
  find_is k (e ∷ es) = ap (cond (is_at (R k) e.0) (Some e.1)) (find_is k es)

  pub put_is : (k : K) (v : X) (es : List (K × X)) → insert_entry R es k v ≡ put R k v es
  put_is k v [] = refl
  put_is k v (e ∷ es) = placed (R k e.0) ((k, v) ∷ e ∷ es) ((e.0, v) ∷ es) (e ∷ insert_entry R es k v) (e ∷ put R k v es) (ap (λ fs. e ∷ fs) (put_is k v es))

  below : (x : K) (es : List (K × X)) → T (below_all R x es) → AllByRecursion (λ y. R x y ≡ Less) (keys_of es)
  below x [] h = tt
  below x (e ∷ es) h = (less _ (first (is_lt (R x e.0)) _ h), below x es (second (is_lt (R x e.0)) _ h))

  increasing : (es : List (K × X)) → IsListed R es → IsStrictlySortedBy R (keys_of es)
  unfolding IsStrictlySortedBy
  increasing [] h = tt
  increasing (e ∷ es) h = (below e.0 es (first (below_all R e.0 es) _ h), increasing es (second (below_all R e.0 es) _ h))

  all_below : (x : K) (es : List (K × X)) → AllByRecursion (λ y. R x y ≡ Less) (keys_of es) → T (below_all R x es)
  all_below x [] h = tt
  all_below x (e ∷ es) h = rw h.0 (all_below x es h.1)

  listed : (es : List (K × X)) → IsStrictlySortedBy R (keys_of es) → IsListed R es
  unfolding IsStrictlySortedBy
  listed [] h = tt
  listed (e ∷ es) h = both (below_all R e.0 es) _ (all_below e.0 es h.0) (listed es h.1)

  module _ (o : IsTotalOrder R) where
    pub without_is : (k : K) (es : List (K × X)) → IsListed R es → remove_entry (is_at (R k)) es ≡ without R k es
    without_is k [] h = refl
    without_is k (e ∷ es) h =
        elim (eq_by_cmp R k e.0) as (λ b. eq_by_cmp R k e.0 ≡ b → cond b es (e ∷ remove_entry (is_at (R k)) es) ≡ cond (not b) (e ∷ without R k es) (without R k es)) [
          | true ↦ λ t. sym (keeps R o k es e.0 (equal _ t) (first (below_all R e.0 es) _ h))
          | false ↦ λ t. ap (λ fs. e ∷ fs) (without_is k es (second (below_all R e.0 es) _ h))
        ] refl

    above : (x k : K) (v : X) (es fs : List (K × X)) → T (below_all R x (es ++ (k, v) ∷ fs)) → R x k ≡ Less
    above x k v [] fs h = less _ (first (is_lt (R x k)) _ h)
    above x k v (e ∷ es) fs h = above x k v es fs (second (is_lt (R x e.0)) _ h)

    -- an entry whose key is above all others comes last
    put_last : (k : K) (v : X) (es fs : List (K × X)) → IsListed R (es ++ (k, v) ∷ fs) → put R k v es ≡ es ++ (k, v) ∷ []
    put_last k v [] fs h = refl
    put_last k v (e ∷ es) fs h =
        let past : R k e.0 ≡ Greater = o.antisymm k e.0 ∙ ap ordering_reverse (above e.0 k v es fs (first (below_all R e.0 (es ++ (k, v) ∷ fs)) _ h)) in
        rw past (ap (λ gs. e ∷ gs) (put_last k v es fs (second (below_all R e.0 (es ++ (k, v) ∷ fs)) _ h)))

    listed_edited : (k : K) (v : X) (said : Option (Edit X)) (es : List (K × X)) → IsListed R es → IsListed R (edited R k v said es)
    listed_edited k v None es h = listed-put R o k v es h
    listed_edited k v (Some Keep) es h = h
    listed_edited k v (Some (Put w)) es h = listed-put R o k w es h
    listed_edited k v (Some Remove) es h = listed-without R k es h

    -- entries are still sorted after an edit
    pub listed_after : {E : Type 0} (r : Result (Option (Edit X)) E) (k : K) (v : X) (es fs : List (K × X)) (said : Option (Edit X)) → r ≡ Ok said → IfOk r (λ e. fs ≡ edited R k v e es) → IsListed R es → IsListed R fs
    listed_after r k v es fs said is done h = subst (IsListed R) (sym (subst (λ x. IfOk x (λ e. fs ≡ edited R k v e es)) is done)) (listed_edited k v said es h)

    -- the entry that follows the first entries is put last
    pub put_next : (k : K) (v : X) (so_far es : List (K × X)) (i : ℕ) → i < length es → (k, v) ≡ get_or es i (k, v) → IsListed R es → so_far ++ drop i es ≡ es → put R k v so_far ++ drop (i + 1) es ≡ es
    put_next k v so_far es i lt is h whole =
        let rest : List (K × X) = drop (suc i) es in
        let split : so_far ++ (k, v) ∷ rest ≡ es = ap (λ fs. so_far ++ fs) (sym (drop-at es i (k, v) lt is)) ∙ whole in
        rw (add-one i) (ap (λ fs. fs ++ rest) (put_last k v so_far rest (subst (IsListed R) (sym split) h)) ∙ append_assoc so_far ((k, v) ∷ []) rest ∙ split)

    -- a tree made of entries whose keys strictly increase holds these entries
    pub made_of : IsAntisymmetric R → (es : List (K × X)) → IsListed R es → (n : BTreeMap K X) → IsFromIterResult R es n → n.entries ≡ es
    made_of same es h n made =
        let distinct = IsDistinct-from_sorted R (keys_of es) (increasing es h) in
        same_entries R o same n.entries es (listed n.entries made.1) h (λ q.
        sym (find_is q n.entries) ∙ made.0 q ∙ update_all_none (eq_by_cmp_equiv o) (eq_by_cmp R) (λ _ _. refl) es q distinct ∙ find_is q es)
