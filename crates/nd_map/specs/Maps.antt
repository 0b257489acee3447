-- Lists of entries in the order of their keys, and the finite maps of these entries:
--     find-without                  what is found after a key was removed
--     none_below                    nothing is found at a key that is below all others
--     put-same, without-none        putting what is there, or removing what is not there, changes nothing
--     from_entries-put, -without    an edit of the entries is the same edit of their map
--     entries-from_entries          the entries of their map are the entries themselves
-- By `same_map` of std, finite maps with equal lookups are equal; by `same_entries`, so are lists of entries.
use Rattle.std.specs.Prelude.{◌≡◌, Bool, true, false, cond, not, List, [], ◌∷◌, T, None, Some, unwrap_or, refl}
use Rattle.std.proofs.Common.{sym, ap, ◌∙◌}
use Rattle.std.specs.declared.cmp.Ordering.{Ordering}
use Rattle.std.specs.declared.cmp.Ordering.TheVariants.{Less, Equal, Greater}
use Rattle.std.specs.Ordering.{eq_by_cmp, is_eq}
use Rattle.std.specs.Cmp.{IsTotalOrder, eq_by_cmp_equiv}
use Rattle.std.proofs.lemmas.Cmp.{alike_right}
use Rattle.std.specs.FinMap.{IsAntisymmetric, entries, entries_sorted, insert, remove, from_entries, find, put, get-entries, get-insert, get-remove, get-from_entries, same_map}
use Rattle.std.specs.FinMap.Entries.{below_all, find-put, find-where_key, is_sorted-put, is_sorted-where_key, same_entries}
use Rattle.nd_map.specs.Cases.{first, second, less}
use Rattle.nd_map.specs.Listed.{IsListed, without}

turned : {A : Type 0} (b : Bool) (x y : A) → cond (not b) x y ≡ cond b y x
turned true x y = refl
turned false x y = refl

pub listed-without : {K X : Type 0} (R : K → K → Ordering) (k : K) (es : List (K × X)) → IsListed R es → IsListed R (without R k es)
listed-without R k es h = is_sorted-where_key R (λ q. not (eq_by_cmp R k q)) es h

pub without-none : {K X : Type 0} (R : K → K → Ordering) (k : K) (es : List (K × X)) → find R k es ≡ None → without R k es ≡ es
without-none R k [] is = refl
without-none R k (e ∷ es) is =
    elim (eq_by_cmp R k e.0) as (λ b. cond b (Some e.1) (find R k es) ≡ None → cond (not b) (e ∷ without R k es) (without R k es) ≡ e ∷ es) [
      | true ↦ λ n. absurd (cc)
      | false ↦ λ n. ap (λ fs. e ∷ fs) (without-none R k es n)
    ] is

module _ {K X : Type 0} (R : K → K → Ordering) (o : IsTotalOrder R) where
  pub none_below : (p : K) (es : List (K × X)) (x : K) → R p x ≡ Less → T (below_all R x es) → find R p es ≡ None
  none_below p [] x lt h = refl
  none_below p (e ∷ es) x lt h = ap (λ r. cond (is_eq r) (Some e.1) (find R p es)) (o.trans p x e.0 lt (less _ (first _ _ h))) ∙ none_below p es x lt (second _ _ h)

  pub put-same : (k : K) (v : X) (es : List (K × X)) → IsListed R es → find R k es ≡ Some v → put R k v es ≡ es
  put-same k v [] h is = absurd (cc)
  put-same k v (e ∷ es) h is = by (R k e.0) refl (put-same k v es (second (below_all R e.0 es) _ h))
    where
      by : (r : Ordering) → R k e.0 ≡ r → (find R k es ≡ Some v → put R k v es ≡ es) → put R k v (e ∷ es) ≡ e ∷ es
      by Less t rest = let some = rw t at is in let none = none_below k es e.0 t (first (below_all R e.0 es) _ h) in absurd (cc)
      by Equal t rest = let some = rw t at is in rw t (ap (λ x. (e.0, x) ∷ es) (sym (ap (λ x. unwrap_or x v) some)))
      by Greater t rest = rw t (ap (λ fs. e ∷ fs) (rest (rw t at is)))

  pub find-without : (q k : K) (es : List (K × X)) → find R q (without R k es) ≡ cond (eq_by_cmp R q k) None (find R q es)
  find-without q k es =
      find-where_key R (λ x. not (eq_by_cmp R k x)) q (λ x t. ap (λ r. not (is_eq r)) (sym (alike_right o q x k t))) es
      ∙ turned (eq_by_cmp R k q) (find R q es) None ∙ ap (λ b. cond b None (find R q es)) ((eq_by_cmp_equiv o).symm k q)

  pub listed-put : (k : K) (v : X) (es : List (K × X)) → IsListed R es → IsListed R (put R k v es)
  listed-put k v es h = is_sorted-put R o k v es h

  module _ (same : IsAntisymmetric R) where
    pub from_entries-put : (k : K) (v : X) (es : List (K × X)) → from_entries {R = R} (put R k v es) ≡ insert (from_entries es) k v
    from_entries-put k v es =
        same_map o same _ _ (λ q.
        get-from_entries o (put R k v es) q ∙ find-put R o q k v es
        ∙ sym (get-insert o (from_entries es) k v q ∙ ap (cond (eq_by_cmp R q k) _) (get-from_entries o es q)))

    pub from_entries-without : (k : K) (es : List (K × X)) → from_entries {R = R} (without R k es) ≡ remove (from_entries es) k
    from_entries-without k es =
        same_map o same _ _ (λ q.
        get-from_entries o (without R k es) q ∙ find-without q k es
        ∙ sym (get-remove o (from_entries es) k q ∙ ap (cond (eq_by_cmp R q k) None) (get-from_entries o es q)))

    pub entries-from_entries : (es : List (K × X)) → IsListed R es → entries (from_entries {R = R} es) ≡ es
    entries-from_entries es h =
        same_entries R o same (entries (from_entries {R = R} es)) es (entries_sorted (from_entries {R = R} es)) h
        (λ q. sym (get-entries (from_entries {R = R} es) q) ∙ get-from_entries o es q)
