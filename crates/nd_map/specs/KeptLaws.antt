-- Laws of entries as they are stored for a map without zeros.
--     each_put, _without     if each number satisfies P, it still does after an edit
--     kept_put, _without     the same, and the entries stay in order
--     found-put, -without            the number that a lookup finds after an edit
--     number_is                      what a lookup finds satisfies P, or is nil
--     of_put, _without               an edit of the entries is the same edit of their map
--     at_found                       the number that a lookup finds is that of their map
--     listed                         if nil does not satisfy P, the entries are those of their map
use Rattle.std.specs.Prelude.{◌≡◌, ◌≢◌, Bool, true, false, cond, List, Option, Some, None, IfSome, refl}
use Rattle.std.proofs.Common.{sym, ap, subst, ◌∙◌}
use Rattle.std.specs.declared.cmp.Ordering.{Ordering}
use Rattle.std.specs.Ordering.{eq_by_cmp}
use Rattle.std.specs.Cmp.{IsTotalOrder}
use Rattle.std.specs.FinMap.{IsAntisymmetric, find, put}
use Rattle.std.specs.FinMap.Entries.{find-put}
use Rattle.nd_map.specs.Counts.{Counts, Number, nil, or_else, or_else-cond, at, set, same, at-set, entries, of_entries, at-of_entries, entries-of_entries}
use Rattle.nd_map.specs.Listed.{without}
use Rattle.nd_map.specs.Maps.{find-without, listed-put, listed-without}
use Rattle.nd_map.specs.Kept.{EachIs, IsKept}

one_of : {X : Type 0} (P : X → Type 0) (b : Bool) (w x : Option X) → (b ≡ true → IfSome w P) → IfSome x P → IfSome (cond b w x) P
one_of P true w x g h = g refl
one_of P false w x g h = h

some : {X : Type 0} (P : X → Type 0) (z : X) → ((v : X) → P v → v ≢ z) → (x : Option X) → IfSome x P → x ≢ Some z
some P z other None h e = absurd (cc)
some P z other (Some v) h e = other v h (ap (or_else z) e)

either : {X : Type 0} (P Q : X → Type 0) (z : X) → ((v : X) → P v → Q v) → Q z → (x : Option X) → IfSome x P → Q (or_else z x)
either P Q z all here None h = here
either P Q z all here (Some v) h = all v h

module _ {K X : Type 0} (R : K → K → Ordering) (o : IsTotalOrder R) (es : List (K × X)) (k : K) where
  pub each_put : (P : K → X → Type 0) (v : X) → ((q : K) → eq_by_cmp R q k ≡ true → P q v) → EachIs R P es → EachIs R P (put R k v es)
  each_put P v here each q = subst (λ x. IfSome x (P q)) (sym (find-put R o q k v es)) (one_of (P q) (eq_by_cmp R q k) (Some v) (find R q es) (here q) (each q))

  pub each_without : (P : K → X → Type 0) → EachIs R P es → EachIs R P (without R k es)
  each_without P each q = subst (λ x. IfSome x (P q)) (sym (find-without R o q k es)) (one_of (P q) (eq_by_cmp R q k) None (find R q es) (λ _. tt) (each q))

  pub kept_put : (P : K → X → Type 0) (v : X) → ((q : K) → eq_by_cmp R q k ≡ true → P q v) → IsKept R P es → IsKept R P (put R k v es)
  kept_put P v here kept = record { listed = listed-put R o k v es kept.listed; numbers = each_put P v here kept.numbers }

  pub kept_without : (P : K → X → Type 0) → IsKept R P es → IsKept R P (without R k es)
  kept_without P kept = record { listed = listed-without R k es kept.listed; numbers = each_without P kept.numbers }

  pub found-put : (z v : X) (q : K) → or_else z (find R q (put R k v es)) ≡ cond (eq_by_cmp R q k) v (or_else z (find R q es))
  found-put z v q = ap (or_else z) (find-put R o q k v es) ∙ or_else-cond z (eq_by_cmp R q k) (Some v) (find R q es)

  pub found-without : (z : X) (q : K) → or_else z (find R q (without R k es)) ≡ cond (eq_by_cmp R q k) z (or_else z (find R q es))
  found-without z q = ap (or_else z) (find-without R o q k es) ∙ or_else-cond z (eq_by_cmp R q k) None (find R q es)

-- if Q holds of each number that P allows at a key, and of z, it holds of what a lookup finds there, or of z if it finds nothing
pub number_is : {K X : Type 0} (R : K → K → Ordering) (P : K → X → Type 0) (es : List (K × X)) → EachIs R P es → (Q : X → Type 0) (z : X) (k : K) → ((v : X) → P k v → Q v) → Q z → Q (or_else z (find R k es))
number_is R P es each Q z k all here = either (P k) Q z all here (find R k es) (each k)

-- entries, and m, the map of these entries
module _ {K X : Type 0} {R : K → K → Ordering} (N : Number X) (o : IsTotalOrder R) (tells : IsAntisymmetric R) (es : List (K × X)) (m : Counts R N) (is_m : of_entries o es ≡ m) where
  -- a lookup finds the number of the map
  pub at_found : (k : K) → or_else (nil N) (find R k es) ≡ at m k
  at_found k = sym (at-of_entries N o tells es k) ∙ ap (λ (c : Counts R N). at c k) is_m

  edited : (k : K) (v : X) (fs : List (K × X)) → ((q : K) → or_else (nil N) (find R q fs) ≡ cond (eq_by_cmp R q k) v (or_else (nil N) (find R q es))) → of_entries o fs ≡ set o m k v
  edited k v fs is =
      same o tells (of_entries o fs) (set o m k v) (λ q.
      at-of_entries N o tells fs q ∙ is q ∙ ap (cond (eq_by_cmp R q k) v) (at_found q) ∙ sym (at-set o m k v q))

  pub of_put : (k : K) (v : X) (fs : List (K × X)) → fs ≡ put R k v es → of_entries o fs ≡ set o m k v
  of_put k v fs is = ap (of_entries {N = N} o) is ∙ edited k v (put R k v es) (found-put R o es k (nil N) v)

  pub of_without : (k : K) (fs : List (K × X)) → fs ≡ without R k es → of_entries o fs ≡ set o m k (nil N)
  of_without k fs is = ap (of_entries {N = N} o) is ∙ edited k (nil N) (without R k es) (found-without R o es k (nil N))

  module _ (P : K → X → Type 0) (kept : IsKept R P es) where
    -- if Q holds of each number that P allows at a key, and of nil, it holds of the map's number at that key
    pub at_is : (Q : X → Type 0) (k : K) → ((v : X) → P k v → Q v) → Q (nil N) → Q (at m k)
    at_is Q k all here = subst Q (at_found k) (number_is R P es kept.numbers Q (nil N) k all here)

    -- if nil does not satisfy P
    module _ (other : (q : K) (v : X) → P q v → v ≢ nil N) where
      pub not_nil : (k : K) → find R k es ≢ Some (nil N)
      not_nil k = some (P k) (nil N) (other k) (find R k es) (kept.numbers k)

      -- the stored entries are those of their map, if nil does not satisfy P
      pub listed : es ≡ entries m
      listed = sym (entries-of_entries N o tells es kept.listed not_nil) ∙ ap entries is_m
