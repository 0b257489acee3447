-- Edits one after another: their result, the orders in which they can be applied, and their inverses.
use Rattle.std.proofs.Common.{◌≡◌, ◌≢◌, ◌<◌, ◌+◌, ℕ, zero, suc, ℤ, pos, negsuc, Bool, true, false, cond, not, List, [], ◌∷◌, ◌++◌, length, take, get_or, map, Option, Some, None, refl, sym, ap, subst, ◌∙◌, arith}
use Rattle.std.specs.Prelude.{is_none, is_some, All}
use Rattle.std.specs.List.{IsDistinct, AllByRecursion, filter}
use Rattle.std.proofs.lemmas.List.{take_more, get_or-map, length-map}
use Rattle.std.proofs.lemmas.List.Elements.{filter-append}
use Rattle.std.proofs.lemmas.Cmp.{eq_by_cmp_equiv, tied_itself}
use Rattle.std.proofs.lemmas.Map.Views.{tells_apart}
use Rattle.std.specs.Ordering.{eq_by_cmp, is_eq}
use Rattle.nd_map.specs.Counts.{at, same, at-set, has_key}
use Rattle.nd_vertex.specs.Items.{Items, item_cmp, item_total, item_exact}
use Rattle.nd_vertex.specs.Table.{is_zero}
use Rattle.nd_vertex.specs.Edits.{item_of, number_of, with_item, edited, keys, turned, directed, CanEdit}
use Rattle.nd_vertex.specs.declared.key.ItemKey.{ItemKey}
use Rattle.nd_vertex.specs.declared.effect.ItemEdit.{ItemEdit}
use Rattle.nd_vertex.proofs.KeptLemmas.{there_at}
use Rattle.std.proofs.lemmas.Bool.{or_parts, or_from}
use Rattle.nd_map.specs.Cases.{again}

abbrev pub is_key : ItemKey → ItemKey → Bool
is_key = eq_by_cmp item_cmp

-- whether one of the edits is of this item
abbrev pub has : ItemKey → List ItemEdit → Bool
has q es = has_key item_cmp q (keys es)

-- ---- one item

pub at_with : (m : Items) (k : ItemKey) (n : Option ℤ) (q : ItemKey) → at (with_item m k n) q ≡ cond (is_key q k) (number_of n) (at m q)
at_with m k n q = at-set item_total m k (number_of n) q

pub itself : (k : ItemKey) → is_key k k ≡ true
itself k = ap is_eq (tied_itself item_total k)

turn : (a b : ItemKey) → is_key a b ≡ is_key b a
turn a b = (eq_by_cmp_equiv item_total).symm a b

-- items that have the same number at a key have the same item there
of_at : (m n : Items) (k : ItemKey) → at m k ≡ at n k → item_of m k ≡ item_of n k
of_at m n k e = ap (λ z. cond (is_zero z) None (Some z)) e

number : (z : ℤ) → number_of (cond (is_zero z) None (Some z)) ≡ z
number (pos zero) = refl
number (pos (suc n)) = refl
number (negsuc n) = refl

kept : {X : Type 0} (b : Bool) (w x : X) → (b ≡ true → w ≡ x) → cond b w x ≡ x
kept true w x e = e refl
kept false w x e = refl

-- an item is restored
pub put_back : (m : Items) (k : ItemKey) (n o : Option ℤ) → item_of m k ≡ o → with_item (with_item m k n) k o ≡ m
put_back m k n o was =
    same item_total item_exact _ _ (λ q.
    at_with (with_item m k n) k o q ∙ ap (cond (is_key q k) (number_of o)) (at_with m k n q)
    ∙ again (is_key q k) (number_of n) (number_of o) (at m q) (λ e. ap number_of (sym was) ∙ number (at m k) ∙ ap (at m) (sym (tells_apart item_exact q k e))))

-- an item is set to the number that it has
pub put_same : (m : Items) (k : ItemKey) (n : Option ℤ) → item_of m k ≡ n → with_item m k n ≡ m
put_same m k n was =
    same item_total item_exact _ _ (λ q.
    at_with m k n q ∙ kept (is_key q k) (number_of n) (at m q) (λ e. ap number_of (sym was) ∙ number (at m k) ∙ ap (at m) (sym (tells_apart item_exact q k e))))

pub number_at : (m : Items) (k : ItemKey) → number_of (item_of m k) ≡ at m k
number_at m k = number (at m k)

pub item_put : (m : Items) (k : ItemKey) (n : Option ℤ) → n ≢ Some (pos 0) → item_of (with_item m k n) k ≡ n
item_put m k n some = sym (there_at (with_item m k n) k n some (sym (at_with m k n k ∙ ap (λ b. cond b (number_of n) (at m k)) (itself k))))

two : {X : Type 0} (a b : Bool) (u v x : X) → (a ≡ true → b ≡ true → ⊥) → cond b v (cond a u x) ≡ cond a u (cond b v x)
two true true u v x apart = absurd (apart refl refl)
two true false u v x apart = refl
two false b u v x apart = refl

-- two items can be changed in either order
swap : (m : Items) (j k : ItemKey) (u v : Option ℤ) → is_key j k ≡ false → with_item (with_item m j u) k v ≡ with_item (with_item m k v) j u
swap m j k u v apart =
    same item_total item_exact _ _ (λ q.
    at_with (with_item m j u) k v q ∙ ap (cond (is_key q k) (number_of v)) (at_with m j u q)
    ∙ two (is_key q j) (is_key q k) (number_of u) (number_of v) (at m q) (λ a b. differ q a b)
    ∙ sym (at_with (with_item m k v) j u q ∙ ap (cond (is_key q j) (number_of u)) (at_with m k v q)))
  where
    differ : (q : ItemKey) → is_key q j ≡ true → is_key q k ≡ true → ⊥
    differ q a b = let e : is_key j k ≡ true = subst (λ x. is_key x k ≡ true) (tells_apart item_exact q j a) b in absurd (cc)

-- ---- several

pub edited-append : (m : Items) (xs ys : List ItemEdit) → edited m (xs ++ ys) ≡ edited (edited m xs) ys
edited-append m [] ys = refl
edited-append m (x ∷ xs) ys = edited-append (with_item m x.key x.new) xs ys

-- an item that no edit changes
pub untouched : (m : Items) (es : List ItemEdit) (q : ItemKey) → has q es ≡ false → at (edited m es) q ≡ at m q
untouched m [] q h = refl
untouched m (e ∷ es) q h =
    let both = or_parts (is_key q e.key) (has q es) h in
    untouched (with_item m e.key e.new) es q both.1 ∙ at_with m e.key e.new q ∙ ap (λ b. cond b (number_of e.new) (at m q)) both.0

-- an edit before edits of other items can be applied after them
pub later : (m : Items) (k : ItemKey) (n : Option ℤ) (es : List ItemEdit) → has k es ≡ false → edited (with_item m k n) es ≡ with_item (edited m es) k n
later m k n [] h = refl
later m k n (e ∷ es) h =
    let both = or_parts (is_key k e.key) (has k es) h in
    ap (λ s. edited s es) (swap m k e.key n e.new both.0) ∙ later (with_item m e.key e.new) k n es both.1

-- ---- no item is edited twice

abbrev pub Once : List ItemEdit → Type 0
Once es = IsDistinct is_key (keys es)

apart : (k : ItemKey) (es : List ItemEdit) → AllByRecursion (λ y. is_key k y ≡ false) (keys es) → has k es ≡ false
apart k [] h = refl
apart k (e ∷ es) h = or_from (is_key k e.key) (has k es) h.0 (apart k es h.1)

at_place : (k : ItemKey) (es : List ItemEdit) (i : ℕ) (d : ItemEdit) → AllByRecursion (λ y. is_key k y ≡ false) (keys es) → i < length es → is_key k (get_or es i d).key ≡ false
at_place k [] i d h lt = absurd (omega arith)
at_place k (e ∷ es) zero d h lt = h.0
at_place k (e ∷ es) (suc i) d h lt = at_place k es i d h.1 (omega arith)

-- the item of an edit is not in an earlier edit
pub before : (es : List ItemEdit) (i : ℕ) (d : ItemEdit) → Once es → i < length es → has (get_or es i d).key (take i es) ≡ false
unfolding IsDistinct
before [] i d once lt = absurd (omega arith)
before (e ∷ es) zero d once lt = refl
before (e ∷ es) (suc i) d once lt =
    or_from (is_key (get_or es i d).key e.key) (has (get_or es i d).key (take i es)) (turn (get_or es i d).key e.key ∙ at_place e.key es i d once.0 (omega arith)) (before es i d once.1 (omega arith))

fewer : (b : Bool) (q : ItemKey) (e : ItemEdit) (es : List ItemEdit) → is_key q e.key ≡ false → has q es ≡ false → has q (cond b (e ∷ es) es) ≡ false
fewer true q e es h g = or_from (is_key q e.key) (has q es) h g
fewer false q e es h g = g

pub not_among : (p : ItemEdit → Bool) (es : List ItemEdit) (q : ItemKey) → has q es ≡ false → has q (filter p es) ≡ false
not_among p [] q h = refl
not_among p (e ∷ es) q h =
    let both = or_parts (is_key q e.key) (has q es) h in
    fewer (p e) q e (filter p es) both.0 (not_among p es q both.1)

-- the item of an edit that fails the test is in no edit that passes it
pub of_kind : (p : ItemEdit → Bool) (es : List ItemEdit) (i : ℕ) (d : ItemEdit) → Once es → i < length es → p (get_or es i d) ≡ false → has (get_or es i d).key (filter p es) ≡ false
unfolding IsDistinct
of_kind p [] i d once lt kind = absurd (omega arith)
of_kind p (e ∷ es) zero d once lt kind = ap (λ b. has e.key (cond b (e ∷ filter p es) (filter p es))) kind ∙ not_among p es e.key (apart e.key es once.0)
of_kind p (e ∷ es) (suc i) d once lt kind =
    fewer (p e) (get_or es i d).key e (filter p es) (turn (get_or es i d).key e.key ∙ at_place e.key es i d once.0 (omega arith)) (of_kind p es i d once.1 (omega arith) kind)

-- the edits of one kind can be applied before the others
pub reordered : (p : ItemEdit → Bool) (m : Items) (es : List ItemEdit) → Once es → edited (edited m (filter p es)) (filter (λ e. not (p e)) es) ≡ edited m es
unfolding IsDistinct
reordered p m [] once = refl
reordered p m (e ∷ es) once =
    first (p e) ∙ reordered p (with_item m e.key e.new) es once.1
  where
    first : (b : Bool) → edited (edited m (cond b (e ∷ filter p es) (filter p es))) (cond (not b) (e ∷ filter (λ x. not (p x)) es) (filter (λ x. not (p x)) es))
        ≡ edited (edited (with_item m e.key e.new) (filter p es)) (filter (λ x. not (p x)) es)
    first true = refl
    first false = ap (λ s. edited s (filter (λ x. not (p x)) es)) (sym (later m e.key e.new (filter p es) (not_among p es e.key (apart e.key es once.0))))

-- one more edit
pub next : (p : ItemEdit → Bool) (m : Items) (es : List ItemEdit) (i : ℕ) (x : ItemEdit) → i < length es → x ≡ get_or es i x
    → edited m (filter p (take (i + 1) es)) ≡ cond (p x) (with_item (edited m (filter p (take i es))) x.key x.new) (edited m (filter p (take i es)))
next p m es i x lt is =
    ap (λ xs. edited m (filter p xs)) (take_more es i x lt ∙ ap (λ y. take i es ++ y ∷ []) (sym is)) ∙ ap (edited m) (filter-append p (take i es) (x ∷ []))
    ∙ edited-append m (filter p (take i es)) (filter p (x ∷ [])) ∙ one (p x)
  where
    one : (b : Bool) → edited (edited m (filter p (take i es))) (cond b (x ∷ []) []) ≡ cond b (with_item (edited m (filter p (take i es))) x.key x.new) (edited m (filter p (take i es)))
    one true = refl
    one false = refl

abbrev pub adds : ItemEdit → Bool
adds e = is_none e.old

abbrev pub others : ItemEdit → Bool
others e = not (adds e)

pub present : (o : Option ℤ) → is_some o ≡ true → is_none o ≡ false
present None h = absurd (cc)
present (Some z) h = refl

pub absent : (o : Option ℤ) (r : Bool) → is_some o ≡ not r → r ≡ is_none o
absent None true e = refl
absent None false e = absurd (cc)
absent (Some z) true e = absurd (cc)
absent (Some z) false e = refl

pub other : (o : Option ℤ) → is_some o ≡ not (is_none o)
other None = refl
other (Some z) = refl

module _ (m : Items) (es : List ItemEdit) (can : CanEdit m es) (i : ℕ) (x : ItemEdit) (lt : i < length es) (is : x ≡ get_or es i x) where
  was : item_of m x.key ≡ x.old
  was = subst (λ y. item_of m y.key ≡ y.old) (sym is) (can.olds i x lt)

  pub new_some : x.new ≢ Some (pos 0)
  new_some = subst (λ y. y.new ≢ Some (pos 0)) (sym is) (can.news i x lt)

  -- the item of an edit, after the earlier edits of one kind
  pub still : (p : ItemEdit → Bool) → item_of (edited m (filter p (take i es))) x.key ≡ x.old
  still p =
      of_at (edited m (filter p (take i es))) m x.key (untouched m (filter p (take i es)) x.key (not_among p (take i es) x.key (subst (λ y. has y.key (take i es) ≡ false) (sym is) (before es i x can.once lt)))) ∙ was

  -- the item of an edit, after all edits of one kind and the earlier other edits
  pub still_other : (p r : ItemEdit → Bool) → p x ≡ false → item_of (edited (edited m (filter p es)) (filter r (take i es))) x.key ≡ x.old
  still_other p r kind =
      of_at (edited (edited m (filter p es)) (filter r (take i es))) m x.key
      (untouched (edited m (filter p es)) (filter r (take i es)) x.key (not_among r (take i es) x.key (subst (λ y. has y.key (take i es) ≡ false) (sym is) (before es i x can.once lt)))
      ∙ untouched m (filter p es) x.key (subst (λ y. has y.key (filter p es) ≡ false) (sym is) (of_kind p es i x can.once lt (subst (λ y. p y ≡ false) is kind))))
      ∙ was

  -- an edit of one kind is undone
  pub taken_back : (p : ItemEdit → Bool) → cond (p x) (with_item (edited m (filter p (take (i + 1) es))) x.key x.old) (edited m (filter p (take (i + 1) es))) ≡ edited m (filter p (take i es))
  taken_back p = ap (λ s. cond (p x) (with_item s x.key x.old) s) (next p m es i x lt is) ∙ back (p x)
    where
      back : (b : Bool) → cond b (with_item (cond b (with_item (edited m (filter p (take i es))) x.key x.new) (edited m (filter p (take i es)))) x.key x.old) (cond b (with_item (edited m (filter p (take i es))) x.key x.new) (edited m (filter p (take i es))))
          ≡ edited m (filter p (take i es))
      back true = put_back (edited m (filter p (take i es))) x.key x.new x.old (still p)
      back false = refl

  -- the item has the new number before that
  pub stands : (p : ItemEdit → Bool) → p x ≡ true → item_of (edited m (filter p (take (i + 1) es))) x.key ≡ x.new
  stands p kind = ap (λ s. item_of s x.key) (next p m es i x lt is ∙ ap (λ b. cond b (with_item (edited m (filter p (take i es))) x.key x.new) (edited m (filter p (take i es)))) kind) ∙ item_put (edited m (filter p (take i es))) x.key x.new new_some

-- the edit at an index, or its inverse
pub directed_at : (back : Bool) (es : List ItemEdit) (i : ℕ) (x d : ItemEdit) → i < length es → x ≡ get_or es i x → d ≡ cond back (turned x) x → d ≡ get_or (directed back es) i d
directed_at back es i x d lt is e = e ∙ ap (λ y. cond back (turned y) y) is ∙ sym (get_or-map (λ y. cond back (turned y) y) es i x d lt)

-- ---- undoing edits

pub undone : (m : Items) (es : List ItemEdit) → Once es → All (λ e. item_of m e.key ≡ e.old) es → edited (edited m es) (map turned es) ≡ m
unfolding IsDistinct
undone m [] once olds = refl
undone m (e ∷ es) once olds =
    let alone : has e.key es ≡ false = apart e.key es once.0 in
    ap (λ s. edited (with_item s e.key e.old) (map turned es)) (later m e.key e.new es alone)
    ∙ ap (λ s. edited s (map turned es)) (put_back (edited m es) e.key e.new e.old (of_at (edited m es) m e.key (untouched m es e.key alone) ∙ olds 0 e (omega arith)))
    ∙ undone m es once.1 (λ i d lt. olds (suc i) d (omega arith))

-- the items after the edits
pub lands : (m : Items) (es : List ItemEdit) → Once es → All (λ e. e.new ≢ Some (pos 0)) es → All (λ e. item_of (edited m es) e.key ≡ e.new) es
unfolding IsDistinct
lands m [] once news i d lt = absurd (omega arith)
lands m (e ∷ es) once news zero d lt =
    of_at (edited (with_item m e.key e.new) es) (with_item m e.key e.new) e.key (untouched (with_item m e.key e.new) es e.key (apart e.key es once.0)) ∙ item_put m e.key e.new (news 0 e (omega arith))
lands m (e ∷ es) once news (suc i) d lt = lands (with_item m e.key e.new) es once.1 (λ j x less. news (suc j) x (omega arith)) i d (omega arith)

not_zero : (z : ℤ) → cond (is_zero z) None (Some z) ≢ Some (pos 0)
not_zero (pos zero) e = absurd (cc)
not_zero (pos (suc n)) e = absurd (cc)
not_zero (negsuc n) e = absurd (cc)

keys_turned : (es : List ItemEdit) → keys (map turned es) ≡ keys es
keys_turned [] = refl
keys_turned (e ∷ es) = ap (λ ks. e.key ∷ ks) (keys_turned es)

turned_each : (P : ItemEdit → Type 0) (es : List ItemEdit) → All (λ e. P (turned e)) es → All P (map turned es)
turned_each P es all i d lt =
    let less : i < length es = rw length-map at lt in
    subst P (sym (get_or-map turned es i (turned d) d less)) (all i (turned d) less)

pub can_turn : (m : Items) (es : List ItemEdit) → CanEdit m es → CanEdit (edited m es) (map turned es)
can_turn m es can = record {
  olds = turned_each (λ e. item_of (edited m es) e.key ≡ e.old) es (lands m es can.once can.news);
  news = turned_each (λ e. e.new ≢ Some (pos 0)) es (λ i d lt. subst (λ n. n ≢ Some (pos 0)) (can.olds i d lt) (not_zero (at m (get_or es i d).key)));
  once = subst (IsDistinct is_key) (sym (keys_turned es)) can.once;
}

pub straight : (es : List ItemEdit) → directed false es ≡ es
straight [] = refl
straight (e ∷ es) = ap (λ xs. e ∷ xs) (straight es)
