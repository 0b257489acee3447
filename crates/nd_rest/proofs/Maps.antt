-- Changes at two keys of a map, in either order.
use Rattle.std.proofs.Common.{◌≡◌, ◌⊎◌, inl, inr, Ordering, ℕ, ◌+◌, ℤ, pos, ◌+ℤ◌, Bool, true, false, cond, Option, Some, None, refl, sym, ap, ◌∙◌, arith}
use Rattle.std.proofs.lemmas.Int.{ints}
use Rattle.std.proofs.lemmas.Map.Views.{tells_apart}
use Rattle.std.proofs.lemmas.Cmp.{tied_itself}
use Rattle.std.specs.Prelude.{◌≢◌}
use Rattle.std.specs.Cmp.{IsTotalOrder}
use Rattle.std.specs.FinMap as fin
use Rattle.std.specs.FinMap.{IsAntisymmetric}
use Rattle.std.specs.Ordering.{eq_by_cmp, is_eq}
use Rattle.nd_map.specs.Counts.{Counts, Number, naturals, integers, at, set, added, at-set, same}

-- ---- equal or not

-- a test that is false unless the keys are equal
pub apart : {K : Type 0} {R : K → K → Ordering} → IsAntisymmetric R → (j k : K) → j ≢ k → eq_by_cmp R j k ≡ false
apart {R = R} tells j k other = by (eq_by_cmp R j k) refl
  where
    by : (b : Bool) → eq_by_cmp R j k ≡ b → b ≡ false
    by true e = absurd (other (tells_apart tells j k e))
    by false e = refl

pub ties : {K : Type 0} {R : K → K → Ordering} → IsTotalOrder R → (k : K) → eq_by_cmp R k k ≡ true
ties o k = ap is_eq (tied_itself o k)

-- two keys are equal, or they are not
pub same_or_not : {K : Type 0} (R : K → K → Ordering) → IsTotalOrder R → IsAntisymmetric R → (j k : K) → (j ≡ k) ⊎ (j ≢ k)
same_or_not R o tells j k = by (eq_by_cmp R j k) refl
  where
    by : (b : Bool) → eq_by_cmp R j k ≡ b → (j ≡ k) ⊎ (j ≢ k)
    by true e = inl (tells_apart tells j k e)
    by false e = inr (λ is. absurd (cc (e, ap (λ x. eq_by_cmp R x k) is, ties o k)))

-- ---- two keys

pub over : {X : Type 0} (b c : Bool) (x y z : X) → (b ≡ true → c ≡ true → ⊥) → cond b x (cond c y z) ≡ cond c y (cond b x z)
over true true x y z h = absurd (h refl refl)
over true false x y z h = refl
over false c x y z h = refl

module _ {K X : Type 0} {R : K → K → Ordering} {N : Number X} (o : IsTotalOrder R) (tells : IsAntisymmetric R) where
  -- the number at another key
  pub at-set_other : (m : Counts R N) (k : K) (v : X) (q : K) → q ≢ k → at (set o m k v) q ≡ at m q
  at-set_other m k v q other = at-set o m k v q ∙ ap (λ b. cond b v (at m q)) (apart tells q k other)

  -- two keys are set in either order
  pub set-comm : (m : Counts R N) (j k : K) (v w : X) → j ≢ k → set o (set o m j v) k w ≡ set o (set o m k w) j v
  set-comm m j k v w other =
      same o tells _ _ (λ q.
      at-set o (set o m j v) k w q ∙ ap (cond (eq_by_cmp R q k) w) (at-set o m j v q)
      ∙ over (eq_by_cmp R q k) (eq_by_cmp R q j) w v (at m q) (λ e f. other (sym (tells_apart tells q j f) ∙ tells_apart tells q k e))
      ∙ sym (at-set o (set o m k w) j v q ∙ ap (cond (eq_by_cmp R q j) v) (at-set o m k w q)))

-- ---- numbers that are added

more_here : (b : Bool) (x y z : ℤ) → (b ≡ true → x ≡ y) → cond b (x +ℤ z) y ≡ cond b (y +ℤ z) y
more_here true x y z e = ap (λ w. w +ℤ z) (e refl)
more_here false x y z e = refl

twice_added : (b c : Bool) (x v w : ℤ) → cond b (cond c (x +ℤ v) x +ℤ w) (cond c (x +ℤ v) x) ≡ cond c (cond b (x +ℤ w) x +ℤ v) (cond b (x +ℤ w) x)
twice_added true true x v w = omega (arith, ints)
twice_added true false x v w = refl
twice_added false true x v w = refl
twice_added false false x v w = refl

module _ {K : Type 0} {R : K → K → Ordering} (o : IsTotalOrder R) (tells : IsAntisymmetric R) where
  at-added : (m : Counts R integers) (k : K) (v : ℤ) (q : K) → at (added o m k v) q ≡ cond (eq_by_cmp R q k) (at m q +ℤ v) (at m q)
  at-added m k v q = at-set o m k (at m k +ℤ v) q ∙ more_here (eq_by_cmp R q k) (at m k) (at m q) v (λ e. ap (at m) (sym (tells_apart tells q k e)))

  -- two numbers are added in either order
  pub added-comm : (m : Counts R integers) (j k : K) (v w : ℤ) → added o (added o m j v) k w ≡ added o (added o m k w) j v
  added-comm m j k v w =
      same o tells _ _ (λ q.
      at-added (added o m j v) k w q ∙ ap (λ x. cond (eq_by_cmp R q k) (x +ℤ w) x) (at-added m j v q)
      ∙ twice_added (eq_by_cmp R q k) (eq_by_cmp R q j) (at m q) v w
      ∙ sym (at-added (added o m k w) j v q ∙ ap (λ x. cond (eq_by_cmp R q j) (x +ℤ v) x) (at-added m k w q)))

more_there : (b : Bool) (x y n : ℕ) → (b ≡ true → x ≡ y) → cond b (x + n) y ≡ cond b (y + n) y
more_there true x y n e = ap (λ w. w + n) (e refl)
more_there false x y n e = refl

twice_more : (b c : Bool) (x v w : ℕ) → cond b (cond c (x + v) x + w) (cond c (x + v) x) ≡ cond c (cond b (x + w) x + v) (cond b (x + w) x)
twice_more true true x v w = omega arith
twice_more true false x v w = refl
twice_more false true x v w = refl
twice_more false false x v w = refl

-- the same for natural numbers
module _ {K : Type 0} {R : K → K → Ordering} (o : IsTotalOrder R) (tells : IsAntisymmetric R) where
  at-more : (m : Counts R naturals) (k : K) (n : ℕ) (q : K) → at (added o m k (pos n)) q ≡ cond (eq_by_cmp R q k) (at m q + n) (at m q)
  at-more m k n q = at-set o m k (at m k + n) q ∙ more_there (eq_by_cmp R q k) (at m k) (at m q) n (λ e. ap (at m) (sym (tells_apart tells q k e)))

  pub more-comm : (m : Counts R naturals) (j k : K) (v w : ℕ) → added o (added o m j (pos v)) k (pos w) ≡ added o (added o m k (pos w)) j (pos v)
  more-comm m j k v w =
      same o tells _ _ (λ q.
      at-more (added o m j (pos v)) k w q ∙ ap (λ x. cond (eq_by_cmp R q k) (x + w) x) (at-more m j v q)
      ∙ twice_more (eq_by_cmp R q k) (eq_by_cmp R q j) (at m q) v w
      ∙ sym (at-more (added o m k (pos w)) j v q ∙ ap (λ x. cond (eq_by_cmp R q j) (x + v) x) (at-more m k w q)))

-- ---- sets of keys

module _ {K : Type 0} {R : K → K → Ordering} (o : IsTotalOrder R) (tells : IsAntisymmetric R) where
  same_some : {X : Type 0} (b c : Bool) (x : X) (z : Option X) → cond b (Some x) (cond c (Some x) z) ≡ cond c (Some x) (cond b (Some x) z)
  same_some true true x z = refl
  same_some true false x z = refl
  same_some false c x z = refl

  same_none : {X : Type 0} (b c : Bool) (z : Option X) → cond b None (cond c None z) ≡ cond c None (cond b None z)
  same_none true true z = refl
  same_none true false z = refl
  same_none false c z = refl

  -- two keys are put in in either order
  pub insert-insert : (s : fin.FinMap R (Unit {0})) (j k : K) → fin.insert (fin.insert s j tt) k tt ≡ fin.insert (fin.insert s k tt) j tt
  insert-insert s j k =
      fin.same_map o tells _ _ (λ q.
      fin.get-insert o (fin.insert s j tt) k tt q ∙ ap (cond (eq_by_cmp R q k) (Some tt)) (fin.get-insert o s j tt q)
      ∙ same_some (eq_by_cmp R q k) (eq_by_cmp R q j) tt (fin.get s q)
      ∙ sym (fin.get-insert o (fin.insert s k tt) j tt q ∙ ap (cond (eq_by_cmp R q j) (Some tt)) (fin.get-insert o s k tt q)))

  pub remove-remove : (s : fin.FinMap R (Unit {0})) (j k : K) → fin.remove (fin.remove s j) k ≡ fin.remove (fin.remove s k) j
  remove-remove s j k =
      fin.same_map o tells _ _ (λ q.
      fin.get-remove o (fin.remove s j) k q ∙ ap (cond (eq_by_cmp R q k) None) (fin.get-remove o s j q)
      ∙ same_none (eq_by_cmp R q k) (eq_by_cmp R q j) (fin.get s q)
      ∙ sym (fin.get-remove o (fin.remove s k) j q ∙ ap (cond (eq_by_cmp R q j) None) (fin.get-remove o s k q)))

  -- one key is put in, and another is taken out
  pub insert-remove : (s : fin.FinMap R (Unit {0})) (j k : K) → j ≢ k → fin.remove (fin.insert s j tt) k ≡ fin.insert (fin.remove s k) j tt
  insert-remove s j k other =
      fin.same_map o tells _ _ (λ q.
      fin.get-remove o (fin.insert s j tt) k q ∙ ap (cond (eq_by_cmp R q k) None) (fin.get-insert o s j tt q)
      ∙ over (eq_by_cmp R q k) (eq_by_cmp R q j) None (Some tt) (fin.get s q) (λ e f. other (sym (tells_apart tells q j f) ∙ tells_apart tells q k e))
      ∙ sym (fin.get-insert o (fin.remove s k) j tt q ∙ ap (cond (eq_by_cmp R q j) (Some tt)) (fin.get-remove o s k q)))
