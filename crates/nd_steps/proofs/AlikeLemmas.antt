-- When two keys, and two places, are equal: places of one processor's map are equal if their keys are.
use Rattle.std.proofs.Common.{◌≡◌, ◌≢◌, ℕ, true, false, refl, sym, ap, ◌∙◌, true≢false}
use Rattle.std.proofs.lemmas.Cmp.{tied_itself}
use Rattle.std.proofs.lemmas.Map.Views.{tells_apart}
use Rattle.std.specs.declared.cmp.Ordering.{Ordering}
use Rattle.std.specs.Ordering.{eq_by_cmp, is_eq}
use Rattle.std.specs.Cmp.{IsTotalOrder}
use Rattle.std.specs.FinMap.{IsAntisymmetric}
use Rattle.nd_paths.specs.Point.{point_cmp, point_total, point_exact}
use Rattle.nd_paths.specs.declared.point.Pointstamp.{Pointstamp}
use Rattle.nd_vertex.specs.Items.{item_cmp, item_total, item_exact}
use Rattle.nd_vertex.specs.declared.key.ItemKey.{ItemKey}
use Rattle.nd_steps.specs.Places.{Place, place_at, place_total, place_exact, is_place}
use Rattle.nd_steps.specs.declared.slot.Slot.{Slot}
use Rattle.nd_steps.specs.declared.slot.Slot.TheVariants.{State, Unsent}

-- ---- keys that compare as equal or not

pub same_key : {K : Type 0} {R : K → K → Ordering} (o : IsTotalOrder R) → (k : K) → eq_by_cmp R k k ≡ true
same_key o k = ap is_eq (tied_itself o k)

pub other_key : {K : Type 0} {R : K → K → Ordering} (tells : IsAntisymmetric R) → (q k : K) → q ≢ k → eq_by_cmp R q k ≡ false
other_key {R = R} tells q k ne = elim (eq_by_cmp R q k) as (λ b. eq_by_cmp R q k ≡ b → b ≡ false) [
  | true ↦ λ t. absurd (ne (tells_apart tells q k t))
  | false ↦ λ t. refl
] refl

-- ---- places

pub same_place : (a b : Place) → is_place a b ≡ true → a ≡ b
same_place a b t = tells_apart place_exact a b t

pub place_itself : (a : Place) → is_place a a ≡ true
place_itself a = ap is_eq (tied_itself place_total a)

pub other_place : (a b : Place) → (a ≡ b → ⊥) → is_place a b ≡ false
other_place a b apart = elim (is_place a b) as (λ t. is_place a b ≡ t → t ≡ false) [
  | true ↦ λ e. absurd (apart (same_place a b e))
  | false ↦ λ e. refl
] refl

module _ {K : Type 0} {S : K → K → Ordering} (o : IsTotalOrder S) (tells : IsAntisymmetric S) (f : K → Place) (apart : (a b : K) → f a ≡ f b → a ≡ b) where
  pub same_test : (a b : K) → is_place (f a) (f b) ≡ eq_by_cmp S a b
  same_test a b = elim (eq_by_cmp S a b) as (λ t. eq_by_cmp S a b ≡ t → is_place (f a) (f b) ≡ t) [
    | true ↦ λ e. ap (λ c. is_place (f a) (f c)) (sym (tells_apart tells a b e)) ∙ place_itself (f a)
    | false ↦ λ e. other_place (f a) (f b) (λ is. true≢false (sym (ap is_eq (tied_itself o a)) ∙ ap (eq_by_cmp S a) (apart a b is) ∙ e))
  ] refl

-- ---- the processor and the key of a place

pub same_owner : (p q : ℕ) (l m : Slot) → place_at p l ≡ place_at q m → p ≡ q
same_owner p q l m e = cc

pub same_slot : (p q : ℕ) (l m : Slot) → place_at p l ≡ place_at q m → l ≡ m
same_slot p q l m e = cc

-- ---- keys of one map of one processor

pub item-test : (p v : ℕ) (a b : ItemKey) → is_place (place_at p (State v a)) (place_at p (State v b)) ≡ eq_by_cmp item_cmp a b
item-test p v a b = same_test item_total item_exact (λ k. place_at p (State v k)) (λ c d e. cc) a b

pub unsent-test : (p : ℕ) (a b : Pointstamp) → is_place (place_at p (Unsent a)) (place_at p (Unsent b)) ≡ eq_by_cmp point_cmp a b
unsent-test p a b = same_test point_total point_exact (λ k. place_at p (Unsent k)) (λ c d e. cc) a b
