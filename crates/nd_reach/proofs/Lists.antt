-- Forms of pairs and of lists tell values apart if those of their parts do.
use Rattle.std.proofs.Common.{◌≡◌, ℕ, List, [], ◌∷◌, ◌++◌, length, refl, sym, ◌∙◌, append_assoc}
use Rattle.std.specs.Prelude.{All}
use Rattle.std.proofs.lemmas.List.Elements.{All-head, All-tail}
use Rattle.std.specs.List.{flat_map}
use Rattle.nd_reach.specs.Bytes.{list}
use Rattle.nd_reach.proofs.Numbers.{Tells, tells_number}

-- a form tells its value apart before others
pub told_before : {X : Type 0} {f : X → List ℕ} → Tells f → (x y : X) (a b r s : List ℕ) → (f x ++ a) ++ r ≡ (f y ++ b) ++ s → (x ≡ y) × (a ++ r ≡ b ++ s)
told_before {f} t x y a b r s e = t.told x y (a ++ r) (b ++ s) (sym (append_assoc (f x) a r) ∙ e ∙ append_assoc (f y) b s)

-- two forms, one after the other
pub told_both : {X Y : Type 0} {f : X → List ℕ} {g : Y → List ℕ} → Tells f → Tells g
    → (x y : X) (a b : Y) (r s : List ℕ) → (f x ++ g a) ++ r ≡ (f y ++ g b) ++ s → (x ≡ y) × ((a ≡ b) × (r ≡ s))
told_both {f} {g} t u x y a b r s e =
    let one = told_before t x y (g a) (g b) r s e in
    (one.0, u.told a b r s one.1)

pub tells_both : {X Y : Type 0} {f : X → List ℕ} {g : Y → List ℕ} → Tells f → Tells g → Tells (λ (p : X × Y). f p.0 ++ g p.1)
tells_both t u = record {
  told = λ p q r s e.
      let all = told_both t u p.0 q.0 p.1 q.1 r s e in
      (λ i. (all.0 i, all.1.0 i), all.1.1);
}

-- The forms of lists of one length, of whose elements P holds, tell them apart if forms do where P holds.
pub told_each : {X : Type 0} (P : X → Type 0) (f : X → List ℕ) → ((x y : X) (r s : List ℕ) → P x → P y → f x ++ r ≡ f y ++ s → (x ≡ y) × (r ≡ s))
    → (xs ys : List X) (r s : List ℕ) → All P xs → All P ys → length xs ≡ length ys → flat_map f xs ++ r ≡ flat_map f ys ++ s → (xs ≡ ys) × (r ≡ s)
told_each P f tells [] [] r s p q n e = (refl, e)
told_each P f tells [] (y ∷ ys) r s p q n e = absurd (cc)
told_each P f tells (x ∷ xs) [] r s p q n e = absurd (cc)
told_each P f tells (x ∷ xs) (y ∷ ys) r s p q n e =
    let one = tells x y (flat_map f xs ++ r) (flat_map f ys ++ s) (All-head P x xs p) (All-head P y ys q)
    (sym (append_assoc (f x) (flat_map f xs) r) ∙ e ∙ append_assoc (f y) (flat_map f ys) s) in
    let others = told_each P f tells xs ys r s (All-tail P x xs p) (All-tail P y ys q) (cc) one.1 in
    (λ i. one.0 i ∷ others.0 i, others.1)

-- the same where no condition is needed
pub told_all : {X : Type 0} {f : X → List ℕ} → Tells f → (xs ys : List X) (r s : List ℕ) → length xs ≡ length ys → flat_map f xs ++ r ≡ flat_map f ys ++ s → (xs ≡ ys) × (r ≡ s)
told_all t [] [] r s n e = (refl, e)
told_all t [] (y ∷ ys) r s n e = absurd (cc)
told_all t (x ∷ xs) [] r s n e = absurd (cc)
told_all {f} t (x ∷ xs) (y ∷ ys) r s n e =
    let one = told_before t x y (flat_map f xs) (flat_map f ys) r s e in
    let others = told_all t xs ys r s (cc) one.1 in
    (λ i. one.0 i ∷ others.0 i, others.1)

pub tells_list : {X : Type 0} {f : X → List ℕ} → Tells f → Tells (list f)
tells_list {f} t = record {
  told = λ xs ys r s e.
      let count = told_before tells_number (length xs) (length ys) (flat_map f xs) (flat_map f ys) r s e in
      told_all t xs ys r s count.0 count.1;
}
