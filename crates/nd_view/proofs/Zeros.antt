-- The list of the points whose precursor count is 0, updated as the counts change one by one.
use Rattle.std.proofs.Common.{eqb, ◌≡◌, ◌≢◌, ◌≤◌, ℕ, zero, suc, Bool, true, false, cond, not, List, [], ◌∷◌, ◌++◌, length, Option, Some, refl, sym, ap, subst, ◌∙◌, inl, inr, arith}
use Rattle.std.specs.Prelude.{Contains, IsTrue, ◌↔◌}
use Rattle.std.specs.List.{filter}
use Rattle.std.specs.FinMap.{find, put}
use Rattle.std.proofs.lemmas.Bool.{eqb-true, eq-eqb}
use Rattle.std.proofs.lemmas.List.Elements.{All-contains, All-contains_itself, All-filter, filter_passes, Contains-append_left, Contains-push, Contains-push_cases}
use Rattle.nd_map.specs.Listed.{without}
use Rattle.nd_paths.specs.Point.{point_cmp}
use Rattle.nd_paths.specs.declared.point.Pointstamp.{Pointstamp}
use Rattle.nd_delta.specs.Delta.{is_point}
use Rattle.nd_view.specs.Kept.{IsFrontierList, IsFrontierBut}
use Rattle.nd_view.proofs.Moves.{alike, apart, itself, found_put, found_other, found_still}

stays_behind : {X : Type 0} (b : Bool) (x : X) (xs : List X) (q : X) → Contains xs q → Contains (cond b (x ∷ xs) xs) q
stays_behind true x xs q among = (suc among.0, omega (arith, among.1), among.2)
stays_behind false x xs q among = among

-- what a filter leaves of a list
pub stays_in : {X : Type 0} (p : X → Bool) (xs : List X) (q : X) → p q ≡ true → Contains xs q → Contains (filter p xs) q
stays_in p [] q t (k, lt, e) = absurd (omega (arith, lt))
stays_in p (x ∷ xs) q t (zero, lt, e) = subst (λ l. Contains l q) (sym (ap (λ b. cond b (x ∷ filter p xs) (filter p xs)) (ap p e ∙ t))) (0, omega arith, e)
stays_in p (x ∷ xs) q t (suc k, lt, e) = stays_behind (p x) x (filter p xs) q (stays_in p xs q t (k, omega (arith, lt), e))

pub was_in : {X : Type 0} (p : X → Bool) (xs : List X) (q : X) → Contains (filter p xs) q → Contains xs q × (p q ≡ true)
was_in p xs q among =
    (All-contains (Contains xs) (filter p xs) q (All-filter p (Contains xs) xs (All-contains_itself xs)) among, All-contains (λ x. p x ≡ true) (filter p xs) q (filter_passes p xs) among)

-- the points of a list except one
abbrev pub others_than : Pointstamp → Pointstamp → Bool
others_than x q = not (is_point q x)

pub is_other : (x q : Pointstamp) → q ≢ x → others_than x q ≡ true
is_other x q ne = elim (alike q x) [ inl same ↦ absurd (ne same) | inr other ↦ ap not other ]

pub is_itself : (x : Pointstamp) → others_than x x ≡ false
is_itself x = ap not (itself x)

pub tells_other : (b : Bool) (x q : Pointstamp) → (IsTrue b ↔ (q ≢ x)) → b ≡ others_than x q
tells_other b x q h = elim (alike q x) [
  | inl same ↦ by b h same
  | inr other ↦ h.1 (apart q x other) ∙ sym (ap not other)
]
  where
    by : (b : Bool) → (IsTrue b ↔ (q ≢ x)) → q ≡ x → b ≡ others_than x q
    by true told same = absurd (told.0 refl same)
    by false told same = sym (ap (others_than x) same ∙ is_itself x)

-- the list after the one count that changed is corrected
module _ (es : List (Pointstamp × ℕ)) (old new : List Pointstamp) (x : Pointstamp) (room : ℕ) (but : IsFrontierBut es old x)
    (gone : Contains new x → ⊥) (others : (q : Pointstamp) → q ≢ x → (Contains new q ↔ Contains old q)) (enough : length es ≤ room) where
  pub right_without : (find point_cmp x es ≡ Some 0 → ⊥) → IsFrontierList es new room
  right_without some = record {
    all = λ q e. elim (alike q x) [
      | inl same ↦ absurd (some (ap (λ z. find point_cmp z es) (sym same) ∙ e))
      | inr other ↦ (others q (apart q x other)).1 (but.all q (apart q x other) e)
    ];
    only = λ q among. elim (alike q x) [
      | inl same ↦ absurd (gone (subst (Contains new) same among))
      | inr other ↦ but.only q (apart q x other) ((others q (apart q x other)).0 among)
    ];
    enough = enough;
  }

  pub right_with : (more : List Pointstamp) → more ≡ new ++ x ∷ [] → find point_cmp x es ≡ Some 0 → IsFrontierList es more room
  right_with more more_is none = record {
    all = λ q e. subst (λ l. Contains l q) (sym more_is) (elim (alike q x) [
      | inl same ↦ subst (Contains (new ++ x ∷ [])) (sym same) (Contains-push new x)
      | inr other ↦ Contains-append_left new (x ∷ []) q ((others q (apart q x other)).1 (but.all q (apart q x other) e))
    ]);
    only = λ q among. elim (alike q x) [
      | inl same ↦ ap (λ z. find point_cmp z es) same ∙ none
      | inr other ↦ but.only q (apart q x other) ((others q (apart q x other)).0 (elim (Contains-push_cases new x q (subst (λ l. Contains l q) more_is among)) [
        | inl before ↦ before
        | inr here ↦ absurd (apart q x other (sym here))
      ]))
    ];
    enough = enough;
  }

-- counts that changed at one point
module _ (es fs : List (Pointstamp × ℕ)) (frontier : List Pointstamp) (x : Pointstamp) (room : ℕ)
    (same : (q : Pointstamp) → q ≢ x → find point_cmp q fs ≡ find point_cmp q es) (h : IsFrontierList es frontier room) where
  pub right_but : IsFrontierBut fs frontier x
  right_but = record { all = λ q ne e. h.all q (sym (same q ne) ∙ e); only = λ q ne among. same q ne ∙ h.only q among }

pub same_put : (es : List (Pointstamp × ℕ)) (x : Pointstamp) (n : ℕ) (q : Pointstamp) → q ≢ x → find point_cmp q (put point_cmp x n es) ≡ find point_cmp q es
same_put es x n q ne = elim (alike q x) [ inl same ↦ absurd (ne same) | inr other ↦ found_other q x n es other ]

pub same_without : (es : List (Pointstamp × ℕ)) (x q : Pointstamp) → q ≢ x → find point_cmp q (without point_cmp x es) ≡ find point_cmp q es
same_without es x q ne = elim (alike q x) [ inl same ↦ absurd (ne same) | inr other ↦ found_still q x es other ]

-- the count that a lookup finds is 0 if the number is 0
pub zero_told : (n : ℕ) (o : Option ℕ) → o ≡ Some n → (IsTrue (eqb n 0) ↔ (o ≡ Some 0))
zero_told n o e = (λ t. e ∙ ap Some (eqb-true n 0 t), λ z. eq-eqb n 0 (let one : Some n ≡ Some 0 = sym e ∙ z in cc))

-- an entry whose number changed
module _ (es fs : List (Pointstamp × ℕ)) (n : ℕ) (e : Pointstamp × ℕ) (found : find point_cmp e.0 es ≡ Some e.1) (put_is : fs ≡ put point_cmp e.0 n es) where
  pub found_now : find point_cmp e.0 fs ≡ Some n
  found_now = ap (find point_cmp e.0) put_is ∙ found_put e.0 e.0 n es refl

  pub others_there : (q : Pointstamp) → q ≢ e.0 → find point_cmp q fs ≡ find point_cmp q es
  others_there q ne = ap (find point_cmp q) put_is ∙ same_put es e.0 n q ne

  -- the list is correct as it is, if the number was not 0 and is not
  pub right_still : (frontier : List Pointstamp) (room : ℕ) → IsFrontierList es frontier room → length fs ≡ length es → e.1 ≢ 0 → n ≢ 0 → IsFrontierList fs frontier room
  right_still frontier room h many was now =
      right_without fs frontier frontier e.0 room (right_but es fs frontier e.0 room others_there h)
      (λ among. was (let one : Some e.1 ≡ Some 0 = sym found ∙ h.only e.0 among in cc)) (λ q ne. (λ a. a, λ a. a)) (omega (arith, many, h.enough))
      (λ z. now (let one : Some n ≡ Some 0 = sym found_now ∙ z in cc))
