-- One point of a map gets another integer: how the numbers of precursors change.
use Rattle.std.proofs.Common.{◌≡◌, ◌≢◌, ◌<◌, ◌≤◌, ◌+◌, ◌-◌, ℕ, zero, suc, ℤ, pos, Bool, true, false, cond, List, [], ◌∷◌, length, Option, Some, None, refl, sym, ap, subst, ◌∙◌, ◌⊎◌, inl, inr, arith, true≢false}
use Rattle.std.specs.Prelude.{◌<ℤ◌}
use Rattle.std.specs.Ordering.{is_eq}
use Rattle.std.proofs.lemmas.Cmp.{tied_itself}
use Rattle.std.specs.FinMap.{find, put}
use Rattle.std.specs.FinMap.Entries.{find-put}
use Rattle.std.proofs.lemmas.Map.Views.{tells_apart}
use Rattle.nd_graph.specs.Graph.{Dataflow}
use Rattle.nd_map.specs.Entries.{find-head}
use Rattle.nd_map.specs.Listed.{without}
use Rattle.nd_map.specs.Maps.{find-without}
use Rattle.nd_paths.specs.Order.{IsStrictlyBefore}
use Rattle.nd_paths.specs.Point.{point_cmp, point_total, point_exact}
use Rattle.nd_paths.specs.declared.point.Pointstamp.{Pointstamp}
use Rattle.nd_delta.specs.Delta.{DeltaValue, at, set, size, entries, is_point, or_zero, at-set, at-set_same, set-set, set-at, size-set, at-entries, some-entry}
use Rattle.nd_view.specs.View.{IsPrecursor, IsPartWhere, IsCount}
use Rattle.nd_view.specs.Kept.{IsKeptAt, IsMovable, IsReady}
use Rattle.nd_map.specs.Cases.{not_zero, zero_or_not}

-- two points are equal, or different
pub alike : (q x : Pointstamp) → (q ≡ x) ⊎ (is_point q x ≡ false)
alike q x = by (is_point q x) refl
  where
    by : (b : Bool) → is_point q x ≡ b → (q ≡ x) ⊎ (is_point q x ≡ false)
    by true e = inl (tells_apart point_exact q x e)
    by false e = inr e

pub itself : (x : Pointstamp) → is_point x x ≡ true
itself x = ap is_eq (tied_itself point_total x)

pub apart : (q x : Pointstamp) → is_point q x ≡ false → q ≡ x → ⊥
apart q x e here = true≢false (sym (ap (λ z. is_point z x) here ∙ itself x) ∙ e)

pub at-elsewhere : (m : DeltaValue) (x : Pointstamp) (v : ℤ) (q : Pointstamp) → is_point q x ≡ false → at (set m x v) q ≡ at m q
at-elsewhere m x v q e = at-set m x v q ∙ ap (λ b. cond b v (at m q)) e

-- ---- what is found after a count is put or removed
pub found_put : (q x : Pointstamp) (n : ℕ) (es : List (Pointstamp × ℕ)) → q ≡ x → find point_cmp q (put point_cmp x n es) ≡ Some n
found_put q x n es same = find-put point_cmp point_total q x n es ∙ ap (λ b. cond b (Some n) (find point_cmp q es)) (ap (λ z. is_point z x) same ∙ itself x)

pub found_other : (q x : Pointstamp) (n : ℕ) (es : List (Pointstamp × ℕ)) → is_point q x ≡ false → find point_cmp q (put point_cmp x n es) ≡ find point_cmp q es
found_other q x n es other = find-put point_cmp point_total q x n es ∙ ap (λ b. cond b (Some n) (find point_cmp q es)) other

pub found_gone : (q x : Pointstamp) (es : List (Pointstamp × ℕ)) → q ≡ x → find point_cmp q (without point_cmp x es) ≡ None
found_gone q x es same = find-without point_cmp point_total q x es ∙ ap (λ b. cond b None (find point_cmp q es)) (ap (λ z. is_point z x) same ∙ itself x)

pub found_still : (q x : Pointstamp) (es : List (Pointstamp × ℕ)) → is_point q x ≡ false → find point_cmp q (without point_cmp x es) ≡ find point_cmp q es
found_still q x es other = find-without point_cmp point_total q x es ∙ ap (λ b. cond b None (find point_cmp q es)) other

-- ---- sizes
pub size_gone : (f : DeltaValue) (x : Pointstamp) → at f x ≢ pos 0 → size f ≡ size (set f x (pos 0)) + 1
size_gone f x some = ap size (sym (set-set f x (pos 0) (at f x) ∙ set-at f x)) ∙ size-set (set f x (pos 0)) x (at f x) some (at-set_same f x (pos 0))

size_stays : (f : DeltaValue) (x : Pointstamp) (w : ℤ) → at f x ≢ pos 0 → w ≢ pos 0 → size (set f x w) ≡ size f
size_stays f x w some other =
    ap size (sym (set-set f x (pos 0) w)) ∙ size-set (set f x (pos 0)) x w other (at-set_same f x (pos 0)) ∙ sym (size_gone f x some)

pub first_one : (es : List (Pointstamp × ℤ)) → 0 < length es → record { point : Pointstamp; value : ℤ; found : find point_cmp point es ≡ Some value }
first_one [] lt = absurd (omega (arith, lt))
first_one (e ∷ es) lt = record { point = e.0; value = e.1; found = find-head point_cmp point_total e es }

-- a change with no other points is no larger
pub size_within : (k : ℕ) (f m : DeltaValue) → size f ≡ k → ((q : Pointstamp) → at f q ≢ pos 0 → at m q ≢ pos 0) → k ≤ size m
size_within zero f m e h = omega arith
size_within (suc k) f m e h =
    let one = first_one (entries f) (omega (arith, e)) in
    let x = one.point in
    let some : at f x ≢ pos 0 = λ z. some-entry f x one.value one.found (sym (ap or_zero one.found) ∙ at-entries f x ∙ z) in
    let here = size_gone f x some in
    let there = size_gone m x (h x some) in
    let less : k ≤ size (set m x (pos 0)) = size_within k (set f x (pos 0)) (set m x (pos 0)) (omega (arith, here, e)) (λ q q_some.
    elim (alike q x) [
      | inl same ↦ absurd (q_some (ap (at (set f x (pos 0))) same ∙ at-set_same f x (pos 0)))
      | inr other ↦ λ z. h q (λ y. q_some (at-elsewhere f x (pos 0) q other ∙ y)) (sym (at-elsewhere m x (pos 0) q other) ∙ z)
    ]) in
    omega (arith, there, less)

-- a count is at most the number of entries
pub count_small : (P : Pointstamp → Type 0) (m : DeltaValue) (n : ℕ) → ((q : Pointstamp) → P q → at m q ≢ pos 0) → IsCount P m n → n ≤ size m
count_small P m n some counted = size_within n counted.0 m counted.2 (λ q q_some. some q (counted.1.only q q_some))

-- a point that counts, and two of them
module _ (P : Pointstamp → Type 0) (m : DeltaValue) (n : ℕ) (some : (q : Pointstamp) → P q → at m q ≢ pos 0) (counted : IsCount P m n) where
  taken : (q : Pointstamp) → P q → at counted.0 q ≢ pos 0
  taken q p z = some q p (sym (counted.1.all q p) ∙ z)

  pub count_one : (q : Pointstamp) → P q → 1 ≤ n
  count_one q p = let gone = size_gone counted.0 q (taken q p) in omega (arith, gone, counted.2)

  pub count_two : (q r : Pointstamp) → P q → P r → r ≢ q → 2 ≤ n
  count_two q r p h other =
      let f = counted.0 in
      let away : is_point r q ≡ false = elim (alike r q) [ inl same ↦ absurd (other same) | inr apart_from ↦ apart_from ] in
      let gone = size_gone f q (taken q p) in
      let more = size_gone (set f q (pos 0)) r (λ z. taken r h (sym (at-elsewhere f q (pos 0) r away) ∙ z)) in
      omega (arith, gone, more, counted.2)

module _ (m n : DeltaValue) (x : Pointstamp) (v : ℤ) (is : n ≡ set m x v) where
  here : at n x ≡ v
  here = ap (λ c. at c x) is ∙ at-set_same m x v

  there : (q : Pointstamp) → is_point q x ≡ false → at n q ≡ at m q
  there q e = ap (λ c. at c q) is ∙ at-elsewhere m x v q e

  part_moved : (P Q : Pointstamp → Type 0) (f : DeltaValue) (w : ℤ)
      → ((q : Pointstamp) → is_point q x ≡ false → P q → Q q) → ((q : Pointstamp) → is_point q x ≡ false → Q q → P q) → (Q x → w ≡ v) → (w ≢ pos 0 → Q x) → IsPartWhere P m f → IsPartWhere Q n (set f x w)
  part_moved P Q f w to from value only part = record {
    all = λ q k. elim (alike q x) [
      | inl same ↦ ap (at (set f x w)) same ∙ at-set_same f x w ∙ value (subst Q same k) ∙ sym here ∙ ap (at n) (sym same)
      | inr other ↦ at-elsewhere f x w q other ∙ part.all q (from q other k) ∙ sym (there q other)
    ];
    only = λ q some. elim (alike q x) [
      | inl same ↦ subst Q (sym same) (only (λ z. some (ap (at (set f x w)) same ∙ at-set_same f x w ∙ z)))
      | inr other ↦ to q other (part.only q (λ z. some (at-elsewhere f x w q other ∙ z)))
    ];
  }

  module _ (g : Dataflow) (t : Pointstamp) where
    to : (q : Pointstamp) → is_point q x ≡ false → IsPrecursor g m t q → IsPrecursor g n t q
    to q e p = record { positive = subst (λ z. pos 0 <ℤ z) (sym (there q e)) p.positive; before = p.before }

    from : (q : Pointstamp) → is_point q x ≡ false → IsPrecursor g n t q → IsPrecursor g m t q
    from q e p = record { positive = subst (λ z. pos 0 <ℤ z) (there q e) p.positive; before = p.before }

    -- x is not a precursor, before and after
    pub count_away : (k : ℕ) → (IsPrecursor g m t x → ⊥) → (IsPrecursor g n t x → ⊥) → IsCount (IsPrecursor g m t) m k → IsCount (IsPrecursor g n t) n k
    count_away k none never counted =
        let f = counted.0 in (
          f,
          subst (IsPartWhere (IsPrecursor g n t) n) (set-at f x)
              (part_moved (IsPrecursor g m t) (IsPrecursor g n t) f (at f x) to from (λ p. absurd (never p)) (λ some. absurd (none (counted.1.only x some))) counted.1),
          counted.2,
        )

    -- x becomes a precursor
    pub count_come : (k : ℕ) → (IsPrecursor g m t x → ⊥) → IsPrecursor g n t x → IsCount (IsPrecursor g m t) m k → IsCount (IsPrecursor g n t) n (k + 1)
    count_come k none p counted =
        let f = counted.0 in
        let fresh : at f x ≡ pos 0 = elim (zero_or_not (at f x)) [ inl e ↦ e | inr some ↦ absurd (none (counted.1.only x some)) ] in (
          set f x v,
          part_moved (IsPrecursor g m t) (IsPrecursor g n t) f v to from (λ _. refl) (λ _. p) counted.1,
          size-set f x v (not_zero v (subst (λ z. pos 0 <ℤ z) here p.positive)) fresh ∙ ap (λ i. i + 1) counted.2,
        )

    -- x ceases to be a precursor
    pub count_go : (k : ℕ) → IsPrecursor g m t x → (IsPrecursor g n t x → ⊥) → IsCount (IsPrecursor g m t) m k → (1 ≤ k) × IsCount (IsPrecursor g n t) n (k - 1)
    count_go k p never counted =
        let f = counted.0 in
        let some : at f x ≢ pos 0 = λ z. not_zero (at m x) p.positive (sym (counted.1.all x p) ∙ z) in
        let less = size_gone f x some in
        let many = counted.2 in (
          omega (arith, less, many),
          (
            set f x (pos 0),
            part_moved (IsPrecursor g m t) (IsPrecursor g n t) f (pos 0) to from (λ q. absurd (never q)) (λ z. absurd (z refl)) counted.1,
            omega (arith, less, many),
          ),
        )

    -- x is positive before and after
    pub count_stay : (k : ℕ) → pos 0 <ℤ at m x → pos 0 <ℤ v → IsCount (IsPrecursor g m t) m k → IsCount (IsPrecursor g n t) n k
    count_stay k old new counted =
        let f = counted.0 in
        elim (zero_or_not (at f x)) [
          | inl e ↦
              let none : IsPrecursor g m t x → ⊥ = λ p. not_zero (at m x) old (sym (counted.1.all x p) ∙ e) in
              count_away k none (λ p. none (record { positive = old; before = p.before })) counted
          | inr some ↦
              let p = counted.1.only x some in (
                set f x v,
                part_moved (IsPrecursor g m t) (IsPrecursor g n t) f v to from (λ _. refl) (λ _. record { positive = subst (λ z. pos 0 <ℤ z) (sym here) new; before = p.before }) counted.1,
                size_stays f x v some (not_zero v new) ∙ counted.2,
              )
        ]

  module _ (g : Dataflow) where
    up_at : (q : Pointstamp) → is_point q x ≡ false → pos 0 <ℤ at m q → pos 0 <ℤ at n q
    up_at q e p = subst (λ z. pos 0 <ℤ z) (sym (there q e)) p

    down_at : (q : Pointstamp) → is_point q x ≡ false → pos 0 <ℤ at n q → pos 0 <ℤ at m q
    down_at q e p = subst (λ z. pos 0 <ℤ z) (there q e) p

    -- a positive integer replaces a positive one
    pub kept_positive : pos 0 <ℤ at m x → pos 0 <ℤ v → (q : Pointstamp) (o : Option ℕ) → IsKeptAt g m q o → IsKeptAt g n q o
    kept_positive old new q None none = λ p. elim (alike q x) [
      | inl same ↦ none (subst (λ y. pos 0 <ℤ at m y) (sym same) old)
      | inr other ↦ none (down_at q other p)
    ]
    kept_positive old new q (Some k) kept = (
      elim (alike q x) [
        | inl same ↦ subst (λ y. pos 0 <ℤ at n y) (sym same) (subst (λ z. pos 0 <ℤ z) (sym here) new)
        | inr other ↦ up_at q other kept.0
      ],
      count_stay g q k old new kept.1,
    )

    -- an integer that is not positive replaces one that is not
    pub kept_other : (pos 0 <ℤ at m x → ⊥) → (pos 0 <ℤ v → ⊥) → (q : Pointstamp) (o : Option ℕ) → IsKeptAt g m q o → IsKeptAt g n q o
    kept_other old new q None none = λ p. elim (alike q x) [
      | inl same ↦ new (subst (λ z. pos 0 <ℤ z) here (subst (λ y. pos 0 <ℤ at n y) same p))
      | inr other ↦ none (down_at q other p)
    ]
    kept_other old new q (Some k) kept = (
      elim (alike q x) [
        | inl same ↦ absurd (old (subst (λ y. pos 0 <ℤ at m y) same kept.0))
        | inr other ↦ up_at q other kept.0
      ],
      count_away g q k (λ p. old p.positive) (λ p. new (subst (λ z. pos 0 <ℤ z) here p.positive)) kept.1,
    )

    -- the count of another point, if x is not a precursor of it before or after
    kept_elsewhere : (q : Pointstamp) → is_point q x ≡ false → (pos 0 <ℤ at n q → IsStrictlyBefore g x q → ⊥) → (o : Option ℕ) → IsKeptAt g m q o → IsKeptAt g n q o
    kept_elsewhere q e never None none = λ p. none (down_at q e p)
    kept_elsewhere q e never (Some k) kept =
        let p = up_at q e kept.0 in
        (p, count_away g q k (λ r. never p r.before) (λ r. never p r.before) kept.1)

    -- ---- x becomes positive
    come : (q : Pointstamp) → is_point q x ≡ false → (pos 0 <ℤ at m x → ⊥) → pos 0 <ℤ v → pos 0 <ℤ at n q → IsStrictlyBefore g x q → (o : Option ℕ) → IsKeptAt g m q o → IsMovable g n q true o
    come q e old new p before None none = none (down_at q e p)
    come q e old new p before (Some k) kept = (p, count_come g q k (λ r. old r.positive) (record { positive = subst (λ z. pos 0 <ℤ z) (sym here) new; before = before }) kept.1)

    pub ready_up : (c : ℕ) (es : List (Pointstamp × ℕ)) → (pos 0 <ℤ at m x → ⊥) → pos 0 <ℤ v → IsCount (IsPrecursor g m x) m c → ((q : Pointstamp) → IsKeptAt g m q (find point_cmp q es))
        → (q : Pointstamp) → IsReady g n x true q (find point_cmp q (put point_cmp x c es))
    ready_up c es old new counted each q = elim (alike q x) [
      | inl same ↦ subst (IsReady g n x true q) (sym (found_put q x c es same)) (record {
        after = λ p before. absurd (before.1 (sym same));
        others = λ _. subst (λ y. IsKeptAt g n y (Some c)) (sym same) (subst (λ z. pos 0 <ℤ z) (sym here) new, count_away g x c (λ p. p.before.1 refl) (λ p. p.before.1 refl) counted);
      })
      | inr other ↦ subst (IsReady g n x true q) (sym (found_other q x c es other)) (record {
        after = λ p before. come q other old new p before (find point_cmp q es) (each q);
        others = λ never. kept_elsewhere q other (λ p before. never (p, before)) (find point_cmp q es) (each q);
      })
    ]

    -- ---- x ceases to be positive
    go : (q : Pointstamp) → is_point q x ≡ false → pos 0 <ℤ at m x → (pos 0 <ℤ v → ⊥) → pos 0 <ℤ at n q → IsStrictlyBefore g x q → (o : Option ℕ) → IsKeptAt g m q o → IsMovable g n q false o
    go q e old new p before None none = none (down_at q e p)
    go q e old new p before (Some k) kept =
        let less = count_go g q k (record { positive = old; before = before }) (λ r. new (subst (λ z. pos 0 <ℤ z) here r.positive)) kept.1 in
        (less.0, (p, less.1))

    pub ready_down : (es : List (Pointstamp × ℕ)) → pos 0 <ℤ at m x → (pos 0 <ℤ v → ⊥) → ((q : Pointstamp) → IsKeptAt g m q (find point_cmp q es))
        → (q : Pointstamp) → IsReady g n x false q (find point_cmp q (without point_cmp x es))
    ready_down es old new each q = elim (alike q x) [
      | inl same ↦
          let never : pos 0 <ℤ at n q → ⊥ = λ p. new (subst (λ z. pos 0 <ℤ z) here (subst (λ y. pos 0 <ℤ at n y) same p)) in
          subst (IsReady g n x false q) (sym (found_gone q x es same)) (record { after = λ p before. absurd (never p); others = λ _. never })
      | inr other ↦ subst (IsReady g n x false q) (sym (found_still q x es other)) (record {
        after = λ p before. go q other old new p before (find point_cmp q es) (each q);
        others = λ never. kept_elsewhere q other (λ p before. never (p, before)) (find point_cmp q es) (each q);
      })
    ]
