-- The part of a change at the points with a property, built point by point.
use Rattle.std.proofs.Common.{◌≡◌, ◌≢◌, ◌≤◌, ◌+◌, ℕ, ℤ, pos, Bool, true, false, cond, List, refl, sym, ap, subst, ◌∙◌, ◌⊎◌, inl, inr, arith}
use Rattle.std.proofs.lemmas.Map.Views.{tells_apart}
use Rattle.nd_paths.specs.Point.{point_exact}
use Rattle.nd_paths.specs.declared.point.Pointstamp.{Pointstamp}
use Rattle.nd_delta.specs.Delta.{DeltaValue, at, set, size, is_point, at-set, size-set}
use Rattle.nd_view.specs.View.{IsCount}
use Rattle.nd_view.proofs.Early.{IsEarly, IsNext, later, last, split}
use Rattle.nd_view.proofs.Moves.{alike, apart, size_within}
use Rattle.nd_map.specs.Cases.{zero_or_not}

-- f is the part of m at those of the first points that satisfy P, and at the points that satisfy B
pub record IsPartUpTo (m : DeltaValue) (ks : List Pointstamp) (P B : Pointstamp → Type 0) (i : ℕ) (f : DeltaValue) : Type 0 where
  pub all : (q : Pointstamp) → IsEarly ks i q → P q → at f q ≡ at m q
  pub base : (q : Pointstamp) → B q → at f q ≡ at m q
  pub some : (q : Pointstamp) → at f q ≢ pos 0 → P q
  pub early : (q : Pointstamp) → at f q ≢ pos 0 → IsEarly ks i q ⊎ B q

-- n counts those of the first points that satisfy P, and the points that satisfy B
pub record IsCountUpTo (m : DeltaValue) (ks : List Pointstamp) (P B : Pointstamp → Type 0) (i n : ℕ) : Type 0 where
  pub part : DeltaValue
  pub is_part : IsPartUpTo m ks P B i part
  pub many : size part ≡ n

module _ (m : DeltaValue) (ks : List Pointstamp) (P B : Pointstamp → Type 0) where
  module _ (i : ℕ) (x : Pointstamp) (next : IsNext ks i x) where
    -- the new point has no entry yet
    pub part_fresh : (f : DeltaValue) → (B x → ⊥) → IsPartUpTo m ks P B i f → at f x ≡ pos 0
    part_fresh f never part = elim (zero_or_not (at f x)) [
      | inl e ↦ e
      | inr some ↦ elim (part.early x some) [ inl among ↦ absurd (next.fresh among) | inr base ↦ absurd (never base) ]
    ]

    -- a point that does not satisfy P, unless it satisfies B
    pub part_skip : (f : DeltaValue) → (P x → B x) → IsPartUpTo m ks P B i f → IsPartUpTo m ks P B (i + 1) f
    part_skip f never part = record {
      all = λ q among p. elim (split _ i x next q among) [
        | inl before ↦ part.all q before p
        | inr here ↦ part.base q (subst B (sym here) (never (subst P here p)))
      ];
      base = part.base;
      some = part.some;
      early = λ q some. elim (part.early q some) [ inl among ↦ inl (later _ i q among) | inr base ↦ inr base ];
    }

    one_of : (b : Bool) (y z w : ℤ) → (b ≡ true → y ≡ w) → (b ≡ false → z ≡ w) → cond b y z ≡ w
    one_of true y z w e h = e refl
    one_of false y z w e h = h refl

    -- a point that satisfies P and not B
    pub part_take : (f g : DeltaValue) → g ≡ set f x (at m x) → P x → (B x → ⊥) → IsPartUpTo m ks P B i f → IsPartUpTo m ks P B (i + 1) g
    part_take f g set_is p never part = record {
      all = λ q among k.
          value q
          ∙ one_of (is_point q x) (at m x) (at f q) (at m q)
          (λ e. ap (at m) (sym (tells_apart point_exact q x e)))
          (λ e. elim (split _ i x next q among) [ inl before ↦ part.all q before k | inr here ↦ absurd (apart q x e here) ]);
      base = λ q b.
          value q
          ∙ one_of (is_point q x) (at m x) (at f q) (at m q)
          (λ e. absurd (never (subst B (tells_apart point_exact q x e) b)))
          (λ e. part.base q b);
      some = λ q some. elim (reached q some) [ inl here ↦ subst P (sym here) p | inr old ↦ part.some q old ];
      early = λ q some. elim (reached q some) [
        | inl here ↦ inl (subst (IsEarly ks (i + 1)) (sym here) (last _ i x next))
        | inr old ↦ elim (part.early q old) [ inl among ↦ inl (later _ i q among) | inr base ↦ inr base ]
      ];
    }
      where
        value : (q : Pointstamp) → at g q ≡ cond (is_point q x) (at m x) (at f q)
        value q = ap (λ c. at c q) set_is ∙ at-set f x (at m x) q

        reached : (q : Pointstamp) → at g q ≢ pos 0 → (q ≡ x) ⊎ (at f q ≢ pos 0)
        reached q some = elim (alike q x) [
          | inl here ↦ inl here
          | inr other ↦ inr (λ z. some (value q ∙ ap (λ a. cond a (at m x) (at f q)) other ∙ z))
        ]

    pub count_skip : (n : ℕ) → (P x → B x) → IsCountUpTo m ks P B i n → IsCountUpTo m ks P B (i + 1) n
    count_skip n never counted = record { part = counted.part; is_part = part_skip counted.part never counted.is_part; many = counted.many }

    pub count_take : (n : ℕ) → at m x ≢ pos 0 → P x → (B x → ⊥) → IsCountUpTo m ks P B i n → IsCountUpTo m ks P B (i + 1) (n + 1)
    count_take n some p never counted = record {
      part = set counted.part x (at m x);
      is_part = part_take counted.part _ refl p never counted.is_part;
      many = size-set counted.part x (at m x) some (part_fresh counted.part never counted.is_part) ∙ ap (λ k. k + 1) counted.many;
    }

  -- at first only the points that satisfy B count
  pub count_base : (n i : ℕ) → i ≡ 0 → ((q : Pointstamp) → B q → P q) → IsCount B m n → IsCountUpTo m ks P B i n
  count_base n i first of counted = record {
    part = counted.0;
    is_part = record {
      all = λ q among p. absurd (let lt = among.early in omega (arith, lt, first));
      base = counted.1.all;
      some = λ q some. of q (counted.1.only q some);
      early = λ q some. inr (counted.1.only q some);
    };
    many = counted.2;
  }

  -- after the last point
  pub count_done : (n i : ℕ) → ((q : Pointstamp) → P q → IsEarly ks i q) → IsCountUpTo m ks P B i n → IsCount P m n
  count_done n i has counted = (
    counted.part,
    record {
      all = λ q p. counted.is_part.all q (has q p) p;
      only = counted.is_part.some;
    },
    counted.many,
  )

  -- the count is at most the number of entries
  pub count_few : (n i : ℕ) → ((q : Pointstamp) → P q → at m q ≢ pos 0) → IsCountUpTo m ks P B i n → n ≤ size m
  count_few n i has counted = size_within n counted.part m counted.many (λ q q_some. has q (counted.is_part.some q q_some))
