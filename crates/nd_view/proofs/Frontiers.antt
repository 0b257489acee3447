-- If nothing on the frontier is before a point, nothing positive is.
use Rattle.std.proofs.Common.{◌≡◌, ◌≢◌, ◌<◌, ℕ, zero, suc, pos, Bool, true, false, List, [], ◌∷◌, length, get_or, Option, Some, None, cond, sym, ap, subst, ◌∙◌, ◌⊎◌, inl, inr, arith, refl}
use Rattle.std.specs.Prelude.{◌<ℤ◌, Contains, slice_index_or}
use Rattle.std.proofs.lemmas.List.{get_or-map, length-map}
use Rattle.std.specs.FinMap.{find}
use Rattle.nd_paths.specs.Point.{point_cmp, point_exact}
use Rattle.nd_graph.specs.Graph.{Dataflow}
use Rattle.nd_paths.specs.Order.{CouldResultIn, Fits, IsStrictlyBefore}
use Rattle.nd_paths.specs.Laws.{IsMinimalAmong}
use Rattle.nd_paths.specs.declared.point.Pointstamp.{Pointstamp}
use Rattle.nd_delta.specs.Delta.{DeltaValue, at, entries, points_of, part, has_point, is_point, at-part}
use Rattle.nd_delta.specs.Least.{place_of}
use Rattle.nd_view.specs.View.{IsBefore, IsPrecursor, IsOnFrontier, IsPartWhere, IsCount, HasFrontierBefore, FrontierCovers}
use Rattle.nd_view.specs.declared.extent.Extent.{Extent}
use Rattle.nd_view.specs.declared.extent.Extent.TheVariants.{AtOrBefore, StrictlyBefore}
use Rattle.nd_view.specs.Kept.{Kept, IsKeptAt, IsFor, IsFrontierList}
use Rattle.nd_view.specs.PartLaws.{index_some}
use Rattle.nd_view.proofs.Moves.{itself}
use Rattle.nd_view.proofs.Fors.{zero_of_frontier, frontier_of_zero}
use Rattle.std.proofs.lemmas.List.Folds.{list_any_at}
use Rattle.std.proofs.lemmas.Map.Views.{Contains-from_any, tells_apart}
use Rattle.nd_map.specs.Cases.{not_zero}

-- the order of an accepted graph, as its paths give it
pub record IsOrder (g : Dataflow) : Type 0 where
  pub reflexive : (s : Pointstamp) → Fits g s → CouldResultIn g s s
  pub transitive : (s t u : Pointstamp) → CouldResultIn g s t → CouldResultIn g t u → CouldResultIn g s u
  pub strict : (s t u : Pointstamp) → IsStrictlyBefore g s t → IsStrictlyBefore g t u → IsStrictlyBefore g s u
  pub minimal : (p : Pointstamp) (ps : List Pointstamp) → (m : Pointstamp) × IsMinimalAmong g (p ∷ ps) m

module _ (g : Dataflow) (order : IsOrder g) (m : DeltaValue) where
  -- each positive point has a point of the frontier at or before it
  frontier_before : (x : Pointstamp) (n : ℕ) → pos 0 <ℤ at m x → IsCount (IsPrecursor g m x) m n → (y : Pointstamp) × IsOnFrontier g m y × ((y ≡ x) ⊎ IsStrictlyBefore g y x)
  frontier_before x n positive counted =
      let f = counted.0 in
      let ps = points_of (entries f) in
      let least = order.minimal x ps in
      let y = least.0 in
      let place = among_at y least.1.among.0 least.1.among.1 least.1.among.2 in
      elim place [
        | inl same ↦ (y, record { positive = subst (λ z. pos 0 <ℤ at m z) (sym same) positive; first = λ z p. least.1.none z (listed f z (λ e. not_zero (at m z) p.positive (sym (counted.1.all z (record { positive = p.positive; before = subst (IsStrictlyBefore g z) same p.before })) ∙ e))) p.before }, inl same)
        | inr some ↦
            let below = counted.1.only y some in
            (y, record { positive = below.positive; first = λ z p. least.1.none z (listed f z (λ e. not_zero (at m z) p.positive (sym (counted.1.all z (record { positive = p.positive; before = order.strict z y x p.before below.before })) ∙ e))) p.before }, inr below.before)
      ]
    where
      among_at : (y : Pointstamp) (k : ℕ) → k < length (x ∷ points_of (entries counted.0)) → slice_index_or (x ∷ points_of (entries counted.0)) k y ≡ y → (y ≡ x) ⊎ (at counted.0 y ≢ pos 0)
      among_at y zero lt e = inl (sym e)
      among_at y (suc k) lt e =
          let short : k < length (entries counted.0) = omega (arith, lt, length-map (entries counted.0) (λ z. z.0)) in
          let is : (get_or (entries counted.0) k (y, pos 0)).0 ≡ y = sym (get_or-map (λ z. z.0) (entries counted.0) k (y, pos 0) y short) ∙ e in
          inr (subst (λ z. at counted.0 z ≢ pos 0) is (index_some counted.0 k (y, pos 0) short))

      listed : (f : DeltaValue) (z : Pointstamp) → at f z ≢ pos 0 → Contains (x ∷ points_of (entries f)) z
      listed f z some =
          let place = place_of f z some in (
            suc place.index,
            omega (arith, place.in_range, length-map (entries f) (λ e. e.0)),
            get_or-map (λ e. e.0) (entries f) place.index (z, at f z) z place.in_range ∙ place.is,
          )

-- a point before x is before everything that x is before
through : (g : Dataflow) → IsOrder g → (extent : Extent) (y x t : Pointstamp) → (y ≡ x) ⊎ IsStrictlyBefore g y x → IsBefore g extent x t → IsBefore g extent y t
through g order StrictlyBefore y x t (inl same) before = subst (λ z. IsStrictlyBefore g z t) (sym same) before
through g order StrictlyBefore y x t (inr earlier) before = order.strict y x t earlier before
through g order AtOrBefore y x t (inl same) before = subst (λ z. CouldResultIn g z t) (sym same) before
through g order AtOrBefore y x t (inr earlier) before = order.transitive y x t earlier.0 before

-- a point before x is at or before x
near : (g : Dataflow) → IsOrder g → (y x : Pointstamp) → Fits g x → (y ≡ x) ⊎ IsStrictlyBefore g y x → CouldResultIn g y x
near g order y x fits (inl same) = subst (λ z. CouldResultIn g z x) (sym same) (order.reflexive x fits)
near g order y x fits (inr earlier) = earlier.0

fits_before : (g : Dataflow) (extent : Extent) (x t : Pointstamp) → IsBefore g extent x t → Fits g x
fits_before g AtOrBefore x t before = before.fits_s
fits_before g StrictlyBefore x t before = before.0.fits_s

-- if something positive is before t, something on the frontier is
pub frontier_hinders : (g : Dataflow) → IsOrder g → (v : Kept) → IsFor g v → FrontierCovers g v.map
frontier_hinders g order v h extent t x b = by (find point_cmp x v.counts) (h.each x)
  where
    by : (o : Option ℕ) → IsKeptAt g v.map x o → HasFrontierBefore g v.map extent t x
    by None never = absurd (never b.positive)
    by (Some n) kept =
        let least = frontier_before g order v.map x n kept.0 kept.1 in
        record { point = least.0; frontier = least.1; before = through g order extent least.0 x t least.2 b.before; near = near g order least.0 x (fits_before g extent x t b.before) least.2 }

-- the part at the listed points is the part on the frontier
pub frontier_part : (g : Dataflow) (v : Kept) → IsFor g v → (m : DeltaValue) → m ≡ v.map → (frontier : List Pointstamp) (room : ℕ) → IsFrontierList v.counts frontier room → (f : DeltaValue) → f ≡ part m frontier → IsPartWhere (IsOnFrontier g v.map) v.map f
frontier_part g v h m m_is frontier room listed f f_is = record {
  all = λ x on. value x ∙ ap (λ b. cond b (at v.map x) (pos 0)) (has x (listed.all x (zero_of_frontier g v h x on)));
  only = λ x some. by x some (has_point x frontier) refl;
}
  where
    value : (x : Pointstamp) → at f x ≡ cond (has_point x frontier) (at v.map x) (pos 0)
    value x = ap (λ c. at c x) (f_is ∙ ap (λ c. part c frontier) m_is) ∙ at-part v.map frontier x

    has : (x : Pointstamp) → Contains frontier x → has_point x frontier ≡ true
    has x among = list_any_at (is_point x) frontier among.0 x among.1 (ap (is_point x) among.2 ∙ itself x)

    by : (x : Pointstamp) → at f x ≢ pos 0 → (b : Bool) → has_point x frontier ≡ b → IsOnFrontier g v.map x
    by x some true e = frontier_of_zero g v h x (listed.only x (Contains-from_any (tells_apart point_exact) x frontier e))
    by x some false e = absurd (some (value x ∙ ap (λ b. cond b (at v.map x) (pos 0)) e))

-- if the list is not empty, there is a frontier
pub frontier_some : (g : Dataflow) (v : Kept) → IsFor g v → (frontier : List Pointstamp) (room : ℕ) → IsFrontierList v.counts frontier room → frontier ≢ [] → (x : Pointstamp) × IsOnFrontier g v.map x
frontier_some g v h [] room listed some = absurd (some refl)
frontier_some g v h (x ∷ rest) room listed some = (x, frontier_of_zero g v h x (listed.only x (0, omega arith, refl)))
