-- Some entry of a change has a property exactly if the change has it at some pointstamp.
use Rattle.std.proofs.Common.{◌≡◌, ◌≢◌, ℤ, pos, get_or, sym, subst}
use Rattle.std.proofs.lemmas.List.{get_or_default}
use Rattle.std.specs.Prelude.{Any}
use Rattle.nd_paths.specs.declared.point.Pointstamp.{Pointstamp}
use Rattle.nd_delta.specs.Delta.{DeltaValue, at, entries}
use Rattle.nd_delta.specs.Least.{at-index, place_of}

module _ (m : DeltaValue) (P : Pointstamp → ℤ → Type 0) where
  pub point_of : Any (λ e. P e.0 e.1) (entries m) → (q : Pointstamp) × P q (at m q)
  point_of h = (h.1.0, subst (P h.1.0) (at-index m h.0 h.1 h.2 (sym h.3)) h.4)

  pub entry_of : (q : Pointstamp) → at m q ≢ pos 0 → P q (at m q) → Any (λ e. P e.0 e.1) (entries m)
  entry_of q some p =
      let place = place_of m q some in
      let x = get_or (entries m) place.index (q, at m q) in
      let is : get_or (entries m) place.index x ≡ x = get_or_default (entries m) place.index x (q, at m q) place.in_range in
      let here : P x.0 (at m x.0) = subst (λ y. P y (at m y)) (sym place.is) p in
      (place.index, x, place.in_range, is, subst (P x.0) (sym (at-index m place.index x place.in_range (sym is))) here)
