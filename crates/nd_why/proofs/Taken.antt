-- Which pointstamps of a view's frontier a loop has taken.
use Rattle.std.proofs.Common.{◌≡◌, ◌≢◌, ◌<◌, ◌≤◌, ◌+◌, ℕ, ℤ, pos, true, false, cond, length, get_or, refl, ap, sym, subst, ◌∙◌, arith, unsigned_abs}
use Rattle.std.proofs.lemmas.Map.Views.{tells_apart}
use Rattle.nd_time.specs.Limits.{max_count}
use Rattle.nd_graph.specs.Graph.{Dataflow}
use Rattle.nd_paths.specs.Point.{point_exact}
use Rattle.nd_paths.specs.declared.point.Pointstamp.{Pointstamp}
use Rattle.nd_delta.specs.Delta.{DeltaValue, none, at, set, entries, is_point, IsWithin, at-none, at-set, at-set_same}
use Rattle.nd_delta.specs.Least.{AllUpTo, all-more, all-points, at-index}
use Rattle.nd_view.specs.declared.extent.Extent.{Extent}
use Rattle.nd_view.specs.View.{IsBefore, IsOnFrontier, IsPartWhere}
use Rattle.nd_why.specs.Why.{IsReason}
use Rattle.nd_map.specs.Cases.{not_zero}

-- an entry's number is within the limit
pub within_limit : (m : DeltaValue) (i : ℕ) (x : Pointstamp × ℤ) → IsWithin m → i < length (entries m) → x ≡ get_or (entries m) i x → unsigned_abs x.1 ≤ max_count
within_limit m i x within lt is = subst (λ z. unsigned_abs z ≤ max_count) (sym (at-index m i x lt is)) (within x.0)

-- P holds of the new number if x is b, and otherwise of the old one
by_point : (P : ℤ → Type 0) (x b : Pointstamp) (n z : ℤ) → (x ≡ b → P n) → P z → P (cond (is_point x b) n z)
by_point P x b n z here there =
    elim (is_point x b) as (λ c. is_point x b ≡ c → P (cond c n z)) [
      | true ↦ λ e. here (tells_apart point_exact x b e)
      | false ↦ λ e. there
    ] refl

module _ (g : Dataflow) (extent : Extent) (t : Pointstamp) (f : DeltaValue) where
  -- x has its number if it is before t
  abbrev Gets : DeltaValue → Pointstamp → Type 0
  Gets taken x = IsBefore g extent x t → at taken x ≡ at f x

  -- among the first i pointstamps of f exactly those before t were taken
  pub record IsTaken (taken : DeltaValue) (i : ℕ) : Type 0 where
    pub same : (x : Pointstamp) → at taken x ≢ pos 0 → at taken x ≡ at f x
    pub before : (x : Pointstamp) → at taken x ≢ pos 0 → IsBefore g extent x t
    pub all : AllUpTo (λ x. IsBefore g extent x t → at taken x ≡ at f x) (entries f) i

  pub taken_none : (taken : DeltaValue) → taken ≡ none → IsTaken taken 0
  taken_none taken is =
      let zero_at : (x : Pointstamp) → at taken x ≡ pos 0 = λ x. ap (λ m. at m x) is ∙ at-none x in
      record { same = λ x some. absurd (some (zero_at x)); before = λ x some. absurd (some (zero_at x)); all = λ k lt. absurd (omega arith) }

  pub taken_skip : (taken : DeltaValue) (i : ℕ) (x : Pointstamp × ℤ) → i < length (entries f) → x ≡ get_or (entries f) i x → (IsBefore g extent x.0 t → ⊥) → IsTaken taken i → IsTaken taken (i + 1)
  taken_skip taken i x lt is not h = record { same = h.same; before = h.before; all = all-more (Gets taken) (entries f) i x lt is (λ c. absurd (not c)) h.all }

  pub taken_one : (taken new : DeltaValue) (i : ℕ) (x : Pointstamp × ℤ) → i < length (entries f) → x ≡ get_or (entries f) i x → IsBefore g extent x.0 t → new ≡ set taken x.0 x.1 → IsTaken taken i → IsTaken new (i + 1)
  taken_one taken new i x lt is could new_is h =
      let number : x.1 ≡ at f x.0 = at-index f i x lt is in
      let value : (y : Pointstamp) → cond (is_point y x.0) x.1 (at taken y) ≡ at new y = λ y. sym (ap (λ m. at m y) new_is ∙ at-set taken x.0 x.1 y) in
      record {
        same = λ y. subst (λ z. z ≢ pos 0 → z ≡ at f y) (value y) (by_point (λ z. z ≢ pos 0 → z ≡ at f y) y x.0 x.1 (at taken y) (λ e some. number ∙ ap (at f) (sym e)) (h.same y));
        before = λ y. subst (λ z. z ≢ pos 0 → IsBefore g extent y t) (value y) (by_point (λ z. z ≢ pos 0 → IsBefore g extent y t) y x.0 x.1 (at taken y) (λ e some. subst (λ w. IsBefore g extent w t) (sym e) could) (h.before y));
        all = all-more (Gets new) (entries f) i x lt is (λ c. ap (λ m. at m x.0) new_is ∙ at-set_same taken x.0 x.1 ∙ number)
            (λ k less d c.
            let y = (get_or (entries f) k d).0 in
            subst (λ z. z ≡ at f y) (value y) (by_point (λ z. z ≡ at f y) y x.0 x.1 (at taken y) (λ e. number ∙ ap (at f) (sym e)) (h.all k less d c)));
      }

  -- after all were visited, what was taken is the part of the view at its reasons
  pub taken_all : (v taken : DeltaValue) (i : ℕ) → length (entries f) ≤ i → IsPartWhere (IsOnFrontier g v) v f → IsTaken taken i → IsPartWhere (IsReason g v extent t) v taken
  taken_all v taken i past part h = record {
    all = λ x reason.
        let number : at f x ≡ at v x = part.all x reason.frontier in
        all-points f (Gets taken) i past h.all x (λ e. not_zero (at v x) reason.frontier.positive (sym number ∙ e)) reason.before ∙ number;
    only = λ x some. record { frontier = part.only x (λ e. some (h.same x some ∙ e)); before = h.before x some };
  }
