-- The times into which walks turn those of some entries, entry by entry.
use Rattle.std.proofs.Common.{◌≡◌, ◌+◌, ◌≤◌, ◌<◌, ℕ, ℤ, List, ◌++◌, length, get_or, sym, ap, subst, ◌∙◌, inl, inr, arith}
use Rattle.std.specs.Prelude.{All, Contains}
use Rattle.std.proofs.lemmas.Bool.{cases_lt}
use Rattle.std.proofs.lemmas.List.{get_or_default}
use Rattle.std.proofs.lemmas.List.Elements.{All-append, Contains-append_left, Contains-append_right}
use Rattle.nd_time.specs.Time.{Time}
use Rattle.nd_graph.specs.Graph.{Dataflow}
use Rattle.nd_paths.specs.Order.{CouldResultIn}
use Rattle.nd_paths.specs.Arrival.{TurnsInto, CoverAll}
use Rattle.nd_paths.specs.declared.point.Pointstamp.{Pointstamp}
use Rattle.nd_view.specs.Arrivals.{AreReached}

module _ (g : Dataflow) (es : List (Pointstamp × ℤ)) (x : ℕ) where
  abbrev IsOfOne : Time → Type 0
  IsOfOne t = (e : Pointstamp × ℤ) × Contains es e × TurnsInto g e.0 x t

  -- the times reached from the first entries
  pub record AreReachedUpTo (i : ℕ) (times : List Time) : Type 0 where
    pub each : All IsOfOne times
    pub least : (k : ℕ) (d : Pointstamp × ℤ) → k < i → k < length es → CoverAll g (get_or es k d).0 x times

  pub reached_one : (i : ℕ) (e : Pointstamp × ℤ) → i < length es → e ≡ get_or es i e → (times own more : List Time) → more ≡ times ++ own → All (TurnsInto g e.0 x) own
      → CoverAll g e.0 x own → AreReachedUpTo i times → AreReachedUpTo (i + 1) more
  reached_one i e lt is times own more more_is each least h = record {
    each = subst (All IsOfOne) (sym more_is) (All-append IsOfOne times own h.each (λ k d less. (e, (i, lt, sym is), each k d less)));
    least = λ k d less within t could. elim (cases_lt k i) [
      | inl l ↦ (let (u, among, before) = h.least k d l within t could in (u, subst (λ l'. Contains l' u) (sym more_is) (Contains-append_left times own u among), before))
      | inr l ↦
          let same : k ≡ i = omega (arith, less, l) in
          let here : get_or es k d ≡ e = ap (λ m. get_or es m d) same ∙ get_or_default es i d e lt ∙ sym is in
          let (u, among, before) = least t (subst (λ p. CouldResultIn g p.0 (record { location = x; time = t })) here could) in
          (u, subst (λ l'. Contains l' u) (sym more_is) (Contains-append_right times own u among), before)
    ];
  }

  pub reached_all : (i : ℕ) (times : List Time) → length es ≤ i → AreReachedUpTo i times → AreReached g es x times
  reached_all i times past h = record {
    each = h.each;
    least = λ e among t could.
        let (k, within, same) = among in
        h.least k e (omega (arith, within, past)) within t (subst (λ p. CouldResultIn g p.0 (record { location = x; time = t })) (sym same) could);
  }
