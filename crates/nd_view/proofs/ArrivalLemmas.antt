-- The minimal times into which walks turn those of a view's frontier are the minimal times that can arrive.
use Rattle.std.proofs.Common.{◌≡◌, ◌≢◌, ℕ, ℤ, pos, List, [], ◌∷◌, length, get_or, refl, sym, ap, subst, ◌∙◌, arith}
use Rattle.std.specs.Prelude.{◌<ℤ◌, Contains, IsPermutation}
use Rattle.std.proofs.lemmas.List.{get_or_default}
use Rattle.std.proofs.lemmas.List.Sorted.{IsPermutation-sym, Contains-permutation}
use Rattle.nd_time.specs.Time.{Time}
use Rattle.nd_time.specs.Order.{IsAtOrBeforeBy}
use Rattle.nd_graph.specs.Graph.{Dataflow}
use Rattle.nd_paths.specs.Order.{CouldResultIn}
use Rattle.nd_paths.specs.Arrival.{TurnsInto, HasAtOrBefore, WalksLeadOn}
use Rattle.nd_paths.specs.declared.point.Pointstamp.{Pointstamp}
use Rattle.nd_delta.specs.Delta.{DeltaValue, at, entries}
use Rattle.nd_delta.specs.Least.{place_of}
use Rattle.nd_map.specs.Cases.{not_zero}
use Rattle.nd_view.specs.View.{IsOnFrontier, IsPartWhere}
use Rattle.nd_view.specs.Kept.{Kept, IsFor}
use Rattle.nd_view.specs.Arrivals.{CanArrive, AreArrivals, AreExact, AreReached, AreMinimal}
use Rattle.nd_view.proofs.Frontiers.{IsOrder, frontier_hinders}
use Rattle.nd_view.specs.PartLaws.{index_some, part-entry}
use Rattle.nd_view.specs.declared.extent.Extent.TheVariants.{AtOrBefore}
use Rattle.nd_view.proofs.TimeOrder.{before_through, before_both}

-- a time comes from an entry
pub entry_of_time : (g : Dataflow) (es : List (Pointstamp × ℤ)) (x : ℕ) (times sorted : List Time) → AreReached g es x times → IsPermutation times sorted → sorted ≢ [] → es ≢ []
entry_of_time g es x times [] reached permuted some none = absurd (some refl)
entry_of_time g es x times (t ∷ rest) reached permuted some none =
    let (n, inside, at') = Contains-permutation (t ∷ rest) times t (IsPermutation-sym times (t ∷ rest) permuted) (0, omega arith, refl) in
    let (e, (i, within, is_e), turns) = reached.each n t inside in
    omega (arith, within, ap length none)

-- an entry of the part on the frontier is on the frontier
pub entry_on_frontier : (g : Dataflow) (m f : DeltaValue) → IsPartWhere (IsOnFrontier g m) m f → (es : List (Pointstamp × ℤ)) → es ≡ entries f → es ≢ [] → (x : Pointstamp) × IsOnFrontier g m x
entry_on_frontier g m f part [] is some = absurd (some refl)
entry_on_frontier g m f part (e ∷ rest) is some =
    let x : Pointstamp = (get_or (entries f) 0 e).0 in
    (x, part-entry (IsOnFrontier g m) m f part 0 e (omega (arith, ap length is)))

module _ (g : Dataflow) (order : IsOrder g) (on : WalksLeadOn g) (v : Kept) (kept_for : IsFor g v) (f : DeltaValue) (part : IsPartWhere (IsOnFrontier g v.map) v.map f) (x : ℕ)
    (times sorted : List Time) (reached : AreReached g (entries f) x times) (permuted : IsPermutation times sorted) (least : List Time) (minimal : AreMinimal g.order sorted least) where
  -- each time that a positive point could result in has one of the least times at or before it
  found : (s : Pointstamp) (t : Time) → pos 0 <ℤ at v.map s → CouldResultIn g s (record { location = x; time = t }) → HasAtOrBefore g.order least t
  found s t positive could =
      let close = frontier_hinders g order v kept_for AtOrBefore (record { location = x; time = t }) s (record { positive = positive; before = could }) in
      let y = close.point in
      let front = close.frontier in
      let some : at f y ≢ pos 0 = λ e. not_zero (at v.map y) front.positive (sym (part.all y front) ∙ e) in
      let place = place_of f y some in
      let e = get_or (entries f) place.index (y, at f y) in
      let there : CouldResultIn g e.0 (record { location = x; time = t }) = subst (λ z. CouldResultIn g z (record { location = x; time = t })) (sym place.is) close.before in
      let (u, among, before) = reached.least e (place.index, place.in_range, get_or_default (entries f) place.index e (y, at f y) place.in_range) t there in
      let (w, chosen, first) = minimal.covers u (Contains-permutation times sorted u permuted among) in
      (w, chosen, before_through g.order w u t first before)

  -- each of the least times can arrive
  arrives : (t : Time) → Contains least t → CanArrive g v.map x t
  arrives t (k, lt, is) =
      let (n, inside, at') = Contains-permutation sorted times t (IsPermutation-sym times sorted permuted) (subst (Contains sorted) is (minimal.among k t lt)) in
      let (e, (i, li, is_e), turns) = reached.each n t inside in
      let some : at f e.0 ≢ pos 0 = subst (λ z. at f z.0 ≢ pos 0) is_e (index_some f i e li) in
      record { source = e.0; positive = (part.only e.0 some).positive; turns = subst (TurnsInto g e.0 x) at' turns }

  -- each time that can arrive there has one of the least times at or before it
  covers : (t : Time) → CanArrive g v.map x t → HasAtOrBefore g.order least t
  covers t can = found can.source t can.positive (on can.source x t can.turns)

  pub are_arrivals : AreArrivals g v.map x least
  are_arrivals = record {
    each = λ k d lt. record {
      arrives = arrives (get_or least k d) (k, lt, get_or_default least k (get_or least k d) d lt);
      first = λ u can before.
          let t : Time = get_or least k d in
          let (w, (j, lj, is), first) = covers u can in
          let here : get_or least j d ≡ w = get_or_default least j d w lj ∙ is in
          let same : j ≡ k = minimal.apart j k d lj lt (subst (λ s. IsAtOrBeforeBy g.order s t) (sym here) (before_through g.order w u t first before)) in
          let one : w ≡ t = sym here ∙ ap (λ i. get_or least i d) same in
          before_both g.order u t before (subst (λ s. IsAtOrBeforeBy g.order s u) one first);
    };
    all = λ t one.
        let (w, among, before) = covers t one.arrives in
        subst (Contains least) (one.first w (arrives w among) before) among;
    rising = minimal.rising;
  }

  pub are_exact : AreExact g v.map x least
  are_exact t depth = (
    λ passed (u, among, before).
        let can = arrives u among in
        let could = on can.source x u can.turns in
        let here : CouldResultIn g (record { location = x; time = u }) (record { location = x; time = t }) = record { fits_s = could.fits_t; fits_t = record { depth = depth }; walk = []; leads = refl; before = before } in
        passed can.source (record { positive = can.positive; before = order.transitive can.source (record { location = x; time = u }) (record { location = x; time = t }) could here }),
    λ none s b. none (found s t b.positive b.before),
  )
