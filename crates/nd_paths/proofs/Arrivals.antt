-- The times into which minimal summaries turn a time are those of walks, and the minimal ones are among them.
use Rattle.std.proofs.Common.{◌≡◌, ◌<◌, ℕ, zero, suc, Some, List, [], ◌∷◌, length, map, get_or, sym, ◌∙◌, ap, subst, arith}
use Rattle.std.specs.Prelude.{All, Contains, slice_index}
use Rattle.std.proofs.lemmas.List.Elements.{All-map}
use Rattle.std.proofs.lemmas.Option.{slice_get_within, get_or_from_slice_get}
use Rattle.nd_time.specs.Time.{Time}
use Rattle.nd_graph.specs.declared.graph.Arc.{Arc}
use Rattle.nd_graph.specs.Graph.{Dataflow, depths}
use Rattle.nd_summaries.specs.declared.summary.Summary.{Summary}
use Rattle.nd_summaries.specs.Walk.{HasDepth, IsWalk, LeadsBefore, effect}
use Rattle.nd_summaries.specs.Summary.{AreMinimalSummaries, IsMinimalSummary}
use Rattle.nd_summaries.specs.Laws.{SomeTurns}
use Rattle.nd_paths.specs.declared.point.Pointstamp.{Pointstamp}
use Rattle.nd_paths.specs.Order.{Fits, CouldResultIn}
use Rattle.nd_paths.specs.Arrival.{TurnsInto, CoverAll, turned}
use Rattle.nd_paths.proofs.PointOrder.{leads_from_could, could_from_leads}

-- the location of a point that fits is one of the graph, and its time has that depth
pub fits_size : (g : Dataflow) (s : Pointstamp) → Fits g s → (s.location < length (depths g)) × (length s.time.counters ≡ slice_index (depths g) s.location)
fits_size g s f =
    (slice_get_within (depths g) s.location (length s.time.counters) f.depth, sym (get_or_from_slice_get (depths g) s.location (length s.time.counters) 0 f.depth))

contains_mapped : {X Y : Type 0} (f : X → Y) (xs : List X) (x : X) → Contains xs x → Contains (map f xs) (f x)
contains_mapped f [] x (k, l, e) = absurd (omega (arith, l))
contains_mapped f (y ∷ xs) x (zero, l, e) = (0, omega arith, ap f e)
contains_mapped f (y ∷ xs) x (suc k, l, e) = let (n, m, e') = contains_mapped f xs x (k, omega arith, e) in (suc n, omega (arith, m), e')

module _ (g : Dataflow) (s : Pointstamp) (b : ℕ) (list : List Summary) (minimal : AreMinimalSummaries g.order g s.location b list) where
  one_turned : Fits g s → (u : Summary) → IsMinimalSummary g.order g s.location b u → TurnsInto g s b (turned u s.time)
  one_turned f u m =
      let both : Some (length s.time.counters) ≡ Some m.summary.depth = sym f.depth ∙ m.summary.has_depth in
      let size : length s.time.counters ≡ m.summary.depth = cc in
      record {
        fits = f;
        walk = m.walk;
        leads = m.leads;
        time = ap (λ c. record { epoch = s.time.epoch; counters = c }) (m.summary.does s.time.counters size);
      }

  -- each of the times comes from a walk
  pub each_turned : Fits g s → All (TurnsInto g s b) (map (λ u. turned u s.time) list)
  each_turned f =
      All-map (TurnsInto g s b) (λ u. turned u s.time) list (λ k d l. one_turned f (get_or list k d) (minimal.each k d l))

  -- each time that the point could result in has one of the times at or before it
  pub all_covered : ((t : Time) → LeadsBefore g.order g s.location s.time b t → SomeTurns g.order list s.time t) → CoverAll g s b (map (λ u. turned u s.time) list)
  all_covered some = λ t could.
      let (u, i, before) = some t (leads_from_could g s (record { location = b; time = t }) could) in
      (turned u s.time, contains_mapped (λ v. turned v s.time) list u i, before)

-- a point could result in the time into which a walk turns its own
pub turned_on : (g : Dataflow) → ((k l : ℕ) (w : List Arc) (s : Time) → HasDepth g k (length s.counters) → IsWalk g k w l → LeadsBefore g.order g k s l (record { epoch = s.epoch; counters = effect w s.counters })) → (s : Pointstamp) (x : ℕ) (t : Time) → TurnsInto g s x t → CouldResultIn g s (record { location = x; time = t })
turned_on g leads s x t h =
    let one = leads s.location x h.walk s.time h.fits.depth h.leads in
    could_from_leads g s (record { location = x; time = t }) (subst (LeadsBefore g.order g s.location s.time x) (sym h.time) one)
