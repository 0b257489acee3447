-- A move is a step of the core, a take or a notice without limits and views, or leaves the core as it is.
use Rattle.std.proofs.Common.{◌≡◌, ◌⊎◌, inl, inr, ℕ, zero, suc, ◌+◌, ◌<◌, ◌≤◌, ℤ, pos, Bool, true, false, List, [], ◌∷◌, map, length, Option, Some, None, refl, sym, ap, subst, ◌∙◌, arith}
use Rattle.std.proofs.lemmas.Bool.{cases_lt}
use Rattle.std.proofs.lemmas.Int.{ints}
use Rattle.std.proofs.lemmas.List.{length-map, map-set, set-get_or}
use Rattle.std.proofs.lemmas.List.Elements.{All-get_or}
use Rattle.std.specs.Prelude.{slice_set}
use Rattle.std.specs.FinMap as fin
use Rattle.nd_time.specs.Time.{Time}
use Rattle.nd_graph.specs.Graph.{Dataflow}
use Rattle.nd_map.specs.Counts.{at, added}
use Rattle.nd_paths.specs.Order.{CouldResultIn}
use Rattle.nd_paths.specs.declared.point.Pointstamp.{Pointstamp}
use Rattle.nd_delta.specs.Delta.{DeltaValue, none}
use Rattle.nd_processor.specs.Keys.{value_at_total}
use Rattle.nd_processor.specs.HeldLaws.{sum_by-map}
use Rattle.nd_processor.specs.State.{ProcessorState, idle, held, items_at}
use Rattle.nd_processor.specs.declared.key.ValueAt.{ValueAt}
use Rattle.nd_protocol.specs.State.{ClusterState, queue}
use Rattle.nd_protocol.specs.Steps.{record_key, point_at, with_record, with_records, with_gain, taken, noticed, stepped, after}
use Rattle.nd_protocol.specs.Exchange.{sent, received, received_from}
use Rattle.nd_protocol.specs.Fitting.{IsOrdered, IsState, IsAtEdge, IsAtVertex, ProcessorFits}
use Rattle.nd_protocol.specs.Invariant.{KeepsProtocol}
use Rattle.nd_protocol.specs.Enabled.{IsEnabled}
use Rattle.nd_protocol.specs.Laws.{StepLeadsToState, StepKeepsProtocol, NoticeComesLast, PassedMeansFinished, NothingIsBefore}
use Rattle.nd_protocol.specs.TruthLaws.{count, truth-count}
use Rattle.nd_protocol.specs.declared.step.Step.{Step}
use Rattle.nd_protocol.specs.declared.step.Step.TheVariants.{Feed, Take, Notice, Release, Send, Broadcast, Receive}
use Rattle.nd_protocol.specs.declared.refusal.Refusal.TheVariants.{NoProcessor, NoRecord, NoRequest, NotNotified}
use Rattle.nd_rest.specs.Moves.{IsMove, AreMoves, work, works}
use Rattle.nd_rest.proofs.Diamond.{Leads, IsEnd, front}
use Rattle.nd_rest.proofs.Firings.{Firing, nth, changed, made, found, fire, length-fire}
use Rattle.nd_rest.proofs.Core.{Work, taking, noticing, firing, next, IsAllowed, MayTake, MayNotice, IsTransitive, meet}

-- what is known of the protocol and of the order of pointstamps
pub record Laws (A : Type 0) : Type 0 where
  pub state : StepLeadsToState A
  pub keeps : StepKeepsProtocol A
  pub last : NoticeComesLast A
  pub passed : PassedMeansFinished
  pub before : NothingIsBefore
  pub strictly : IsTransitive
  pub could : (g : Dataflow) (s t u : Pointstamp) → CouldResultIn g s t → CouldResultIn g t u → CouldResultIn g s u

-- ---- the core of a list of processors

-- a processor that has sent everything
abbrev pub bare : ProcessorState → ProcessorState
bare q = record q { unsent = none }

-- the records, requests, tokens, items and sinks
abbrev pub core : List ProcessorState → List ProcessorState
core qs = map bare qs

pub nth-core : (qs : List ProcessorState) (k : ℕ) → nth (core qs) k ≡ bare (nth qs k)
nth-core [] k = refl
nth-core (q ∷ qs) zero = refl
nth-core (q ∷ qs) (suc k) = nth-core qs k

core-set : (qs : List ProcessorState) (p : ℕ) (r : ProcessorState) → core (slice_set qs p r) ≡ slice_set (core qs) p (bare r)
core-set qs p r = map-set bare qs p r

-- writing what is unsent leaves the core
pub core-unsent : (qs : List ProcessorState) (p : ℕ) (c : DeltaValue) → core (slice_set qs p (record (nth qs p) { unsent = c })) ≡ core qs
core-unsent qs p c = core-set qs p (record (nth qs p) { unsent = c }) ∙ ap (slice_set (core qs) p) (sym (nth-core qs p)) ∙ set-get_or (core qs) p idle

core-record : (qs : List ProcessorState) (r : ℕ × ValueAt) → core (with_record qs r) ≡ with_record (core qs) r
core-record qs r =
    core-set qs r.0 (record (nth qs r.0) { records = added value_at_total (nth qs r.0).records r.1 (pos 1) })
    ∙ (λ i. slice_set (core qs) r.0 (record (sym (nth-core qs r.0) i) { records = added value_at_total (sym (nth-core qs r.0) i).records r.1 (pos 1) }))

core-records : (qs : List ProcessorState) (rs : List (ℕ × ValueAt)) → core (with_records qs rs) ≡ with_records (core qs) rs
core-records qs [] = refl
core-records qs (r ∷ rs) = core-records (with_record qs r) rs ∙ ap (λ q. with_records q rs) (core-record qs r)

pub core-fire : (g : Dataflow) (f : Firing) (qs : List ProcessorState) → core (fire g f qs) ≡ fire g f (core qs)
unfolding fire
core-fire g f qs =
    core-records (slice_set qs f.p (changed f (nth qs f.p))) (made g (length qs) f (found f qs))
    ∙ ap (λ q. with_records q (made g (length qs) f (found f qs))) (core-set qs f.p (changed f (nth qs f.p)))
    ∙ (λ i. with_records (slice_set (core qs) f.p (changed f (sym (nth-core qs f.p) i))) (made g (sym (length-map qs bare) i) f (items_at (sym (nth-core qs f.p) i) f.vertex)))

pub count-core : (qs : List ProcessorState) (x : Pointstamp) → count (core qs) x ≡ count qs x
count-core qs x = sum_by-map (λ q. held q x) bare qs

-- ---- a take and a notice of a cluster

core-gain : (old : List ProcessorState) (p : ℕ) (new : List ProcessorState) → core (with_gain old p new) ≡ core new
core-gain old p new = core-unsent new p _

pub taken-fires : (s : ClusterState) (p edge : ℕ) (t : Time) (value : ℤ) → taken s p edge t value ≡ fire s.graph (firing s.graph (taking p edge t value)) s.processors
unfolding taken fire
taken-fires s p edge t value = refl

pub noticed-fires : (s : ClusterState) (p vertex : ℕ) (t : Time) → noticed s p vertex t ≡ fire s.graph (firing s.graph (noticing p vertex t)) s.processors
unfolding noticed fire
noticed-fires s p vertex t = refl

core-take : (A : Type 0) (s : ClusterState) (p edge : ℕ) (t : Time) (value : ℤ) → core (stepped {A = A} s (Take p edge t value)).processors ≡ next s.graph (core s.processors) (taking p edge t value)
unfolding stepped
core-take A s p edge t value = core-gain s.processors p (taken s p edge t value) ∙ ap core (taken-fires s p edge t value) ∙ core-fire s.graph (firing s.graph (taking p edge t value)) s.processors

core-notice : (A : Type 0) (s : ClusterState) (p vertex : ℕ) (t : Time) → core (stepped {A = A} s (Notice p vertex t)).processors ≡ next s.graph (core s.processors) (noticing p vertex t)
unfolding stepped
core-notice A s p vertex t = core-gain s.processors p (noticed s p vertex t) ∙ ap core (noticed-fires s p vertex t) ∙ core-fire s.graph (firing s.graph (noticing p vertex t)) s.processors

pub below : (p n : ℕ) → (n ≤ p → ⊥) → p < n
below p n not_past = elim (cases_lt p n) [ inl lt ↦ lt | inr le ↦ absurd (not_past le) ]

some_of : (n : ℕ) → (n ≡ 0 → ⊥) → 0 < n
some_of zero some = absurd (some refl)
some_of (suc n) some = omega arith

is_there : (o : Option (Unit {0})) → (o ≡ None → ⊥) → o ≡ Some tt
is_there None some = absurd (some refl)
is_there (Some u) some = refl

not_true : (b : Bool) → (b ≡ true → ⊥) → b ≡ false
not_true true no_way = absurd (no_way refl)
not_true false no_way = refl

pub no_number : (n : ℕ) → pos n ≡ pos 0 → n ≡ 0
no_number n e = omega (arith, ints)

module _ {A : Type 0} (laws : Laws A) where
  pub fits_at : (s : ClusterState) → IsState s → (p : ℕ) → p < length s.processors → ProcessorFits s.graph (nth s.processors p)
  fits_at s state p lt = All-get_or (ProcessorFits s.graph) s.processors p idle lt state.fits.processors

  may_take : (s : ClusterState) (p edge : ℕ) (t : Time) (value : ℤ) → IsState s → IsEnabled {A = A} s (Take p edge t value) → MayTake s.graph (core s.processors) p edge t value
  may_take s p edge t value state enabled =
      let here : p < length s.processors = below p (length s.processors) (enabled.free NoProcessor) in
      let there = (fits_at s state p here).records (record_key edge t value) (enabled.free NoRecord) in
      let place : IsAtEdge s.graph (point_at edge t) = there.0 in
      record {
        here = subst (λ n. p < n) (sym (length-map s.processors bare)) here;
        place = place.place;
        fits = place.fits;
        some = subst (λ q. 0 < at q.records (record_key edge t value)) (sym (nth-core s.processors p)) (some_of _ (enabled.free NoRecord));
      }

  may_notice : (s : ClusterState) (p vertex : ℕ) (t : Time) → IsState s → KeepsProtocol s → IsEnabled {A = A} s (Notice p vertex t) → MayNotice s.graph (core s.processors) p vertex t
  may_notice s p vertex t state keeps enabled =
      let here : p < length s.processors = below p (length s.processors) (enabled.free NoProcessor) in
      let asked : fin.get (nth s.processors p).requests (point_at vertex t) ≡ Some tt = is_there _ (enabled.free NoRequest) in
      let place : IsAtVertex s.graph (point_at vertex t) = (fits_at s state p here).requests (point_at vertex t) asked in
      record {
        here = subst (λ n. p < n) (sym (length-map s.processors bare)) here;
        fits = place.fits;
        asked = ap (λ (q : ProcessorState). fin.get q.requests (point_at vertex t)) (nth-core s.processors p) ∙ asked;
        notified = not_true _ (enabled.free NotNotified);
        quiet = λ x before. count-core s.processors x ∙ no_number (count s.processors x) (sym (truth-count s.processors x) ∙ laws.last s p vertex t state keeps enabled x before);
      }

  -- ---- a move

  -- the move leaves the core, or is a step of the core
  abbrev pub MovesCore : ClusterState → Step A → Type 0
  MovesCore s x =
      ((work x ≡ 0) × (core (stepped s x).processors ≡ core s.processors))
      ⊎ ((w : Work) × (work x ≡ 1) × IsAllowed s.graph (core s.processors) w × (core (stepped s x).processors ≡ next s.graph (core s.processors) w))

  same_processors : (s : ClusterState) (from to : ℕ) (cs : List DeltaValue) → (received_from s from to cs).processors ≡ s.processors
  same_processors s from to [] = refl
  same_processors s from to (c ∷ rest) = refl

  pub moves_core : (s : ClusterState) (x : Step A) → IsState s → KeepsProtocol s → IsMove s x → MovesCore s x
  unfolding stepped sent received
  moves_core s (Take p edge t value) state keeps move = inr (taking p edge t value, refl, may_take s p edge t value state move.enabled, core-take A s p edge t value)
  moves_core s (Notice p vertex t) state keeps move = inr (noticing p vertex t, refl, may_notice s p vertex t state keeps move.enabled, core-notice A s p vertex t)
  moves_core s (Receive from to) state keeps move = inl (refl, ap core (same_processors s from to (queue s from to)))
  moves_core s (Broadcast p part) state keeps move = inl (refl, core-unsent s.processors p _)
  moves_core s (Feed p vertex values _) state keeps move = absurd move.kind
  moves_core s (Release p vertex times) state keeps move = absurd move.kind
  moves_core s (Send p vertex batch) state keeps move = absurd move.kind

  same_graph_of : (s : ClusterState) (from to : ℕ) (cs : List DeltaValue) → (received_from s from to cs).graph ≡ s.graph
  same_graph_of s from to [] = refl
  same_graph_of s from to (c ∷ rest) = refl

  pub same_graph : (s : ClusterState) (x : Step A) → (stepped s x).graph ≡ s.graph
  unfolding stepped sent received
  same_graph s (Take p edge t value) = refl
  same_graph s (Notice p vertex t) = refl
  same_graph s (Receive from to) = same_graph_of s from to (queue s from to)
  same_graph s (Broadcast p part) = refl
  same_graph s (Feed p vertex values _) = refl
  same_graph s (Release p vertex times) = refl
  same_graph s (Send p vertex batch) = refl

  -- ---- lists of moves

  -- what holds of a state with the protocol invariant and the graph g
  pub record IsSound (g : Dataflow) (s : ClusterState) : Type 0 where
    pub state : IsState s
    pub keeps : KeepsProtocol s
    pub graph : s.graph ≡ g

  pub still_sound : (g : Dataflow) (s : ClusterState) (x : Step A) → IsSound g s → IsMove s x → IsSound g (stepped s x)
  still_sound g s x sound move = record {
    state = laws.state s x sound.state move.enabled;
    keeps = laws.keeps s x sound.state move.enabled sound.keeps;
    graph = same_graph s x ∙ sound.graph;
  }

  pub sound_after : (g : Dataflow) (s : ClusterState) (xs : List (Step A)) → IsSound g s → AreMoves s xs → IsSound g (after s xs)
  unfolding after
  sound_after g s [] sound moves = sound
  sound_after g s (x ∷ xs) sound moves = sound_after g (stepped s x) xs (still_sound g s x sound moves.0) moves.1

  pub same_many : (s : ClusterState) (x : Step A) → IsState s → KeepsProtocol s → IsMove s x → length (stepped s x).processors ≡ length s.processors
  same_many s x state keeps move =
      sym (length-map (stepped s x).processors bare)
      ∙ elim (moves_core s x state keeps move) [
        | inl same ↦ ap length same.1
        | inr one ↦ ap length one.3 ∙ length-fire s.graph (firing s.graph one.0) (core s.processors)
      ] ∙ length-map s.processors bare

  pub many_after : (g : Dataflow) (s : ClusterState) (xs : List (Step A)) → IsSound g s → AreMoves s xs → length (after s xs).processors ≡ length s.processors
  unfolding after
  many_after g s [] sound moves = refl
  many_after g s (x ∷ xs) sound moves =
      many_after g (stepped s x) xs (still_sound g s x sound moves.0) moves.1 ∙ same_many s x sound.state sound.keeps moves.0

  -- the takes and notices of a list of moves lead from core to core
  pub leads : (g : Dataflow) (s : ClusterState) (xs : List (Step A)) → IsSound g s → AreMoves s xs → Leads (IsAllowed g) (next g) (works xs) (core s.processors) (core (after s xs).processors)
  unfolding after
  leads g s [] sound moves = refl
  leads g s (x ∷ xs) sound moves =
      let rest = leads g (stepped s x) xs (still_sound g s x sound moves.0) moves.1 in
      let last : List ProcessorState = core (after (stepped s x) xs).processors in
      elim (moves_core s x sound.state sound.keeps moves.0) [
        | inl same ↦
            let none_more : work x ≡ 0 = same.0 in
            let few : works xs ≡ work x + works xs = omega (arith, none_more) in
            subst (λ n. Leads (IsAllowed g) (next g) n (core s.processors) last) few (subst (λ c. Leads (IsAllowed g) (next g) (works xs) c last) same.1 rest)
        | inr one ↦
            let one_more : work x ≡ 1 = one.1 in
            let more : suc (works xs) ≡ work x + works xs = omega (arith, one_more) in
            let way : Leads (IsAllowed g) (next g) (suc (works xs)) (core s.processors) last = (
              one.0,
              subst (λ h. IsAllowed h (core s.processors) one.0) sound.graph one.2,
              subst (λ c. Leads (IsAllowed g) (next g) (works xs) c last) (one.3 ∙ ap (λ h. next h (core s.processors) one.0) sound.graph) rest,
            ) in
            subst (λ n. Leads (IsAllowed g) (next g) n (core s.processors) last) more way
      ]

  -- from wherever moves lead, what is left of n steps to an end leads there
  pub goes_on : (g : Dataflow) (s : ClusterState) (ys : List (Step A)) (n : ℕ) (d : List ProcessorState) → IsSound g s → AreMoves s ys
      → Leads (IsAllowed g) (next g) n (core s.processors) d → IsEnd (IsAllowed g) (next g) d
      → (m : ℕ) × (n ≡ works ys + m) × Leads (IsAllowed g) (next g) m (core (after s ys).processors) d
  unfolding after
  goes_on g s [] n d sound moves way end = (n, omega arith, way)
  goes_on g s (y ∷ ys) n d sound moves way end =
      let next_sound : IsSound g (stepped s y) = still_sound g s y sound moves.0 in
      elim (moves_core s y sound.state sound.keeps moves.0) [
        | inl same ↦
            let rest = goes_on g (stepped s y) ys n d next_sound moves.1 (subst (λ c. Leads (IsAllowed g) (next g) n c d) (sym same.1) way) end in
            let few = rest.1 in
            let none = same.0 in
            (rest.0, omega (arith, few, none), rest.2)
        | inr one ↦
            let order = subst (λ h. IsOrdered h) sound.graph sound.state.ordered in
            let first = front (IsAllowed g) (next g) (λ c x y. meet laws.strictly g order c x y) n (core s.processors) d one.0 way end (subst (λ h. IsAllowed h (core s.processors) one.0) sound.graph one.2) in
            let there : Leads (IsAllowed g) (next g) first.0 (core (stepped s y).processors) d
            = subst (λ c. Leads (IsAllowed g) (next g) first.0 c d) (sym (one.3 ∙ ap (λ h. next h (core s.processors) one.0) sound.graph)) first.2 in
            let rest = goes_on g (stepped s y) ys first.0 d next_sound moves.1 there end in
            let one_more = first.1 in
            let few = rest.1 in
            let is_one = one.1 in
            (rest.0, omega (arith, one_more, few, is_one), rest.2)
      ]
