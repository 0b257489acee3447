-- Runs one after the other, and the same run again.
use Rattle.std.proofs.Common.{◌≡◌, ◌<◌, ◌≤◌, ◌⊎◌, inl, inr, ℕ, zero, suc, ◌+◌, ◌%◌, List, [], ◌∷◌, ◌++◌, length, take, drop, Option, Some, None, refl, sym, ap, subst, ◌∙◌, arith, length-append}
use Rattle.std.proofs.lemmas.Bool.{cases_lt}
use Rattle.std.proofs.lemmas.List.{length-take-le, take-take, take-append-le}
use Rattle.std.proofs.lemmas.List.Elements.{All-append, All-take, All-drop, All-contains}
use Rattle.nd_protocol.specs.State.{ClusterState}
use Rattle.nd_protocol.specs.Steps.{after}
use Rattle.nd_protocol.specs.Enabled.{IsEnabled}
use Rattle.nd_protocol.specs.declared.step.Step.{Step}
use Rattle.nd_cluster.specs.Candidates.{candidates_among}
use Rattle.nd_cluster.specs.Choice.{AreRefused, Chooses, candidates_by, turned_by}
use Rattle.nd_cluster.specs.Order.{ChoiceIsFirst, IdleMeansRefused}
use Rattle.nd_breaks.specs.Breaks.{BreakMap, NoHit, FirstHit}
use Rattle.nd_timeline.specs.Timeline.{TimelineValue, cluster_of, extended, moved_to}
use Rattle.nd_machine.specs.Seeds.{mix, IsChosen}
use Rattle.nd_machine.specs.Moves.{Goes, HasRun, StopsAt, RunMoves}
use Rattle.nd_machine.specs.Laws.{RunsJoin, RunsRepeat}
use Rattle.nd_replies.specs.declared.reply.Stop.{Stop}
use Rattle.nd_replies.specs.declared.reply.Stop.TheVariants as stop
use Rattle.nd_replies.specs.declared.reply.Reply.TheVariants as reply
use Rattle.nd_machine.proofs.RunLemmas.{chosen_enabled, chosen_contained}
use Rattle.nd_machine.proofs.MovesLemmas.{has_run_cursor, stops_base}
use Rattle.nd_machine.proofs.RepliesLemmas.{one_step, one_run, one_stop}

-- ---- one run after another

module _ {A : Type 0} (only : Option (List ℕ)) (seed : Option ℕ) (breaks : BreakMap) where
  run_join : (n k : ℕ) (m mid new : TimelineValue A) → HasRun only seed breaks n m mid → HasRun only seed breaks k mid new → HasRun only seed breaks (n + k) m new
  unfolding HasRun
  run_join n zero m mid new h e =
      let none : n ≡ n + 0 = omega arith in
      subst (λ j. HasRun only seed breaks j m new) none (subst (HasRun only seed breaks n m) (sym e) h)
  run_join n (suc k) m mid new h e =
      let more : suc (n + k) ≡ n + suc k = omega arith in
      subst (λ j. HasRun only seed breaks j m new) more
      (record { mid = e.mid; step = e.step; earlier = run_join n k m mid e.mid h e.earlier; last = e.last; no_hit = e.no_hit })

  stops_join : (n k : ℕ) (m mid : TimelineValue A) (more : ℕ) (why : Stop) (new : TimelineValue A)
      → HasRun only seed breaks n m mid → StopsAt only seed breaks k mid more why new → StopsAt only seed breaks (n + k) m (n + more) why new
  stops_join n k m mid more stop.Limit new h e = (ap (λ j. n + j) e.0, run_join n more m mid new h e.1)
  stops_join n k m mid more stop.Idle new h e = (omega (arith, e.0), run_join n more m mid new h e.1, e.2)
  stops_join n k m mid more (stop.Break id) new h e = record {
    mid = e.mid;
    step = e.step;
    before = n + e.before;
    within = omega (arith, e.within);
    count = omega (arith, e.count);
    earlier = run_join n e.before m mid e.mid h e.earlier;
    last = e.last;
    hit = e.hit;
  }

  ran_join : (n k : ℕ) (m mid new : TimelineValue A) (at kept later_at later_kept more : ℕ) (why : Stop)
      → RunMoves m n only seed breaks (reply.Ran at kept n stop.Limit) mid → RunMoves mid k only seed breaks (reply.Ran later_at later_kept more why) new
      → RunMoves m (n + k) only seed breaks (reply.Ran later_at later_kept (n + more) why) new
  ran_join n k m mid new at kept later_at later_kept more why h e =
      let cursor : mid.cursor ≡ m.cursor + n = has_run_cursor only seed breaks n m mid h.2.1 in
      (omega (arith, cursor, e.0), h.1, stops_join n k m mid more why new h.2.1 e.2, e.3)

pub runs_join : (A : Type 0) → RunsJoin A
runs_join A m mid new n k at kept later_at later_kept more only seed why h e = (
  ran_join only seed m.breaks n k m.timeline mid.timeline new.timeline at kept later_at later_kept more why h.0
      (subst (λ (b : BreakMap). RunMoves mid.timeline k only seed b (reply.Ran later_at later_kept more why) new.timeline) h.1 e.0),
  e.1 ∙ h.1,
)

-- ---- a run has one reply, apart from refused memory

refused_turned : {A : Type 0} (s : ClusterState) (lot : ℕ) (xs : List (Step A)) → AreRefused s xs → AreRefused s (turned_by lot xs)
refused_turned s lot xs h =
    All-append (λ x. IsEnabled s x → ⊥) (drop (lot % length xs) xs) (take (lot % length xs) xs) (All-drop (λ x. IsEnabled s x → ⊥) (lot % length xs) xs h) (All-take (λ x. IsEnabled s x → ⊥) (lot % length xs) xs h)

module _ {A : Type 0} (first : ChoiceIsFirst A) (idle : IdleMeansRefused A) (only : Option (List ℕ)) (seed : Option ℕ) (breaks : BreakMap) where
  -- a run goes on from no state in which all candidates are refused
  not_idle : (m new : TimelineValue A) (x : Step A) → Goes only seed m x new → AreRefused {A = A} (cluster_of m) (candidates_among (cluster_of m) only) → ⊥
  not_idle m new x g refused = by seed g.chosen
    where
      by : (lot : Option ℕ) → IsChosen (cluster_of m) m.cursor only lot (Some x) → ⊥
      by None is = (idle (cluster_of m) m.cursor only).1 refused x is.among is.enabled
      by (Some given) is =
          let all : List (Step A) = candidates_among (cluster_of m) only in
          let lot : ℕ = mix given m.cursor in
          let turned : AreRefused (cluster_of m) (candidates_by (cluster_of m) lot only) = refused_turned (cluster_of m) lot all refused in
          All-contains (λ y. IsEnabled (cluster_of m) y → ⊥) (candidates_by (cluster_of m) lot only) x turned
          (chosen_contained (cluster_of m) (candidates_by (cluster_of m) lot only) x is) (chosen_enabled (cluster_of m) (candidates_by (cluster_of m) lot only) x is)

  -- a run of n steps that goes on
  record GoesOn (n : ℕ) (m : TimelineValue A) : Type 0 where
    mid : TimelineValue A
    step : Step A
    next : TimelineValue A
    ran : HasRun only seed breaks n m mid
    goes : Goes only seed mid step next

  longer : (n k : ℕ) (m new : TimelineValue A) → n < k → HasRun only seed breaks k m new → GoesOn n m
  unfolding HasRun
  longer n zero m new lt h = absurd (omega (arith, lt))
  longer n (suc k) m new lt h = elim (cases_lt n k) [
    | inl less ↦ longer n k m h.mid less h.earlier
    | inr most ↦
        let same : k ≡ n = omega (arith, lt, most) in
        record { mid = h.mid; step = h.step; next = new; ran = subst (λ j. HasRun only seed breaks j m h.mid) same h.earlier; goes = h.last }
  ]

  stops_longer : (n limit : ℕ) (m : TimelineValue A) (ran : ℕ) (why : Stop) (new : TimelineValue A) → n < ran → StopsAt only seed breaks limit m ran why new → GoesOn n m
  stops_longer n limit m ran stop.Limit new lt h = longer n ran m new lt h.1
  stops_longer n limit m ran stop.Idle new lt h = longer n ran m new lt h.1
  stops_longer n limit m ran (stop.Break id) new lt h = elim (cases_lt n h.before) [
    | inl less ↦ longer n h.before m h.mid less h.earlier
    | inr most ↦
        let same : h.before ≡ n = omega (arith, lt, most, h.count) in
        record { mid = h.mid; step = h.step; next = new; ran = subst (λ j. HasRun only seed breaks j m h.mid) same h.earlier; goes = h.last }
  ]

  stops_within : (limit : ℕ) (m : TimelineValue A) (ran : ℕ) (why : Stop) (new : TimelineValue A) → StopsAt only seed breaks limit m ran why new → ran ≤ limit
  stops_within limit m ran stop.Limit new h = omega (arith, h.0)
  stops_within limit m ran stop.Idle new h = omega (arith, h.0)
  stops_within limit m ran (stop.Break id) new h = omega (arith, h.count, h.within)

  -- a run that stops at a breakpoint does not go on there
  not_past_break : (limit : ℕ) (m : TimelineValue A) (ran id : ℕ) (new mid : TimelineValue A) → StopsAt only seed breaks limit m ran (stop.Break id) new → HasRun only seed breaks ran m mid → ⊥
  unfolding HasRun
  not_past_break limit m ran id new mid h e =
      let more : ran ≡ suc h.before = omega (arith, h.count) in
      let k : HasRun only seed breaks (suc h.before) m mid = subst (λ j. HasRun only seed breaks j m mid) more e in
      let same : new ≡ mid = one_step first only seed h.mid k.mid new mid h.step k.step (one_run first only seed breaks h.before m h.mid k.mid h.earlier k.earlier) h.last k.last in
      k.no_hit.none id (subst (λ (t : TimelineValue A). FirstHit breaks (cluster_of t) id) same h.hit).hit

  -- a run that stops does not go on
  not_longer : (limit : ℕ) (m : TimelineValue A) (ran : ℕ) (why : Stop) (new : TimelineValue A) → StopsAt only seed breaks limit m ran why new → ran < limit → GoesOn ran m → ⊥
  not_longer limit m ran stop.Limit new h lt on = omega (arith, h.0, lt)
  not_longer limit m ran stop.Idle new h lt on =
      let same : new ≡ on.mid = one_run first only seed breaks ran m new on.mid h.1 on.ran in
      not_idle on.mid on.next on.step on.goes (subst (λ (t : TimelineValue A). AreRefused {A = A} (cluster_of t) (candidates_among (cluster_of t) only)) same h.2)
  not_longer limit m ran (stop.Break id) new h lt on = not_past_break limit m ran id new on.mid h on.ran

  one_count : (limit : ℕ) (m : TimelineValue A) (ran other_ran : ℕ) (why other_why : Stop) (new other : TimelineValue A)
      → StopsAt only seed breaks limit m ran why new → StopsAt only seed breaks limit m other_ran other_why other → ran ≡ other_ran
  one_count limit m ran other_ran why other_why new other h k = elim (cases_lt ran other_ran) [
    | inl less ↦
        absurd (not_longer limit m ran why new h (omega (arith, less, stops_within limit m other_ran other_why other k)) (stops_longer ran limit m other_ran other_why other less k))
    | inr most ↦ elim (cases_lt other_ran ran) [
      | inl less ↦
          absurd (not_longer limit m other_ran other_why other k (omega (arith, less, stops_within limit m ran why new h)) (stops_longer other_ran limit m ran why new less h))
      | inr least ↦ omega (arith, most, least)
    ]
  ]

  -- both runs stop after the same number of steps
  one_why : (limit : ℕ) (m : TimelineValue A) (ran : ℕ) (why other_why : Stop) (new other : TimelineValue A)
      → StopsAt only seed breaks limit m ran why new → StopsAt only seed breaks limit m ran other_why other → why ≡ other_why
  one_why limit m ran stop.Limit stop.Limit new other h k = refl
  one_why limit m ran stop.Limit stop.Idle new other h k = absurd (omega (arith, h.0, k.0))
  one_why limit m ran stop.Limit (stop.Break id) new other h k = absurd (not_past_break limit m ran id other new k h.1)
  one_why limit m ran stop.Idle stop.Limit new other h k = absurd (omega (arith, h.0, k.0))
  one_why limit m ran stop.Idle stop.Idle new other h k = refl
  one_why limit m ran stop.Idle (stop.Break id) new other h k = absurd (not_past_break limit m ran id other new k h.1)
  one_why limit m ran (stop.Break id) stop.Limit new other h k = absurd (not_past_break limit m ran id new other h k.1)
  one_why limit m ran (stop.Break id) stop.Idle new other h k = absurd (not_past_break limit m ran id new other h k.1)
  one_why limit m ran (stop.Break id) (stop.Break other_id) new other h k =
      let count : h.before ≡ k.before = omega (arith, h.count, k.count) in
      let earlier : HasRun only seed breaks h.before m k.mid = subst (λ j. HasRun only seed breaks j m k.mid) (sym count) k.earlier in
      let same : new ≡ other = one_step first only seed h.mid k.mid new other h.step k.step (one_run first only seed breaks h.before m h.mid k.mid h.earlier earlier) h.last k.last in
      let hit : FirstHit breaks (cluster_of other) id = subst (λ (t : TimelineValue A). FirstHit breaks (cluster_of t) id) same h.hit in
      ap (λ i. stop.Break i) (least_id id other_id hit k.hit)
    where
      least_id : (i j : ℕ) → FirstHit breaks (cluster_of other) i → FirstHit breaks (cluster_of other) j → i ≡ j
      least_id i j a b = elim (cases_lt i j) [
        | inl less ↦ absurd (b.least i less a.hit)
        | inr most ↦ elim (cases_lt j i) [ inl less ↦ absurd (a.least j less b.hit) | inr least ↦ omega (arith, most, least) ]
      ]

-- ---- the same run again

module _ {A : Type 0} (m twin : TimelineValue A) (base : twin.base ≡ m.base) (cursor : twin.cursor ≡ m.cursor) (front : take twin.cursor twin.kept ≡ take m.cursor m.kept) where
  same_cluster : cluster_of twin ≡ cluster_of m
  same_cluster = λ i. after (base i) (front i)

  same_extended : (x : Step A) → extended twin x ≡ extended m x
  same_extended x = λ i. record { base = base i; kept = front i ++ x ∷ []; cursor = cursor i + 1 }

  goes_again : (only : Option (List ℕ)) (seed : Option ℕ) (x : Step A) (new : TimelineValue A) → Goes only seed m x new → Goes only seed twin x new
  goes_again only seed x new g = record {
    chosen =
        subst (λ (s : ClusterState). IsChosen s twin.cursor only seed (Some x)) (sym same_cluster)
        (subst (λ c. IsChosen (cluster_of m) c only seed (Some x)) (sym cursor) g.chosen);
    made = g.made ∙ sym (same_extended x);
  }

  module _ (only : Option (List ℕ)) (seed : Option ℕ) (breaks : BreakMap) where
    -- the last step of a run, of which this is the number of the earlier steps, goes from a timeline alike
    record RanAlike (n : ℕ) (mid : TimelineValue A) : Type 0 where
      from : TimelineValue A
      ran : HasRun only seed breaks n twin from
      goes : (x : Step A) (new : TimelineValue A) → Goes only seed mid x new → Goes only seed from x new

    ran_alike : (n : ℕ) (mid : TimelineValue A) → HasRun only seed breaks n m mid → RanAlike n mid
    unfolding HasRun
    ran_alike zero mid h = record {
      from = twin;
      ran = refl;
      goes = λ x new g. goes_again only seed x new (subst (λ (t : TimelineValue A). Goes only seed t x new) h g);
    }
    ran_alike (suc n) mid h =
        let before = ran_alike n h.mid h.earlier in
        record {
          from = mid;
          ran = record { mid = before.from; step = h.step; earlier = before.ran; last = before.goes h.step mid h.last; no_hit = h.no_hit };
          goes = λ x new g. g;
        }

    -- a run of no steps stays where it is
    run_again : (n : ℕ) (new : TimelineValue A) → (n ≡ 0 → new ≡ twin) → HasRun only seed breaks n m new → HasRun only seed breaks n twin new
    unfolding HasRun
    run_again zero new none h = none refl
    run_again (suc n) new none h =
        let before = ran_alike n h.mid h.earlier in
        record { mid = before.from; step = h.step; earlier = before.ran; last = before.goes h.step new h.last; no_hit = h.no_hit }

    stops_again : (limit ran : ℕ) (why : Stop) (new : TimelineValue A) → (ran ≡ 0 → new ≡ twin) → StopsAt only seed breaks limit m ran why new → StopsAt only seed breaks limit twin ran why new
    stops_again limit ran stop.Limit new none h = (h.0, run_again ran new none h.1)
    stops_again limit ran stop.Idle new none h = (h.0, run_again ran new none h.1, h.2)
    stops_again limit ran (stop.Break id) new none h =
        let before = ran_alike h.before h.mid h.earlier in
        record { mid = before.from; step = h.step; before = h.before; within = h.within; count = h.count; earlier = before.ran; last = before.goes h.step new h.last; hit = h.hit }

-- ---- what a run keeps of the steps before the cursor

module _ {A : Type 0} (only : Option (List ℕ)) (seed : Option ℕ) (breaks : BreakMap) (m : TimelineValue A) where
  record Keeps (new : TimelineValue A) : Type 0 where
    on : m.cursor ≤ new.cursor
    within : new.cursor ≤ length new.kept
    front : take m.cursor new.kept ≡ take m.cursor m.kept

  keeps_step : (mid new : TimelineValue A) (x : Step A) → Keeps mid → new ≡ extended mid x → Keeps new
  keeps_step mid new x h made =
      let old : List (Step A) = take mid.cursor mid.kept in
      let count : length old ≡ mid.cursor = length-take-le mid.cursor mid.kept h.within in
      subst (λ (t : TimelineValue A). Keeps t) (sym made) (record {
        on = omega (arith, h.on);
        within = omega (arith, count, length-append old (x ∷ []));
        front = take-append-le m.cursor old (x ∷ []) (omega (arith, count, h.on)) ∙ take-take m.cursor mid.cursor mid.kept h.on ∙ h.front;
      })

  keeps_run : (n : ℕ) (new : TimelineValue A) → m.cursor ≤ length m.kept → HasRun only seed breaks n m new → Keeps new
  unfolding HasRun
  keeps_run zero new within h = subst (λ (t : TimelineValue A). Keeps t) (sym h) (record { on = omega arith; within = within; front = refl })
  keeps_run (suc n) new within h = keeps_step h.mid new h.step (keeps_run n h.mid within h.earlier) h.last.made

  keeps_stop : (limit ran : ℕ) (why : Stop) (new : TimelineValue A) → m.cursor ≤ length m.kept → StopsAt only seed breaks limit m ran why new → Keeps new
  keeps_stop limit ran stop.Limit new within h = keeps_run ran new within h.1
  keeps_stop limit ran stop.Idle new within h = keeps_run ran new within h.1
  keeps_stop limit ran (stop.Break id) new within h = keeps_step h.mid new h.step (keeps_run h.before h.mid within h.earlier) h.last.made

  stays_at : (new : TimelineValue A) → HasRun only seed breaks 0 m new → new ≡ moved_to new m.cursor
  unfolding HasRun
  stays_at new h = λ i. record { base = new.base; kept = new.kept; cursor = ap (λ (t : TimelineValue A). t.cursor) h i }

  -- a run of no steps, whose cursor goes to where it is
  stays : (limit ran : ℕ) (why : Stop) (new : TimelineValue A) → StopsAt only seed breaks limit m ran why new → ran ≡ 0 → new ≡ moved_to new m.cursor
  stays limit ran stop.Limit new h none = stays_at new (subst (λ n. HasRun only seed breaks n m new) none h.1)
  stays limit ran stop.Idle new h none = stays_at new (subst (λ n. HasRun only seed breaks n m new) none h.1)
  stays limit ran (stop.Break id) new h none = absurd (omega (arith, h.count, none))

pub runs_repeat : (A : Type 0) → ChoiceIsFirst A → IdleMeansRefused A → RunsRepeat A
runs_repeat A first idle m new other limit at kept ran again_at again_kept again only seed why then_why is h k =
    let old : TimelineValue A = m.timeline in
    let twin : TimelineValue A = moved_to new.timeline old.cursor in
    let stopped : StopsAt only seed m.breaks limit old ran why new.timeline = h.0.2 in
    let keeps = keeps_stop only seed m.breaks old limit ran why new.timeline is.within stopped in
    let repeated : StopsAt only seed m.breaks limit twin ran why new.timeline =
    stops_again old twin (stops_base only seed m.breaks limit old ran why new.timeline stopped) refl keeps.front only seed m.breaks limit ran why new.timeline
    (stays only seed m.breaks old limit ran why new.timeline stopped) stopped in
    let once_more : StopsAt only seed m.breaks limit twin again then_why other.timeline =
    subst (λ (b : BreakMap). StopsAt only seed b limit twin again then_why other.timeline) h.1 k.0.2 in
    let count : again ≡ ran = one_count first idle only seed m.breaks limit twin again ran then_why why other.timeline new.timeline once_more repeated in
    let counted : StopsAt only seed m.breaks limit twin ran then_why other.timeline =
    subst (λ n. StopsAt only seed m.breaks limit twin n then_why other.timeline) count once_more in
    let reason : then_why ≡ why = one_why first idle only seed m.breaks limit twin ran then_why why other.timeline new.timeline counted repeated in
    let reasoned : StopsAt only seed m.breaks limit twin ran why other.timeline =
    subst (λ w. StopsAt only seed m.breaks limit twin ran w other.timeline) reason counted in
    let same : other.timeline ≡ new.timeline = one_stop first only seed m.breaks limit twin ran why other.timeline new.timeline reasoned repeated in
    let position : again_at ≡ at = k.0.3.0 ∙ ap (λ (t : TimelineValue A). t.cursor) same ∙ sym h.0.3.0 in
    let number : again_kept ≡ kept = k.0.3.1 ∙ ap (λ (t : TimelineValue A). length t.kept) same ∙ sym h.0.3.1 in
    (λ i. reply.Ran (position i) (number i) (count i) (reason i), λ i. record { timeline = same i; breaks = k.1 i })
