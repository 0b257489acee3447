-- The result of a search, read from the table of results.
use Rattle.std.proofs.Common.{◌≡◌, ◌<◌, ◌≤◌, ℕ, zero, suc, ◌+◌, List, [], ◌∷◌, All, refl, Option, Some, None, Vec, map, min, length, slice_get, inl, inr, arith, subst, sym, ap, ◌∙◌}
use Rattle.std.proofs.lemmas.Bool.{cases_lt}
use Rattle.nd_time.specs.Limits.{max_workers}
use Rattle.nd_breaks.specs.Conditions.{ConditionValue}
use Rattle.nd_timeline.specs.Timeline.{TimelineValue}
use Rattle.nd_history.specs.Answers.{AreClaims, IsLastClaim, IsMissing, AreCalled, IsCalled, AnswerIsCalled}
use Rattle.nd_history.proofs.Lists.{map_twice}
use Rattle.nd_history.specs.Least.{HoldsAt, NoHit, IsLeast}
use Rattle.nd_history.specs.Pieces.{piece_count, piece_start}
use Rattle.nd_history.specs.Works.{IsResult, IsSearched, AreSearched, AreOfWorkers, AreIn, NoneBefore, IsFirst, IsFirstGap}
use Rattle.nd_history.specs.declared.work.Searched.{Searched}
use Rattle.nd_history.specs.declared.work.Work.{Work}
use Rattle.nd_history.proofs.Elements.{get_below, all_at, length_of}
use Rattle.nd_history.proofs.WorksLemmas.{last_claim}

within : (lo hi j : ℕ) → lo ≤ hi → j < piece_count lo hi → piece_start lo j ≤ hi
within lo hi j le lt = omega (arith, le, lt)

past : (lo hi n : ℕ) → lo ≤ hi → n ≡ piece_count lo hi → hi < piece_start lo n
past lo hi n le is = omega (arith, le, is)

mapped-at : {A B : Type 0} (f : A → B) (xs : List A) (i : ℕ) (x : A) → slice_get xs i ≡ Some x → slice_get (map f xs) i ≡ Some (f x)
mapped-at f [] i x at = absurd cc
mapped-at f (y ∷ xs) zero x at = let same : y ≡ x = cc in ap (λ z. Some (f z)) same
mapped-at f (y ∷ xs) (suc i) x at = mapped-at f xs i x at

-- an element of a mapped list comes from an element of the list
found-map : {A B : Type 0} (f : A → B) (xs : List A) (i : ℕ) (y : B) → slice_get (map f xs) i ≡ Some y → (x : A) × (slice_get xs i ≡ Some x) × (f x ≡ y)
found-map f [] i y at = absurd cc
found-map f (x ∷ xs) zero y at = (x, refl, cc)
found-map f (x ∷ xs) (suc i) y at = found-map f xs i y at

-- the work of a search and the table of its results, for the positions to search
pub record IsSurvey {A : Type 0} (Hit : ℕ → Type 0) (Called : ℕ → ℕ → Type 0) (lo hi workers : ℕ) (works : List (Searched A)) (rs : List (Option (Option ℕ))) : Type 0 where
  pub in_order : lo ≤ hi
  pub some : 0 < workers
  pub all : AreSearched Hit Called lo hi workers works
  pub told : AreOfWorkers works rs
  pub all_in : AreIn works rs
  pub len : length rs ≡ piece_count lo hi

module _ {A : Type 0} where
  pub survey : (Hit : ℕ → Type 0) (Called : ℕ → ℕ → Type 0) (lo hi lo' hi' workers : ℕ) (works lent : List (Searched A)) (items rs : List (Option (Option ℕ)))
      → lo' ≡ lo → hi' ≡ hi → lent ≡ works → rs ≡ items → lo ≤ hi → 0 < workers
      → AreSearched Hit Called lo' hi' workers works → AreOfWorkers lent items → AreIn lent items → length rs ≡ piece_count lo' hi' → IsSurvey Hit Called lo hi workers works rs
  survey Hit Called lo hi lo' hi' workers works lent items rs first last same read in_order some all told all_in len = record {
    in_order = in_order;
    some = some;
    all = subst (λ (n : ℕ). AreSearched Hit Called lo n workers works) last (subst (λ (n : ℕ). AreSearched Hit Called n hi' workers works) first all);
    told = subst (AreOfWorkers works) (sym read) (subst (λ (ws : List (Searched A)). AreOfWorkers ws items) same told);
    all_in = subst (AreIn works) (sym read) (subst (λ (ws : List (Searched A)). AreIn ws items) same all_in);
    len = len ∙ (ap (λ (n : ℕ). piece_count n hi') first ∙ ap (λ (n : ℕ). piece_count lo n) last);
  }

  -- the gate was called for what each worker claimed
  pub called_lists : (Called : ℕ → ℕ → Type 0) (works : List (Work A)) (list : List (Searched A)) → list ≡ map (λ w. w.searched) works
      → ((who : ℕ) (w : Work A) → slice_get works who ≡ Some w → All (Called who) w.searched.claimed.items) → AreCalled Called (map (λ s. s.claimed.items) list)
  called_lists Called works list each called =
      subst (λ (ss : List (Searched A)). AreCalled Called (map (λ s. s.claimed.items) ss)) (sym each) (λ who claimed at.
      let twice = sym (ap (λ (ls : List (List ℕ)). slice_get ls who) (map_twice (λ (w : Work A). w.searched) (λ (s : Searched A). s.claimed.items) works)) ∙ at in
      let w = found-map (λ (w : Work A). w.searched.claimed.items) works who claimed twice in
      subst (All (Called who)) w.2 (called who w.0 w.1))

-- ---- pieces in their order

module _ {A : Type 0} (m : TimelineValue A) (c : ConditionValue) (Called : ℕ → ℕ → Type 0) (lo hi workers : ℕ) (works : List (Searched A)) (rs : List (Option (Option ℕ))) (survey : IsSurvey (HoldsAt m c) Called lo hi workers works rs) where
  abbrev Hit : ℕ → Type 0
  Hit = HoldsAt m c

  right : (j : ℕ) (r : Option ℕ) → slice_get rs j ≡ Some (Some r) → IsResult Hit lo hi j r
  right j r at =
      let t = survey.told j r at in
      let found : IsSearched Hit lo hi t.work = all_at (IsSearched Hit lo hi) works t.who t.work survey.all.found t.there in
      found.results t.by.place (get_below t.work.found.items t.by.place r t.by.result) j r t.by.piece t.by.result

  none_before : (j : ℕ) → NoneBefore rs j → NoHit Hit lo (min (hi + 1) (piece_start lo j))
  none_before zero none i from below = absurd (omega (arith, from, below))
  none_before (suc j) none i from below =
      elim (cases_lt i (piece_start lo j)) [
        | inl lt ↦ none_before j (λ k less. none k (omega (arith, less))) i from (omega (arith, below, lt))
        | inr ge ↦ right j None (none j (omega arith)) i ge (omega (arith, below, ge))
      ]

  pub is_least : (r : Option ℕ) → IsFirst rs r → IsLeast Hit lo hi r
  is_least None none = λ i from below. none_before (length rs) none i from (omega (arith, below, past lo hi (length rs) survey.in_order survey.len))
  is_least (Some i) first =
      let here = right first.piece (Some i) first.hit in (
        omega (arith, here.0),
        omega (arith, here.1),
        here.2,
        (λ k from below. elim (cases_lt k (piece_start lo first.piece)) [
          | inl lt ↦ none_before first.piece first.before k from (omega (arith, lt, below, here.1))
          | inr ge ↦ here.3 k ge below
        ]),
      )

  -- for each piece that has a result a worker called the gate
  for_result : (j : ℕ) (r : Option ℕ) → slice_get rs j ≡ Some (Some r) → IsCalled Called workers j
  for_result j r at =
      let t = survey.told j r at in
      let started : length works ≡ min workers max_workers = sym (length_of (λ (s : Searched A). s.claimed.items) works) ∙ survey.all.claims.started in record {
        who = t.who;
        started = omega (arith, started, get_below works t.who t.work t.there);
        called = all_at (Called t.who) t.work.claimed.items t.by.place j (survey.all.called t.who t.work.claimed.items (mapped-at (λ (s : Searched A). s.claimed.items) works t.who t.work t.there)) t.by.piece;
      }

  pub answer_called : (r : Option ℕ) → IsFirst rs r → AnswerIsCalled Called lo hi workers r
  answer_called None none = λ piece lt begins. for_result piece None (none piece (omega (arith, survey.len, lt)))
  answer_called (Some i) first = λ piece lt begins.
      elim (cases_lt piece first.piece) [
        | inl less ↦ for_result piece None (first.before piece less)
        | inr more ↦
            let here = right first.piece (Some i) first.hit in
            let same : first.piece ≡ piece = omega (arith, more, begins, here.1) in
            for_result piece (Some i) (subst (λ (n : ℕ). slice_get rs n ≡ Some (Some (Some i))) same first.hit)
      ]

  module _ (claimed : List (Vec ℕ A)) (is : claimed ≡ map (λ s. s.claimed) works) where
    lists : map (λ l. l.items) claimed ≡ map (λ s. s.claimed.items) works
    lists = ap (λ (ls : List (Vec ℕ A)). map (λ l. l.items) ls) is ∙ map_twice (λ (s : Searched A). s.claimed) (λ (l : Vec ℕ A). l.items) works

    pub fault_called : AreCalled Called (map (λ l. l.items) claimed)
    fault_called = subst (AreCalled Called) (sym lists) survey.all.called

    -- the first piece without a result
    pub gap : (j : ℕ) → IsFirstGap rs j → IsMissing m c lo hi workers j (map (λ l. l.items) claimed)
    gap j first =
        let within_range : j < piece_count lo hi = omega (arith, survey.len, get_below rs j None first.gap) in
        let started : length works ≡ min workers max_workers = sym (length_of (λ (s : Searched A). s.claimed.items) works) ∙ survey.all.claims.started in record {
          one_of_them = within_range;
          before = λ i from below. none_before j first.before i from (omega (arith, below, within lo hi j survey.in_order within_range));
          claims = subst (AreClaims (piece_count lo hi) workers) (sym lists) survey.all.claims;
          stopped = subst (IsLastClaim j) (sym lists)
              (last_claim rs j first (piece_count lo hi) survey.all.claims.count works survey.told survey.all_in survey.all.stopped (omega (arith, started, survey.some)) survey.all.claims.once within_range);
        }
