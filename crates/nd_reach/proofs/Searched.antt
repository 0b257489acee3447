-- A search breadth first: the ways that were found are the least ones, and every other way comes after them.
use Rattle.std.proofs.Common.{◌≡◌, ◌≢◌, ◌∙◌, inl, inr, ◌⊎◌, ℕ, zero, suc, ◌+◌, ◌<◌, ◌≤◌, List, [], ◌∷◌, ◌++◌, length, refl, sym, ap, subst, arith, length-append, Some}
use Rattle.std.specs.Prelude.{slice_get}
use Rattle.nd_protocol.specs.State.{ClusterState}
use Rattle.nd_protocol.specs.Steps.{stepped, after}
use Rattle.nd_protocol.specs.declared.step.Step.{Step}
use Rattle.nd_cluster.specs.Moves.{AreMoves}
use Rattle.nd_reach.specs.Ways.{IsMove, IsWay, IsLess}
use Rattle.nd_reach.specs.Search.{Covers, IsSearched, IsGoing}
use Rattle.nd_cluster.specs.declared.moves.Allowed.{Allowed}
use Rattle.nd_reach.proofs.Places.{last_here, still_here, old_or_new, within_list, one_there, contains_at, last_of}
use Rattle.nd_reach.proofs.Listed.{move_listed}
use Rattle.nd_reach.proofs.Order.{order_of, after_snoc, way_snoc, way_front, way_last, less_snoc, less_last, less_later, less_more, less_most, most_trans, most_snoc}

-- ---- searches

module _ {A : Type 0} (allowed : Allowed) (s : ClusterState) where
  -- ---- the start

  pub searched_start : IsSearched {A = A} allowed s ([] ∷ []) 0
  searched_start = record {
    start = refl;
    each = one_way;
    order = λ i j v w lt hi hj. absurd (one_alone i j v w lt hi hj);
    apart = λ i j v w lt hi hj. absurd (one_alone i j v w lt hi hj);
    expanded = λ k w x lt h m. absurd (omega (arith, lt));
    ahead = first_ahead;
  }
    where
      one_way : (k : ℕ) (w : List (Step A)) → slice_get ([] ∷ []) k ≡ Some w → IsWay allowed s w
      one_way zero w h = let same : [] ≡ w = cc (h) in subst (IsWay allowed s) same tt
      one_way (suc k) w h = absurd (cc (h))

      one_alone : (i j : ℕ) (v w : List (Step A)) → i < j → slice_get ([] ∷ []) i ≡ Some v → slice_get ([] ∷ []) j ≡ Some w → ⊥
      one_alone i zero v w lt hi hj = absurd (omega (arith, lt))
      one_alone i (suc j) v w lt hi hj = absurd (cc (hj))

      first_ahead : (k i : ℕ) (w v : List (Step A)) (x : Step A) → 0 ≤ k → slice_get ([] ∷ []) k ≡ Some w → slice_get ([] ∷ []) i ≡ Some v
          → IsLess allowed s v (w ++ x ∷ [])
      first_ahead zero zero w v x le hk hi =
          let same : [] ≡ w = cc (hk) in
          let also : [] ≡ v = cc (hi) in
          subst (λ v. IsLess allowed s v (w ++ x ∷ [])) also (subst (λ w. IsLess allowed s [] (w ++ x ∷ [])) same (less_more allowed s [] x))
      first_ahead zero (suc i) w v x le hk hi = absurd (cc (hi))
      first_ahead (suc k) i w v x le hk hi = absurd (cc (hk))

  -- ---- from one way to its moves and on to the next

  pub going : (ways : List (List (Step A))) (at : ℕ) (w moves : List (Step A)) → IsSearched allowed s ways at → slice_get ways at ≡ Some w
      → AreMoves allowed (after s w) moves → IsGoing allowed s ways at w moves 0
  going ways at w moves h here are = record {
    start = h.start;
    each = h.each;
    order = h.order;
    apart = h.apart;
    expanded = h.expanded;
    ahead = λ k i w v x lt. h.ahead k i w v x (omega (arith, lt));
    here = here;
    moves_of = are;
    partly = λ j x lt. absurd (omega (arith, lt));
    ahead_here = λ j i v x le is first old. h.ahead at i w v x (omega arith) here old;
  }

  -- ---- a move leads to a state that was found

  covers_longer : (ways : List (List (Step A))) (xs v : List (Step A)) → Covers allowed s ways xs → Covers allowed s (ways ++ v ∷ []) xs
  covers_longer ways xs v c = record { place = c.place; way = c.way; here = still_here ways v c.way c.place c.here; same = c.same; most = c.most }

  -- whether a step stands among the first moves
  abbrev StoodIn : List (Step A) → ℕ → Step A → Type 0
  StoodIn moves n x = ((m : ℕ) × (m < n) × (slice_get moves m ≡ Some x)) ⊎ ((m : ℕ) → m < n → slice_get moves m ≢ Some x)

  module _ (one_of : (x y : Step A) → (x ≡ y) ⊎ (x ≢ y)) where
    stands_at : (moves : List (Step A)) (n : ℕ) (x : Step A) → (slice_get moves n ≡ Some x) ⊎ (slice_get moves n ≢ Some x)
    stands_at [] n x = inr (λ h. cc (h))
    stands_at (y ∷ moves) zero x = by_step (one_of y x)
      where
        by_step : (y ≡ x) ⊎ (y ≢ x) → (Some y ≡ Some x) ⊎ (Some y ≢ Some x)
        by_step (inl h) = inl (ap Some h)
        by_step (inr h) = inr (λ e. h (cc (e)))
    stands_at (y ∷ moves) (suc n) x = stands_at moves n x

    pub stood_in : (moves : List (Step A)) (n : ℕ) (x : Step A) → StoodIn moves n x
    stood_in moves zero x = inr (λ m lt. absurd (omega (arith, lt)))
    stood_in moves (suc n) x = by_last (stood_in moves n x) (stands_at moves n x)
      where
        by_last : StoodIn moves n x → (slice_get moves n ≡ Some x) ⊎ (slice_get moves n ≢ Some x) → StoodIn moves (suc n) x
        by_last (inl h) _ = inl (h.0, omega (arith, h.1), h.2)
        by_last (inr h) (inl e) = inl (n, omega arith, e)
        by_last (inr h) (inr e) = inr (λ m lt. by_place m lt (order_of m n))
          where
            by_place : (m : ℕ) → m < suc n → (m < n) ⊎ (n ≤ m) → slice_get moves m ≢ Some x
            by_place m lt (inl less) = h m less
            by_place m lt (inr le) = let at_n : m ≡ n = omega (arith, lt, le) in subst (λ k. slice_get moves k ≢ Some x) (sym at_n) e

    -- the next move leads to a state that was found
    pub met : (ways : List (List (Step A))) (at : ℕ) (w moves : List (Step A)) (n k : ℕ) (x : Step A) (v : List (Step A)) → IsGoing allowed s ways at w moves n
        → slice_get moves n ≡ Some x → slice_get ways k ≡ Some v → after s v ≡ after s (w ++ x ∷ []) → IsGoing allowed s ways at w moves (n + 1)
    met ways at w moves n k x v h here there same = record {
      start = h.start;
      each = h.each;
      order = h.order;
      apart = h.apart;
      expanded = h.expanded;
      ahead = h.ahead;
      here = h.here;
      moves_of = h.moves_of;
      partly = λ j y lt is. by_place j y is (order_of j n) lt;
      ahead_here = λ j i u y le is first old. h.ahead_here j i u y (omega (arith, le)) is (λ m lt. first m (omega (arith, lt))) old;
    }
      where
        covered : StoodIn moves n x → Covers allowed s ways (w ++ x ∷ [])
        covered (inl stood) = h.partly stood.0 x stood.1 stood.2
        covered (inr first) = record { place = k; way = v; here = there; same = same; most = inr (h.ahead_here n k v x (omega arith) here first there) }

        by_place : (j : ℕ) (y : Step A) → slice_get moves j ≡ Some y → (j < n) ⊎ (n ≤ j) → j < n + 1 → Covers allowed s ways (w ++ y ∷ [])
        by_place j y is (inl less) lt = h.partly j y less is
        by_place j y is (inr le) lt =
            let at_n : j ≡ n = omega (arith, lt, le) in
            let also : slice_get moves n ≡ Some y = subst (λ m. slice_get moves m ≡ Some y) at_n is in
            subst (λ z. Covers allowed s ways (w ++ z ∷ [])) (one_there moves n x y here also) (covered (stood_in moves n x))

    -- ---- a move leads to a state that was not found

    -- no earlier move is the same step
    fresh_first : (ways : List (List (Step A))) (at : ℕ) (w moves : List (Step A)) (n : ℕ) (x : Step A) → IsGoing allowed s ways at w moves n
        → ((k : ℕ) (v : List (Step A)) → slice_get ways k ≡ Some v → after s v ≢ after s (w ++ x ∷ [])) → (m : ℕ) → m < n → slice_get moves m ≢ Some x
    fresh_first ways at w moves n x h fresh m lt is = let c = h.partly m x lt is in fresh c.place c.way c.here c.same

    pub added : (ways : List (List (Step A))) (at : ℕ) (w moves : List (Step A)) (n : ℕ) (x : Step A) → IsGoing allowed s ways at w moves n
        → slice_get moves n ≡ Some x → IsMove allowed (after s w) x
        → ((k : ℕ) (v : List (Step A)) → slice_get ways k ≡ Some v → after s v ≢ after s (w ++ x ∷ []))
        → IsGoing allowed s (ways ++ (w ++ x ∷ []) ∷ []) at w moves (n + 1)
    added ways at w moves n x h here move fresh = record {
      start = still_here ways (w ++ x ∷ []) [] 0 h.start;
      each = λ k v is. each_of k v (old_or_new ways (w ++ x ∷ []) v k is);
      order = λ i j u v lt hi hj. order_of_all i j u v lt (old_or_new ways (w ++ x ∷ []) u i hi) (old_or_new ways (w ++ x ∷ []) v j hj);
      apart = λ i j u v lt hi hj. apart_of_all i j u v lt (old_or_new ways (w ++ x ∷ []) u i hi) (old_or_new ways (w ++ x ∷ []) v j hj);
      expanded = λ k v y lt is m. expanded_of k v y lt m (old_or_new ways (w ++ x ∷ []) v k is);
      ahead = λ k i v u y lt hk hi. ahead_of k i v u y lt (old_or_new ways (w ++ x ∷ []) v k hk) (old_or_new ways (w ++ x ∷ []) u i hi);
      here = still_here ways (w ++ x ∷ []) w at h.here;
      moves_of = h.moves_of;
      partly = λ j y lt is. partly_of j y is (order_of j n) lt;
      ahead_here = λ j i u y le is not_yet hi. ahead_here_of j i u y le is not_yet (old_or_new ways (w ++ x ∷ []) u i hi);
    }
      where
        first : (m : ℕ) → m < n → slice_get moves m ≢ Some x
        first = fresh_first ways at w moves n x h fresh

        less_new : (i : ℕ) (u : List (Step A)) → slice_get ways i ≡ Some u → IsLess allowed s u (w ++ x ∷ [])
        less_new i u hi = h.ahead_here n i u x (omega arith) here first hi

        place_at : at < length ways
        place_at = within_list ways at w h.here

        each_of : (k : ℕ) (v : List (Step A)) → (slice_get ways k ≡ Some v) ⊎ ((k ≡ length ways) × ((w ++ x ∷ []) ≡ v)) → IsWay allowed s v
        each_of k v (inl old) = h.each k v old
        each_of k v (inr is) = subst (IsWay allowed s) is.1 (way_snoc allowed s w x (h.each at w h.here) move)

        order_of_all : (i j : ℕ) (u v : List (Step A)) → i < j → (slice_get ways i ≡ Some u) ⊎ ((i ≡ length ways) × ((w ++ x ∷ []) ≡ u))
            → (slice_get ways j ≡ Some v) ⊎ ((j ≡ length ways) × ((w ++ x ∷ []) ≡ v)) → IsLess allowed s u v
        order_of_all i j u v lt (inl hi) (inl hj) = h.order i j u v lt hi hj
        order_of_all i j u v lt (inl hi) (inr hj) = subst (λ z. IsLess allowed s u z) hj.1 (less_new i u hi)
        order_of_all i j u v lt (inr hi) (inl hj) = absurd (omega (arith, lt, hi.0, within_list ways j v hj))
        order_of_all i j u v lt (inr hi) (inr hj) = absurd (omega (arith, lt, hi.0, hj.0))

        apart_of_all : (i j : ℕ) (u v : List (Step A)) → i < j → (slice_get ways i ≡ Some u) ⊎ ((i ≡ length ways) × ((w ++ x ∷ []) ≡ u))
            → (slice_get ways j ≡ Some v) ⊎ ((j ≡ length ways) × ((w ++ x ∷ []) ≡ v)) → after s u ≢ after s v
        apart_of_all i j u v lt (inl hi) (inl hj) = h.apart i j u v lt hi hj
        apart_of_all i j u v lt (inl hi) (inr hj) = subst (λ z. after s u ≢ after s z) hj.1 (fresh i u hi)
        apart_of_all i j u v lt (inr hi) (inl hj) = absurd (omega (arith, lt, hi.0, within_list ways j v hj))
        apart_of_all i j u v lt (inr hi) (inr hj) = absurd (omega (arith, lt, hi.0, hj.0))

        expanded_of : (k : ℕ) (v : List (Step A)) (y : Step A) → k < at → IsMove allowed (after s v) y
            → (slice_get ways k ≡ Some v) ⊎ ((k ≡ length ways) × ((w ++ x ∷ []) ≡ v)) → Covers allowed s (ways ++ (w ++ x ∷ []) ∷ []) (v ++ y ∷ [])
        expanded_of k v y lt m (inl old) = covers_longer ways (v ++ y ∷ []) (w ++ x ∷ []) (h.expanded k v y lt old m)
        expanded_of k v y lt m (inr is) = absurd (omega (arith, lt, is.0, place_at))

        ahead_of : (k i : ℕ) (v u : List (Step A)) (y : Step A) → at < k → (slice_get ways k ≡ Some v) ⊎ ((k ≡ length ways) × ((w ++ x ∷ []) ≡ v))
            → (slice_get ways i ≡ Some u) ⊎ ((i ≡ length ways) × ((w ++ x ∷ []) ≡ u)) → IsLess allowed s u (v ++ y ∷ [])
        ahead_of k i v u y lt (inl hk) (inl hi) = h.ahead k i v u y lt hk hi
        ahead_of k i v u y lt (inl hk) (inr hi) =
            subst (λ z. IsLess allowed s z (v ++ y ∷ [])) hi.1 (less_snoc allowed s w v x y (h.order at k w v lt h.here hk))
        ahead_of k i v u y lt (inr hk) (inl hi) =
            subst (λ z. IsLess allowed s u (z ++ y ∷ [])) hk.1 (less_later allowed s u (w ++ x ∷ []) y (less_new i u hi))
        ahead_of k i v u y lt (inr hk) (inr hi) =
            subst (λ z. IsLess allowed s z (v ++ y ∷ [])) hi.1 (subst (λ z. IsLess allowed s (w ++ x ∷ []) (z ++ y ∷ [])) hk.1 (less_more allowed s (w ++ x ∷ []) y))

        partly_of : (j : ℕ) (y : Step A) → slice_get moves j ≡ Some y → (j < n) ⊎ (n ≤ j) → j < n + 1 → Covers allowed s (ways ++ (w ++ x ∷ []) ∷ []) (w ++ y ∷ [])
        partly_of j y is (inl less) lt = covers_longer ways (w ++ y ∷ []) (w ++ x ∷ []) (h.partly j y less is)
        partly_of j y is (inr le) lt =
            let at_n : j ≡ n = omega (arith, lt, le) in
            let also : slice_get moves n ≡ Some y = subst (λ m. slice_get moves m ≡ Some y) at_n is in
            subst (λ z. Covers allowed s (ways ++ (w ++ x ∷ []) ∷ []) (w ++ z ∷ [])) (one_there moves n x y here also)
            (record { place = length ways; way = (w ++ x ∷ []); here = last_here ways (w ++ x ∷ []); same = refl; most = inl refl })

        ahead_here_of : (j i : ℕ) (u : List (Step A)) (y : Step A) → n + 1 ≤ j → slice_get moves j ≡ Some y
            → ((m : ℕ) → m < n + 1 → slice_get moves m ≢ Some y) → (slice_get ways i ≡ Some u) ⊎ ((i ≡ length ways) × ((w ++ x ∷ []) ≡ u)) → IsLess allowed s u (w ++ y ∷ [])
        ahead_here_of j i u y le is not_yet (inl hi) = h.ahead_here j i u y (omega (arith, le)) is (λ m lt. not_yet m (omega (arith, lt))) hi
        ahead_here_of j i u y le is not_yet (inr hi) =
            subst (λ z. IsLess allowed s z (w ++ y ∷ [])) hi.1
            (less_last allowed s w x y
            (moves, h.moves_of, record { place = n; here = here; not_yet = λ m lt. not_yet m (omega (arith, lt)); later = contains_at moves j y is }))

    -- ---- all moves of a way were tried

    pub gone : (ways : List (List (Step A))) (at : ℕ) (w moves : List (Step A)) (n : ℕ) → IsGoing allowed s ways at w moves n → length moves ≤ n → IsSearched allowed s ways (at + 1)
    gone ways at w moves n h all = record {
      start = h.start;
      each = h.each;
      order = h.order;
      apart = h.apart;
      expanded = λ k v x lt is m. by_place k v x is m (order_of k at) lt;
      ahead = λ k i v u x le. h.ahead k i v u x (omega (arith, le));
    }
      where
        by_place : (k : ℕ) (v : List (Step A)) (x : Step A) → slice_get ways k ≡ Some v → IsMove allowed (after s v) x → (k < at) ⊎ (at ≤ k) → k < at + 1
            → Covers allowed s ways (v ++ x ∷ [])
        by_place k v x is m (inl less) lt = h.expanded k v x less is m
        by_place k v x is m (inr le) lt =
            let at_k : k ≡ at = omega (arith, le, lt) in
            let also : slice_get ways at ≡ Some v = subst (λ j. slice_get ways j ≡ Some v) at_k is in
            let same : v ≡ w = one_there ways at v w also h.here in
            let move : IsMove allowed (after s w) x = subst (λ u. IsMove allowed (after s u) x) same m in
            let there = move_listed (after s w) allowed moves x h.moves_of move in
            subst (λ u. Covers allowed s ways (u ++ x ∷ [])) (sym same) (h.partly there.0 x (omega (arith, within_list moves there.0 x there.1, all)) there.1)

    -- ---- every way

    pub step_on : (ways : List (List (Step A))) (ys : List (Step A)) (y : Step A) (c : Covers allowed s ways ys) → Covers allowed s ways (c.way ++ y ∷ []) → Covers allowed s ways (ys ++ y ∷ [])
    step_on ways ys y c d = record {
      place = d.place;
      way = d.way;
      here = d.here;
      same = d.same ∙ (after_snoc s c.way y ∙ (ap (λ t. stepped t y) c.same ∙ sym (after_snoc s ys y)));
      most = most_trans allowed s d.way (c.way ++ y ∷ []) (ys ++ y ∷ []) d.most (most_snoc allowed s c.way ys y c.most);
    }

    -- all ways are less than xs
    abbrev pub AllLess : List (List (Step A)) → List (Step A) → Type 0
    AllLess ways xs = (i : ℕ) (v : List (Step A)) → slice_get ways i ≡ Some v → IsLess allowed s v xs

    later_too : (ways : List (List (Step A))) (ys : List (Step A)) (y : Step A) (c : Covers allowed s ways ys) → AllLess ways (c.way ++ y ∷ []) → AllLess ways (ys ++ y ∷ [])
    later_too ways ys y c less i v is = less_most allowed s v (c.way ++ y ∷ []) (ys ++ y ∷ []) (less i v is) (most_snoc allowed s c.way ys y c.most)

    move_there : (ways : List (List (Step A))) (ys : List (Step A)) (y : Step A) (c : Covers allowed s ways ys) → IsWay allowed s (ys ++ y ∷ []) → IsMove allowed (after s c.way) y
    move_there ways ys y c way = subst (λ t. IsMove allowed t y) (sym c.same) (way_last allowed s ys y way)

    module _ (ways : List (List (Step A))) (start : slice_get ways 0 ≡ Some [])
        (on : (ys : List (Step A)) (y : Step A) (c : Covers allowed s ways ys) → IsMove allowed (after s c.way) y → Covers allowed s ways (c.way ++ y ∷ []) ⊎ AllLess ways (c.way ++ y ∷ []))
      where
        snoc : (ys : List (Step A)) (y : Step A) → IsWay allowed s (ys ++ y ∷ []) → Covers allowed s ways ys ⊎ AllLess ways ys
            → Covers allowed s ways (ys ++ y ∷ []) ⊎ AllLess ways (ys ++ y ∷ [])
        snoc ys y way (inr less) = inr (λ i v there. less_later allowed s v ys y (less i v there))
        snoc ys y way (inl c) = by_next (on ys y c (move_there ways ys y c way))
          where
            by_next : Covers allowed s ways (c.way ++ y ∷ []) ⊎ AllLess ways (c.way ++ y ∷ []) → Covers allowed s ways (ys ++ y ∷ []) ⊎ AllLess ways (ys ++ y ∷ [])
            by_next (inl d) = inl (step_on ways ys y c d)
            by_next (inr less) = inr (later_too ways ys y c less)

        -- by the last step; the ways that are one shorter are told already
        by_last : (xs : List (Step A)) → IsWay allowed s xs → ((ys : List (Step A)) → length ys + 1 ≡ length xs → IsWay allowed s ys → Covers allowed s ways ys ⊎ AllLess ways ys)
            → (xs ≡ []) ⊎ ((ys : List (Step A)) × (y : Step A) × (xs ≡ ys ++ y ∷ [])) → Covers allowed s ways xs ⊎ AllLess ways xs
        by_last xs way shorter (inl none) = inl (record { place = 0; way = []; here = start; same = ap (after s) (sym none); most = inl (sym none) })
        by_last xs way shorter (inr h) =
            let there : IsWay allowed s (h.0 ++ h.1 ∷ []) = subst (IsWay allowed s) h.2 way in
            let one_less : length h.0 + 1 ≡ length xs = omega (arith, ap length h.2, length-append h.0 (h.1 ∷ [])) in
            subst (λ zs. Covers allowed s ways zs ⊎ AllLess ways zs) (sym h.2) (snoc h.0 h.1 there (shorter h.0 one_less (way_front allowed s h.0 h.1 there)))

        told_of : (n : ℕ) (xs : List (Step A)) → length xs ≡ n → IsWay allowed s xs → Covers allowed s ways xs ⊎ AllLess ways xs
        told_of zero xs is way = by_last xs way (λ ys one_less. absurd (omega (arith, is, one_less))) (last_of xs)
        told_of (suc n) xs is way = by_last xs way (λ ys one_less. told_of n ys (omega (arith, is, one_less))) (last_of xs)

    -- while a way is gone on from, each way leads to a state that was found, or comes after all
    pub told_going : (ways : List (List (Step A))) (at : ℕ) (w moves : List (Step A)) (n : ℕ) → IsGoing allowed s ways at w moves n → (xs : List (Step A)) → IsWay allowed s xs
        → Covers allowed s ways xs ⊎ AllLess ways xs
    told_going ways at w moves n h xs way = told_of ways h.start on (length xs) xs refl way
      where
        here_on : (y : Step A) (c : List (Step A)) → c ≡ w → IsMove allowed (after s c) y → Covers allowed s ways (c ++ y ∷ []) ⊎ AllLess ways (c ++ y ∷ [])
        here_on y c same move =
            let there = move_listed (after s w) allowed moves y h.moves_of (subst (λ u. IsMove allowed (after s u) y) same move) in
            subst (λ u. Covers allowed s ways (u ++ y ∷ []) ⊎ AllLess ways (u ++ y ∷ [])) (sym same) (by_stood there (stood_in moves n y))
          where
            by_stood : (j : ℕ) × (slice_get moves j ≡ Some y) → StoodIn moves n y → Covers allowed s ways (w ++ y ∷ []) ⊎ AllLess ways (w ++ y ∷ [])
            by_stood there (inl stood) = inl (h.partly stood.0 y stood.1 stood.2)
            by_stood there (inr first) = inr (λ i v old. by_order there i v old (order_of there.0 n))
              where
                by_order : (there : (j : ℕ) × (slice_get moves j ≡ Some y)) (i : ℕ) (v : List (Step A)) → slice_get ways i ≡ Some v → (there.0 < n) ⊎ (n ≤ there.0)
                    → IsLess allowed s v (w ++ y ∷ [])
                by_order there i v old (inl lt) = absurd (first there.0 lt there.1)
                by_order there i v old (inr le) = h.ahead_here there.0 i v y le there.1 first old

        on : (ys : List (Step A)) (y : Step A) (c : Covers allowed s ways ys) → IsMove allowed (after s c.way) y → Covers allowed s ways (c.way ++ y ∷ []) ⊎ AllLess ways (c.way ++ y ∷ [])
        on ys y c move = by_place (order_of c.place at) (order_of at c.place)
          where
            by_place : (c.place < at) ⊎ (at ≤ c.place) → (at < c.place) ⊎ (c.place ≤ at) → Covers allowed s ways (c.way ++ y ∷ []) ⊎ AllLess ways (c.way ++ y ∷ [])
            by_place (inl less) _ = inl (h.expanded c.place c.way y less c.here move)
            by_place (inr le) (inl more) = inr (λ i v old. h.ahead c.place i c.way v y more c.here old)
            by_place (inr le) (inr ge) =
                let at_c : c.place ≡ at = omega (arith, le, ge) in
                let also : slice_get ways at ≡ Some c.way = subst (λ j. slice_get ways j ≡ Some c.way) at_c c.here in
                here_on y c.way (one_there ways at c.way w also h.here) move

    -- the same between two ways
    pub told_searched : (ways : List (List (Step A))) (at : ℕ) → IsSearched allowed s ways at → (xs : List (Step A)) → IsWay allowed s xs → Covers allowed s ways xs ⊎ AllLess ways xs
    told_searched ways at h xs way = told_of ways h.start on (length xs) xs refl way
      where
        on : (ys : List (Step A)) (y : Step A) (c : Covers allowed s ways ys) → IsMove allowed (after s c.way) y → Covers allowed s ways (c.way ++ y ∷ []) ⊎ AllLess ways (c.way ++ y ∷ [])
        on ys y c move = by_place (order_of c.place at)
          where
            by_place : (c.place < at) ⊎ (at ≤ c.place) → Covers allowed s ways (c.way ++ y ∷ []) ⊎ AllLess ways (c.way ++ y ∷ [])
            by_place (inl less) = inl (h.expanded c.place c.way y less c.here move)
            by_place (inr le) = inr (λ i v old. h.ahead c.place i c.way v y le c.here old)

    -- if all ways were gone on from, each way leads to a state that was found
    pub all_covered : (ways : List (List (Step A))) (at : ℕ) → IsSearched allowed s ways at → length ways ≤ at → (n : ℕ) (xs : List (Step A)) → length xs ≡ n → IsWay allowed s xs
        → Covers allowed s ways xs
    all_covered ways at h all n xs is way = by_length n xs is way
      where
        by_last : (xs : List (Step A)) → IsWay allowed s xs → ((ys : List (Step A)) → length ys + 1 ≡ length xs → IsWay allowed s ys → Covers allowed s ways ys)
            → (xs ≡ []) ⊎ ((ys : List (Step A)) × (y : Step A) × (xs ≡ ys ++ y ∷ [])) → Covers allowed s ways xs
        by_last xs way shorter (inl none) = record { place = 0; way = []; here = h.start; same = ap (after s) (sym none); most = inl (sym none) }
        by_last xs way shorter (inr g) =
            let there : IsWay allowed s (g.0 ++ g.1 ∷ []) = subst (IsWay allowed s) g.2 way in
            let one_less : length g.0 + 1 ≡ length xs = omega (arith, ap length g.2, length-append g.0 (g.1 ∷ [])) in
            let c : Covers allowed s ways g.0 = shorter g.0 one_less (way_front allowed s g.0 g.1 there) in
            let lt : c.place < at = omega (arith, within_list ways c.place c.way c.here, all) in
            subst (Covers allowed s ways) (sym g.2) (step_on ways g.0 g.1 c (h.expanded c.place c.way g.1 lt c.here (move_there ways g.0 g.1 c there)))

        by_length : (n : ℕ) (xs : List (Step A)) → length xs ≡ n → IsWay allowed s xs → Covers allowed s ways xs
        by_length zero xs is way = by_last xs way (λ ys one_less. absurd (omega (arith, is, one_less))) (last_of xs)
        by_length (suc n) xs is way = by_last xs way (λ ys one_less. by_length n ys (omega (arith, is, one_less))) (last_of xs)
