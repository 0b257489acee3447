-- Where the workers of a search stopped.
use Rattle.std.proofs.Common.{◌≡◌, ◌<◌, ◌≤◌, ◌⊎◌, ℕ, zero, suc, ◌+◌, ◌-◌, List, [], ◌∷◌, ◌++◌, All, Option, Some, None, map, min, length, length-append, append-nil, slice_get, option_map, inl, inr, arith, refl, subst, sym, ap, ◌∙◌}
use Rattle.std.proofs.lemmas.Bool.{cases_lt}
use Rattle.std.proofs.lemmas.Bool.Decides.{nat_tests}
use Rattle.std.proofs.lemmas.List.{append_assoc}
use Rattle.std.proofs.lemmas.Option.{slice_get-map}
use Rattle.nd_history.specs.Answers.{IsLastClaim}
use Rattle.nd_history.specs.Claims.{times, times_all, once_below, AreTheNumbersBelow}
use Rattle.nd_history.specs.Works.{IsComplete, IsCutOff, NoneIsLeft, HasStopped, HaveStopped, all_drawn, AreOfWorkers, AreIn, IsFirstGap}
use Rattle.nd_history.specs.declared.work.Searched.{Searched}
use Rattle.nd_history.specs.declared.work.Work.{Work}
use Rattle.nd_history.proofs.Elements.{all_at, all_mapped, get_below}
use Rattle.nd_history.proofs.Totals.{times-append}

-- ---- numbers in lists

here_once : (x y : ℕ) → y ≡ x → times x (y ∷ []) ≡ 1
here_once x y same = grind (arith, nat_tests)

is_here : (x y n : ℕ) → 0 < times x (y ∷ []) + n → n ≤ 0 → y ≡ x
is_here x y n some none = grind (arith, nat_tests)

at_most_once : (x n : ℕ) → once_below x n ≤ 1
at_most_once x n = grind (arith, nat_tests)

only_below : (x n : ℕ) → 0 < once_below x n → x < n
only_below x n some = grind (arith, nat_tests)

each_below : (x n : ℕ) → x < n → once_below x n ≡ 1
each_below x n lt = grind (arith, nat_tests)

-- an element of a list is counted
in_one : (x : ℕ) (ys : List ℕ) (i : ℕ) → slice_get ys i ≡ Some x → 0 < times x ys
in_one x [] i at = absurd cc
in_one x (y ∷ ys) zero at = let same : y ≡ x = cc in omega (arith, here_once x y same)
in_one x (y ∷ ys) (suc i) at = omega (arith, in_one x ys i at)

-- what was drawn last is counted
pub just_drawn : (n : ℕ) (ns drawn : List ℕ) → drawn ≡ ns ++ n ∷ [] → 0 < times n drawn
just_drawn n ns drawn is = omega (arith, ap (times n) is, times-append n ns (n ∷ []), here_once n n refl)

-- a number that is counted is an element
find_in : (x : ℕ) (ys : List ℕ) → 0 < times x ys → (i : ℕ) × (slice_get ys i ≡ Some x)
find_in x [] some = absurd (omega (arith, some))
find_in x (y ∷ ys) some =
    elim (cases_lt 0 (times x ys)) [
      | inl more ↦ let rest = find_in x ys more in (suc rest.0, rest.1)
      | inr none ↦ (zero, ap Some (is_here x y (times x ys) (omega (arith, some)) none))
    ]

-- a number that is counted once has one index
one_place : (x : ℕ) (ys : List ℕ) (i j : ℕ) → slice_get ys i ≡ Some x → slice_get ys j ≡ Some x → times x ys ≤ 1 → i ≡ j
one_place x [] i j at there few = absurd cc
one_place x (y ∷ ys) zero zero at there few = refl
one_place x (y ∷ ys) zero (suc j) at there few = let same : y ≡ x = cc in absurd (omega (arith, few, here_once x y same, in_one x ys j there))
one_place x (y ∷ ys) (suc i) zero at there few = let same : y ≡ x = cc in absurd (omega (arith, few, here_once x y same, in_one x ys i at))
one_place x (y ∷ ys) (suc i) (suc j) at there few = ap suc (one_place x ys i j at there (omega (arith, few)))

get_some : {X : Type 0} (xs : List X) (i : ℕ) → i < length xs → (x : X) × (slice_get xs i ≡ Some x)
get_some [] i lt = absurd (omega (arith, lt))
get_some (x ∷ xs) zero lt = (x, refl)
get_some (x ∷ xs) (suc i) lt = get_some xs i (omega (arith, lt))

-- P holds of all, or Q of one
all_or_one : {X : Type 0} (P Q : X → Type 0) (xs : List X) → All (λ x. P x ⊎ Q x) xs → All P xs ⊎ ((k : ℕ) × (x : X) × (slice_get xs k ≡ Some x) × Q x)
all_or_one P Q [] each = inl (λ k d lt. absurd (omega (arith, lt)))
all_or_one {X} P Q (x ∷ xs) each =
    elim (each zero x (omega arith)) [
      | inl here ↦ elim (all_or_one P Q xs (λ k d lt. each (suc k) d (omega (arith, lt)))) [
        | inl rest ↦ inl (more here rest)
        | inr one ↦ inr (suc one.0, one.1, one.2, one.3)
      ]
      | inr other ↦ inr (zero, x, refl, other)
    ]
  where
    more : P x → All P xs → All P (x ∷ xs)
    more here rest zero d lt = here
    more here rest (suc k) d lt = rest k d (omega (arith, lt))

module _ {A : Type 0} where
  -- ---- what all workers drew

  pub drawn_more : (ws : List (Work A)) (w : Work A) → all_drawn (ws ++ w ∷ []) ≡ all_drawn ws ++ w.ticket.me.0.drawn
  drawn_more [] w = append-nil w.ticket.me.0.drawn
  drawn_more (u ∷ ws) w = ap (λ (ns : List ℕ). u.ticket.me.0.drawn ++ ns) (drawn_more ws w) ∙ sym (append_assoc u.ticket.me.0.drawn (all_drawn ws) w.ticket.me.0.drawn)

  drawn_times : (ws : List (Work A)) (k : ℕ) (w : Work A) (x : ℕ) → slice_get ws k ≡ Some w → times x w.ticket.me.0.drawn ≤ times x (all_drawn ws)
  drawn_times [] k w x at = absurd cc
  drawn_times (u ∷ ws) zero w x at =
      let same : u ≡ w = cc in
      omega (arith, times-append x u.ticket.me.0.drawn (all_drawn ws), ap (λ (v : Work A). times x v.ticket.me.0.drawn) same)
  drawn_times (u ∷ ws) (suc k) w x at = omega (arith, times-append x u.ticket.me.0.drawn (all_drawn ws), drawn_times ws k w x at)

  drawn_length : (ws : List (Work A)) (k : ℕ) (w : Work A) → slice_get ws k ≡ Some w → length w.ticket.me.0.drawn ≤ length (all_drawn ws)
  drawn_length [] k w at = absurd cc
  drawn_length (u ∷ ws) zero w at =
      let same : u ≡ w = cc in
      omega (arith, length-append u.ticket.me.0.drawn (all_drawn ws), ap (λ (v : Work A). length v.ticket.me.0.drawn) same)
  drawn_length (u ∷ ws) (suc k) w at = omega (arith, length-append u.ticket.me.0.drawn (all_drawn ws), drawn_length ws k w at)

  -- if none is left for one worker, all pieces were drawn
  all_gone : (pieces n : ℕ) (works : List (Work A)) → ((x : ℕ) → times x (all_drawn works) ≡ once_below x n) → n ≡ length (all_drawn works)
      → (k : ℕ) (w : Work A) → slice_get works k ≡ Some w → NoneIsLeft pieces w.ticket.me.0.drawn → min n pieces ≡ pieces
  all_gone pieces n works each count k w at none =
      elim none [
        | inl over ↦
            let lt : over.number < n = only_below over.number n (omega (arith, over.there, drawn_times works k w over.number at, each over.number)) in
            omega (arith, lt, over.no_piece)
        | inr many ↦ omega (arith, many, drawn_length works k w at, count)
      ]

  pub have_stopped : (pieces n : ℕ) (works : List (Work A)) (list : List (Searched A)) → list ≡ map (λ w. w.searched) works → All (HasStopped pieces) works
      → ((x : ℕ) → times x (all_drawn works) ≡ once_below x n) → n ≡ length (all_drawn works)
      → AreTheNumbersBelow (min n pieces) (map (λ s. s.claimed.items) list) → HaveStopped pieces list
  have_stopped pieces n works list is stopped each count once =
      record {
        each = all_mapped (λ (w : Work A). w.searched) (λ (s : Searched A). IsCutOff s ⊎ IsComplete s) works list is
            (λ k d lt. elim (stopped k d lt) [ inl cut ↦ inl cut | inr whole ↦ inr whole.0 ]);
        all = elim (all_or_one (λ (w : Work A). IsCutOff w.searched) (λ (w : Work A). IsComplete w.searched × NoneIsLeft pieces w.ticket.me.0.drawn) works stopped) [
          | inl cut ↦ inl (all_mapped (λ (w : Work A). w.searched) (λ (s : Searched A). IsCutOff s) works list is cut)
          | inr one ↦ inr (subst (λ (m : ℕ). AreTheNumbersBelow m (map (λ s. s.claimed.items) list)) (all_gone pieces n works each count one.0 one.1 one.2 one.3.1) once)
        ];
      }

  -- ---- a piece without a result

  abbrev lists_of : List (Searched A) → List (List ℕ)
  lists_of works = map (λ s. s.claimed.items) works

  -- a worker claimed what is counted
  find_claim : (x : ℕ) (works : List (Searched A)) → 0 < times_all x (lists_of works) → (who : ℕ) × (s : Searched A) × (slice_get works who ≡ Some s) × (place : ℕ) × (slice_get s.claimed.items place ≡ Some x)
  find_claim x [] some = absurd (omega (arith, some))
  find_claim x (s ∷ works) some =
      elim (cases_lt 0 (times x s.claimed.items)) [
        | inl here ↦ let at = find_in x s.claimed.items here in (zero, s, refl, at.0, at.1)
        | inr none ↦ let rest = find_claim x works (omega (arith, some, none)) in (suc rest.0, rest.1, rest.2, rest.3, rest.4)
      ]

  -- what a worker claimed is counted
  is_counted : (x : ℕ) (works : List (Searched A)) (who : ℕ) (s : Searched A) (place : ℕ) → slice_get works who ≡ Some s → slice_get s.claimed.items place ≡ Some x → 0 < times_all x (lists_of works)
  is_counted x [] who s place at there = absurd cc
  is_counted x (u ∷ works) zero s place at there = let same : u ≡ s = cc in omega (arith, ap (λ (v : Searched A). times x v.claimed.items) same, in_one x s.claimed.items place there)
  is_counted x (u ∷ works) (suc who) s place at there = omega (arith, is_counted x works who s place at there)

  -- the first worker's claim is no other worker's, and has one index
  no_other : (x : ℕ) (s : Searched A) (works : List (Searched A)) (place : ℕ) → slice_get s.claimed.items place ≡ Some x → times_all x (lists_of (s ∷ works)) ≤ 1
      → (who : ℕ) (t : Searched A) (there : ℕ) → slice_get (s ∷ works) who ≡ Some t → slice_get t.claimed.items there ≡ Some x → (s ≡ t) × (place ≡ there)
  no_other x s works place mine few zero t there at its =
      let same : s ≡ t = cc in
      let here : slice_get s.claimed.items there ≡ Some x = subst (λ (v : Searched A). slice_get v.claimed.items there ≡ Some x) (sym same) its in
      (same, one_place x s.claimed.items place there mine here (omega (arith, few)))
  no_other x s works place mine few (suc who) t there at its = absurd (omega (arith, few, in_one x s.claimed.items place mine, is_counted x works who t there at its))

  module _ (rs : List (Option (Option ℕ))) (j : ℕ) (gap : IsFirstGap rs j) where
    -- a claimed piece without a result is the last of its worker
    ends_with : (works : List (Searched A)) → AreIn works rs → All (λ s. IsCutOff s ⊎ IsComplete s) works → 0 < times_all j (lists_of works) → IsLastClaim j (lists_of works)
    ends_with works all_in each some =
        let claim = find_claim j works some in
        let s : Searched A = claim.1 in
        let place : ℕ = claim.3 in
        let within : place < length s.claimed.items = get_below s.claimed.items place j claim.4 in
        elim (cases_lt place (length s.found.items)) [
          | inl lt ↦
              let result = get_some s.found.items place lt in
              absurd (all_in j result.0 (record { who = claim.0; work = s; there = claim.2; by = record { place = place; piece = claim.4; result = result.1 } }) gap.gap)
          | inr ge ↦ elim (all_at (λ (s : Searched A). IsCutOff s ⊎ IsComplete s) works claim.0 s each claim.2) [
            | inl cut ↦
                let last : place ≡ length s.claimed.items - 1 = omega (arith, cut, ge, within) in record {
                  who = claim.0;
                  list = s.claimed.items;
                  there = slice_get-map (λ (s : Searched A). s.claimed.items) works claim.0 ∙ ap (option_map (λ (s : Searched A). s.claimed.items)) claim.2;
                  last = subst (λ (n : ℕ). slice_get s.claimed.items n ≡ Some j) last claim.4;
                }
            | inr whole ↦ absurd (omega (arith, whole, ge, within))
          ]
        ]

    -- if all were cut off, the first worker's last piece has no result, so no piece after all claims is the first gap
    not_behind : (works : List (Searched A)) → AreOfWorkers works rs → All IsCutOff works → 0 < length works → (count : ℕ) → AreTheNumbersBelow count (lists_of works) → count ≤ j → ⊥
    not_behind [] told cut some count once le = absurd (omega (arith, some))
    not_behind (s ∷ works) told cut some count once le =
        let off : IsCutOff s = cut zero s (omega arith) in
        let claim = get_some s.claimed.items (length s.found.items) (omega (arith, off)) in
        let l : ℕ = claim.0 in
        let here : 0 < times_all l (lists_of (s ∷ works)) = is_counted l (s ∷ works) zero s (length s.found.items) refl claim.1 in
        let below : l < count = only_below l count (omega (arith, here, once l)) in
        let t = told l None (gap.before l (omega (arith, below, le))) in
        let same = no_other l s works (length s.found.items) claim.1 (omega (arith, once l, at_most_once l count)) t.who t.work t.by.place t.there t.by.piece in
        let within : t.by.place < length t.work.found.items = get_below t.work.found.items t.by.place None t.by.result in
        absurd (omega (arith, same.1, within, ap (λ (v : Searched A). length v.found.items) same.0))

    pub last_claim : (pieces count : ℕ) (works : List (Searched A)) → AreOfWorkers works rs → AreIn works rs → HaveStopped pieces works → 0 < length works → AreTheNumbersBelow count (lists_of works) → j < pieces → IsLastClaim j (lists_of works)
    last_claim pieces count works told all_in stopped some once lt =
        elim stopped.all [
          | inr all ↦ ends_with works all_in stopped.each (omega (arith, all j, each_below j pieces lt))
          | inl cut ↦ elim (cases_lt j count) [
            | inl below ↦ ends_with works all_in stopped.each (omega (arith, once j, each_below j count below))
            | inr le ↦ absurd (not_behind works told cut some count once le)
          ]
        ]
