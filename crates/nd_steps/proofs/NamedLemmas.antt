-- Changes that are no more than what they change name each place once, and in the order of their places are the difference of the
-- two states.
--     fits_first         each could be the first
--     exact              what they must be: no more than the places at which the states differ, and in order
--     once, some, totals, gains      each place once, with an integer other than 0, the difference of the two states there
--     listed             their places are those at which the two states differ
use Rattle.std.proofs.Common.{◌≡◌, ◌≢◌, ◌≤◌, ◌+◌, suc, pos, ◌+ℤ◌, true, false, cond, List, [], ◌∷◌, ◌++◌, map, take, length, get_or, refl, sym, ap, subst, ◌∙◌, arith, length-append}
use Rattle.std.proofs.lemmas.List.Sorted.{length_permutation}
use Rattle.std.specs.List.Sorted.{IsPermutation}
use Rattle.std.specs.FinMap.Entries.{by_order, put}
use Rattle.nd_map.specs.Counts.{entries, keys_of, size}
use Rattle.nd_vertex.specs.Table.{is_zero}
use Rattle.nd_protocol.specs.State.{ClusterState}
use Rattle.nd_steps.specs.Places.{Place, place_cmp, is_place}
use Rattle.nd_steps.specs.Integers.{standing, IsThere, difference}
use Rattle.nd_steps.specs.Changes.{place_of, AreByPlace, Fits, state_at, IsRunnable}
use Rattle.nd_steps.specs.Drafts.{some_of, both, joins, joined, AreJoined}
use Rattle.nd_steps.specs.Plans.{often, total_at, Once, Each}
use Rattle.nd_steps.specs.declared.change.Change.{Change}
use Rattle.nd_steps.proofs.AlikeLemmas.{place_itself}
use Rattle.nd_steps.proofs.PlacesLemmas.{shape-turned, there_alike}
use Rattle.nd_steps.proofs.RunsLemmas.{shape-applied}
use Rattle.nd_steps.proofs.EachLemmas.{each_take, each_from, often_before, gain_alone, untouched, fits_moved, not_there}
use Rattle.nd_steps.proofs.DraftsLemmas.{Rises, rises, first_less, joined_so}
use Rattle.nd_steps.proofs.PlansLemmas.{once_tail, alone_there, sorted, sorted_entries, as_many}

-- ---- each could be the first

module _ (s : ClusterState) (cs : List Change) (runs : IsRunnable s cs) (once : Once cs) where
  there_first : Each (λ c. IsThere s (place_of c)) cs
  unfolding state_at
  there_first = each_from (λ c. IsThere s (place_of c)) cs (λ k d lt.
      let fits = runs.fits k d lt in
      there_alike (state_at s cs k) s (place_of (get_or cs k d)) (shape-applied s (take k cs)) (fits.owner, fits.inside.there))

  pub fits_first : Each (Fits s) cs
  unfolding state_at
  fits_first = each_from (Fits s) cs (λ k d lt.
      fits_moved (state_at s cs k) s (get_or cs k d) (shape-turned (state_at s cs k) s (shape-applied s (take k cs)))
      (sym (untouched s (take k cs) (place_of (get_or cs k d)) (each_take (λ c. IsThere s (place_of c)) cs k there_first) (often_before cs once k d lt)))
      (runs.fits k d lt))

-- ---- joining makes the changes fewer if a place occurs twice

some_short : (c : Change) → length (some_of c) ≤ 1
some_short c = elim (is_zero c.n) as (λ b. length (cond b [] (c ∷ [])) ≤ 1) [
  | true ↦ omega arith
  | false ↦ omega arith
]

some_whole : (c : Change) → 1 ≤ length (some_of c) → some_of c ≡ c ∷ []
some_whole c = elim (is_zero c.n) as (λ b. 1 ≤ length (cond b [] (c ∷ [])) → cond b [] (c ∷ []) ≡ c ∷ []) [
  | true ↦ λ h. absurd (omega (arith, h))
  | false ↦ λ h. refl
]

joins_short : (c : Change) (cs : List Change) → length (joins c cs) ≤ length cs + 1
joins_short c [] = let h = some_short c in omega (arith, h)
joins_short c (d ∷ ds) =
    elim (is_place (place_of c) (place_of d)) as (λ b. length (cond b (joins (both c d) ds) (some_of c ++ joins d ds)) ≤ suc (length ds) + 1) [
      | true ↦ let h = joins_short (both c d) ds in omega (arith, h)
      | false ↦
          let a = length-append (some_of c) (joins d ds) in
          let h = some_short c in
          let i = joins_short d ds in
          omega (arith, a, h, i)
    ]

joins_whole : (c : Change) (cs : List Change) → length cs + 1 ≤ length (joins c cs) → joins c cs ≡ c ∷ cs
joins_whole c [] h = some_whole c (omega (arith, h))
joins_whole c (d ∷ ds) long =
    elim (is_place (place_of c) (place_of d)) as (λ b. suc (length ds) + 1 ≤ length (cond b (joins (both c d) ds) (some_of c ++ joins d ds)) → cond b (joins (both c d) ds) (some_of c ++ joins d ds) ≡ c ∷ d ∷ ds) [
      | true ↦ λ h. absurd (let s = joins_short (both c d) ds in omega (arith, s, h))
      | false ↦ λ h.
          let a = length-append (some_of c) (joins d ds) in
          let s = some_short c in
          let i = joins_short d ds in
          let here = some_whole c (omega (arith, a, i, h)) in
          let rest = joins_whole d ds (omega (arith, a, s, h)) in
          λ k. here k ++ rest k
    ] long

joined_whole : (cs : List Change) → length cs ≤ length (joined cs) → joined cs ≡ cs
joined_whole [] h = refl
joined_whole (c ∷ cs) h = joins_whole c cs (omega (arith, h))

-- ---- in the order of their places

not_again : (c d : Change) (ds : List Change) → often (place_of c) (c ∷ d ∷ ds) ≤ 1 → is_place (place_of c) (place_of d) ≡ false
not_again c d ds few =
    let none : often (place_of c) (d ∷ ds) ≡ 0 = alone_there (is_place (place_of c) (place_of c)) (often (place_of c) (d ∷ ds)) (place_itself (place_of c)) few in
    not_there (is_place (place_of c) (place_of d)) (often (place_of c) ds) none

-- the first change is put before all others
put_first : (c : Change) (cs : List Change) → Rises c cs → Once (c ∷ cs) → sorted (c ∷ cs) ≡ (place_of c, c.n) ∷ sorted cs
unfolding sorted
put_first c [] h once = refl
put_first c (d ∷ ds) h once =
    let rest : sorted (d ∷ ds) ≡ (place_of d, d.n) ∷ sorted ds = put_first d ds h.1 (once_tail c (d ∷ ds) once) in
    ap (put place_cmp (place_of c) c.n) rest
    ∙ ap (λ r. by_order r ((place_of c, c.n) ∷ (place_of d, d.n) ∷ sorted ds) ((place_of d, c.n) ∷ sorted ds) ((place_of d, d.n) ∷ put place_cmp (place_of c) c.n (sorted ds))) (first_less c d h.0 (not_again c d ds (once (place_of c))))
    ∙ ap (λ es. (place_of c, c.n) ∷ es) (sym rest)

places_from : (c : Change) (cs : List Change) → Rises c cs → Once (c ∷ cs) → keys_of (sorted (c ∷ cs)) ≡ map place_of (c ∷ cs)
unfolding sorted
places_from c [] h once = refl
places_from c (d ∷ ds) h once = ap keys_of (put_first c (d ∷ ds) h once) ∙ ap (λ ks. place_of c ∷ ks) (places_from d ds h.1 (once_tail c (d ∷ ds) once))

places_sorted : (cs : List Change) → AreByPlace cs → Once cs → keys_of (sorted cs) ≡ map place_of cs
unfolding sorted
places_sorted [] h once = refl
places_sorted (c ∷ cs) h once = places_from c cs (rises c cs h) once

-- ---- no more changes than differences

module _ (s t : ClusterState) (cs ds : List Change)
    (moves : (k : Place) → standing t k ≡ standing s k +ℤ total_at k cs)
    (exact : length cs ≤ size (difference s t))
    (same_ones : IsPermutation cs ds) (rising : AreByPlace ds) where
  join : AreJoined cs (joined ds)
  join = joined_so cs ds same_ones rising

  many : length (joined ds) ≡ size (difference s t)
  many = as_many s t (joined ds) join.once join.some (λ k. moves k ∙ ap (λ z. standing s k +ℤ z) (sym (join.totals k)))

  whole : joined ds ≡ ds
  whole = joined_whole ds (let m = many in let l = length_permutation cs ds same_ones in omega (arith, m, l, exact))

  pub once : Once ds
  once = subst Once whole join.once

  pub some : Each (λ c. c.n ≢ pos 0) ds
  some = subst (Each (λ c. c.n ≢ pos 0)) whole join.some

  totals : (k : Place) → total_at k ds ≡ total_at k cs
  totals k = ap (total_at k) (sym whole) ∙ join.totals k

  -- the two states differ by c.n at the place of each change c
  pub gains : Each (λ c. standing t (place_of c) ≡ standing s (place_of c) +ℤ c.n) ds
  gains = each_from (λ c. standing t (place_of c) ≡ standing s (place_of c) +ℤ c.n) ds (λ k d lt.
      let x : Place = place_of (get_or ds k d) in
      moves x ∙ ap (λ z. standing s x +ℤ z) (sym (totals x) ∙ gain_alone ds once k d lt))

  -- in order their places are those at which the states differ
  pub listed : map place_of ds ≡ keys_of (entries (difference s t))
  listed = sym (places_sorted ds rising once) ∙ ap keys_of (sym (sorted_entries s t ds once some (λ k. moves k ∙ ap (λ z. standing s k +ℤ z) (sym (totals k)))))
