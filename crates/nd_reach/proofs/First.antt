-- What a search has found are the first states that are reached.
use Rattle.std.proofs.Common.{◌≡◌, ◌≢◌, ◌∙◌, inl, inr, ◌⊎◌, ℕ, ◌<◌, ◌≤◌, List, length, refl, ap, arith, Some}
use Rattle.std.specs.Prelude.{slice_get, slice_index_or, All, AllPairs}
use Rattle.std.proofs.lemmas.Option.{slice_get-get_or, get_or_from_slice_get}
use Rattle.nd_protocol.specs.State.{ClusterState}
use Rattle.nd_protocol.specs.Steps.{after}
use Rattle.nd_protocol.specs.declared.step.Step.{Step}
use Rattle.nd_reach.specs.Ways.{IsWay, IsLess, IsCovered, AreFirst, AreAll}
use Rattle.nd_cluster.specs.declared.moves.Allowed.{Allowed}
use Rattle.nd_reach.proofs.Places.{within_list}
use Rattle.nd_reach.proofs.OneStep.{one_step}
use Rattle.nd_reach.specs.Search.{Covers, IsSearched, IsGoing}
use Rattle.nd_reach.proofs.Searched.{AllLess, told_going, told_searched, all_covered}

module _ {A : Type 0} (allowed : Allowed) (s : ClusterState) where
  covered : (ways : List (List (Step A))) (xs : List (Step A)) → Covers allowed s ways xs → IsCovered allowed s ways xs
  covered ways xs c = (c.place, c.way, within_list ways c.place c.way c.here, get_or_from_slice_get ways c.place c.way c.way c.here, (c.same, c.most))

  told : (ways : List (List (Step A))) (xs : List (Step A)) → Covers allowed s ways xs ⊎ AllLess allowed s one_step ways xs
      → IsCovered allowed s ways xs ⊎ All (λ w. IsLess allowed s w xs) ways
  told ways xs (inl c) = inl (covered ways xs c)
  told ways xs (inr less) = inr (λ k d lt. less k (slice_index_or ways k d) (slice_get-get_or ways k d lt))

  pairs : (ways : List (List (Step A))) (R : List (Step A) → List (Step A) → Type 0)
      → ((i j : ℕ) (v w : List (Step A)) → i < j → slice_get ways i ≡ Some v → slice_get ways j ≡ Some w → R v w) → AllPairs R ways
  pairs ways R h i j d lt within =
      h i j (slice_index_or ways i d) (slice_index_or ways j d) lt (slice_get-get_or ways i d (omega (arith, lt, within))) (slice_get-get_or ways j d within)

  pub first_going : (ways : List (List (Step A))) (at : ℕ) (w moves : List (Step A)) (n : ℕ) → IsGoing allowed s ways at w moves n → AreFirst allowed s ways
  first_going ways at w moves n h = record {
    each = λ k d lt. h.each k (slice_index_or ways k d) (slice_get-get_or ways k d lt);
    order = pairs ways (IsLess allowed s) h.order;
    apart = pairs ways (λ v w. after s v ≢ after s w) h.apart;
    others = λ xs way. told ways xs (told_going allowed s one_step ways at w moves n h xs way);
  }

  pub first_searched : (ways : List (List (Step A))) (at : ℕ) → IsSearched allowed s ways at → AreFirst allowed s ways
  first_searched ways at h = record {
    each = λ k d lt. h.each k (slice_index_or ways k d) (slice_get-get_or ways k d lt);
    order = pairs ways (IsLess allowed s) h.order;
    apart = pairs ways (λ v w. after s v ≢ after s w) h.apart;
    others = λ xs way. told ways xs (told_searched allowed s one_step ways at h xs way);
  }

  pub all_searched : (ways : List (List (Step A))) (at : ℕ) → IsSearched allowed s ways at → length ways ≤ at → AreAll allowed s ways
  all_searched ways at h all xs way = covered ways xs (all_covered allowed s one_step ways at h all (length xs) xs refl way)

  -- a way to a state that was not found
  pub not_all : (ways : List (List (Step A))) (xs : List (Step A)) → IsWay allowed s xs
      → ((k : ℕ) (v : List (Step A)) → slice_get ways k ≡ Some v → after s v ≢ after s xs) → AreAll allowed s ways → ⊥
  not_all ways xs way fresh all =
      let c = all xs way in
      fresh c.0 c.1 (slice_get-get_or ways c.0 c.1 c.2 ∙ ap Some c.3) c.4.0
