use Rattle.std.proofs.Common.{rules, arith, ℕ, zero, suc, [], List, ◌∷◌, length, Result, Ok, Err, IfOk, IfErr, Ordering}
use Rattle.std.specs.Cmp.{IsTotalOrder}
use Rattle.std.specs.List.Sorted.{IsSearchInRange, IsBinarySearchResult, IsNonDecreasingBy}
use Rattle.std.specs.Ordering.{ordering_index}
use Rattle.std.proofs.lemmas.List.Sorted.{IsNonDecreasingBy-from_default}
use Rattle.std.proofs.lemmas.Fn.{always_returns_same}
use Rattle.nd_map.specs.Listed.{IsListed}
use Rattle.nd_map.specs.Place.{IsAt, IsGap}
use Rattle.nd_map.proofs.Places.{answers_rise, at_from, gap_from}
use Rattle.nd_map.proofs.place.Goals as goal

module _ {K X : Type 0} (R : K → K → Ordering) (o : IsTotalOrder R) (p : K) where
  -- the result of a binary search in entries that contain d
  from : (es : List (K × X)) (d : K × X) → IsListed R es → (r : Result ℕ ℕ) → IsSearchInRange r (length es) → IsBinarySearchResult (λ e. R e.0 p) es r
      → record { found : IfOk r (IsAt R p es); absent : IfErr r (IsGap R p es) }
  from es d sorted (Ok i) in_range equal = record { found = at_from R o p es i d sorted in_range (equal d); absent = tt }
  from es d sorted (Err i) in_range parted =
      let rise : IsNonDecreasingBy (λ (e : K × X). ordering_index (R e.0 p)) es = IsNonDecreasingBy-from_default (λ e. ordering_index (R e.0 p)) es d (λ i j le lt. answers_rise R o es sorted p i j d le lt) in
      record { found = tt; absent = gap_from R o p es i d in_range (λ j lt. (parted rise).0 j d (omega arith) lt) (λ j le lt. (parted rise).1 j d le lt) }

  searched : (es : List (K × X)) → IsListed R es → (r : Result ℕ ℕ) → IsSearchInRange r (length es) → IsBinarySearchResult (λ e. R e.0 p) es r
      → record { found : IfOk r (IsAt R p es); absent : IfErr r (IsGap R p es) }
  searched [] sorted (Ok i) in_range search_is = absurd (omega (arith, in_range))
  searched [] sorted (Err zero) in_range search_is = record { found = tt; absent = tt }
  searched [] sorted (Err (suc i)) in_range search_is = absurd (omega (arith, in_range))
  searched (e ∷ es) sorted r in_range search_is = from (e ∷ es) e sorted r in_range search_is

pub returns-clause-found : goal.returns-clause-found
returns-clause-found g c = (searched g.K.Ord.cmp g.met.K.Ord.total c.args.key.now c.args.entries.now c.requires c.binary_search_by.result c.binary_search_by.ensures.bound
    (c.binary_search_by.ensures.position (λ e. g.K.Ord.cmp e.0 c.args.key.now) (always_returns_same _ _ _ (λ a r f called. search rules)))).found

pub returns-clause-absent : goal.returns-clause-absent
returns-clause-absent g c = (searched g.K.Ord.cmp g.met.K.Ord.total c.args.key.now c.args.entries.now c.requires c.binary_search_by.result c.binary_search_by.ensures.bound
    (c.binary_search_by.ensures.position (λ e. g.K.Ord.cmp e.0 c.args.key.now) (always_returns_same _ _ _ (λ a r f called. search rules)))).absent
