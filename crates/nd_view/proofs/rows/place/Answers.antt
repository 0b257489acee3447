use Rattle.std.proofs.Common.{rules, ◌≤◌, ℕ, [], ◌∷◌, List, length, Result, Ok, Err, IfOk, IfErr, Less, Equal, Greater, subst, sym, arith, zero, suc}
use Rattle.std.specs.List.Sorted.{IsSearchInRange, IsBinarySearchResult, IsNonDecreasingBy}
use Rattle.std.specs.Ordering.{nat_cmp, ordering_index}
use Rattle.std.proofs.lemmas.Bool.Decides.{nat_tests}
use Rattle.std.proofs.lemmas.Cmp.{ranked}
use Rattle.std.proofs.lemmas.Fn.{always_returns_same}
use Rattle.std.proofs.lemmas.List.Sorted.{IsNonDecreasingBy-from_default}
use Rattle.nd_view.specs.Rows.{AreRows, IsGapFor, IsRowOf}
use Rattle.nd_view.specs.declared.rows.Row.{Row as Placed}
use Rattle.nd_view.proofs.RowLists.{gap_from, row_here, row_rises}
use Rattle.nd_view.proofs.rows.place.Goals as goal

answers_rise : (m n l : ℕ) → m ≤ n → ordering_index (nat_cmp m l) ≤ ordering_index (nat_cmp n l)
answers_rise m n l le = grind (arith, nat_tests)

module _ {A : Type 0} (l : ℕ) where
  -- the result of a binary search in rows that contain d
  from : (rs : List (Placed A)) (d : Placed A) → AreRows rs → (r : Result ℕ ℕ) → IsSearchInRange r (length rs) → IsBinarySearchResult (λ s. nat_cmp s.location l) rs r
      → record { found : IfOk r (IsRowOf l rs); absent : IfErr r (IsGapFor l rs) }
  from rs d h (Ok i) in_range equal = record { found = subst (λ m. IsRowOf m rs i) (ranked _ l Equal (sym (equal d))) (row_here rs i d h in_range); absent = tt }
  from rs d h (Err i) in_range parted =
      let rise : IsNonDecreasingBy (λ (s : Placed A). ordering_index (nat_cmp s.location l)) rs
      = IsNonDecreasingBy-from_default (λ s. ordering_index (nat_cmp s.location l)) rs d (λ i j le lt. answers_rise _ _ l (row_rises rs i j d h le lt)) in
      record {
        found = tt;
        absent = gap_from l rs i d in_range (λ j lt. ranked _ l Less (sym ((parted rise).0 j d (omega arith) lt))) (λ j le lt. ranked _ l Greater (sym ((parted rise).1 j d le lt)));
      }

  searched : (rs : List (Placed A)) → AreRows rs → (r : Result ℕ ℕ) → IsSearchInRange r (length rs) → IsBinarySearchResult (λ s. nat_cmp s.location l) rs r
      → record { found : IfOk r (IsRowOf l rs); absent : IfErr r (IsGapFor l rs) }
  searched [] h (Ok i) in_range equal = absurd (omega (arith, in_range))
  searched [] h (Err zero) in_range parted = record { found = tt; absent = tt }
  searched [] h (Err (suc i)) in_range parted = absurd (omega (arith, in_range))
  searched (r ∷ rs) h result in_range search_is = from (r ∷ rs) r h result in_range search_is

pub returns-clause-found : goal.returns-clause-found
returns-clause-found g c = (searched c.args.location c.args.rows.now c.requires c.binary_search_by.result c.binary_search_by.ensures.bound
    (c.binary_search_by.ensures.position (λ s. nat_cmp s.location c.args.location) (always_returns_same _ _ _ (λ a r f called. search rules)))).found

pub returns-clause-absent : goal.returns-clause-absent
returns-clause-absent g c = (searched c.args.location c.args.rows.now c.requires c.binary_search_by.result c.binary_search_by.ensures.bound
    (c.binary_search_by.ensures.position (λ s. nat_cmp s.location c.args.location) (always_returns_same _ _ _ (λ a r f called. search rules)))).absent
