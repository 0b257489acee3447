-- The rows of a table, one after the other.
use Rattle.std.proofs.Common.{◌≡◌, inl, inr, ℕ, ◌+◌, ◌<◌, ◌≤◌, List, [], ◌∷◌, ◌++◌, length, get_or, refl, sym, ◌∙◌, ap, subst, arith}
use Rattle.std.specs.Prelude.{All, slice_index}
use Rattle.std.proofs.lemmas.Bool.{cases_lt}
use Rattle.std.proofs.lemmas.List.{get_or_append_left, get_or_default, get_or_push, length-map, length_push}
use Rattle.nd_graph.specs.Graph.{Dataflow, depths, location_count}
use Rattle.nd_time.specs.Limits.{max_depth}
use Rattle.nd_time.specs.declared.order.TimeOrder.{TimeOrder}
use Rattle.nd_time.specs.declared.order.TimeOrder.TheVariants.{Lexicographic}
use Rattle.nd_summaries.specs.declared.summary.Summary.{Summary}
use Rattle.nd_summaries.specs.Walk.{FailsBy}
use Rattle.nd_summaries.specs.Summary.{AreMinimalSummaries, AreLeastSummaries, left_by}
use Rattle.nd_summaries.specs.Row.{IsRow, listed}
use Rattle.nd_summaries.specs.Shared.{AreNumbers, Extends, IsIndexed, named}
use Rattle.nd_summaries.specs.Table.{named_row, Fit, IsTable}
use Rattle.nd_summaries.proofs.Graphs.{DepthsAgree, length-depths}
use Rattle.nd_summaries.proofs.Sharing.{small_on, named_row-on, listed-named}
use Rattle.nd_summaries.proofs.Fails.{accepted_from_none}
use Rattle.nd_summaries.proofs.Minimal.{are_minimal, are_least}
use Rattle.nd_summaries.proofs.Decisions.{all_fit}

-- the rows so far, and that none of their locations fails
pub record Made (o : TimeOrder) (g : Dataflow) (lists : List (List Summary)) (rows : List (List ℕ)) (n : ℕ) : Type 0 where
  pub count : length rows ≡ n
  pub small : (a : ℕ) → a < n → All (λ k. k < length lists) (get_or rows a [])
  pub minimal : (a : ℕ) → a < n → IsRow o g a (named_row lists (get_or rows a []))
  pub none : (a : ℕ) → a < n → FailsBy o g a → ⊥

one_more : {X : Type 0} (P : ℕ → X → Type 0) (xs : List X) (y d : X) (n : ℕ) → length xs ≡ n → ((a : ℕ) → a < n → P a (get_or xs a d)) → P n y → (a : ℕ) → a < n + 1 → P a (get_or (xs ++ (y ∷ [])) a d)
one_more P xs y d n e h k a l =
    elim (cases_lt a n) [
      | inl low ↦ subst (λ v. P a v) (sym (get_or_append_left xs (y ∷ []) d a (omega arith))) (h a low)
      | inr up ↦
          let same : a ≡ n = omega arith in
          let at : get_or (xs ++ (y ∷ [])) n d ≡ y = get_or_push xs y d n e in
          subst (λ m. P m (get_or (xs ++ (y ∷ [])) m d)) (sym same) (subst (λ v. P n v) (sym at) k)
    ]

pub Made-more : (o : TimeOrder) (g : Dataflow) (old new : List (List Summary)) (rows rows' : List (List ℕ)) (numbers : List ℕ) (row : List (List Summary)) (n : ℕ) → Made o g old rows n → Extends old new → AreNumbers new numbers row → IsRow o g n row → (FailsBy o g n → ⊥) → rows' ≡ rows ++ (numbers ∷ []) → Made o g new rows' (n + 1)
Made-more o g old new rows rows' numbers row n h x k r fine e =
    subst (λ rs. Made o g new rs (n + 1)) (sym e) (record {
      count = length_push rows numbers ∙ ap (λ m. m + 1) h.count;
      small = one_more (λ a v. All (λ j. j < length new) v) rows numbers [] n h.count (λ a l. small_on old new (get_or rows a []) x (h.small a l)) k.small;
      minimal = one_more (λ a v. IsRow o g a (named_row new v)) rows numbers [] n h.count
          (λ a l. subst (IsRow o g a) (sym (named_row-on old new (get_or rows a []) x (h.small a l))) (h.minimal a l))
          (subst (IsRow o g n) k.names r);
      none = λ a l f. elim (cases_lt a n) [ inl low ↦ h.none a low f | inr up ↦ (let same : a ≡ n = omega arith in fine (subst (λ m. FailsBy o g m) same f)) ];
    })

pub Made-table : (o : TimeOrder) (g : Dataflow) (lists : List (List Summary)) (buckets rows : List (List ℕ)) (n : ℕ) → DepthsAgree g → All (λ d. d ≤ max_depth) (depths g) → n ≡ length (depths g) → IsIndexed lists buckets → Made o g lists rows n → IsTable o g lists rows
Made-table o g lists buckets rows n agree shallow all i h = record {
  agree = agree;
  shallow = shallow;
  accepted = accepted_from_none o g (λ l low. h.none l (omega arith));
  count = h.count ∙ all;
  small = λ a l. h.small a (omega arith);
  minimal = λ a l. h.minimal a (omega arith);
  once = i.once;
}

-- ---- the list of a pair

pub pair_list : (o : TimeOrder) (g : Dataflow) (lists : List (List Summary)) (rows : List (List ℕ)) (a b : ℕ) (numbers : List ℕ) (list : List Summary) → IsTable o g lists rows → a < location_count g → b < location_count g → numbers ≡ get_or rows a numbers → list ≡ get_or lists (get_or numbers b 0) list → AreMinimalSummaries o g a b list × (o ≡ Lexicographic → AreLeastSummaries g a b list)
pair_list o g lists rows a b numbers list h la lb is is' =
    let inside : a < length (depths g) = omega (arith, la, length-depths g) in
    let inside' : b < length (depths g) = omega (arith, lb, length-depths g) in
    let same : numbers ≡ get_or rows a [] = is ∙ get_or_default rows a numbers [] (omega (arith, h.count)) in
    let row = subst (λ ns. IsRow o g a (named_row lists ns)) (sym same) (h.minimal a inside) in
    let small = subst (λ ns. All (λ n. n < length lists) ns) (sym same) (h.small a inside) in
    let size : length (named_row lists numbers) ≡ length numbers = length-map numbers (λ n. named lists n) in
    let low : b < length numbers = omega (arith, row.long, size) in
    let n : ℕ = get_or numbers b 0 in
    let one : list ≡ named lists n = is' ∙ get_or_default lists n list [] (small b 0 low) in
    let there : listed (named_row lists numbers) b ≡ list = listed-named lists numbers b low ∙ sym one in
    let minimal = subst (AreMinimalSummaries o g a b) there (are_minimal o g h.agree a b inside (named_row lists numbers) row) in
    (minimal, λ e. are_least g h.agree a b list (subst (λ u. AreMinimalSummaries u g a b list) e minimal))

-- its summaries fit the depths of the pair
pub pair_fits : (o : TimeOrder) (g : Dataflow) (lists : List (List Summary)) (rows : List (List ℕ)) (a b : ℕ) (list : List Summary) → IsTable o g lists rows → b < location_count g → AreMinimalSummaries o g a b list → All (Fit (slice_index (depths g) a) (slice_index (depths g) b)) list × All (λ s. left_by s ≤ max_depth) list
pair_fits o g lists rows a b list h lb minimal =
    let inside : b < length (depths g) = omega (arith, lb, length-depths g) in
    let fits = all_fit o g h.agree a b list minimal (slice_index (depths g) a) (slice_index (depths g) b) refl refl in
    (fits, λ k d l. omega (arith, (fits k d l).1, h.shallow b 0 inside))
