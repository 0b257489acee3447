-- The keys after a step fit the graph.
use Rattle.std.proofs.Common.{◌≡◌, ◌⊎◌, inl, inr, ℕ, zero, suc, ◌+◌, ◌<◌, ◌≤◌, pos, ◌+ℤ◌, Bool, true, false, cond, List, [], ◌∷◌, length, get_or, set, Some, refl, sym, ap, subst, ◌∙◌, arith, length-set, get_or-set_same, get_or-set_other}
use Rattle.std.proofs.lemmas.Int.{ints}
use Rattle.std.proofs.lemmas.Cmp.{nat_cmp_total}
use Rattle.std.proofs.lemmas.List.Sums.{sum_by-cons}
use Rattle.std.proofs.lemmas.Map.Views.{tells_apart}
use Rattle.std.specs.Prelude.{All, sum_by, slice_index_or}
use Rattle.std.specs.Cmp.{IsTotalOrder}
use Rattle.std.specs.declared.cmp.Ordering.{Ordering}
use Rattle.std.specs.FinMap as fin
use Rattle.nd_graph.specs.Graph.{Dataflow}
use Rattle.nd_map.specs.Counts.{added, natural, or_else, entries, at as count_at, at-entries, entries_listed}
use Rattle.nd_map.specs.Entries.{find-index}
use Rattle.nd_map.specs.Listed.{IsListed}
use Rattle.nd_map.specs.Weights.{weight}
use Rattle.nd_paths.specs.Order.{IsStrictlyBefore}
use Rattle.nd_paths.specs.Point.{point_total, point_exact}
use Rattle.nd_paths.specs.declared.point.Pointstamp.{Pointstamp}
use Rattle.nd_delta.specs.Delta.{DeltaValue, at, plus, at-plus, is_point}
use Rattle.nd_processor.specs.Keys.{value_at_total, value_at_exact}
use Rattle.nd_processor.specs.State.{ProcessorState, idle, token_point, one_at, in_records, in_requests, in_tokens, held}
use Rattle.nd_processor.specs.declared.key.ValueAt.{ValueAt}
use Rattle.nd_protocol.specs.State.{ClusterState}
use Rattle.nd_protocol.specs.Steps.{gain, with_gain, with_record, with_records}
use Rattle.nd_protocol.specs.Ranges.{IsValue}
use Rattle.nd_protocol.specs.Fitting.{IsOrdered, IsAtVertex, IsAtEdge, IsAtLocation, DeltaFits, ProcessorFits, KeysFit}
use Rattle.nd_protocol.proofs.Arcs.{IsTransitive}
use Rattle.nd_protocol.proofs.Shape.{Work, performer, performed, done, AllAt, AllKeys, IsSmallKey, IsPossible, written, come, performed-writes, HasCause}
use Rattle.nd_protocol.proofs.Counts.{count, gain-count}
use Rattle.nd_protocol.proofs.Emissions.{AllAt-both}
use Rattle.nd_protocol.proofs.Keys.{set_cases}
use Rattle.nd_protocol.proofs.StepsLemmas.{cause_of, many_stepped}
use Rattle.nd_map.specs.Cases.{zero_or_not}
use Rattle.std.proofs.lemmas.Bool.{cases_eq}
use Rattle.nd_processor.specs.HeldLaws.{in_requests-weight}

-- ---- all elements of a list, one of which is written

pub all-set : {X : Type 0} (P : X → Type 0) (xs : List X) (i : ℕ) (y : X) → All P xs → (i < length xs → P y) → All P (set xs i y)
all-set P xs i y all new k d lt =
    let many : length (set xs i y) ≡ length xs = length-set xs i y in
    elim (cases_eq k i) [
      | inl e ↦ subst P (sym (ap (λ j. get_or (set xs i y) j d) e ∙ get_or-set_same xs i y d (omega arith))) (new (omega arith))
      | inr ne ↦ subst P (sym (get_or-set_other xs i k y d ne)) (all k d (omega arith))
    ]

-- ---- records that arrive

more_fits : (g : Dataflow) (q : ProcessorState) (k : ValueAt) → IsAtEdge g k.point × IsValue k.value → ProcessorFits g q → ProcessorFits g (record q { records = added value_at_total q.records k (pos 1) })
more_fits g q k place fit = record {
  records = λ j some. elim (set_cases value_at_total value_at_exact q.records k (natural (pos (count_at q.records k) +ℤ pos 1)) j) [
    | inl same ↦ subst (λ (i : ValueAt). IsAtEdge g i.point × IsValue i.value) (sym same) place
    | inr same ↦ fit.records j (λ e. some (same ∙ e))
  ];
  requests = fit.requests;
  tokens = fit.tokens;
  vertices = fit.vertices;
  items = fit.items;
  sinks = fit.sinks;
  unsent = fit.unsent;
}

records_fit : (g : Dataflow) (qs : List ProcessorState) (rs : List (ℕ × ValueAt)) → AllKeys (λ k. IsAtEdge g k.point × IsValue k.value) rs → All (ProcessorFits g) qs → All (ProcessorFits g) (with_records qs rs)
records_fit g qs [] places fits = fits
records_fit g qs (r ∷ rs) places fits =
    let q : ProcessorState = slice_index_or qs r.0 idle in
    records_fit g (with_record qs r) rs places.1
    (all-set (ProcessorFits g) qs r.0 (record q { records = added value_at_total q.records r.1 (pos 1) }) fits (λ lt. more_fits g q r.1 places.0 (fits r.0 idle lt)))

-- ---- what is outstanding fits

pub zero_or_some : (n : ℕ) → (n ≡ 0) ⊎ (0 < n)
zero_or_some zero = inl refl
zero_or_some (suc n) = inr (omega arith)

-- a sum that is not 0 has a part that is not 0
some_part : {X : Type 0} (f : X → ℕ) (xs : List X) → 0 < sum_by f xs → (i : ℕ) × (i < length xs) × ((d : X) → 0 < f (get_or xs i d))
some_part f [] some = absurd (omega arith)
some_part f (x ∷ xs) some =
    let sum : sum_by f (x ∷ xs) ≡ f x + sum_by f xs = sum_by-cons f x xs in
    elim (zero_or_some (f x)) [
      | inr more ↦ (0, omega arith, λ d. more)
      | inl none ↦ let (i, lt, part) = some_part f xs (omega arith) in (suc i, omega arith, part)
    ]

found_part : {K X : Type 0} {R : K → K → Ordering} (o : IsTotalOrder R) (f : K → X → ℕ) (es : List (K × X)) → IsListed R es → K → X → 0 < weight f es → (k : K) × (v : X) × (fin.find R k es ≡ Some v) × (0 < f k v)
found_part {K = K} {X = X} {R = R} o f es listed any_key any some =
    let d : K × X = (any_key, any) in
    let (i, lt, part) = some_part (λ (e : K × X). f e.0 e.1) es some in
    let e : K × X = get_or es i d in
    (e.0, e.1, find-index R o es i d listed lt, part d)

at_it : (b : Bool) (n : ℕ) → 0 < cond b n 0 → (b ≡ true) × (0 < n)
at_it true n h = (refl, h)
at_it false n h = absurd (omega arith)

record_at : (g : Dataflow) (q : ProcessorState) (x : Pointstamp) → ProcessorFits g q → 0 < in_records q.records x → IsAtLocation g x
record_at g q x fit some =
    let (k, n, found, part) = found_part value_at_total (λ (k : ValueAt) n. cond (is_point x k.point) n 0) (entries q.records) (entries_listed q.records) (record { point = x; value = pos 0 }) 0 some in
    let (here, more) = at_it (is_point x k.point) n part in
    let is : count_at q.records k ≡ n = at-entries q.records k ∙ ap (or_else 0) found in
    let place : IsAtEdge g k.point = (fit.records k (λ none. omega arith)).0 in
    subst (IsAtLocation g) (sym (tells_apart point_exact x k.point here)) (record { fits = place.fits; small = place.small })

request_at : (g : Dataflow) (q : ProcessorState) (x : Pointstamp) → ProcessorFits g q → 0 < in_requests q.requests x → IsAtLocation g x
request_at g q x fit some =
    let (k, u, found, part) = found_part point_total (λ (k : Pointstamp) (u : Unit {0}). one_at k x) (fin.entries q.requests) (fin.entries_sorted q.requests) x tt (subst (λ n. 0 < n) (in_requests-weight q.requests x) some) in
    let (here, more) = at_it (is_point x k) 1 part in
    let place : IsAtVertex g k = fit.requests k (fin.get-entries q.requests k ∙ found) in
    subst (IsAtLocation g) (sym (tells_apart point_exact x k here)) (record { fits = place.fits; small = place.small })

token_at : (g : Dataflow) (q : ProcessorState) (x : Pointstamp) → ProcessorFits g q → 0 < in_tokens q.tokens x → IsAtLocation g x
token_at g q x fit some =
    let (v, e, found, part) = found_part nat_cmp_total (λ (v e : ℕ). one_at (token_point v e) x) (fin.entries q.tokens) (fin.entries_sorted q.tokens) 0 0 some in
    let (here, more) = at_it (is_point x (token_point v e)) 1 part in
    let place : IsAtVertex g (token_point v e) = (fit.tokens v e (fin.get-entries q.tokens v ∙ found)).1 in
    subst (IsAtLocation g) (sym (tells_apart point_exact x (token_point v e) here)) (record { fits = place.fits; small = place.small })

held_at : (g : Dataflow) (q : ProcessorState) (x : Pointstamp) → ProcessorFits g q → 0 < held q x → IsAtLocation g x
held_at g q x fit some =
    elim (zero_or_some (in_records q.records x)) [
      | inr more ↦ record_at g q x fit more
      | inl a ↦ elim (zero_or_some (in_requests q.requests x)) [
        | inr more ↦ request_at g q x fit more
        | inl b ↦ token_at g q x fit (omega arith)
      ]
    ]

pub outstanding_fits : (g : Dataflow) (qs : List ProcessorState) (x : Pointstamp) → All (ProcessorFits g) qs → 0 < count qs x → IsAtLocation g x
outstanding_fits g qs x fits some =
    let (i, lt, part) = some_part (λ q. held q x) qs some in
    held_at g (get_or qs i idle) x (fits i idle lt) (part idle)

gain_fits : (g : Dataflow) (old new : List ProcessorState) → All (ProcessorFits g) old → All (ProcessorFits g) new → DeltaFits g (gain old new)
gain_fits g old new then now x some =
    let moves : at (gain old new) x +ℤ pos (count old x) ≡ pos (count new x) = gain-count old new x in
    elim (zero_or_some (count old x)) [
      | inr more ↦ outstanding_fits g old x then more
      | inl a ↦ elim (zero_or_some (count new x)) [
        | inr more ↦ outstanding_fits g new x now more
        | inl b ↦ absurd (some (omega (arith, ints)))
      ]
    ]

pub plus_fits : (g : Dataflow) (c d : DeltaValue) → DeltaFits g c → DeltaFits g d → DeltaFits g (plus c d)
plus_fits g c d h k x some =
    let sum : at (plus c d) x ≡ at c x +ℤ at d x = at-plus c d x in
    elim (zero_or_not (at c x)) [
      | inr ne ↦ h x ne
      | inl a ↦ elim (zero_or_not (at d x)) [ inr ne ↦ k x ne | inl b ↦ absurd (some (omega (arith, ints))) ]
    ]

-- ---- the step

gained_fits : (g : Dataflow) (old : List ProcessorState) (p : ℕ) (new : List ProcessorState) → All (ProcessorFits g) old → All (ProcessorFits g) new → All (ProcessorFits g) (with_gain old p new)
gained_fits g old p new then now =
    let q : ProcessorState = slice_index_or new p idle in
    all-set (ProcessorFits g) new p (record q { unsent = plus q.unsent (gain old new) }) now (λ lt.
    let fit : ProcessorFits g q = now p idle lt in
    record {
      records = fit.records;
      requests = fit.requests;
      tokens = fit.tokens;
      vertices = fit.vertices;
      items = fit.items;
      sinks = fit.sinks;
      unsent = plus_fits g q.unsent (gain old new) fit.unsent (gain_fits g old new then now);
    })

-- what is later than a pointstamp is at a location
come_fits : (g : Dataflow) (x : Pointstamp) (rs : List (ℕ × ValueAt)) → AllAt (λ z. IsStrictlyBefore g x z × (length g.vertices ≤ z.location)) rs → AllKeys IsSmallKey rs → AllKeys (λ k. IsAtEdge g k.point × IsValue k.value) rs
come_fits g x [] h small = tt
come_fits g x (r ∷ rs) h small = ((record { place = h.0.1; fits = h.0.0.0.fits_t; small = small.0.0 }, small.0.1), come_fits g x rs h.1 small.1)

pub keys_fit : IsTransitive → (s : ClusterState) (x : Work) → IsOrdered s.graph → KeysFit s → IsPossible s x → KeysFit (done s x)
unfolding done
keys_fit trans s x o fits possible =
    let g : Dataflow = s.graph in
    let c : HasCause s x = cause_of trans s x o fits possible in
    let places : AllKeys (λ k. IsAtEdge g k.point × IsValue k.value) (come s x) =
    come_fits g c.cause (come s x) (AllAt-both (IsStrictlyBefore g c.cause) (λ z. length g.vertices ≤ z.location) (come s x) c.later c.edges) c.small in
    let performers : All (ProcessorFits g) (set s.processors (performer x) (written s x)) = all-set (ProcessorFits g) s.processors (performer x) (written s x) fits.processors (λ lt. c.fits) in
    let new : All (ProcessorFits g) (performed s x) = subst (All (ProcessorFits g)) (sym (performed-writes s x)) (records_fit g (set s.processors (performer x) (written s x)) (come s x) places performers) in
    let many : length (done s x).processors ≡ length s.processors = many_stepped s x in
    record {
      processors = gained_fits g s.processors (performer x) (performed s x) fits.processors new;
      views = fits.views;
      queues = fits.queues;
      each_view = fits.each_view ∙ sym many;
      each_sender = fits.each_sender ∙ sym many;
      each_receiver = λ k d lt. fits.each_receiver k d lt ∙ sym many;
    }
