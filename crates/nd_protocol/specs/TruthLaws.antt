-- What is outstanding in a cluster, as a sum over its processors, and how writing one processor changes it.
--     count                     how many records, requests and tokens are at a pointstamp
--     truth-count, gain-count   the truth, and what a step adds to it, as such sums
--     count-set, -set_same      the count after one processor is written
--     kept-set, -records        what does not change if a processor is written, or if records arrive
use Rattle.std.specs.Prelude.{◌≡◌, ℕ, zero, suc, ◌+◌, ◌<◌, ℤ, pos, ◌+ℤ◌, Bool, true, false, cond, List, [], ◌∷◌, ◌++◌, map, length, sum_by, slice_index_or, slice_set, refl}
use Rattle.std.proofs.Common.{sym, ap, ◌∙◌, arith, length-set}
use Rattle.std.proofs.lemmas.Int.{ints}
use Rattle.std.proofs.lemmas.List.Sums.{sum_by-cons, sum_by-append, sum_by-set}
use Rattle.std.proofs.lemmas.Map.Views.{tells_apart}
use Rattle.std.specs.List.{flat_map}
use Rattle.std.specs.FinMap as fin
use Rattle.nd_paths.specs.Point.{point_exact}
use Rattle.nd_paths.specs.declared.point.Pointstamp.{Pointstamp}
use Rattle.nd_map.specs.Counts.{Counts, naturals, added, entries}
use Rattle.nd_delta.specs.Delta.{at, is_point, at-minus, at-none, at-set}
use Rattle.nd_processor.specs.Keys.{value_at_cmp, value_at_total}
use Rattle.nd_processor.specs.State.{ProcessorState, idle, token_point, held}
use Rattle.nd_processor.specs.HeldLaws.{sum_by-map}
use Rattle.nd_processor.specs.declared.key.ValueAt.{ValueAt}
use Rattle.nd_protocol.specs.State.{outstanding_at, tally, truth}
use Rattle.nd_protocol.specs.Steps.{with_record, with_records, gain}

-- the sum of the numbers that a list has at the pointstamp x
abbrev tallied : Pointstamp → List (Pointstamp × ℕ) → ℕ
tallied x es = sum_by (λ e. cond (is_point x e.0) e.1 0) es

add_here : (b : Bool) (here : ℤ) (s n : ℕ) → (b ≡ true → here ≡ pos s) → cond b (here +ℤ pos n) (pos s) ≡ pos (cond b n 0 + s)
add_here true here s n e = rw (e refl) (ap pos (omega arith))
add_here false here s n e = ap pos (omega arith)

at-tally : (es : List (Pointstamp × ℕ)) (x : Pointstamp) → at (tally es) x ≡ pos (tallied x es)
at-tally [] x = at-none x
at-tally (e ∷ es) x =
    at-set (tally es) e.0 (at (tally es) e.0 +ℤ pos e.1) x
    ∙ ap (cond (is_point x e.0) (at (tally es) e.0 +ℤ pos e.1)) (at-tally es x)
    ∙ add_here (is_point x e.0) (at (tally es) e.0) (tallied x es) e.1 (λ t. ap (at (tally es)) (sym (tells_apart point_exact x e.0 t)) ∙ at-tally es x)
    ∙ ap pos (sym (sum_by-cons (λ (d : Pointstamp × ℕ). cond (is_point x d.0) d.1 0) e es))

tallied-outstanding : (q : ProcessorState) (x : Pointstamp) → tallied x (outstanding_at q) ≡ held q x
tallied-outstanding q x =
    let f = λ (e : Pointstamp × ℕ). cond (is_point x e.0) e.1 0 in
    let records : List (Pointstamp × ℕ) = map (λ e. (e.0.point, e.1)) (entries q.records) in
    let requests : List (Pointstamp × ℕ) = map (λ p. (p, 1)) (fin.keys q.requests) in
    let tokens : List (Pointstamp × ℕ) = map (λ e. (token_point e.0 e.1, 1)) (fin.entries q.tokens) in
    sum_by-append f records (requests ++ tokens)
    ∙ ap (λ n. sum_by f records + n) (sum_by-append f requests tokens)
    ∙ (λ i. sum_by-map f (λ (e : ValueAt × ℕ). (e.0.point, e.1)) (entries q.records) i
    + (sum_by-map f (λ (p : Pointstamp). (p, 1)) (fin.keys q.requests) i
    + sum_by-map f (λ (e : ℕ × ℕ). (token_point e.0 e.1, 1)) (fin.entries q.tokens) i))

-- the number of records, requests and tokens at a pointstamp, over all processors
abbrev pub count : List ProcessorState → Pointstamp → ℕ
count qs x = sum_by (λ q. held q x) qs

tallied-all : (qs : List ProcessorState) (x : Pointstamp) → tallied x (flat_map outstanding_at qs) ≡ count qs x
tallied-all [] x = refl
tallied-all (q ∷ qs) x =
    sum_by-append (λ (e : Pointstamp × ℕ). cond (is_point x e.0) e.1 0) (outstanding_at q) (flat_map outstanding_at qs)
    ∙ (λ i. tallied-outstanding q x i + tallied-all qs x i) ∙ sym (sum_by-cons (λ r. held r x) q qs)

pub truth-count : (qs : List ProcessorState) (x : Pointstamp) → at (truth qs) x ≡ pos (count qs x)
unfolding truth
truth-count qs x = at-tally (flat_map outstanding_at qs) x ∙ ap pos (tallied-all qs x)

pub gain-count : (old new : List ProcessorState) (x : Pointstamp) → at (gain old new) x +ℤ pos (count old x) ≡ pos (count new x)
gain-count old new x =
    let a = at-minus (truth new) (truth old) x in
    let b = truth-count old x in
    let c = truth-count new x in
    omega (arith, ints)

-- ---- writing one processor

pub count-set : (qs : List ProcessorState) (p : ℕ) (r : ProcessorState) (x : Pointstamp) → p < length qs
    → count (slice_set qs p r) x + held (slice_index_or qs p idle) x ≡ count qs x + held r x
count-set qs p r x lt = sum_by-set (λ q. held q x) qs p r idle lt

-- the count does not change if the written processor has as much at the pointstamp as the old one
pub count-set_same : (qs : List ProcessorState) (p : ℕ) (r : ProcessorState) (x : Pointstamp) → held r x ≡ held (slice_index_or qs p idle) x → count (slice_set qs p r) x ≡ count qs x
count-set_same [] p r x e = refl
count-set_same (q ∷ qs) zero r x e = sum_by-cons (λ q. held q x) r qs ∙ ap (λ n. n + count qs x) e ∙ sym (sum_by-cons (λ q. held q x) q qs)
count-set_same (q ∷ qs) (suc p) r x e =
    sum_by-cons (λ q. held q x) q (slice_set qs p r) ∙ ap (λ n. held q x + n) (count-set_same qs p r x e) ∙ sym (sum_by-cons (λ q. held q x) q qs)

-- ---- records that arrive

pub length-records : (qs : List ProcessorState) (rs : List (ℕ × ValueAt)) → length (with_records qs rs) ≡ length qs
length-records qs [] = refl
length-records qs (r ∷ rs) = length-records (with_record qs r) rs ∙ length-set qs r.0 _

-- if f is the same of the written processor as of the old one, it is the same of every processor
module _ {X : Type 0} (f : ProcessorState → X) where
  pub kept-set : (qs : List ProcessorState) (i : ℕ) (r : ProcessorState) → f r ≡ f (slice_index_or qs i idle) → (k : ℕ) → f (slice_index_or (slice_set qs i r) k idle) ≡ f (slice_index_or qs k idle)
  kept-set [] i r e k = refl
  kept-set (q ∷ qs) zero r e zero = e
  kept-set (q ∷ qs) zero r e (suc k) = refl
  kept-set (q ∷ qs) (suc i) r e zero = refl
  kept-set (q ∷ qs) (suc i) r e (suc k) = kept-set qs i r e k

  pub kept-records : ((q : ProcessorState) (m : Counts value_at_cmp naturals) → f (record q { records = m }) ≡ f q) → (qs : List ProcessorState) (rs : List (ℕ × ValueAt)) (k : ℕ)
      → f (slice_index_or (with_records qs rs) k idle) ≡ f (slice_index_or qs k idle)
  kept-records keeps qs [] k = refl
  kept-records keeps qs (r ∷ rs) k =
      let q : ProcessorState = slice_index_or qs r.0 idle in
      let m : Counts value_at_cmp naturals = added value_at_total q.records r.1 (pos 1) in
      kept-records keeps (with_record qs r) rs k ∙ kept-set qs r.0 (record q { records = m }) (keeps q m) k
