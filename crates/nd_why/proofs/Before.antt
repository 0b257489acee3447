-- Whether something is held at or before a pointstamp, from the entries of what is held.
use Rattle.std.proofs.Common.{◌≡◌, ◌≢◌, ◌<◌, ◌≤◌, ◌+◌, ℕ, zero, suc, pos, Bool, true, false, cond, List, [], ◌∷◌, length, get_or, sum_by, refl, ap, sym, subst, ◌∙◌, arith}
use Rattle.std.proofs.Common.{◌⊎◌, inl, inr, true≢false}
use Rattle.std.specs.Prelude.{All, ◌↔◌, ◌||◌, IsTrue}
use Rattle.std.specs.FinMap as fin
use Rattle.std.specs.List.{Any}
use Rattle.std.proofs.lemmas.Int.{ints}
use Rattle.std.proofs.lemmas.Cmp.{tied_itself}
use Rattle.std.proofs.lemmas.List.Sums.{sum_by-cons, sum_by_more_le}
use Rattle.std.proofs.lemmas.Map.Views.{tells_apart}
use Rattle.std.specs.Ordering.{is_eq}
use Rattle.nd_graph.specs.Graph.{Dataflow}
use Rattle.nd_paths.specs.Point.{point_total, point_exact}
use Rattle.nd_paths.specs.declared.point.Pointstamp.{Pointstamp}
use Rattle.nd_delta.specs.Delta.{is_point, at}
use Rattle.nd_map.specs.Counts.{entries}
use Rattle.nd_processor.specs.Keys.{value_at_total, value_at_exact}
use Rattle.nd_processor.specs.State.{ProcessorState, token_point, in_records, in_requests, in_tokens, held}
use Rattle.nd_processor.specs.HeldLaws.{in_requests-weight}
use Rattle.nd_processor.specs.declared.key.ValueAt.{ValueAt}
use Rattle.nd_why.proofs.Nothing.{some_number}
use Rattle.nd_protocol.specs.State.{truth}
use Rattle.nd_view.specs.declared.extent.Extent.{Extent}
use Rattle.nd_view.specs.View.{IsBefore}
use Rattle.nd_protocol.specs.TruthLaws.{truth-count}
use Rattle.nd_why.specs.Why.{HasBefore, RecordBefore, RequestBefore, TokenBefore}

module _ (g : Dataflow) (extent : Extent) (t : Pointstamp) {E : Type 0} (point : E → Pointstamp) (number : E → ℕ) where
  -- the number that these entries have at a pointstamp
  abbrev pub listed : List E → Pointstamp → ℕ
  listed es x = sum_by (λ e. cond (is_point x (point e)) (number e) 0) es

  abbrev IsEarly : E → Type 0
  IsEarly e = IsBefore g extent (point e) t

  -- if an entry is before t, something is held before t
  pub has_some : (es : List E) → All (λ e. number e ≢ 0) es → Any IsEarly es → HasBefore g extent t (listed es)
  has_some es some found =
      let k = found.0 in
      let e = found.1 in
      let is : get_or es k e ≡ e = found.3 in
      let lt : k < length es = found.2 in
      let here : cond (is_point (point e) (point e)) (number e) 0 ≡ number e = ap (λ r. cond (is_eq r) (number e) 0) (tied_itself point_total (point e)) in
      let more = sum_by_more_le (λ d. cond (is_point (point e) (point d)) (number d) 0) es k e lt in
      let same : cond (is_point (point e) (point (get_or es k e))) (number (get_or es k e)) 0 ≡ cond (is_point (point e) (point e)) (number e) 0 = ap (λ d. cond (is_point (point e) (point d)) (number d) 0) is in
      let other : number e ≢ 0 = subst (λ d. number d ≢ 0) is (some k e lt) in
      record { point = point e; before = found.4; some = omega (arith, here, more, same, other) }

  later : (e : E) (es : List E) → Any IsEarly es → Any IsEarly (e ∷ es)
  later e es found = let lt = found.2 in (suc found.0, found.1, omega (arith, lt), found.3, found.4)

  found_at : (es : List E) (x : Pointstamp) → IsBefore g extent x t → 0 < listed es x → Any IsEarly es
  found_at [] x could some = absurd (omega (arith, some))
  found_at (e ∷ es) x could some = by (is_point x (point e)) refl (sum_by-cons (λ d. cond (is_point x (point d)) (number d) 0) e es) (found_at es x could)
    where
      by : (b : Bool) → is_point x (point e) ≡ b → listed (e ∷ es) x ≡ cond b (number e) 0 + listed es x → (0 < listed es x → Any IsEarly es) → Any IsEarly (e ∷ es)
      by true is sum rest = (0, e, omega arith, refl, subst (λ y. IsBefore g extent y t) (tells_apart point_exact x (point e) is) could)
      by false is sum rest = later e es (rest (omega (arith, some, sum)))

  -- if something is held before t, an entry is before t
  pub some_has : (es : List E) → HasBefore g extent t (listed es) → Any IsEarly es
  some_has es h = found_at es h.point h.before h.some

-- ---- one processor, and all

module _ (g : Dataflow) (extent : Extent) (t : Pointstamp) where
  pub has_more : (m n : Pointstamp → ℕ) → ((x : Pointstamp) → m x ≤ n x) → HasBefore g extent t m → HasBefore g extent t n
  has_more m n le h = record { point = h.point; before = h.before; some = omega (arith, le h.point, h.some) }

  zero_or : (n : ℕ) → (0 < n → ⊥) → n ≡ 0
  zero_or zero h = refl
  zero_or (suc n) h = absurd (h (omega arith))

  -- if the sum of three counts has something before t, one of them has
  either : (k m n : Pointstamp → ℕ) → HasBefore g extent t (λ x. k x + (m x + n x)) → HasBefore g extent t k ⊎ (HasBefore g extent t m ⊎ HasBefore g extent t n)
  either k m n h = by (k h.point) (m h.point) refl refl
    where
      by : (a b : ℕ) → k h.point ≡ a → m h.point ≡ b → HasBefore g extent t k ⊎ (HasBefore g extent t m ⊎ HasBefore g extent t n)
      by (suc a) b e f = inl (record { point = h.point; before = h.before; some = omega (arith, e) })
      by zero (suc b) e f = inr (inl (record { point = h.point; before = h.before; some = omega (arith, f) }))
      by zero zero e f = inr (inr (record { point = h.point; before = h.before; some = omega (arith, e, f, h.some) }))

  module _ (q : ProcessorState) where
    some_request : (x : Pointstamp) → listed g extent t (λ (e : Pointstamp × Unit {0}). e.0) (λ e. 1) (fin.entries q.requests) x ≡ in_requests q.requests x
    some_request x = sym (in_requests-weight q.requests x)

    held_by_record : RecordBefore g extent t q → HasBefore g extent t (held q)
    held_by_record h = has_more (in_records q.records) (held q) (λ x. omega arith) (has_some g extent t (λ (e : ValueAt × ℕ). e.0.point) (λ e. e.1) (entries q.records) (some_number value_at_total value_at_exact q.records) h)

    held_by_request : RequestBefore g extent t q → HasBefore g extent t (held q)
    held_by_request h =
        has_more (listed g extent t (λ (e : Pointstamp × Unit {0}). e.0) (λ e. 1) (fin.entries q.requests)) (held q) (λ x. let same = some_request x in omega (arith, same))
        (has_some g extent t (λ (e : Pointstamp × Unit {0}). e.0) (λ e. 1) (fin.entries q.requests) (λ k d lt e. absurd (omega (arith, e))) h)

    held_by_token : TokenBefore g extent t q → HasBefore g extent t (held q)
    held_by_token h = has_more (in_tokens q.tokens) (held q) (λ x. omega arith) (has_some g extent t (λ (e : ℕ × ℕ). token_point e.0 e.1) (λ e. 1) (fin.entries q.tokens) (λ k d lt e. absurd (omega (arith, e))) h)

    held_by : HasBefore g extent t (held q) → RecordBefore g extent t q ⊎ (RequestBefore g extent t q ⊎ TokenBefore g extent t q)
    held_by h = elim (either (in_records q.records) (in_requests q.requests) (in_tokens q.tokens) h) [
      | inl k ↦ inl (some_has g extent t (λ (e : ValueAt × ℕ). e.0.point) (λ e. e.1) (entries q.records) k)
      | inr (inl m) ↦ inr (inl (some_has g extent t (λ (e : Pointstamp × Unit {0}). e.0) (λ e. 1) (fin.entries q.requests) (has_more (in_requests q.requests) (listed g extent t (λ (e : Pointstamp × Unit {0}). e.0) (λ e. 1) (fin.entries q.requests)) (λ x. let same = some_request x in omega (arith, same)) m)))
      | inr (inr n) ↦ inr (inr (some_has g extent t (λ (e : ℕ × ℕ). token_point e.0 e.1) (λ e. 1) (fin.entries q.tokens) n))
    ]

    -- three tests decide whether a processor holds something before t
    pub held_if : (a b c : Bool) → (IsTrue a ↔ RecordBefore g extent t q) → (IsTrue b ↔ RequestBefore g extent t q) → (IsTrue c ↔ TokenBefore g extent t q) → IsTrue (a || b || c) ↔ HasBefore g extent t (held q)
    held_if true b c ra rb rc = (λ e. held_by_record (ra.0 refl), λ h. refl)
    held_if false true c ra rb rc = (λ e. held_by_request (rb.0 refl), λ h. refl)
    held_if false false c ra rb rc = (λ e. held_by_token (rc.0 e), λ h. last (held_by h))
      where
        last : RecordBefore g extent t q ⊎ (RequestBefore g extent t q ⊎ TokenBefore g extent t q) → IsTrue c
        last (inl r) = absurd (true≢false (sym (ra.1 r)))
        last (inr (inl r)) = absurd (true≢false (sym (rb.1 r)))
        last (inr (inr r)) = rc.1 r

  -- none of the first i processors has anything at or before t
  abbrev pub NoneUpTo : List ProcessorState → ℕ → Type 0
  NoneUpTo ps i = (k : ℕ) → k < i → (d : ProcessorState) → HasBefore g extent t (held (get_or ps k d)) → ⊥

  all_zero : (ps : List ProcessorState) (x : Pointstamp) → ((k : ℕ) (d : ProcessorState) → k < length ps → held (get_or ps k d) x ≡ 0) → sum_by (λ r. held r x) ps ≡ 0
  all_zero [] x h = refl
  all_zero (r ∷ ps) x h = sum_by-cons (λ q. held q x) r ps ∙ (λ i. h 0 r (omega arith) i + all_zero ps x (λ k d lt. h (suc k) d (omega (arith, lt))) i)

  pub finished_if : (ps : List ProcessorState) (i : ℕ) → length ps ≤ i → NoneUpTo ps i → (x : Pointstamp) → IsBefore g extent x t → at (truth ps) x ≡ pos 0
  finished_if ps i past none x c = truth-count ps x ∙ ap pos (all_zero ps x (λ k d lt. zero_or (held (get_or ps k d) x) (λ some. none k (omega (arith, lt, past)) d (record { point = x; before = c; some = some }))))

  pub unfinished_if : (ps : List ProcessorState) (i : ℕ) (r : ProcessorState) → i < length ps → r ≡ get_or ps i r → HasBefore g extent t (held r) → ((x : Pointstamp) → IsBefore g extent x t → at (truth ps) x ≡ pos 0) → ⊥
  unfinished_if ps i r lt is h finished =
      let x = h.point in
      let all = truth-count ps x in
      let none = finished x h.before in
      let here : held r x ≡ held (get_or ps i r) x = ap (λ (q : ProcessorState). held q x) is in
      let more = sum_by_more_le (λ q. held q x) ps i r lt in
      omega (arith, ints, all, none, here, more, h.some)
