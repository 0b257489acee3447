-- Takes and notices, without limits and without views: what they are, and that two that are allowed meet again.
-- A notice is allowed if nothing outstanding is strictly before it.
use Rattle.std.proofs.Common.{◌≡◌, ◌≢◌, ◌⊎◌, inl, inr, ℕ, zero, suc, ◌+◌, ◌-◌, ◌<◌, ◌≤◌, ℤ, pos, negsuc, Bool, true, false, cond, List, length, Option, Some, refl, sym, ap, subst, subst₂, ◌∙◌, arith}
use Rattle.std.proofs.lemmas.Bool.{cases_eq, eq-eqb, ne_eqb, eqb-true}
use Rattle.std.proofs.lemmas.List.Sums.{get_or-le-sum_by}
use Rattle.std.proofs.lemmas.Map.Views.{tells_apart}
use Rattle.std.specs.Prelude.{◌+ℤ◌, nat_eq, slice_set}
use Rattle.std.specs.FinMap as fin
use Rattle.std.specs.Ordering.{eq_by_cmp}
use Rattle.nd_time.specs.Time.{Time}
use Rattle.nd_graph.specs.Graph.{Dataflow, op_at}
use Rattle.nd_graph.specs.Operators.{facts}
use Rattle.nd_map.specs.Counts.{Counts, naturals, natural, at, added, at-set}
use Rattle.nd_paths.specs.Order.{Fits, IsStrictlyBefore, IsAccepted}
use Rattle.nd_paths.specs.Point.{point_cmp, point_total, point_exact}
use Rattle.nd_paths.specs.declared.point.Pointstamp.{Pointstamp}
use Rattle.nd_vertex.specs.Items.{Items, item_cmp, item_total, item_exact, item_key}
use Rattle.nd_vertex.specs.Table.{on_record, on_notice}
use Rattle.nd_vertex.specs.declared.key.ItemKey.{ItemKey}
use Rattle.nd_processor.specs.Keys.{value_at_cmp, value_at_total, value_at_exact, sink_cmp, sink_total, sink_exact}
use Rattle.nd_processor.specs.State.{ProcessorState, Requests, idle, one_at, in_records, in_requests, held}
use Rattle.nd_processor.specs.HeldLaws.{natural-less, stays, point_cases, one_at_itself, in_records-taken, in_requests-insert_le, in_requests-remove}
use Rattle.nd_processor.specs.declared.key.ValueAt.{ValueAt}
use Rattle.nd_processor.specs.declared.key.SinkKey.{SinkKey}
use Rattle.nd_protocol.specs.Steps.{record_key, point_at, target_of, emitted, with_records}
use Rattle.nd_protocol.specs.Fitting.{IsOrdered}
use Rattle.nd_protocol.specs.TruthLaws.{count, count-set}
use Rattle.nd_rest.proofs.Diamond.{Meets}
use Rattle.nd_rest.proofs.Maps.{apart, ties, same_or_not, more-comm, insert-insert, insert-remove, remove-remove}
use Rattle.nd_rest.proofs.Vertex.{AreIndependent, records_apart, record_and_notice, notices_apart}
use Rattle.nd_rest.proofs.Later.{AllAt, AllAt-flat, AllAt-wider, into, emitted_later, come_or_same}
use Rattle.nd_rest.proofs.Firings.{Firing, nth, changed, made, found, hits_at, AreSame, AreFree, fire, length-fire, beside_records-fire, records-fire, fire-comm}

-- ---- takes and notices

pub data Work : Type 0 where
  taking : (p edge : ℕ) (t : Time) (value : ℤ) → Work
  noticing : (p vertex : ℕ) (t : Time) → Work

-- the pointstamp of the record that is taken, or of the request
abbrev pub cause : Work → Pointstamp
cause (taking p edge t value) = point_at edge t
cause (noticing p vertex t) = point_at vertex t

one_less : (n : ℕ) → natural (pos n +ℤ negsuc 0) ≡ n - 1
one_less zero = refl
one_less (suc n) = natural-less (suc n) 1 (omega arith)

-- one record of a key is taken
pub at-less : (m : Counts value_at_cmp naturals) (j k : ValueAt) → at (added value_at_total m j (negsuc 0)) k ≡ at m k - cond (eq_by_cmp value_at_cmp k j) 1 0
at-less m j k = at-set value_at_total m j _ k ∙ by (eq_by_cmp value_at_cmp k j) refl
  where
    by : (b : Bool) → eq_by_cmp value_at_cmp k j ≡ b → cond b (natural (pos (at m j) +ℤ negsuc 0)) (at m k) ≡ at m k - cond b 1 0
    by true e = one_less (at m j) ∙ ap (λ i. at m i - 1) (sym (tells_apart value_at_exact k j e))
    by false e = omega arith

pub nothing_less : (n : ℕ) → n ≡ n - 0
nothing_less n = omega arith

abbrev pub firing : Dataflow → Work → Firing
firing g (taking p edge t value) = record {
  p = p;
  vertex = target_of g edge;
  time = t;
  hits = λ k. cond (eq_by_cmp value_at_cmp k (record_key edge t value)) 1 0;
  takes = λ m. added value_at_total m (record_key edge t value) (negsuc 0);
  asks = λ s. cond (facts (op_at g (target_of g edge))).asks (fin.insert s (point_at (target_of g edge) t) tt) s;
  counts = λ m. cond (facts (op_at g (target_of g edge))).counts (added sink_total m (record { vertex = target_of g edge; value = value }) (pos 1)) m;
  reacts = λ m. on_record (op_at g (target_of g edge)) m t value;
  taken = λ m k. at-less m (record_key edge t value) k;
}
firing g (noticing p vertex t) = record {
  p = p;
  vertex = vertex;
  time = t;
  hits = λ k. 0;
  takes = λ m. m;
  asks = λ s. fin.remove s (point_at vertex t);
  counts = λ m. m;
  reacts = λ m. on_notice (op_at g vertex) m t;
  taken = λ m k. nothing_less (at m k);
}

-- the processors after a take or a notice
abbrev pub next : Dataflow → List ProcessorState → Work → List ProcessorState
next g qs w = fire g (firing g w) qs

-- nothing outstanding satisfies D
abbrev pub IsEmpty : (Pointstamp → Type 0) → List ProcessorState → Type 0
IsEmpty D qs = (x : Pointstamp) → D x → count qs x ≡ 0

abbrev pub IsEarlierThan : Dataflow → Pointstamp → Pointstamp → Type 0
IsEarlierThan g y x = IsStrictlyBefore g x y

pub record MayTake (g : Dataflow) (qs : List ProcessorState) (p edge : ℕ) (t : Time) (value : ℤ) : Type 0 where
  pub here : p < length qs
  pub place : length g.vertices ≤ edge
  pub fits : Fits g (point_at edge t)
  pub some : 0 < at (nth qs p).records (record_key edge t value)

pub record MayNotice (g : Dataflow) (qs : List ProcessorState) (p vertex : ℕ) (t : Time) : Type 0 where
  pub here : p < length qs
  pub fits : Fits g (point_at vertex t)
  pub asked : fin.get (nth qs p).requests (point_at vertex t) ≡ Some tt
  pub notified : (facts (op_at g vertex)).holds ≡ false
  pub quiet : IsEmpty (IsEarlierThan g (point_at vertex t)) qs

abbrev pub IsAllowed : Dataflow → List ProcessorState → Work → Type 0
IsAllowed g qs (taking p edge t value) = MayTake g qs p edge t value
IsAllowed g qs (noticing p vertex t) = MayNotice g qs p vertex t

-- ---- what was empty stays so

-- D contains each pointstamp that is strictly before one of D
abbrev pub IsDownward : Dataflow → (Pointstamp → Type 0) → Type 0
IsDownward g D = (x y : Pointstamp) → IsStrictlyBefore g x y → D y → D x

-- the strict order of an accepted graph's pointstamps is transitive
abbrev pub IsTransitive : Type 0
IsTransitive = (g : Dataflow) (s t u : Pointstamp) → IsAccepted g → IsStrictlyBefore g s t → IsStrictlyBefore g t u → IsStrictlyBefore g s u

held_counts : (qs : List ProcessorState) (p : ℕ) (x : Pointstamp) → p < length qs → held (nth qs p) x ≤ count qs x
held_counts qs p x lt = get_or-le-sum_by (λ q. held q x) qs p idle lt

pub record_counts : (m : Counts value_at_cmp naturals) (k : ValueAt) → 0 < at m k → 0 < in_records m k.point
record_counts m k some =
    let less = in_records-taken m k 1 k.point (omega arith) in
    let one : one_at k.point k.point ≡ 1 = one_at_itself k.point in
    omega (arith, less, one)

pub request_counts : (s : Requests) (x : Pointstamp) → fin.get s x ≡ Some tt → 0 < in_requests s x
request_counts s x asked =
    let less = in_requests-remove s x x asked in
    let one : one_at x x ≡ 1 = one_at_itself x in
    omega (arith, less, one)

-- the cause of what is allowed is outstanding
pub cause_counts : (g : Dataflow) (qs : List ProcessorState) (w : Work) → IsAllowed g qs w → 0 < count qs (cause w)
cause_counts g qs (taking p edge t value) may =
    let some = record_counts (nth qs p).records (record_key edge t value) may.some in
    let part = held_counts qs p (point_at edge t) may.here in
    omega (arith, some, part)
cause_counts g qs (noticing p vertex t) may =
    let some = request_counts (nth qs p).requests (point_at vertex t) may.asked in
    let part = held_counts qs p (point_at vertex t) may.here in
    omega (arith, some, part)

-- the performer is a processor
pub performs : (g : Dataflow) (qs : List ProcessorState) (w : Work) → IsAllowed g qs w → (firing g w).p < length qs
performs g qs (taking p edge t value) may = may.here
performs g qs (noticing p vertex t) may = may.here

module _ (trans : IsTransitive) (g : Dataflow) (o : IsOrdered g) where
  -- what is made is strictly after the cause
  makes_later : (qs : List ProcessorState) (w : Work) → IsAllowed g qs w → (n : ℕ) (m : Items) → AllAt (IsStrictlyBefore g (cause w)) (made g n (firing g w) m)
  makes_later qs (taking p edge t value) may n m =
      let y : Pointstamp = point_at edge t in
      let z : Pointstamp = point_at (target_of g edge) t in
      let on : IsStrictlyBefore g y z = into g o edge t may.place may.fits in
      AllAt-wider (IsStrictlyBefore g z) (IsStrictlyBefore g y) (λ x later. trans g y z x o.accepted on later) (made g n (firing g (taking p edge t value)) m)
      (AllAt-flat (IsStrictlyBefore g z) (emitted g n p (target_of g edge) t) (emitted_later g o n p (target_of g edge) t on.0.fits_t) (on_record (op_at g (target_of g edge)) m t value).emissions)
  makes_later qs (noticing p vertex t) may n m =
      AllAt-flat (IsStrictlyBefore g (point_at vertex t)) (emitted g n p vertex t) (emitted_later g o n p vertex t may.fits) (on_notice (op_at g vertex) m t).emissions

  asked_more : (b : Bool) (s : Requests) (k x : Pointstamp) → in_requests (cond b (fin.insert s k tt) s) x ≤ in_requests s x + one_at k x
  asked_more true s k x = in_requests-insert_le s k x
  asked_more false s k x = omega arith

  -- its processor holds more only strictly after the cause
  holds_later : (qs : List ProcessorState) (w : Work) → IsAllowed g qs w → (x : Pointstamp)
      → IsStrictlyBefore g (cause w) x ⊎ (held (changed (firing g w) (nth qs (firing g w).p)) x ≤ held (nth qs (firing g w).p) x)
  holds_later qs (taking p edge t value) may x =
      let q : ProcessorState = nth qs p in
      let z : Pointstamp = point_at (target_of g edge) t in
      let b : Bool = (facts (op_at g (target_of g edge))).asks in
      elim (point_cases x z) [
        | inl same ↦ inl (subst (λ y. IsStrictlyBefore g (point_at edge t) y) (sym same) (into g o edge t may.place may.fits))
        | inr other ↦
            let less = in_records-taken q.records (record_key edge t value) 1 x may.some in
            let more = asked_more b q.requests z x in
            inr (omega (arith, less, more, other))
      ]
  holds_later qs (noticing p vertex t) may x =
      let less = in_requests-remove (nth qs p).requests (point_at vertex t) x may.asked in
      inr (omega (arith, less))

  -- what holds nothing outstanding, with all that is before it, stays so
  pub stays_empty : (D : Pointstamp → Type 0) → IsDownward g D → (qs : List ProcessorState) (w : Work) → IsAllowed g qs w → IsEmpty D qs → IsEmpty D (next g qs w)
  unfolding fire
  stays_empty D down qs w may empty x d =
      let f : Firing = firing g w in
      let q : ProcessorState = nth qs f.p in
      let written : List ProcessorState = slice_set qs f.p (changed f q) in
      let not_later : IsStrictlyBefore g (cause w) x → ⊥ = λ later.
      let none : count qs (cause w) ≡ 0 = empty (cause w) (down (cause w) x later d) in
      let some : 0 < count qs (cause w) = cause_counts g qs w may in
      omega (arith, none, some) in
      let none_made : count (with_records written (made g (length qs) f (found f qs))) x ≡ count written x =
      elim (come_or_same (IsStrictlyBefore g (cause w)) (made g (length qs) f (found f qs)) (makes_later qs w may (length qs) (found f qs)) x) [
        | inl later ↦ absurd (not_later later)
        | inr same ↦ same written
      ] in
      let less : held (changed f q) x ≤ held q x = elim (holds_later qs w may x) [ inl later ↦ absurd (not_later later) | inr le ↦ le ] in
      let moved : count written x + held q x ≡ count qs x + held (changed f q) x = count-set qs f.p (changed f q) x (performs g qs w may) in
      let part : held q x ≤ count qs x = held_counts qs f.p x (performs g qs w may) in
      let old : count qs x ≡ 0 = empty x d in
      none_made ∙ (let e : count written x ≡ 0 = omega (arith, less, moved, part, old) in e)

-- ---- what is still allowed

-- how many records of a key a firing takes: none, or one of its own
hits_cases : (g : Dataflow) (p edge : ℕ) (t : Time) (value : ℤ) (k : ℕ) (key : ValueAt)
    → (hits_at (firing g (taking p edge t value)) k key ≡ 0) ⊎ ((hits_at (firing g (taking p edge t value)) k key ≡ 1) × (k ≡ p) × (key ≡ record_key edge t value))
hits_cases g p edge t value k key =
    elim (cases_eq k p) [
      | inl e ↦ elim (same_or_not value_at_cmp value_at_total value_at_exact key (record_key edge t value)) [
        | inl is ↦ inr ((λ i. cond (eq-eqb k p e i) (cond (is_same is i) 1 0) 0), e, is)
        | inr other ↦ inl ((λ i. cond (nat_eq k p) (cond (apart value_at_exact key (record_key edge t value) other i) 1 0) 0) ∙ none (nat_eq k p))
      ]
      | inr ne ↦ inl (ap (λ b. cond b (cond (eq_by_cmp value_at_cmp key (record_key edge t value)) 1 0) 0) (ne_eqb k p ne))
    ]
  where
    none : (b : Bool) → ◌≡◌ {A = ℕ} (cond b 0 0) 0
    none true = refl
    none false = refl

    is_same : key ≡ record_key edge t value → eq_by_cmp value_at_cmp key (record_key edge t value) ≡ true
    is_same is = ap (λ k. eq_by_cmp value_at_cmp k (record_key edge t value)) is ∙ ties value_at_total (record_key edge t value)

no_hits : (g : Dataflow) (p vertex : ℕ) (t : Time) (k : ℕ) (key : ValueAt) → hits_at (firing g (noticing p vertex t)) k key ≡ 0
no_hits g p vertex t k key = elim (nat_eq k p) as (λ b. ◌≡◌ {A = ℕ} (cond b 0 0) 0) [ true ↦ refl | false ↦ refl ]

-- a record that is not taken by another firing stays
take_stays : (g : Dataflow) (f : Firing) (qs : List ProcessorState) (p edge : ℕ) (t : Time) (value : ℤ) → f.p < length qs → MayTake g qs p edge t value
    → hits_at f p (record_key edge t value) < at (nth qs p).records (record_key edge t value) → MayTake g (fire g f qs) p edge t value
take_stays g f qs p edge t value lt may less =
    let now = records-fire g f qs p (record_key edge t value) lt may.here in
    record {
      here = subst (λ n. p < n) (sym (length-fire g f qs)) may.here;
      place = may.place;
      fits = may.fits;
      some = omega (arith, now, less);
    }

requests-fire : (g : Dataflow) (f : Firing) (qs : List ProcessorState) (k : ℕ) → f.p < length qs → (nth (fire g f qs) k).requests ≡ cond (nat_eq k f.p) (f.asks (nth qs k).requests) (nth qs k).requests
requests-fire g f qs k lt =
    ap (λ q. q.requests) (beside_records-fire g f qs k lt)
    ∙ elim (nat_eq k f.p) as (λ b. (cond b (changed f (nth qs k)) (nth qs k)).requests ≡ cond b (f.asks (nth qs k).requests) (nth qs k).requests) [ true ↦ refl | false ↦ refl ]

module _ (trans : IsTransitive) (g : Dataflow) (o : IsOrdered g) where
  before_down : (y : Pointstamp) → IsDownward g (IsEarlierThan g y)
  before_down y x z less before = trans g x z y o.accepted less before

  -- a request that another firing does not remove stays, and so does what is known of it
  notice_stays : (qs : List ProcessorState) (w : Work) (p vertex : ℕ) (t : Time) → IsAllowed g qs w → MayNotice g qs p vertex t
      → (p ≡ (firing g w).p → (s : Requests) → fin.get s (point_at vertex t) ≡ Some tt → fin.get ((firing g w).asks s) (point_at vertex t) ≡ Some tt)
      → MayNotice g (next g qs w) p vertex t
  notice_stays qs w p vertex t allowed may keeps =
      let f : Firing = firing g w in
      let lt : f.p < length qs = performs g qs w allowed in
      record {
        here = subst (λ n. p < n) (sym (length-fire g f qs)) may.here;
        fits = may.fits;
        asked =
            ap (λ s. fin.get s (point_at vertex t)) (requests-fire g f qs p lt)
            ∙ kept (f.asks (nth qs p).requests) (nth qs p).requests (nat_eq p f.p) (λ e. keeps (eqb-true p f.p e) (nth qs p).requests may.asked) may.asked;
        notified = may.notified;
        quiet = stays_empty trans g o (IsEarlierThan g (point_at vertex t)) (before_down (point_at vertex t)) qs w allowed may.quiet;
      }
    where
      kept : (s r : Requests) (b : Bool) → (b ≡ true → fin.get s (point_at vertex t) ≡ Some tt) → fin.get r (point_at vertex t) ≡ Some tt → fin.get (cond b s r) (point_at vertex t) ≡ Some tt
      kept s r true h k = h refl
      kept s r false h k = k

-- ---- two takes

asked_twice : (a b : Bool) (s : Requests) (x y : Pointstamp) → cond b (fin.insert (cond a (fin.insert s x tt) s) y tt) (cond a (fin.insert s x tt) s) ≡ cond a (fin.insert (cond b (fin.insert s y tt) s) x tt) (cond b (fin.insert s y tt) s)
asked_twice true true s x y = insert-insert point_total point_exact s x y
asked_twice true false s x y = refl
asked_twice false b s x y = refl

counted_twice : (a b : Bool) (m : Counts sink_cmp naturals) (x y : SinkKey)
    → cond b (added sink_total (cond a (added sink_total m x (pos 1)) m) y (pos 1)) (cond a (added sink_total m x (pos 1)) m) ≡ cond a (added sink_total (cond b (added sink_total m y (pos 1)) m) x (pos 1)) (cond b (added sink_total m y (pos 1)) m)
counted_twice true true m x y = more-comm sink_total sink_exact m x y 1 1
counted_twice true false m x y = refl
counted_twice false b m x y = refl

records_meet : (g : Dataflow) (p edge : ℕ) (t : Time) (value : ℤ) (q edge' : ℕ) (u : Time) (other : ℤ) → target_of g edge ≡ target_of g edge'
    → AreSame (firing g (taking p edge t value)) (firing g (taking q edge' u other)) ⊎ AreIndependent (firing g (taking p edge t value)).reacts (firing g (taking q edge' u other)).reacts
records_meet g p edge t value q edge' u other one =
    elim (same_or_not item_cmp item_total item_exact (item_key t value) (item_key u other)) [
      | inl same ↦ inl (record {
        time = ap (λ (k : ItemKey). k.time) same;
        reacts = λ i m. on_record (op_at g (one i)) m (same i).time (same i).item;
      })
      | inr apart_here ↦ inr (subst (λ v. AreIndependent (λ m. on_record (op_at g (target_of g edge)) m t value) (λ m. on_record (op_at g v) m u other)) one
          (records_apart (op_at g (target_of g edge)) t u value other apart_here))
    ]

hits_fit : (g : Dataflow) (qs : List ProcessorState) (p edge : ℕ) (t : Time) (value : ℤ) (q edge' : ℕ) (u : Time) (other : ℤ) → (p ≡ q → record_key edge t value ≡ record_key edge' u other → ⊥)
    → MayTake g qs p edge t value → MayTake g qs q edge' u other → (k : ℕ) (key : ValueAt)
    → hits_at (firing g (taking p edge t value)) k key + hits_at (firing g (taking q edge' u other)) k key ≤ at (nth qs k).records key
hits_fit g qs p edge t value q edge' u other two may might k key =
    elim (hits_cases g p edge t value k key) [
      | inl none ↦ elim (hits_cases g q edge' u other k key) [
        | inl nothing ↦ omega (arith, none, nothing)
        | inr one ↦
            let there : 0 < at (nth qs k).records key = subst₂ (λ j x. 0 < at (nth qs j).records x) (sym one.1) (sym one.2) might.some in
            let here : hits_at (firing g (taking q edge' u other)) k key ≡ 1 = one.0 in
            omega (arith, none, here, there)
      ]
      | inr one ↦ elim (hits_cases g q edge' u other k key) [
        | inl nothing ↦
            let there : 0 < at (nth qs k).records key = subst₂ (λ j x. 0 < at (nth qs j).records x) (sym one.1) (sym one.2) may.some in
            let here : hits_at (firing g (taking p edge t value)) k key ≡ 1 = one.0 in
            omega (arith, nothing, here, there)
        | inr another ↦ absurd (two (sym one.1 ∙ another.1) (sym one.2 ∙ another.2))
      ]
    ]

-- a record that is there is taken by at most one of two takes
hits_less : (a b r : ℕ) → a + b ≤ r → b ≡ 1 → a < r
hits_less a b r le e = omega arith

hits_own : (g : Dataflow) (p edge : ℕ) (t : Time) (value : ℤ) → hits_at (firing g (taking p edge t value)) p (record_key edge t value) ≡ 1
hits_own g p edge t value = λ i. cond (eq-eqb p p refl i) (cond (ties value_at_total (record_key edge t value) i) 1 0) 0

module _ (g : Dataflow) (qs : List ProcessorState) (p edge : ℕ) (t : Time) (value : ℤ) (q edge' : ℕ) (u : Time) (other : ℤ)
    (two : p ≡ q → record_key edge t value ≡ record_key edge' u other → ⊥) (may : MayTake g qs p edge t value) (might : MayTake g qs q edge' u other) where
  takes_free : AreFree (firing g (taking p edge t value)) (firing g (taking q edge' u other)) qs
  takes_free = record {
    first = may.here;
    second = might.here;
    asks = λ _ s. asked_twice (facts (op_at g (target_of g edge))).asks (facts (op_at g (target_of g edge'))).asks s (point_at (target_of g edge) t) (point_at (target_of g edge') u);
    counts = λ m. counted_twice (facts (op_at g (target_of g edge))).counts (facts (op_at g (target_of g edge'))).counts m (record { vertex = target_of g edge; value = value }) (record { vertex = target_of g edge'; value = other });
    hits = λ k key _. hits_fit g qs p edge t value q edge' u other two may might k key;
    reacts = λ _ one. records_meet g p edge t value q edge' u other one;
  }

  second_take_stays : MayTake g (fire g (firing g (taking p edge t value)) qs) q edge' u other
  second_take_stays =
      take_stays g (firing g (taking p edge t value)) qs q edge' u other may.here might
      (hits_less (hits_at (firing g (taking p edge t value)) q (record_key edge' u other)) (hits_at (firing g (taking q edge' u other)) q (record_key edge' u other)) _
      (hits_fit g qs p edge t value q edge' u other two may might q (record_key edge' u other)) (hits_own g q edge' u other))

takes_meet : (g : Dataflow) (qs : List ProcessorState) (p edge : ℕ) (t : Time) (value : ℤ) (q edge' : ℕ) (u : Time) (other : ℤ)
    → MayTake g qs p edge t value → MayTake g qs q edge' u other → Meets (IsAllowed g) (next g) qs (taking p edge t value) (taking q edge' u other)
takes_meet g qs p edge t value q edge' u other may might =
    elim (cases_eq p q) [
      | inl e ↦ elim (same_or_not value_at_cmp value_at_total value_at_exact (record_key edge t value) (record_key edge' u other)) [
        | inl is ↦ inl (λ i. next g qs (taking (e i) (is i).point.location (is i).point.time (is i).value))
        | inr ne ↦ both (λ _ is. ne is)
      ]
      | inr ne ↦ both (λ e _. ne e)
    ]
  where
    both : (p ≡ q → record_key edge t value ≡ record_key edge' u other → ⊥) → Meets (IsAllowed g) (next g) qs (taking p edge t value) (taking q edge' u other)
    both two = inr (
      second_take_stays g qs p edge t value q edge' u other two may might,
      second_take_stays g qs q edge' u other p edge t value (λ e is. two (sym e) (sym is)) might may,
      fire-comm g (firing g (taking p edge t value)) (firing g (taking q edge' u other)) qs (takes_free g qs p edge t value q edge' u other two may might),
    )

-- ---- a take and a notice

asked_and_removed : (a : Bool) (s : Requests) (x y : Pointstamp) → x ≢ y → fin.remove (cond a (fin.insert s x tt) s) y ≡ cond a (fin.insert (fin.remove s y) x tt) (fin.remove s y)
asked_and_removed true s x y other = insert-remove point_total point_exact s x y other
asked_and_removed false s x y other = refl

either_way : (b : Bool) (z : Option (Unit {0})) → cond b z z ≡ z
either_way true z = refl
either_way false z = refl

still_asked : (a : Bool) (s : Requests) (x y : Pointstamp) → fin.get s y ≡ Some tt → fin.get (cond a (fin.insert s x tt) s) y ≡ Some tt
still_asked true s x y asked = fin.get-insert point_total s x tt y ∙ ap (cond (eq_by_cmp point_cmp y x) (Some tt)) asked ∙ either_way (eq_by_cmp point_cmp y x) (Some tt)
still_asked false s x y asked = asked

module _ (trans : IsTransitive) (g : Dataflow) (o : IsOrdered g) (qs : List ProcessorState) where
  -- a record that enters a vertex hinders its notifications at that time
  not_there : (p edge : ℕ) (t : Time) (value : ℤ) (q vertex : ℕ) (u : Time) → MayTake g qs p edge t value → MayNotice g qs q vertex u → point_at (target_of g edge) t ≢ point_at vertex u
  not_there p edge t value q vertex u may might same =
      let none : count qs (point_at edge t) ≡ 0 = might.quiet (point_at edge t) (subst (IsStrictlyBefore g (point_at edge t)) same (into g o edge t may.place may.fits)) in
      let some : 0 < count qs (point_at edge t) = cause_counts g qs (taking p edge t value) may in
      omega (arith, none, some)

  take_and_notice : (p edge : ℕ) (t : Time) (value : ℤ) (q vertex : ℕ) (u : Time) → MayTake g qs p edge t value → MayNotice g qs q vertex u
      → Meets (IsAllowed g) (next g) qs (taking p edge t value) (noticing q vertex u)
  take_and_notice p edge t value q vertex u may might =
      let f : Firing = firing g (taking p edge t value) in
      let h : Firing = firing g (noticing q vertex u) in
      let other : point_at (target_of g edge) t ≢ point_at vertex u = not_there p edge t value q vertex u may might in
      let a : Bool = (facts (op_at g (target_of g edge))).asks in
      let fit : (k : ℕ) (key : ValueAt) → hits_at f k key + hits_at h k key ≤ at (nth qs k).records key
      = λ k key. elim (hits_cases g p edge t value k key) [
        | inl none ↦ let nothing = no_hits g q vertex u k key in omega (arith, none, nothing)
        | inr one ↦
            let there : 0 < at (nth qs k).records key = subst₂ (λ j x. 0 < at (nth qs j).records x) (sym one.1) (sym one.2) may.some in
            let here : hits_at f k key ≡ 1 = one.0 in
            let nothing = no_hits g q vertex u k key in
            omega (arith, here, there, nothing)
      ] in
      let free : AreFree f h qs = record {
        first = may.here;
        second = might.here;
        asks = λ _ s. asked_and_removed a s (point_at (target_of g edge) t) (point_at vertex u) other;
        counts = λ m. refl;
        hits = λ k key _. fit k key;
        reacts = λ _ one. inr (subst (λ v. AreIndependent (λ m. on_record (op_at g (target_of g edge)) m t value) (λ m. on_notice (op_at g v) m u)) one
            (record_and_notice (op_at g (target_of g edge)) t u value (λ e. other (λ i. point_at (one i) (e i)))));
      } in
      inr (
        notice_stays trans g o qs (taking p edge t value) q vertex u may might (λ _ s asked. still_asked a s (point_at (target_of g edge) t) (point_at vertex u) asked),
        take_stays g h qs p edge t value might.here may
            (let nothing = no_hits g q vertex u p (record_key edge t value) in let some : 0 < at (nth qs p).records (record_key edge t value) = may.some in omega (arith, nothing, some)),
        fire-comm g f h qs free,
      )

  -- ---- two notices

  notices_meet : (p vertex : ℕ) (t : Time) (q vertex' : ℕ) (u : Time) → MayNotice g qs p vertex t → MayNotice g qs q vertex' u
      → Meets (IsAllowed g) (next g) qs (noticing p vertex t) (noticing q vertex' u)
  notices_meet p vertex t q vertex' u may might =
      elim (cases_eq p q) [
        | inl e ↦ elim (same_or_not point_cmp point_total point_exact (point_at vertex t) (point_at vertex' u)) [
          | inl is ↦ inl (λ i. next g qs (noticing (e i) (is i).location (is i).time))
          | inr ne ↦ both (λ _ is. ne is)
        ]
        | inr ne ↦ both (λ e _. ne e)
      ]
    where
      both : (p ≡ q → point_at vertex t ≡ point_at vertex' u → ⊥) → Meets (IsAllowed g) (next g) qs (noticing p vertex t) (noticing q vertex' u)
      both two =
          let f : Firing = firing g (noticing p vertex t) in
          let h : Firing = firing g (noticing q vertex' u) in
          let free : AreFree f h qs = record {
            first = may.here;
            second = might.here;
            asks = λ _ s. remove-remove point_total point_exact s (point_at vertex t) (point_at vertex' u);
            counts = λ m. refl;
            hits = λ k key _. let none = no_hits g p vertex t k key in let nothing = no_hits g q vertex' u k key in omega (arith, none, nothing);
            reacts = λ e one. inr (subst (λ v. AreIndependent (λ m. on_notice (op_at g vertex) m t) (λ m. on_notice (op_at g v) m u)) one
                (notices_apart (op_at g vertex) t u (λ is. two e (λ i. point_at (one i) (is i)))));
          } in
          inr (
            notice_stays trans g o qs (noticing p vertex t) q vertex' u may might (λ e s asked. stays point_total point_exact s (point_at vertex t) (point_at vertex' u) (λ is. two (sym e) (sym is)) ∙ asked),
            notice_stays trans g o qs (noticing q vertex' u) p vertex t might may (λ e s asked. stays point_total point_exact s (point_at vertex' u) (point_at vertex t) (λ is. two e is) ∙ asked),
            fire-comm g f h qs free,
          )

  turned_round : (x y : Work) → Meets (IsAllowed g) (next g) qs x y → Meets (IsAllowed g) (next g) qs y x
  turned_round x y (inl same) = inl (sym same)
  turned_round x y (inr both) = inr (both.1, both.0, sym both.2)

  -- any two that are allowed meet again
  pub meet : (x y : Work) → IsAllowed g qs x → IsAllowed g qs y → Meets (IsAllowed g) (next g) qs x y
  meet (taking p edge t value) (taking q edge' u other) may might = takes_meet g qs p edge t value q edge' u other may might
  meet (taking p edge t value) (noticing q vertex u) may might = take_and_notice p edge t value q vertex u may might
  meet (noticing p vertex t) (taking q edge u value) may might = turned_round (taking q edge u value) (noticing p vertex t) (take_and_notice q edge u value p vertex t might may)
  meet (noticing p vertex t) (noticing q vertex' u) may might = notices_meet p vertex t q vertex' u may might
