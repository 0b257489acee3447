-- What a send changes: on each edge of its port, one record more for each value.
use Rattle.std.proofs.Common.{◌≡◌, ◌⊎◌, inl, inr, ℕ, zero, suc, ◌+◌, ◌<◌, ℤ, pos, negsuc, ◌+ℤ◌, true, false, cond, ◌&&◌, List, [], ◌∷◌, ◌++◌, length, get_or, count_by, flat_map, unsigned_abs, nat_eq, slice_get, Option, Some, None, refl, sym, ap, subst, ◌∙◌, mod-lt, arith, get_or-set_same, get_or-set_other}
use Rattle.std.proofs.lemmas.Bool.{and_from, and_parts, cases_eq}
use Rattle.std.proofs.lemmas.Bool.Decides.{nat_tests, Decides-int_eq}
use Rattle.std.proofs.lemmas.List.Sums.{sum_by-cons}
use Rattle.std.specs.Int.{int_rem_euclid}
use Rattle.std.specs.Ordering.{int_eq}
use Rattle.nd_map.specs.Counts.{Counts, naturals, natural, at, added, at-set_here}
use Rattle.nd_time.specs.Time.{Time}
use Rattle.nd_graph.specs.declared.op.Route.{Route}
use Rattle.nd_graph.specs.declared.op.Route.TheVariants.{Local, Exchange}
use Rattle.nd_graph.specs.declared.graph.Edge.{Edge}
use Rattle.nd_paths.specs.declared.point.Pointstamp.{Pointstamp}
use Rattle.nd_processor.specs.Keys.{value_at_cmp, value_at_total, value_at_exact}
use Rattle.nd_processor.specs.State.{ProcessorState, idle}
use Rattle.nd_processor.specs.declared.key.ValueAt.{ValueAt}
use Rattle.nd_protocol.specs.Steps.{directed, made_on, record_key, with_record, with_records}
use Rattle.nd_protocol.proofs.Shape.{AllAt}
use Rattle.nd_protocol.proofs.Counts.{kept-set, length-records}
use Rattle.nd_protocol.proofs.Emissions.{same_number}
use Rattle.nd_protocol.proofs.Keys.{set_cases}

-- the number of records of a key on processor k
abbrev pub records_at : List ProcessorState → ℕ → ValueAt → ℕ
records_at qs k r = at (get_or qs k idle).records r

-- ---- records that arrive

-- the record that arrives is this one, or their number stays
arrives : (qs : List ProcessorState) (c : ℕ × ValueAt) (k : ℕ) (r : ValueAt) → ((k ≡ c.0) × (r ≡ c.1)) ⊎ (records_at (with_record qs c) k r ≡ records_at qs k r)
arrives qs c k r =
    let q : ProcessorState = get_or qs c.0 idle in
    let more : Counts value_at_cmp naturals = added value_at_total q.records c.1 (pos 1) in
    elim (set_cases value_at_total value_at_exact q.records c.1 (natural (pos (at q.records c.1) +ℤ pos 1)) r) [
      | inl same ↦ elim (cases_eq k c.0) [
        | inl here ↦ inl (here, same)
        | inr other ↦ inr (ap (λ (q : ProcessorState). at q.records r) (get_or-set_other qs c.0 k (record q { records = more }) idle other))
      ]
      | inr same ↦ inr (kept-set (λ q. at q.records r) qs c.0 (record q { records = more }) same k)
    ]

arrives_here : (qs : List ProcessorState) (c : ℕ × ValueAt) → c.0 < length qs → records_at (with_record qs c) c.0 c.1 ≡ records_at qs c.0 c.1 + 1
arrives_here qs c lt =
    let q : ProcessorState = get_or qs c.0 idle in
    let more : Counts value_at_cmp naturals = added value_at_total q.records c.1 (pos 1) in
    ap (λ (q : ProcessorState). at q.records c.1) (get_or-set_same qs c.0 (record q { records = more }) idle lt)
    ∙ at-set_here value_at_total value_at_exact q.records c.1 (natural (pos (at q.records c.1) +ℤ pos 1))

-- a key of which there are more afterwards is at a pointstamp of a record that arrived
pub appears : (G : Pointstamp → Type 0) (rs : List (ℕ × ValueAt)) → AllAt G rs → (qs : List ProcessorState) (k : ℕ) (r : ValueAt) → records_at qs k r < records_at (with_records qs rs) k r → G r.point
appears G [] all qs k r more = absurd (omega arith)
appears G (c ∷ rs) all qs k r more =
    elim (arrives qs c k r) [
      | inl (here, same) ↦ subst (λ (d : ValueAt). G d.point) (sym same) all.0
      | inr same ↦ appears G rs all.1 (with_record qs c) k r (subst (λ n. n < records_at (with_records (with_record qs c) rs) k r) (sym same) more)
    ]

with_records-append : (qs : List ProcessorState) (rs ss : List (ℕ × ValueAt)) → with_records qs (rs ++ ss) ≡ with_records (with_records qs rs) ss
with_records-append qs [] ss = refl
with_records-append qs (r ∷ rs) ss = with_records-append (with_record qs r) rs ss

-- ---- the records of some values

both_equal : (a b c d : ℕ) → (nat_eq a b && nat_eq c d) ≡ true → (a ≡ b) × (c ≡ d)
both_equal a b c d e = let both = and_parts (nat_eq a b) (nat_eq c d) e in (same_number a b both.0, same_number c d both.1)

equal : (a b : ℕ) → a ≡ b → nat_eq a b ≡ true
equal a b e = grind (arith, nat_tests, e)

module _ (dest : Option ℕ) (n p vertex port : ℕ) (t : Time) where
  -- e is the edge number i of these, and leaves the vertex on the port
  abbrev pub Leaves : List Edge → ℕ → Edge → Type 0
  Leaves es i e = (slice_get es i ≡ Some e) × (e.from ≡ vertex) × (e.port ≡ port)

  -- the records of one value; the first of the edges is the location l
  abbrev made : ℕ → List Edge → ℤ → List (ℕ × ValueAt)
  made l es v = made_on dest n p vertex port v t l es

  untouched : (k : ℕ) (r : ValueAt) (v : ℤ) (l : ℕ) (es : List Edge) → ((i : ℕ) (e : Edge) → Leaves es i e → k ≡ directed dest e.route n p v → r ≡ record_key (l + i) t v → ⊥)
      → (qs : List ProcessorState) → records_at (with_records qs (made l es v)) k r ≡ records_at qs k r
  untouched k r v l [] apart qs = refl
  untouched k r v l (e ∷ es) apart qs =
      let c : ℕ × ValueAt = (directed dest e.route n p v, record_key l t v) in
      let rest : (qs : List ProcessorState) → records_at (with_records qs (made (l + 1) es v)) k r ≡ records_at qs k r
      = untouched k r v (l + 1) es (λ i f leaves to is. (let next : (l + 1) + i ≡ l + suc i = omega arith in apart (suc i) f leaves to (is ∙ ap (λ m. record_key m t v) next))) in
      elim (nat_eq e.from vertex && nat_eq e.port port) as (λ b. (nat_eq e.from vertex && nat_eq e.port port) ≡ b → records_at (with_records qs (cond b (c ∷ []) [] ++ made (l + 1) es v)) k r ≡ records_at qs k r) [
        | true ↦ λ test. elim (arrives qs c k r) [
          | inl (to, is) ↦
              let leaves : (e.from ≡ vertex) × (e.port ≡ port) = both_equal e.from vertex e.port port test in
              let first : l ≡ l + 0 = omega arith in
              absurd (apart 0 e (refl, leaves.0, leaves.1) to (is ∙ ap (λ m. record_key m t v) first))
          | inr same ↦ rest (with_record qs c) ∙ same
        ]
        | false ↦ λ test. rest qs
      ] refl

  made_once : (v : ℤ) (l : ℕ) (es : List Edge) (i : ℕ) (e : Edge) → Leaves es i e → (qs : List ProcessorState) → directed dest e.route n p v < length qs
      → records_at (with_records qs (made l es v)) (directed dest e.route n p v) (record_key (l + i) t v) ≡ records_at qs (directed dest e.route n p v) (record_key (l + i) t v) + 1
  made_once v l [] i e leaves qs lt = absurd (cc (leaves.0))
  made_once v l (f ∷ es) zero e leaves qs lt =
      let same : f ≡ e = (let is : Some f ≡ Some e = leaves.0 in cc) in
      let first : l ≡ l + 0 = omega arith in
      let k : ℕ = directed dest e.route n p v in
      let key : ValueAt = record_key (l + 0) t v in
      let c : ℕ × ValueAt = (directed dest f.route n p v, record_key l t v) in
      let c_is : ◌≡◌ {A = ℕ × ValueAt} c (k, key) = (λ j. (directed dest (same j).route n p v, record_key (first j) t v)) in
      let test : (nat_eq f.from vertex && nat_eq f.port port) ≡ true
      = and_from (nat_eq f.from vertex) (nat_eq f.port port) (equal f.from vertex (ap (λ (d : Edge). d.from) same ∙ leaves.1)) (equal f.port port (ap (λ (d : Edge). d.port) same ∙ leaves.2)) in
      let rest : records_at (with_records (with_record qs c) (made (l + 1) es v)) k key ≡ records_at (with_record qs c) k key
      = untouched k key v (l + 1) es (λ i g there to is. (let places : l + 0 ≡ (l + 1) + i = ap (λ (r : ValueAt). r.point.location) is in absurd (omega arith))) (with_record qs c) in
      ap (λ b. records_at (with_records qs (cond b (c ∷ []) [] ++ made (l + 1) es v)) k key) test
      ∙ rest ∙ ap (λ (d : ℕ × ValueAt). records_at (with_record qs d) k key) c_is ∙ arrives_here qs (k, key) lt
  made_once v l (f ∷ es) (suc i) e leaves qs lt =
      let next : (l + 1) + i ≡ l + suc i = omega arith in
      let k : ℕ = directed dest e.route n p v in
      let key : ValueAt = record_key (l + suc i) t v in
      let c : ℕ × ValueAt = (directed dest f.route n p v, record_key l t v) in
      let rest : (qs : List ProcessorState) → k < length qs → records_at (with_records qs (made (l + 1) es v)) k key ≡ records_at qs k key + 1
      = λ qs lt. subst (λ m. records_at (with_records qs (made (l + 1) es v)) k (record_key m t v) ≡ records_at qs k (record_key m t v) + 1) next (made_once v (l + 1) es i e leaves qs lt) in
      elim (nat_eq f.from vertex && nat_eq f.port port) as (λ b. records_at (with_records qs (cond b (c ∷ []) [] ++ made (l + 1) es v)) k key ≡ records_at qs k key + 1) [
        | true ↦ elim (arrives qs c k key) [
          | inl (to, is) ↦ let places : l + suc i ≡ l = ap (λ (r : ValueAt). r.point.location) is in absurd (omega arith)
          | inr same ↦ rest (with_record qs c) (subst (λ m. k < m) (sym (length-records qs (c ∷ []))) lt) ∙ ap (λ m. m + 1) same
        ]
        | false ↦ rest qs lt
      ]

  -- of the records of one value v on the edge, those of value w
  made_for : (w v : ℤ) (l : ℕ) (es : List Edge) (i : ℕ) (e : Edge) → Leaves es i e → (qs : List ProcessorState) → directed dest e.route n p w < length qs
      → records_at (with_records qs (made l es v)) (directed dest e.route n p w) (record_key (l + i) t w) ≡ records_at qs (directed dest e.route n p w) (record_key (l + i) t w) + cond (int_eq w v) 1 0
  made_for w v l es i e leaves qs lt =
      let k : ℕ = directed dest e.route n p w in
      let key : ValueAt = record_key (l + i) t w in
      elim (int_eq w v) as (λ b. int_eq w v ≡ b → records_at (with_records qs (made l es v)) k key ≡ records_at qs k key + cond b 1 0) [
        | true ↦ λ test. subst (λ u. records_at (with_records qs (made l es u)) k key ≡ records_at qs k key + 1) ((Decides-int_eq w v).0 test) (made_once w l es i e leaves qs lt)
        | false ↦ λ test.
            let same : records_at (with_records qs (made l es v)) k key ≡ records_at qs k key
            = untouched k key v l es (λ j f there to is. (let yes : int_eq w v ≡ true = (Decides-int_eq w v).1 (ap (λ (r : ValueAt). r.value) is) in absurd (cc))) qs in
            omega arith
      ] refl

  pub all_made : (w : ℤ) (l : ℕ) (es : List Edge) (i : ℕ) (e : Edge) → Leaves es i e → (vs : List ℤ) (qs : List ProcessorState) → directed dest e.route n p w < length qs
      → records_at (with_records qs (flat_map (λ v. made_on dest n p vertex port v t l es) vs)) (directed dest e.route n p w) (record_key (l + i) t w)
      ≡ records_at qs (directed dest e.route n p w) (record_key (l + i) t w) + count_by (int_eq w) vs
  all_made w l es i e leaves [] qs lt = omega arith
  all_made w l es i e leaves (v ∷ vs) qs lt =
      let k : ℕ = directed dest e.route n p w in
      let key : ValueAt = record_key (l + i) t w in
      let now : List ProcessorState = with_records qs (made l es v) in
      let one : records_at now k key ≡ records_at qs k key + cond (int_eq w v) 1 0 = made_for w v l es i e leaves qs lt in
      let rest : records_at (with_records now (flat_map (made l es) vs)) k key ≡ records_at now k key + count_by (int_eq w) vs
      = all_made w l es i e leaves vs now (subst (λ m. k < m) (sym (length-records qs (made l es v))) lt) in
      let sum : count_by (int_eq w) (v ∷ vs) ≡ cond (int_eq w v) 1 0 + count_by (int_eq w) vs = sum_by-cons (λ u. cond (int_eq w u) 1 0) v vs in
      let all : records_at (with_records now (flat_map (made l es) vs)) k key ≡ records_at qs k key + count_by (int_eq w) (v ∷ vs) = omega arith in
      ap (λ ps. records_at ps k key) (with_records-append qs (made l es v) (flat_map (made l es) vs)) ∙ all

  pub none_made : (k : ℕ) (r : ValueAt) (l : ℕ) (es : List Edge) → ((v : ℤ) (i : ℕ) (e : Edge) → Leaves es i e → k ≡ directed dest e.route n p v → r ≡ record_key (l + i) t v → ⊥)
      → (vs : List ℤ) (qs : List ProcessorState) → records_at (with_records qs (flat_map (λ v. made_on dest n p vertex port v t l es) vs)) k r ≡ records_at qs k r
  none_made k r l es apart [] qs = refl
  none_made k r l es apart (v ∷ vs) qs =
      ap (λ ps. records_at ps k r) (with_records-append qs (made l es v) (flat_map (made l es) vs))
      ∙ none_made k r l es apart vs (with_records qs (made l es v)) ∙ untouched k r v l es (apart v) qs

-- ---- where records go

rest_below : (v : ℤ) (n : ℕ) → 0 < n → unsigned_abs (int_rem_euclid v (pos n)) < n
rest_below (pos a) n some = mod-lt a some
rest_below (negsuc a) n some = omega arith

pub directed_below : (dest : Option ℕ) (route : Route) (n p : ℕ) (v : ℤ) → p < n → ((d : ℕ) → dest ≡ Some d → d < n) → directed dest route n p v < n
directed_below None Local n p v lt there = lt
directed_below None Exchange n p v lt there = rest_below v n (omega arith)
directed_below (Some d) Local n p v lt there = lt
directed_below (Some d) Exchange n p v lt there = there d refl
