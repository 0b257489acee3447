-- Two firings, takes or notices, that do not hinder one another lead to the same processors in either order.
use Rattle.std.proofs.Common.{◌≡◌, ◌⊎◌, inl, inr, ℕ, ◌+◌, ◌-◌, ◌<◌, ◌≤◌, pos, Bool, true, false, cond, ◌&&◌, List, [], ◌∷◌, length, refl, sym, ap, subst, ◌∙◌, arith, length-set}
use Rattle.std.proofs.lemmas.Map.Views.{tells_apart}
use Rattle.std.proofs.lemmas.Bool.{cases_eq, cases_lt, eq-eqb, ne_eqb, eqb-true}
use Rattle.std.proofs.lemmas.List.{get_or-set_same, get_or-set_other, set-set, set_comm, set_past, ext_get_or}
use Rattle.std.specs.Prelude.{nat_eq, slice_index_or, slice_set}
use Rattle.std.specs.List.{flat_map}
use Rattle.std.specs.Ordering.{eq_by_cmp}
use Rattle.nd_time.specs.Time.{Time}
use Rattle.nd_graph.specs.Graph.{Dataflow}
use Rattle.nd_map.specs.Counts.{Counts, naturals, none, at, added, at-set, same}
use Rattle.nd_vertex.specs.Items.{Items}
use Rattle.nd_vertex.specs.Table.{Outcome}
use Rattle.nd_processor.specs.Keys.{value_at_cmp, value_at_total, value_at_exact, sink_cmp}
use Rattle.nd_processor.specs.State.{ProcessorState, Requests, idle, items_at}
use Rattle.nd_processor.specs.declared.key.ValueAt.{ValueAt}
use Rattle.nd_protocol.specs.Steps.{emitted, with_record, with_records}
use Rattle.nd_protocol.specs.TruthLaws.{kept-records, length-records}
use Rattle.nd_rest.proofs.Vertex.{AreIndependent, turned}

-- ---- one firing

-- what a take or a notice does: at one processor and vertex, and what the vertex emits
pub record Firing : Type 0 where
  pub p : ℕ
  pub vertex : ℕ
  pub time : Time
  -- how many records of each key it takes
  pub hits : ValueAt → ℕ
  pub takes : Counts value_at_cmp naturals → Counts value_at_cmp naturals
  pub asks : Requests → Requests
  pub counts : Counts sink_cmp naturals → Counts sink_cmp naturals
  pub reacts : Items → Outcome
  pub taken : (m : Counts value_at_cmp naturals) (k : ValueAt) → at (takes m) k ≡ at m k - hits k

-- the processor at a place
abbrev pub nth : List ProcessorState → ℕ → ProcessorState
nth qs k = slice_index_or qs k idle

-- the processor of a firing afterwards, without the records that arrive
abbrev pub changed : Firing → ProcessorState → ProcessorState
changed f q = record q {
  records = f.takes q.records;
  requests = f.asks q.requests;
  items = slice_set q.items f.vertex (f.reacts (items_at q f.vertex)).items;
  sinks = f.counts q.sinks;
}

-- the records that a firing makes if its vertex has these items
abbrev pub made : Dataflow → ℕ → Firing → Items → List (ℕ × ValueAt)
made g n f m = flat_map (emitted g n f.p f.vertex f.time) (f.reacts m).emissions

-- the items of its vertex
abbrev pub found : Firing → List ProcessorState → Items
found f qs = items_at (nth qs f.p) f.vertex

-- the processors after a firing
unfoldable pub fire : Dataflow → Firing → List ProcessorState → List ProcessorState
fire g f qs = with_records (slice_set qs f.p (changed f (nth qs f.p))) (made g (length qs) f (found f qs))

pub length-fire : (g : Dataflow) (f : Firing) (qs : List ProcessorState) → length (fire g f qs) ≡ length qs
unfolding fire
length-fire g f qs = length-records (slice_set qs f.p (changed f (nth qs f.p))) (made g (length qs) f (found f qs)) ∙ length-set qs f.p (changed f (nth qs f.p))

-- ---- records that arrive

-- how many records of a key arrive at a processor
abbrev pub arrivals : ℕ → ValueAt → List (ℕ × ValueAt) → ℕ
arrivals k key [] = 0
arrivals k key (r ∷ rs) = cond (nat_eq k r.0 && eq_by_cmp value_at_cmp key r.1) 1 0 + arrivals k key rs

more_here : (b : Bool) (x y : ℕ) → (b ≡ true → x ≡ y) → cond b (x + 1) y ≡ y + cond b 1 0
more_here true x y e = ap (λ n. n + 1) (e refl)
more_here false x y e = omega arith

at-more : (m : Counts value_at_cmp naturals) (j k : ValueAt) → at (added value_at_total m j (pos 1)) k ≡ at m k + cond (eq_by_cmp value_at_cmp k j) 1 0
at-more m j k =
    at-set value_at_total m j (at m j + 1) k
    ∙ more_here (eq_by_cmp value_at_cmp k j) (at m j) (at m k) (λ e. ap (at m) (sym (tells_apart value_at_exact k j e)))

pub nth-set : (qs : List ProcessorState) (p : ℕ) (r : ProcessorState) (k : ℕ) → p < length qs → nth (slice_set qs p r) k ≡ cond (nat_eq k p) r (nth qs k)
nth-set qs p r k lt =
    elim (cases_eq k p) [
      | inl e ↦ ap (nth (slice_set qs p r)) e ∙ get_or-set_same qs p r idle lt ∙ ap (λ b. cond b r (nth qs k)) (sym (eq-eqb k p e))
      | inr ne ↦ get_or-set_other qs p k r idle ne ∙ ap (λ b. cond b r (nth qs k)) (sym (ne_eqb k p ne))
    ]

at-record : (qs : List ProcessorState) (r : ℕ × ValueAt) (k : ℕ) (key : ValueAt) → k < length qs
    → at (nth (with_record qs r) k).records key ≡ at (nth qs k).records key + cond (nat_eq k r.0 && eq_by_cmp value_at_cmp key r.1) 1 0
at-record qs r k key lt =
    elim (cases_eq k r.0) [
      | inl e ↦
          let q : ProcessorState = nth qs r.0 in
          ap (λ p. at p.records key) (ap (nth (with_record qs r)) e ∙ get_or-set_same qs r.0 (record q { records = added value_at_total q.records r.1 (pos 1) }) idle (subst (λ j. j < length qs) e lt))
          ∙ at-more q.records r.1 key
          ∙ (λ i. at (nth qs (sym e i)).records key + cond (sym (eq-eqb k r.0 e) i && eq_by_cmp value_at_cmp key r.1) 1 0)
      | inr ne ↦
          ap (λ p. at p.records key) (get_or-set_other qs r.0 k _ idle ne) ∙ no_more (at (nth qs k).records key)
          ∙ ap (λ b. at (nth qs k).records key + cond (b && eq_by_cmp value_at_cmp key r.1) 1 0) (sym (ne_eqb k r.0 ne))
    ]
  where
    no_more : (n : ℕ) → n ≡ n + 0
    no_more n = omega arith

at-records : (qs : List ProcessorState) (rs : List (ℕ × ValueAt)) (k : ℕ) (key : ValueAt) → k < length qs → at (nth (with_records qs rs) k).records key ≡ at (nth qs k).records key + arrivals k key rs
at-records qs [] k key lt = omega arith
at-records qs (r ∷ rs) k key lt =
    let one = at-record qs r k key lt in
    let later = at-records (with_record qs r) rs k key (subst (λ n. k < n) (sym (length-set qs r.0 _)) lt) in
    omega (arith, one, later)

-- ---- a processor after a firing

-- the processor k afterwards, without the records that arrive
abbrev pub local : Firing → ℕ → ProcessorState → ProcessorState
local f k q = cond (nat_eq k f.p) (changed f q) q

-- how many records of a key the firing takes at the processor k
abbrev pub hits_at : Firing → ℕ → ValueAt → ℕ
hits_at f k key = cond (nat_eq k f.p) (f.hits key) 0

-- a processor without its records
abbrev pub beside_records : ProcessorState → ProcessorState
beside_records q = record q { records = none }

at_its_place : (qs : List ProcessorState) (f : Firing) (k : ℕ) (b : Bool) → (b ≡ true → k ≡ f.p) → cond b (changed f (nth qs f.p)) (nth qs k) ≡ cond b (changed f (nth qs k)) (nth qs k)
at_its_place qs f k true e = ap (λ j. changed f (nth qs j)) (sym (e refl))
at_its_place qs f k false e = refl

nth-changed : (qs : List ProcessorState) (f : Firing) (k : ℕ) → f.p < length qs → nth (slice_set qs f.p (changed f (nth qs f.p))) k ≡ local f k (nth qs k)
nth-changed qs f k lt = nth-set qs f.p (changed f (nth qs f.p)) k lt ∙ at_its_place qs f k (nat_eq k f.p) (eqb-true k f.p)

pub beside_records-fire : (g : Dataflow) (f : Firing) (qs : List ProcessorState) (k : ℕ) → f.p < length qs → beside_records (nth (fire g f qs) k) ≡ beside_records (local f k (nth qs k))
unfolding fire
beside_records-fire g f qs k lt =
    kept-records beside_records (λ q m. refl) (slice_set qs f.p (changed f (nth qs f.p))) (made g (length qs) f (found f qs)) k
    ∙ ap beside_records (nth-changed qs f k lt)

records-local : (f : Firing) (k : ℕ) (q : ProcessorState) (key : ValueAt) → at (local f k q).records key ≡ at q.records key - hits_at f k key
records-local f k q key =
    elim (nat_eq k f.p) as (λ b. at (cond b (changed f q) q).records key ≡ at q.records key - cond b (f.hits key) 0) [
      | true ↦ f.taken q.records key
      | false ↦ omega arith
    ]

pub records-fire : (g : Dataflow) (f : Firing) (qs : List ProcessorState) (k : ℕ) (key : ValueAt) → f.p < length qs → k < length qs
    → at (nth (fire g f qs) k).records key ≡ (at (nth qs k).records key - hits_at f k key) + arrivals k key (made g (length qs) f (found f qs))
unfolding fire
records-fire g f qs k key lt inside =
    let qs' : List ProcessorState = slice_set qs f.p (changed f (nth qs f.p)) in
    let rs : List (ℕ × ValueAt) = made g (length qs) f (found f qs) in
    at-records qs' rs k key (subst (λ n. k < n) (sym (length-set qs f.p _)) inside)
    ∙ ap (λ n. n + arrivals k key rs) (ap (λ q. at q.records key) (nth-changed qs f k lt) ∙ records-local f k (nth qs k) key)

-- ---- two firings

-- they make the same of any items
pub record AreSame (f h : Firing) : Type 0 where
  pub time : f.time ≡ h.time
  pub reacts : f.reacts ≡ h.reacts

-- neither hinders the other
pub record AreFree (f h : Firing) (qs : List ProcessorState) : Type 0 where
  pub first : f.p < length qs
  pub second : h.p < length qs
  pub asks : f.p ≡ h.p → (s : Requests) → h.asks (f.asks s) ≡ f.asks (h.asks s)
  pub counts : (m : Counts sink_cmp naturals) → h.counts (f.counts m) ≡ f.counts (h.counts m)
  pub hits : (k : ℕ) (key : ValueAt) → k < length qs → hits_at f k key + hits_at h k key ≤ at (nth qs k).records key
  pub reacts : f.p ≡ h.p → f.vertex ≡ h.vertex → AreSame f h ⊎ AreIndependent f.reacts h.reacts

-- ---- the items of a processor

-- the items of all vertices after the reaction of one
abbrev written : ℕ → (Items → Outcome) → List Items → List Items
written v f its = slice_set its v (f (slice_index_or its v none)).items

twice : (its : List Items) (v : ℕ) (f h : Items → Outcome) → v < length its → written v h (written v f its) ≡ slice_set its v (h (f (slice_index_or its v none)).items).items
twice its v f h lt =
    ap (λ m. slice_set (written v f its) v (h m).items) (get_or-set_same its v (f (slice_index_or its v none)).items none lt)
    ∙ set-set its v _ _

past_all : (its : List Items) (v : ℕ) (f h : Items → Outcome) → length its ≤ v → written v h (written v f its) ≡ its
past_all its v f h le = ap (written v h) (set_past its v _ le) ∙ set_past its v _ le

at_one_vertex : (v : ℕ) (f h : Items → Outcome) (its : List Items) → (f ≡ h) ⊎ AreIndependent f h → written v h (written v f its) ≡ written v f (written v h its)
at_one_vertex v f h its (inl same) = ap (λ r. written v r (written v f its)) (sym same) ∙ ap (λ r. written v f (written v r its)) same
at_one_vertex v f h its (inr free) =
    elim (cases_lt v (length its)) [
      | inl lt ↦ twice its v f h lt ∙ ap (slice_set its v) (free.items (slice_index_or its v none)) ∙ sym (twice its v h f lt)
      | inr le ↦ past_all its v f h le ∙ sym (past_all its v h f le)
    ]

written-comm : (v w : ℕ) (f h : Items → Outcome) (its : List Items) → (v ≡ w → (f ≡ h) ⊎ AreIndependent f h) → written w h (written v f its) ≡ written v f (written w h its)
written-comm v w f h its free =
    elim (cases_eq v w) [
      | inl e ↦ subst (λ u. written u h (written v f its) ≡ written v f (written u h its)) e (at_one_vertex v f h its (free e))
      | inr ne ↦
          ap (λ m. slice_set (written v f its) w (h m).items) (get_or-set_other its v w _ none (λ e. ne (sym e)))
          ∙ set_comm its v w _ _ ne
          ∙ ap (λ m. slice_set (written w h its) v (f m).items) (sym (get_or-set_other its w v _ none ne))
    ]

-- what a vertex emits does not depend on a reaction that is independent, or elsewhere
emissions-kept : (v w : ℕ) (f h : Items → Outcome) (its : List Items) → (v ≡ w → AreIndependent f h)
    → (h (slice_index_or (written v f its) w none)).emissions ≡ (h (slice_index_or its w none)).emissions
emissions-kept v w f h its free =
    elim (cases_eq v w) [
      | inl e ↦ subst (λ u. (h (slice_index_or (written v f its) u none)).emissions ≡ (h (slice_index_or its u none)).emissions) e (elim (cases_lt v (length its)) [
        | inl lt ↦ ap (λ m. (h m).emissions) (get_or-set_same its v (f (slice_index_or its v none)).items none lt) ∙ (free e).second (slice_index_or its v none)
        | inr le ↦ ap (λ ms. (h (slice_index_or ms v none)).emissions) (set_past its v _ le)
      ])
      | inr ne ↦ ap (λ m. (h m).emissions) (get_or-set_other its v w _ none (λ e. ne (sym e)))
    ]

-- ---- what the second of two firings finds

module _ (g : Dataflow) (f h : Firing) (qs : List ProcessorState) (lt : f.p < length qs) where
  items-after : f.p ≡ h.p → (nth (fire g f qs) h.p).items ≡ written f.vertex f.reacts (nth qs h.p).items
  items-after e =
      ap (λ q. q.items) (beside_records-fire g f qs h.p lt)
      ∙ ap (λ b. (cond b (changed f (nth qs h.p)) (nth qs h.p)).items) (eq-eqb h.p f.p (sym e))

  items-elsewhere : (f.p ≡ h.p → ⊥) → (nth (fire g f qs) h.p).items ≡ (nth qs h.p).items
  items-elsewhere ne =
      ap (λ q. q.items) (beside_records-fire g f qs h.p lt)
      ∙ ap (λ b. (cond b (changed f (nth qs h.p)) (nth qs h.p)).items) (ne_eqb h.p f.p (λ e. ne (sym e)))

  emits-as_before : (f.p ≡ h.p → f.vertex ≡ h.vertex → AreIndependent f.reacts h.reacts) → (h.reacts (found h (fire g f qs))).emissions ≡ (h.reacts (found h qs)).emissions
  emits-as_before free =
      elim (cases_eq f.p h.p) [
        | inl e ↦
            ap (λ its. (h.reacts (slice_index_or its h.vertex none)).emissions) (items-after e)
            ∙ emissions-kept f.vertex h.vertex f.reacts h.reacts (nth qs h.p).items (free e)
        | inr ne ↦ ap (λ its. (h.reacts (slice_index_or its h.vertex none)).emissions) (items-elsewhere ne)
      ]

  makes-as_before : (f.p ≡ h.p → f.vertex ≡ h.vertex → AreIndependent f.reacts h.reacts) → made g (length (fire g f qs)) h (found h (fire g f qs)) ≡ made g (length qs) h (found h qs)
  makes-as_before free = λ i. flat_map (emitted g (length-fire g f qs i) h.p h.vertex h.time) (emits-as_before free i)

-- the two make the same of what they find
module _ (g : Dataflow) (f h : Firing) (qs : List ProcessorState) (at_one : f.p ≡ h.p) (vertex : f.vertex ≡ h.vertex) (same_of : AreSame f h) where
  made_alike : (n : ℕ) (m k : Items) → m ≡ k → made g n f m ≡ made g n h k
  made_alike n m k e = λ i. flat_map (emitted g n (at_one i) (vertex i) (same_of.time i)) (same_of.reacts i (e i)).emissions

  first_alike : (n : ℕ) → made g n f (found f qs) ≡ made g n h (found h qs)
  first_alike n = made_alike n (found f qs) (found h qs) (λ i. items_at (nth qs (at_one i)) (vertex i))

  found_alike : f.p < length qs → h.p < length qs → found f (fire g h qs) ≡ found h (fire g f qs)
  found_alike lt less =
      ap (λ its. slice_index_or its f.vertex none) (items-after g h f qs less (sym at_one))
      ∙ (λ i. slice_index_or (written (sym vertex i) (sym same_of.reacts i) (nth qs (at_one i)).items) (vertex i) none)
      ∙ sym (ap (λ its. slice_index_or its h.vertex none) (items-after g f h qs lt at_one))

  second_alike : f.p < length qs → h.p < length qs → made g (length (fire g h qs)) f (found f (fire g h qs)) ≡ made g (length (fire g f qs)) h (found h (fire g f qs))
  second_alike lt less =
      ap (λ n. made g n f (found f (fire g h qs))) (length-fire g h qs)
      ∙ made_alike (length qs) (found f (fire g h qs)) (found h (fire g f qs)) (found_alike lt less)
      ∙ ap (λ n. made g n h (found h (fire g f qs))) (sym (length-fire g f qs))

-- ---- the order does not matter

numbers : (r a b s t u v : ℕ) → a + b ≤ r → ((v ≡ t) × (u ≡ s)) ⊎ ((s ≡ t) × (u ≡ v)) → (((r - a) + s) - b) + v ≡ (((r - b) + t) - a) + u
numbers r a b s t u v le (inl (e, e')) = omega arith
numbers r a b s t u v le (inr (e, e')) = omega arith

same_processor : (q r : ProcessorState) → beside_records q ≡ beside_records r → ((k : ValueAt) → at q.records k ≡ at r.records k) → q ≡ r
same_processor q r e records =
    let maps : q.records ≡ r.records = same value_at_total value_at_exact q.records r.records records in
    λ i. record { records = maps i; requests = (e i).requests; tokens = (e i).tokens; items = (e i).items; sinks = (e i).sinks; unsent = (e i).unsent }

beside_records-local : (f : Firing) (k : ℕ) (q : ProcessorState) → beside_records (local f k q) ≡ beside_records (local f k (beside_records q))
beside_records-local f k q = elim (nat_eq k f.p) as (λ b. beside_records (cond b (changed f q) q) ≡ beside_records (cond b (changed f (beside_records q)) (beside_records q))) [ true ↦ refl | false ↦ refl ]

local_alike : (f : Firing) (k : ℕ) (q r : ProcessorState) → beside_records q ≡ beside_records r → beside_records (local f k q) ≡ beside_records (local f k r)
local_alike f k q r e = beside_records-local f k q ∙ ap (λ z. beside_records (local f k z)) e ∙ sym (beside_records-local f k r)

module _ (f h : Firing) (qs : List ProcessorState) (free : AreFree f h qs) where
  free_reacts : f.p ≡ h.p → f.vertex ≡ h.vertex → (f.reacts ≡ h.reacts) ⊎ AreIndependent f.reacts h.reacts
  free_reacts e v = elim (free.reacts e v) [ inl s ↦ inl s.reacts | inr i ↦ inr i ]

  local_by : (b c : Bool) (q : ProcessorState) → (b ≡ true → c ≡ true → f.p ≡ h.p)
      → beside_records (cond c (changed h (cond b (changed f q) q)) (cond b (changed f q) q)) ≡ beside_records (cond b (changed f (cond c (changed h q) q)) (cond c (changed h q) q))
  local_by true true q e =
      let one : f.p ≡ h.p = e refl refl in
      λ i. record {
        records = none;
        requests = free.asks one q.requests i;
        tokens = q.tokens;
        items = written-comm f.vertex h.vertex f.reacts h.reacts q.items (free_reacts one) i;
        sinks = free.counts q.sinks i;
        unsent = q.unsent;
      }
  local_by true false q e = refl
  local_by false c q e = refl

  local-local : (k : ℕ) (q : ProcessorState) → beside_records (local h k (local f k q)) ≡ beside_records (local f k (local h k q))
  local-local k q = local_by (nat_eq k f.p) (nat_eq k h.p) q (λ b c. sym (eqb-true k f.p b) ∙ eqb-true k h.p c)

beside_records-twice : (g : Dataflow) (f h : Firing) (qs : List ProcessorState) → f.p < length qs → h.p < length qs → (k : ℕ) → beside_records (nth (fire g h (fire g f qs)) k) ≡ beside_records (local h k (local f k (nth qs k)))
beside_records-twice g f h qs lt less k =
    beside_records-fire g h (fire g f qs) k (subst (λ n. h.p < n) (sym (length-fire g f qs)) less)
    ∙ local_alike h k (nth (fire g f qs) k) (local f k (nth qs k)) (beside_records-fire g f qs k lt)

records-twice : (g : Dataflow) (f h : Firing) (qs : List ProcessorState) → f.p < length qs → h.p < length qs → (k : ℕ) (key : ValueAt) → k < length qs
    → at (nth (fire g h (fire g f qs)) k).records key
    ≡ (((at (nth qs k).records key - hits_at f k key) + arrivals k key (made g (length qs) f (found f qs))) - hits_at h k key) + arrivals k key (made g (length (fire g f qs)) h (found h (fire g f qs)))
records-twice g f h qs lt less k key inside =
    let many : length qs ≡ length (fire g f qs) = sym (length-fire g f qs) in
    records-fire g h (fire g f qs) k key (subst (λ n. h.p < n) many less) (subst (λ n. k < n) many inside)
    ∙ ap (λ n. (n - hits_at h k key) + arrivals k key (made g (length (fire g f qs)) h (found h (fire g f qs)))) (records-fire g f qs k key lt inside)

-- what arrives, in one order and in the other: each makes what it would make first, or both make the same
arrive_alike : (g : Dataflow) (f h : Firing) (qs : List ProcessorState) → AreFree f h qs → (k : ℕ) (key : ValueAt)
    → ((arrivals k key (made g (length (fire g f qs)) h (found h (fire g f qs))) ≡ arrivals k key (made g (length qs) h (found h qs)))
    × (arrivals k key (made g (length (fire g h qs)) f (found f (fire g h qs))) ≡ arrivals k key (made g (length qs) f (found f qs))))
    ⊎ ((arrivals k key (made g (length qs) f (found f qs)) ≡ arrivals k key (made g (length qs) h (found h qs)))
    × (arrivals k key (made g (length (fire g h qs)) f (found f (fire g h qs))) ≡ arrivals k key (made g (length (fire g f qs)) h (found h (fire g f qs)))))
arrive_alike g f h qs free k key =
    elim (cases_eq f.p h.p) [
      | inl e ↦ elim (cases_eq f.vertex h.vertex) [
        | inl v ↦ elim (free.reacts e v) [
          | inl s ↦ inr (ap (arrivals k key) (first_alike g f h qs e v s (length qs)), ap (arrivals k key) (second_alike g f h qs e v s free.first free.second))
          | inr i ↦ inl (ap (arrivals k key) (makes-as_before g f h qs free.first (λ _ _. i)), ap (arrivals k key) (makes-as_before g h f qs free.second (λ _ _. turned i)))
        ]
        | inr ne ↦ inl (
          ap (arrivals k key) (makes-as_before g f h qs free.first (λ _ v. absurd (ne v))),
          ap (arrivals k key) (makes-as_before g h f qs free.second (λ _ v. absurd (ne (sym v)))),
        )
      ]
      | inr ne ↦ inl (
        ap (arrivals k key) (makes-as_before g f h qs free.first (λ e. absurd (ne e))),
        ap (arrivals k key) (makes-as_before g h f qs free.second (λ e. absurd (ne (sym e)))),
      )
    ]

pub fire-comm : (g : Dataflow) (f h : Firing) (qs : List ProcessorState) → AreFree f h qs → fire g h (fire g f qs) ≡ fire g f (fire g h qs)
fire-comm g f h qs free =
    let many : length (fire g h (fire g f qs)) ≡ length qs = length-fire g h (fire g f qs) ∙ length-fire g f qs in
    let others : length (fire g f (fire g h qs)) ≡ length qs = length-fire g f (fire g h qs) ∙ length-fire g h qs in
    ext_get_or idle (fire g h (fire g f qs)) (fire g f (fire g h qs)) (many ∙ sym others) (λ k lt.
    let inside : k < length qs = subst (λ n. k < n) many lt in
    same_processor (nth (fire g h (fire g f qs)) k) (nth (fire g f (fire g h qs)) k)
    (beside_records-twice g f h qs free.first free.second k ∙ local-local f h qs free k (nth qs k) ∙ sym (beside_records-twice g h f qs free.second free.first k))
    (λ key.
    records-twice g f h qs free.first free.second k key inside
    ∙ numbers (at (nth qs k).records key) (hits_at f k key) (hits_at h k key) (arrivals k key (made g (length qs) f (found f qs))) (arrivals k key (made g (length qs) h (found h qs)))
    (arrivals k key (made g (length (fire g h qs)) f (found f (fire g h qs)))) (arrivals k key (made g (length (fire g f qs)) h (found h (fire g f qs))))
    (free.hits k key inside) (arrive_alike g f h qs free k key)
    ∙ sym (records-twice g h f qs free.second free.first k key inside)))
