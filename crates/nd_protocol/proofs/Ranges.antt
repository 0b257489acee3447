-- The numbers after a step are in the ranges of their types.
use Rattle.std.proofs.Common.{◌≡◌, ◌≢◌, ◌⊎◌, inl, inr, ℕ, zero, suc, ◌+◌, ◌^◌, ◌<◌, ◌≤◌, ℤ, pos, negsuc, ◌+ℤ◌, Bool, true, false, cond, not, ◌&&◌, List, [], ◌∷◌, ◌++◌, length, refl, sym, subst, ◌∙◌, arith}
use Rattle.std.proofs.lemmas.Bool.{cases_lt}
use Rattle.std.proofs.lemmas.List.Elements.{All-nil, All-cons, All-push, All-head, All-tail}
use Rattle.std.specs.Prelude.{All, IfSome, Option, Some, None, nat_eq, unwrap_or}
use Rattle.std.specs.List.{flat_map}
use Rattle.std.specs.Ordering.{eq_by_cmp}
use Rattle.nd_time.specs.Limits.{max_counter}
use Rattle.nd_time.specs.Listing.{time_cmp}
use Rattle.nd_time.specs.Time.{Time, egress_of, feedback_of, last_of}
use Rattle.nd_graph.specs.Graph.{Dataflow, action_of, acted, op_at}
use Rattle.nd_graph.specs.declared.graph.Edge.{Edge}
use Rattle.nd_graph.specs.declared.op.Op.{Op}
use Rattle.nd_graph.specs.declared.op.Op.TheVariants.{Input, Feedback, Sum, Distinct}
use Rattle.nd_graph.specs.declared.op.Action.{Action}
use Rattle.nd_graph.specs.declared.op.Action.TheVariants as action
use Rattle.nd_map.specs.Counts.{at, set as with_number, at-set, at-only}
use Rattle.nd_vertex.specs.Items.{Items, item_key, item_cmp, item_total, item_exact}
use Rattle.nd_vertex.specs.Table.{Outcome, on_record, on_notice, time_past, is_zero}
use Rattle.nd_vertex.specs.declared.key.ItemKey.{ItemKey}
use Rattle.nd_processor.specs.declared.key.ValueAt.{ValueAt}
use Rattle.nd_protocol.specs.Ranges.{IsSmall, TimeIsSmall, IsValue, BatchIsSmall}
use Rattle.nd_protocol.specs.Enabled.{IsInRange}
use Rattle.nd_protocol.specs.Steps.{directed, made_on, emitted, batch_time, posts, record_key}
use Rattle.nd_protocol.specs.declared.batch.Batch.{Batch}
use Rattle.nd_protocol.proofs.Shape.{AllKeys, IsSmallKey}
use Rattle.nd_protocol.proofs.Keys.{set_cases}

-- ---- what holds unless it fails

pub below_unless : (p n : ℕ) → (n ≤ p → ⊥) → p < n
below_unless p n h = elim (cases_lt p n) [ inl lt ↦ lt | inr le ↦ absurd (h le) ]

value_unless : (z : ℤ) → ((IsValue z → ⊥) → ⊥) → IsValue z
value_unless (pos n) h = record { sfits = below_unless n (2 ^ 63) (λ le. h (λ f. (let lt : n < 2 ^ 63 = f.sfits in omega arith))) }
value_unless (negsuc n) h = record { sfits = below_unless n (2 ^ 63) (λ le. h (λ f. (let lt : n < 2 ^ 63 = f.sfits in omega arith))) }

pub in_range_unless : (o : Outcome) → ((IsInRange o → ⊥) → ⊥) → IsInRange o
in_range_unless o h = record {
  emissions = λ k d lt. value_unless _ (λ far. h (λ r. far (r.emissions k d lt)));
  items = λ k. value_unless _ (λ far. h (λ r. far (r.items k)));
}

pub zero_is_value : IsValue (pos 0)
zero_is_value = record { sfits = omega arith }

-- ---- times

egress_small : (counters : List ℕ) → All IsSmall counters → All IsSmall (egress_of counters)
egress_small [] h = h
egress_small (x ∷ []) h = All-nil IsSmall
egress_small (x ∷ y ∷ rest) h = All-cons IsSmall x (egress_of (y ∷ rest)) (All-head IsSmall x (y ∷ rest) h) (egress_small (y ∷ rest) (All-tail IsSmall x (y ∷ rest) h))

feedback_small : (counters : List ℕ) → last_of counters < max_counter → All IsSmall counters → All IsSmall (feedback_of counters)
feedback_small [] room h = h
feedback_small (x ∷ []) room h = All-cons IsSmall (x + 1) [] (omega arith) (All-nil IsSmall)
feedback_small (x ∷ y ∷ rest) room h = All-cons IsSmall x (feedback_of (y ∷ rest)) (All-head IsSmall x (y ∷ rest) h) (feedback_small (y ∷ rest) room (All-tail IsSmall x (y ∷ rest) h))

acted_small : (a : Action) (counters : List ℕ) → (a ≡ action.Feedback → last_of counters < max_counter) → All IsSmall counters → All IsSmall (acted a counters)
acted_small action.Identity counters room h = h
acted_small action.Ingress counters room h = All-push IsSmall counters 0 h (omega arith)
acted_small action.Egress counters room h = egress_small counters h
acted_small action.Feedback counters room h = feedback_small counters (room refl) h

feeds_back : (o : Op) → action_of o ≡ action.Feedback → o ≡ Feedback
feeds_back Feedback e = refl
feeds_back o e = absurd (cc)

pub past_small : (o : Op) (t : Time) → (o ≡ Feedback → last_of t.counters < max_counter) → TimeIsSmall t → TimeIsSmall (time_past o t)
past_small o t room h =
    All-cons IsSmall t.epoch (acted (action_of o) t.counters) (All-head IsSmall t.epoch t.counters h)
    (acted_small (action_of o) t.counters (λ e. room (feeds_back o e)) (All-tail IsSmall t.epoch t.counters h))

-- an input changes no time
pub input_past : (o : Op) (t : Time) → (o ≡ Input) → TimeIsSmall t → TimeIsSmall (time_past o t)
input_past o t is h = past_small o t (λ e. absurd (cc (is, e))) h

pub flat_small : (epoch : ℕ) → IsSmall epoch → TimeIsSmall (record { epoch = epoch; counters = [] })
flat_small epoch h = All-cons IsSmall epoch [] h (All-nil IsSmall)

-- ---- the records that arrive

AllKeys-append : (K : ValueAt → Type 0) (rs ss : List (ℕ × ValueAt)) → AllKeys K rs → AllKeys K ss → AllKeys K (rs ++ ss)
AllKeys-append K [] ss h k = k
AllKeys-append K (r ∷ rs) ss h k = (h.0, AllKeys-append K rs ss h.1 k)

pub AllKeys-flat : {X : Type 0} (K : ValueAt → Type 0) (f : X → List (ℕ × ValueAt)) (xs : List X) → All (λ x. AllKeys K (f x)) xs → AllKeys K (flat_map f xs)
AllKeys-flat K f [] h = tt
AllKeys-flat K f (x ∷ xs) h =
    AllKeys-append K (f x) (flat_map f xs) (All-head (λ x. AllKeys K (f x)) x xs h) (AllKeys-flat K f xs (All-tail (λ x. AllKeys K (f x)) x xs h))

made_small : (dest : Option ℕ) (n p vertex port : ℕ) (v : ℤ) (t : Time) (l : ℕ) (es : List Edge) → TimeIsSmall t → IsValue v → AllKeys IsSmallKey (made_on dest n p vertex port v t l es)
made_small dest n p vertex port v t l [] small value = tt
made_small dest n p vertex port v t l (e ∷ es) small value =
    let r : ℕ × ValueAt = (directed dest e.route n p v, record_key l t v) in
    let b : Bool = nat_eq e.from vertex && nat_eq e.port port in
    let here : AllKeys IsSmallKey (cond b (r ∷ []) []) = elim b as (λ c. AllKeys IsSmallKey (cond c (r ∷ []) [])) [ true ↦ ((small, value), tt) | false ↦ tt ] in
    AllKeys-append IsSmallKey (cond b (r ∷ []) []) (made_on dest n p vertex port v t (l + 1) es) here (made_small dest n p vertex port v t (l + 1) es small value)

pub emitted_small : (g : Dataflow) (n p vertex : ℕ) (t : Time) (e : ℕ × ℤ) → TimeIsSmall (time_past (op_at g vertex) t) → IsValue e.1 → AllKeys IsSmallKey (emitted g n p vertex t e)
emitted_small g n p vertex t e small value = made_small None n p vertex e.0 e.1 (time_past (op_at g vertex) t) (length g.vertices) g.edges small value

-- the time of the records of a batch
pub batch_time_small : {A : Type 0} (b : Batch A) → BatchIsSmall b → TimeIsSmall (batch_time b)
batch_time_small b small = by b.at small.at
  where
    by : (at : Option Time) → IfSome at TimeIsSmall → TimeIsSmall (unwrap_or at b.time)
    by None none = small.time
    by (Some at) some = some

pub posts_small : {A : Type 0} (g : Dataflow) (n p vertex : ℕ) (b : Batch A) (v : ℤ) → TimeIsSmall (batch_time b) → IsValue v → AllKeys IsSmallKey (posts g n p vertex b v)
posts_small g n p vertex b v small value = made_small b.dest n p vertex b.port v (batch_time b) (length g.vertices) g.edges small value

-- ---- what the operators do to items

-- an item that is there after a record was there before, or is 0, or is the record's value
pub recorded_value : (o : Op) (items : Items) (t : Time) (v : ℤ) (q : ItemKey) → IsValue v → (at items q ≢ pos 0 → IsValue q.item) → at (on_record o items t v).items q ≢ pos 0 → IsValue q.item
recorded_value Sum items t v q value old some =
    elim (set_cases item_total item_exact items (item_key t (pos 0)) (at items (item_key t (pos 0)) +ℤ v) q) [
      | inl same ↦ subst (λ (j : ItemKey). IsValue j.item) (sym same) zero_is_value
      | inr same ↦ old (λ e. some (same ∙ e))
    ]
recorded_value Distinct items t v q value old some =
    let k : ItemKey = item_key t v in
    elim (is_zero (at items k)) as (λ b. at (cond b (with_number item_total items k (pos 1)) items) q ≢ pos 0 → IsValue q.item) [
      | true ↦ λ h. elim (set_cases item_total item_exact items k (pos 1) q) [
        | inl same ↦ subst (λ (j : ItemKey). IsValue j.item) (sym same) value
        | inr same ↦ old (λ e. h (same ∙ e))
      ]
      | false ↦ λ h. old h
    ] some
recorded_value o items t v q value old some = old some

zero_or_same : (b : Bool) (v : ℤ) → (cond b v (pos 0) ≡ pos 0) ⊎ (cond b v (pos 0) ≡ v)
zero_or_same true v = inr refl
zero_or_same false v = inl refl

zero_or_kept : (b : Bool) (v : ℤ) → (cond b (pos 0) v ≡ pos 0) ⊎ (cond b (pos 0) v ≡ v)
zero_or_kept true v = inl refl
zero_or_kept false v = inr refl

-- a notice leaves an item as it was, or removes it
pub noticed_number : (o : Op) (items : Items) (t : Time) (q : ItemKey) → (at (on_notice o items t).items q ≡ pos 0) ⊎ (at (on_notice o items t).items q ≡ at items q)
noticed_number Sum items t q =
    let k : ItemKey = item_key t (pos 0) in
    let is : at (with_number item_total items k (pos 0)) q ≡ cond (eq_by_cmp item_cmp q k) (pos 0) (at items q) = at-set item_total items k (pos 0) q in
    elim (zero_or_kept (eq_by_cmp item_cmp q k) (at items q)) [ inl e ↦ inl (is ∙ e) | inr e ↦ inr (is ∙ e) ]
noticed_number Distinct items t q =
    let p : ItemKey → Bool = λ k. not (eq_by_cmp time_cmp k.time t) in
    let is = at-only item_total item_exact p items q in
    elim (zero_or_same (p q) (at items q)) [ inl e ↦ inl (is ∙ e) | inr e ↦ inr (is ∙ e) ]
noticed_number o items t q = inr refl

number_is_value : (z : ℤ) → (z ≢ pos 0 → IsValue z) → IsValue z
number_is_value (pos zero) h = zero_is_value
number_is_value (pos (suc n)) h = h (λ e. absurd (cc))
number_is_value (negsuc n) h = h (λ e. absurd (cc))

-- what the operator emits at t fits its types
abbrev pub IsFine : Op → Time → ℕ × ℤ → Type 0
IsFine o t e = TimeIsSmall (time_past o t) × IsValue e.1

-- the values that a notice emits are numbers of items
pub notice_fine : (o : Op) (items : Items) (t : Time) → TimeIsSmall t → ((q : ItemKey) → at items q ≢ pos 0 → IsValue (at items q)) → All (IsFine o t) (on_notice o items t).emissions
notice_fine Sum items t small each =
    let sum : ℤ = at items (item_key t (pos 0)) in
    let value : IsValue sum = number_is_value sum (each (item_key t (pos 0))) in
    elim (is_zero sum) as (λ b. All (IsFine Sum t) (cond b [] ((0, sum) ∷ []))) [ true ↦ All-nil (IsFine Sum t) | false ↦ All-cons (IsFine Sum t) (0, sum) [] (small, value) (All-nil (IsFine Sum t)) ]
notice_fine o items t small each = All-nil (IsFine o t)
