-- The forms of pointstamps, changes and processors tell them apart.
use Rattle.std.proofs.Common.{◌≡◌, ℕ, ◌+◌, ◌<◌, ℤ, List, [], ◌∷◌, ◌++◌, length, Option, Some, None, refl, sym, ap, ◌∙◌, arith, append_assoc}
use Rattle.std.specs.List.{flat_map, enumerate_from, list_any}
use Rattle.std.specs.Option.{is_some}
use Rattle.std.specs.Ordering.{eq_by_cmp}
use Rattle.std.specs.declared.cmp.Ordering.{Ordering}
use Rattle.std.specs.Cmp.{IsTotalOrder}
use Rattle.std.specs.FinMap as fin
use Rattle.nd_map.specs.Counts.{Counts, Number, nil, or_else, same, at-entries}
use Rattle.nd_map.specs.Counts as counts
use Rattle.nd_paths.specs.Point.{point_cmp, point_total, point_exact}
use Rattle.nd_delta.specs.Delta.{DeltaValue, or_zero, at-entries as in_change-entries, entries as updates, same as same_changes}
use Rattle.nd_vertex.specs.Items.{Items, item_total, item_exact}
use Rattle.nd_vertex.specs.declared.key.ItemKey.{ItemKey}
use Rattle.nd_processor.specs.State.{ProcessorState, Requests}
use Rattle.nd_processor.specs.Keys.{value_at_total, value_at_exact, sink_total, sink_exact}
use Rattle.nd_reach.specs.Bytes.{number, list, time, point, entry}
use Rattle.nd_reach.specs.Forms.{change_form, record_form, sink_form, token_form, item_form, vertex_form, items_form, processor_form}
use Rattle.nd_reach.proofs.Numbers.{Tells, tells_number, tells_integer}
use Rattle.nd_reach.proofs.Lists.{told_before, told_both, tells_both, tells_list}

-- ---- keys and entries

pub tells_time : Tells time
tells_time = record {
  told = λ t u r s e.
      let all = told_both tells_number (tells_list tells_number) t.epoch u.epoch t.counters u.counters r s e in
      (λ i. record { epoch = all.0 i; counters = all.1.0 i }, all.1.1);
}

pub tells_point : Tells point
tells_point = record {
  told = λ x y r s e.
      let all = told_both tells_number tells_time x.location y.location x.time y.time r s e in
      (λ i. record { location = all.0 i; time = all.1.0 i }, all.1.1);
}

pub tells_entry : Tells entry
tells_entry = tells_both tells_point tells_integer

pub tells_record : Tells record_form
tells_record = record {
  told = λ x y r s e.
      let all = told_both tells_point (tells_both tells_integer tells_number) x.0.point y.0.point (x.0.value, x.1) (y.0.value, y.1) r s e in
      (λ i. (record { point = all.0 i; value = (all.1.0 i).0 }, (all.1.0 i).1), all.1.1);
}

pub tells_sink : Tells sink_form
tells_sink = record {
  told = λ x y r s e.
      let all = told_both tells_number (tells_both tells_integer tells_number) x.0.vertex y.0.vertex (x.0.value, x.1) (y.0.value, y.1) r s e in
      (λ i. (record { vertex = all.0 i; value = (all.1.0 i).0 }, (all.1.0 i).1), all.1.1);
}

pub tells_token : Tells token_form
tells_token = tells_both tells_number tells_number

pub tells_item : Tells item_form
tells_item = record {
  told = λ x y r s e.
      let all = told_both tells_time (tells_both tells_integer tells_integer) x.0.time y.0.time (x.0.item, x.1) (y.0.item, y.1) r s e in
      (λ i. (record { time = all.0 i; item = (all.1.0 i).0 }, (all.1.0 i).1), all.1.1);
}

-- ---- maps with the same entries, or the same keys, are the same

pub same_counts : {K X : Type 0} {R : K → K → Ordering} {N : Number X} (o : IsTotalOrder R) → fin.IsAntisymmetric R → (m n : Counts R N) → counts.entries m ≡ counts.entries n → m ≡ n
same_counts {R} {N} o tells m n e = same o tells m n (λ q. at-entries m q ∙ ap (λ es. or_else (nil N) (fin.find R q es)) e ∙ sym (at-entries n q))

pub same_updates : (c d : DeltaValue) → updates c ≡ updates d → c ≡ d
same_updates c d e = same_changes c d (λ q. sym (in_change-entries c q) ∙ ap (λ es. or_zero (fin.find point_cmp q es)) e ∙ in_change-entries d q)

same_units : (x y : Option (Unit {0})) → is_some x ≡ is_some y → x ≡ y
same_units None None e = refl
same_units None (Some u) e = absurd (cc)
same_units (Some u) None e = absurd (cc)
same_units (Some u) (Some v) e = refl

pub same_requests : (m n : Requests) → fin.keys m ≡ fin.keys n → m ≡ n
same_requests m n e =
    fin.same_map point_total point_exact m n (λ q. same_units (fin.get m q) (fin.get n q)
    (fin.contains_key-keys m q ∙ ap (λ ks. list_any (eq_by_cmp point_cmp q) ks) e ∙ sym (fin.contains_key-keys n q)))

-- ---- changes

pub tells_change : Tells change_form
tells_change = record {
  told = λ c d r s e.
      let all = (tells_list tells_entry).told (updates c) (updates d) r s e in
      (same_updates c d all.0, all.1);
}

-- ---- items

-- the forms of the items of vertices, the first of which has number l, with 0 after them, and what follows
abbrev items_from : ℕ → List Items → List ℕ → List ℕ
items_from l items r = flat_map (λ v. vertex_form v.0 (counts.entries v.1)) (enumerate_from l items) ++ (number 0 ++ r)

-- what follows does not begin with the form of vertex l
abbrev IsPast : ℕ → List ℕ → Type 0
IsPast l a = (t : List ℕ) → a ≡ number (l + 1) ++ t → ⊥

past_vertex : (l k : ℕ) (es : List (ItemKey × ℤ)) (a : List ℕ) → l < k → IsPast l a → IsPast l (vertex_form k es ++ a)
past_vertex l k [] a h past t e = past t e
past_vertex l k (x ∷ es) a h past t e =
    let same : k + 1 ≡ l + 1 = (tells_number.told (k + 1) (l + 1) (list item_form (x ∷ es) ++ a) t (sym (append_assoc (number (k + 1)) (list item_form (x ∷ es)) a) ∙ e)).0 in
    omega arith

past_items : (l k : ℕ) (items : List Items) (r : List ℕ) → l < k → IsPast l (items_from k items r)
past_items l k [] r h t e = omega (arith, (tells_number.told 0 (l + 1) r t e).0)
past_items l k (x ∷ items) r h t e =
    let others = flat_map (λ v. vertex_form v.0 (counts.entries v.1)) (enumerate_from (k + 1) items) in
    past_vertex l k (counts.entries x) (items_from (k + 1) items r) h (past_items l (k + 1) items r (omega arith)) t
    (sym (append_assoc (vertex_form k (counts.entries x)) others (number 0 ++ r)) ∙ e)

told_vertex : (l : ℕ) (es fs : List (ItemKey × ℤ)) (a b : List ℕ) → IsPast l a → IsPast l b → vertex_form l es ++ a ≡ vertex_form l fs ++ b → (es ≡ fs) × (a ≡ b)
told_vertex l [] [] a b p q e = (refl, e)
told_vertex l [] (y ∷ fs) a b p q e = absurd (p (list item_form (y ∷ fs) ++ b) (e ∙ append_assoc (number (l + 1)) (list item_form (y ∷ fs)) b))
told_vertex l (x ∷ es) [] a b p q e = absurd (q (list item_form (x ∷ es) ++ a) (sym e ∙ append_assoc (number (l + 1)) (list item_form (x ∷ es)) a))
told_vertex l (x ∷ es) (y ∷ fs) a b p q e = (told_both tells_number (tells_list tells_item) (l + 1) (l + 1) (x ∷ es) (y ∷ fs) a b e).1

told_items_from : (l : ℕ) (xs ys : List Items) (r s : List ℕ) → length xs ≡ length ys → items_from l xs r ≡ items_from l ys s → (xs ≡ ys) × (r ≡ s)
told_items_from l [] [] r s n e = (refl, (tells_number.told 0 0 r s e).1)
told_items_from l [] (y ∷ ys) r s n e = absurd (cc)
told_items_from l (x ∷ xs) [] r s n e = absurd (cc)
told_items_from l (x ∷ xs) (y ∷ ys) r s n e =
    let left = flat_map (λ v. vertex_form v.0 (counts.entries v.1)) (enumerate_from (l + 1) xs) in
    let right = flat_map (λ v. vertex_form v.0 (counts.entries v.1)) (enumerate_from (l + 1) ys) in
    let one = told_vertex l (counts.entries x) (counts.entries y) (items_from (l + 1) xs r) (items_from (l + 1) ys s)
    (past_items l (l + 1) xs r (omega arith)) (past_items l (l + 1) ys s (omega arith))
    (sym (append_assoc (vertex_form l (counts.entries x)) left (number 0 ++ r)) ∙ e ∙ append_assoc (vertex_form l (counts.entries y)) right (number 0 ++ s)) in
    let first = same_counts item_total item_exact x y one.0 in
    let others = told_items_from (l + 1) xs ys r s (cc) one.1 in
    (λ i. first i ∷ others.0 i, others.1)

told_items : (xs ys : List Items) (a b r s : List ℕ) → length xs ≡ length ys → (items_form xs ++ a) ++ r ≡ (items_form ys ++ b) ++ s → (xs ≡ ys) × (a ++ r ≡ b ++ s)
told_items xs ys a b r s n e =
    let left = flat_map (λ v. vertex_form v.0 (counts.entries v.1)) (enumerate_from 0 xs) in
    let right = flat_map (λ v. vertex_form v.0 (counts.entries v.1)) (enumerate_from 0 ys) in
    told_items_from 0 xs ys (a ++ r) (b ++ s) n
    (sym (append_assoc left (number 0) (a ++ r)) ∙ sym (append_assoc (items_form xs) a r) ∙ e ∙ append_assoc (items_form ys) b s ∙ append_assoc right (number 0) (b ++ s))

-- ---- processors

-- the forms of two processors with as many vertices tell them apart
pub told_processor : (p q : ProcessorState) (r s : List ℕ) → length p.items ≡ length q.items → processor_form p ++ r ≡ processor_form q ++ s → (p ≡ q) × (r ≡ s)
told_processor p q r s n e =
    let records = told_before (tells_list tells_record) (counts.entries p.records) (counts.entries q.records) _ _ r s e in
    let requests = told_before (tells_list tells_point) (fin.keys p.requests) (fin.keys q.requests) _ _ r s records.1 in
    let tokens = told_before (tells_list tells_token) (fin.entries p.tokens) (fin.entries q.tokens) _ _ r s requests.1 in
    let items = told_items p.items q.items _ _ r s n tokens.1 in
    let sinks = told_before (tells_list tells_sink) (counts.entries p.sinks) (counts.entries q.sinks) _ _ r s items.1 in
    let unsent = tells_change.told p.unsent q.unsent r s sinks.1 in
    let same_records = same_counts value_at_total value_at_exact p.records q.records records.0 in
    let same_asked = same_requests p.requests q.requests requests.0 in
    let same_tokens = fin.same_entries_map p.tokens q.tokens tokens.0 in
    let same_sinks = same_counts sink_total sink_exact p.sinks q.sinks sinks.0 in (
      λ i. record {
        records = same_records i;
        requests = same_asked i;
        tokens = same_tokens i;
        items = items.0 i;
        sinks = same_sinks i;
        unsent = unsent.0 i;
      },
      unsent.1,
    )
