-- The state that the stored lists of a processor represent: lookups and edits.
use Rattle.std.proofs.Common.{◌≡◌, ◌≤◌, ◌<◌, ℕ, ◌+◌, ◌-◌, ℤ, ◌+ℤ◌, pos, neg_ℤ, unsigned_abs, List, length, map, Option, Some, None, sym, ap, subst, ◌∙◌}
use Rattle.std.specs.Prelude.{slice_set, slice_index_or, OnOk, OnErr, Result, Ok, Err, ◌↔◌, IsTrue, is_some, Bool}
use Rattle.std.proofs.lemmas.List.{get_or_default, set-get_or}
use Rattle.std.proofs.lemmas.Cmp.{nat_cmp_total}
use Rattle.std.specs.Ordering.{nat_cmp}
use Rattle.std.specs.FinMap as fin
use Rattle.std.specs.FinMap.{find, put}
use Rattle.nd_time.specs.Limits.{max_count}
use Rattle.nd_map.specs.Listed.{IsListed, without}
use Rattle.nd_map.specs.Maps.{from_entries-put, from_entries-without, entries-from_entries}
use Rattle.nd_map.specs.Counts.{none as no_items, or_else, at, added, of_entries, entries as counts_of}
use Rattle.nd_paths.specs.Point.{point_cmp, point_total, point_exact}
use Rattle.nd_paths.specs.declared.point.Pointstamp.{Pointstamp}
use Rattle.nd_delta.specs.Delta.{DeltaValue, at as change_at}
use Rattle.nd_vertex.specs.Items.{Items}
use Rattle.nd_vertex.specs.Edits.{item_of, with_item}
use Rattle.nd_vertex.specs.declared.key.ItemKey.{ItemKey}
use Rattle.nd_processor.specs.Keys.{value_at_cmp, value_at_total, value_at_exact, sink_cmp, sink_total, sink_exact}
use Rattle.nd_processor.specs.State.{ProcessorState}
use Rattle.nd_processor.specs.Kept.{IsKept, number, put_count, seen}
use Rattle.nd_processor.specs.Edits.{with_value, with_vertex_item}
use Rattle.nd_processor.specs.EditsLaws.{value-back, vertex_item-back}
use Rattle.nd_processor.specs.declared.key.ValueAt.{ValueAt}
use Rattle.nd_processor.specs.declared.key.SinkKey.{SinkKey}
use Rattle.nd_processor.proofs.KeptLemmas.{number_at, kept_entries, kept_within, more, more_undone, less, less_undone}

-- ---- calls that return a Result

pub on_ok : {A E : Type 0} {P Q : Type 0} (r : Result A E) → (P → Q) → OnOk r P → OnOk r Q
on_ok (Ok x) f h = f h
on_ok (Err e) f h = h

pub on_err : {A E : Type 0} {P : Type 0} (r : Result A E) → P → OnErr r P
on_err (Ok x) h = tt
on_err (Err e) h = h

pub asked : (x y : Option (Unit {0})) (b : Bool) → b ≡ is_some x → x ≡ y → IsTrue b ↔ (y ≡ Some tt)
asked None y b e same = ((λ t. absurd (cc)), λ s. absurd (cc))
asked (Some u) y b e same = ((λ t. sym same), λ s. e)

-- ---- lookups and edits of the state

module _ (records : List (ValueAt × ℕ)) (requests : List (Pointstamp × Unit {0})) (tokens : List (ℕ × ℕ)) (items : List Items) (sinks : List (SinkKey × ℕ)) (unsent : DeltaValue) (state : ProcessorState) (view : seen records requests tokens items sinks unsent ≡ state) where
  records_is : of_entries value_at_total records ≡ state.records
  records_is = ap (λ (q : ProcessorState). q.records) view

  pub records_at : (k : ValueAt) → number value_at_cmp records k ≡ at state.records k
  records_at k = number_at value_at_cmp value_at_total value_at_exact records state.records records_is k

  pub records_entries : IsKept value_at_cmp records → records ≡ counts_of state.records
  records_entries kept = kept_entries value_at_cmp value_at_total value_at_exact records state.records records_is kept

  pub records_within : IsKept value_at_cmp records → (k : ValueAt) → at state.records k ≤ max_count
  records_within kept k = kept_within value_at_cmp value_at_total value_at_exact records state.records records_is kept k

  pub records_added : (k : ValueAt) (n : ℕ) (fs : List (ValueAt × ℕ)) → fs ≡ put_count value_at_cmp k (number value_at_cmp records k + n) records
      → seen fs requests tokens items sinks unsent ≡ record state { records = added value_at_total state.records k (pos n) }
  records_added k n fs is = λ i. record (view i) { records = more value_at_cmp value_at_total value_at_exact records state.records records_is k n fs is i }

  pub records_more_undone : (k : ValueAt) (n : ℕ) (fs : List (ValueAt × ℕ)) → fs ≡ put_count value_at_cmp k (number value_at_cmp records k + n) records
      → record (seen fs requests tokens items sinks unsent) { records = added value_at_total (of_entries value_at_total fs) k (neg_ℤ (pos n)) } ≡ state
  records_more_undone k n fs is = λ i. record (view i) { records = more_undone value_at_cmp value_at_total value_at_exact records state.records records_is k n fs is i }

  pub records_there : (k : ValueAt) (n : ℕ) → n ≤ at state.records k → n ≤ number value_at_cmp records k
  records_there k n h = subst (λ m. n ≤ m) (sym (records_at k)) h

  pub records_taken : (k : ValueAt) (n : ℕ) (fs : List (ValueAt × ℕ)) → n ≤ at state.records k → fs ≡ put_count value_at_cmp k (number value_at_cmp records k - n) records
      → seen fs requests tokens items sinks unsent ≡ record state { records = added value_at_total state.records k (neg_ℤ (pos n)) }
  records_taken k n fs h is = λ i. record (view i) { records = less value_at_cmp value_at_total value_at_exact records state.records records_is k n fs h is i }

  pub records_less_undone : (k : ValueAt) (n : ℕ) (fs : List (ValueAt × ℕ)) → n ≤ at state.records k → fs ≡ put_count value_at_cmp k (number value_at_cmp records k - n) records
      → record (seen fs requests tokens items sinks unsent) { records = added value_at_total (of_entries value_at_total fs) k (pos n) } ≡ state
  records_less_undone k n fs h is = λ i. record (view i) { records = less_undone value_at_cmp value_at_total value_at_exact records state.records records_is k n fs h is i }

  pub records_absent : (k : ValueAt) → find value_at_cmp k records ≡ None → at state.records k ≡ 0
  records_absent k none = sym (records_at k) ∙ ap (or_else 0) none

  pub records_full : (k : ValueAt) (n : ℕ) {P : Type 0} → P ↔ (max_count < number value_at_cmp records k + n) → P ↔ (max_count < at state.records k + n)
  records_full k n {P} h = subst (λ m. P ↔ (max_count < m + n)) (records_at k) h

  sinks_is : of_entries sink_total sinks ≡ state.sinks
  sinks_is = ap (λ (q : ProcessorState). q.sinks) view

  pub sinks_at : (k : SinkKey) → number sink_cmp sinks k ≡ at state.sinks k
  sinks_at k = number_at sink_cmp sink_total sink_exact sinks state.sinks sinks_is k

  pub sinks_entries : IsKept sink_cmp sinks → sinks ≡ counts_of state.sinks
  sinks_entries kept = kept_entries sink_cmp sink_total sink_exact sinks state.sinks sinks_is kept

  pub sinks_within : IsKept sink_cmp sinks → (k : SinkKey) → at state.sinks k ≤ max_count
  sinks_within kept k = kept_within sink_cmp sink_total sink_exact sinks state.sinks sinks_is kept k

  pub sinks_added : (k : SinkKey) (n : ℕ) (fs : List (SinkKey × ℕ)) → fs ≡ put_count sink_cmp k (number sink_cmp sinks k + n) sinks
      → seen records requests tokens items fs unsent ≡ record state { sinks = added sink_total state.sinks k (pos n) }
  sinks_added k n fs is = λ i. record (view i) { sinks = more sink_cmp sink_total sink_exact sinks state.sinks sinks_is k n fs is i }

  pub sinks_more_undone : (k : SinkKey) (n : ℕ) (fs : List (SinkKey × ℕ)) → fs ≡ put_count sink_cmp k (number sink_cmp sinks k + n) sinks
      → record (seen records requests tokens items fs unsent) { sinks = added sink_total (of_entries sink_total fs) k (neg_ℤ (pos n)) } ≡ state
  sinks_more_undone k n fs is = λ i. record (view i) { sinks = more_undone sink_cmp sink_total sink_exact sinks state.sinks sinks_is k n fs is i }

  pub sinks_there : (k : SinkKey) (n : ℕ) → n ≤ at state.sinks k → n ≤ number sink_cmp sinks k
  sinks_there k n h = subst (λ m. n ≤ m) (sym (sinks_at k)) h

  pub sinks_taken : (k : SinkKey) (n : ℕ) (fs : List (SinkKey × ℕ)) → n ≤ at state.sinks k → fs ≡ put_count sink_cmp k (number sink_cmp sinks k - n) sinks
      → seen records requests tokens items fs unsent ≡ record state { sinks = added sink_total state.sinks k (neg_ℤ (pos n)) }
  sinks_taken k n fs h is = λ i. record (view i) { sinks = less sink_cmp sink_total sink_exact sinks state.sinks sinks_is k n fs h is i }

  pub sinks_less_undone : (k : SinkKey) (n : ℕ) (fs : List (SinkKey × ℕ)) → n ≤ at state.sinks k → fs ≡ put_count sink_cmp k (number sink_cmp sinks k - n) sinks
      → record (seen records requests tokens items fs unsent) { sinks = added sink_total (of_entries sink_total fs) k (pos n) } ≡ state
  sinks_less_undone k n fs h is = λ i. record (view i) { sinks = less_undone sink_cmp sink_total sink_exact sinks state.sinks sinks_is k n fs h is i }

  pub sinks_absent : (k : SinkKey) → find sink_cmp k sinks ≡ None → at state.sinks k ≡ 0
  sinks_absent k none = sym (sinks_at k) ∙ ap (or_else 0) none

  pub sinks_full : (k : SinkKey) (n : ℕ) {P : Type 0} → P ↔ (max_count < number sink_cmp sinks k + n) → P ↔ (max_count < at state.sinks k + n)
  sinks_full k n {P} h = subst (λ m. P ↔ (max_count < m + n)) (sinks_at k) h

  pub requests_get : (k : Pointstamp) → find point_cmp k requests ≡ fin.get state.requests k
  requests_get k = sym (fin.get-from_entries point_total requests k) ∙ ap (λ (q : ProcessorState). fin.get q.requests k) view

  pub requests_listed : IsListed point_cmp requests → requests ≡ fin.entries state.requests
  requests_listed h = sym (entries-from_entries point_cmp point_total point_exact requests h) ∙ ap (λ (q : ProcessorState). fin.entries q.requests) view

  pub requests_put : (k : Pointstamp) (v : Unit {0}) (fs : List (Pointstamp × Unit {0})) → fs ≡ put point_cmp k v requests → seen records fs tokens items sinks unsent ≡ record state { requests = fin.insert state.requests k v }
  requests_put k v fs is =
      (λ i. record (seen records requests tokens items sinks unsent) { requests = (ap fin.from_entries is ∙ from_entries-put point_cmp point_total point_exact k v requests) i })
      ∙ ap (λ (q : ProcessorState). record q { requests = fin.insert q.requests k v }) view

  pub requests_without : (k : Pointstamp) (fs : List (Pointstamp × Unit {0})) → fs ≡ without point_cmp k requests → seen records fs tokens items sinks unsent ≡ record state { requests = fin.remove state.requests k }
  requests_without k fs is =
      (λ i. record (seen records requests tokens items sinks unsent) { requests = (ap fin.from_entries is ∙ from_entries-without point_cmp point_total point_exact k requests) i })
      ∙ ap (λ (q : ProcessorState). record q { requests = fin.remove q.requests k }) view

  pub requests_back : (k : Pointstamp) (old new : Option (Unit {0})) (after : ProcessorState) → fin.get state.requests k ≡ old → after ≡ record state { requests = with_value state.requests k new }
      → record after { requests = with_value after.requests k old } ≡ state
  requests_back k old new after had is =
      ap (λ (q : ProcessorState). record q { requests = with_value q.requests k old }) is
      ∙ (λ i. record state { requests = value-back point_total point_exact state.requests k old new had i })

  pub tokens_get : (k : ℕ) → find nat_cmp k tokens ≡ fin.get state.tokens k
  tokens_get k = sym (fin.get-from_entries nat_cmp_total tokens k) ∙ ap (λ (q : ProcessorState). fin.get q.tokens k) view

  pub tokens_listed : IsListed nat_cmp tokens → tokens ≡ fin.entries state.tokens
  tokens_listed h = sym (entries-from_entries nat_cmp nat_cmp_total fin.nat_cmp-IsAntisymmetric tokens h) ∙ ap (λ (q : ProcessorState). fin.entries q.tokens) view

  pub tokens_put : (k : ℕ) (v : ℕ) (fs : List (ℕ × ℕ)) → fs ≡ put nat_cmp k v tokens → seen records requests fs items sinks unsent ≡ record state { tokens = fin.insert state.tokens k v }
  tokens_put k v fs is =
      (λ i. record (seen records requests tokens items sinks unsent) { tokens = (ap fin.from_entries is ∙ from_entries-put nat_cmp nat_cmp_total fin.nat_cmp-IsAntisymmetric k v tokens) i })
      ∙ ap (λ (q : ProcessorState). record q { tokens = fin.insert q.tokens k v }) view

  pub tokens_without : (k : ℕ) (fs : List (ℕ × ℕ)) → fs ≡ without nat_cmp k tokens → seen records requests fs items sinks unsent ≡ record state { tokens = fin.remove state.tokens k }
  tokens_without k fs is =
      (λ i. record (seen records requests tokens items sinks unsent) { tokens = (ap fin.from_entries is ∙ from_entries-without nat_cmp nat_cmp_total fin.nat_cmp-IsAntisymmetric k tokens) i })
      ∙ ap (λ (q : ProcessorState). record q { tokens = fin.remove q.tokens k }) view

  pub tokens_back : (k : ℕ) (old new : Option ℕ) (after : ProcessorState) → fin.get state.tokens k ≡ old → after ≡ record state { tokens = with_value state.tokens k new }
      → record after { tokens = with_value after.tokens k old } ≡ state
  tokens_back k old new after had is =
      ap (λ (q : ProcessorState). record q { tokens = with_value q.tokens k old }) is
      ∙ (λ i. record state { tokens = value-back nat_cmp_total fin.nat_cmp-IsAntisymmetric state.tokens k old new had i })

  -- an item of a vertex has another number
  pub items_set : (vertex : ℕ) (k : ItemKey) (n : Option ℤ) (m m' : Items) → vertex < length items → m ≡ slice_index_or items vertex m → m' ≡ with_item m k n
      → seen records requests tokens (slice_set items vertex m') sinks unsent ≡ record state { items = with_vertex_item state.items vertex k n }
  items_set vertex k n m m' within is made =
      let here : m ≡ slice_index_or items vertex no_items = is ∙ get_or_default items vertex m no_items within in
      (λ i. seen records requests tokens (slice_set items vertex ((made ∙ ap (λ x. with_item x k n) here) i)) sinks unsent)
      ∙ ap (λ (q : ProcessorState). record q { items = with_vertex_item q.items vertex k n }) view

  pub items_back : (vertex : ℕ) (k : ItemKey) (old new : Option ℤ) (m m' : Items) → vertex < length state.items → item_of (slice_index_or state.items vertex no_items) k ≡ old
      → vertex < length items → m ≡ slice_index_or items vertex m → m' ≡ with_item m k new
      → record (seen records requests tokens (slice_set items vertex m') sinks unsent) { items = with_vertex_item (slice_set items vertex m') vertex k old } ≡ state
  items_back vertex k old new m m' in_range had within is made =
      ap (λ (q : ProcessorState). record q { items = with_vertex_item q.items vertex k old }) (items_set vertex k new m m' within is made)
      ∙ (λ i. record state { items = vertex_item-back state.items vertex k old new in_range had i })

  -- an item that could not be written is unchanged
  pub items_kept : (vertex : ℕ) (m m' : Items) → m ≡ slice_index_or items vertex m → m' ≡ m → seen records requests tokens (slice_set items vertex m') sinks unsent ≡ state
  items_kept vertex m m' is same =
      (λ i. seen records requests tokens (slice_set items vertex ((same ∙ is) i)) sinks unsent)
      ∙ (λ i. seen records requests tokens (set-get_or items vertex m i) sinks unsent) ∙ view

  pub items_long : (vertex : ℕ) → vertex < length state.items → vertex < length items
  items_long vertex h = subst (λ (q : ProcessorState). vertex < length q.items) (sym view) h

  -- what is unsent changed, and an edit leads back
  pub unsent_back : (after : DeltaValue) → after ≡ unsent → seen records requests tokens items sinks after ≡ state
  unsent_back after is = ap (λ u. seen records requests tokens items sinks u) is ∙ view

  -- what is unsent is changed
  pub unsent_changed : (edit : DeltaValue → DeltaValue) (after : DeltaValue) → after ≡ edit unsent → seen records requests tokens items sinks after ≡ record state { unsent = edit state.unsent }
  unsent_changed edit after is = ap (λ u. seen records requests tokens items sinks u) is ∙ ap (λ (q : ProcessorState). record q { unsent = edit q.unsent }) view

  pub unsent_full : (x : Pointstamp) (n : ℤ) {P : Type 0} → P ↔ (max_count < unsigned_abs (change_at unsent x +ℤ n)) → P ↔ (max_count < unsigned_abs (change_at state.unsent x +ℤ n))
  unsent_full x n {P} h = subst (λ (q : ProcessorState). P ↔ (max_count < unsigned_abs (change_at q.unsent x +ℤ n))) view h
