-- What a vertex does on two records, or on a record and a notification of another time, does not depend on their order.
use Rattle.std.proofs.Common.{◌≡◌, ℤ, pos, Bool, true, false, cond, [], ◌∷◌, refl, sym, ap, ◌∙◌}
use Rattle.std.proofs.lemmas.Map.Views.{tells_apart}
use Rattle.std.specs.Prelude.{◌≢◌, ◌+ℤ◌, not}
use Rattle.std.specs.Ordering.{eq_by_cmp}
use Rattle.nd_time.specs.Time.{Time}
use Rattle.nd_time.specs.Listing.{time_cmp, time_exact}
use Rattle.nd_map.specs.Counts.{at, set, at-set, same, at-only}
use Rattle.nd_graph.specs.declared.op.Op.{Op}
use Rattle.nd_graph.specs.declared.op.Op.TheVariants.{Sum, Distinct}
use Rattle.nd_vertex.specs.Items.{Items, item_cmp, item_total, item_exact, item_key}
use Rattle.nd_vertex.specs.Table.{Outcome, on_record, on_notice, is_zero, without_time}
use Rattle.nd_vertex.specs.declared.key.ItemKey.{ItemKey}
use Rattle.nd_rest.proofs.Maps.{apart, at-set_other, set-comm, added-comm}

-- neither of two reactions depends on whether the other came first
pub record AreIndependent (f g : Items → Outcome) : Type 0 where
  pub items : (m : Items) → (g (f m).items).items ≡ (f (g m).items).items
  pub first : (m : Items) → (f (g m).items).emissions ≡ (f m).emissions
  pub second : (m : Items) → (g (f m).items).emissions ≡ (g m).emissions

pub turned : {f g : Items → Outcome} → AreIndependent f g → AreIndependent g f
turned h = record { items = λ m. sym (h.items m); first = h.second; second = h.first }

-- the key of a vertex's sum at a time
abbrev sum_key : Time → ItemKey
sum_key t = item_key t (pos 0)

apart_in_time : (t u : Time) (v w : ℤ) → t ≢ u → item_key t v ≢ item_key u w
apart_in_time t u v w other e = other (ap (λ (k : ItemKey). k.time) e)

-- ---- items that are marked

-- the items with a mark at the key, if it is wanted
abbrev marked : Bool → Items → ItemKey → Items
marked b m k = cond b (set item_total m k (pos 1)) m

at-marked_other : (b : Bool) (m : Items) (j k : ItemKey) → k ≢ j → at (marked b m j) k ≡ at m k
at-marked_other true m j k other = at-set_other item_total item_exact m j (pos 1) k other
at-marked_other false m j k other = refl

marked-comm : (a b : Bool) (m : Items) (j k : ItemKey) → j ≢ k → marked b (marked a m j) k ≡ marked a (marked b m k) j
marked-comm true true m j k other = set-comm item_total item_exact m j k (pos 1) (pos 1) other
marked-comm true false m j k other = refl
marked-comm false b m j k other = refl

mark_again : (m : Items) (j k : ItemKey) → j ≢ k
    → marked (is_zero (at (marked (is_zero (at m j)) m j) k)) (marked (is_zero (at m j)) m j) k ≡ marked (is_zero (at m k)) (marked (is_zero (at m j)) m j) k
mark_again m j k other = ap (λ z. marked (is_zero z) (marked (is_zero (at m j)) m j) k) (at-marked_other (is_zero (at m j)) m j k (λ e. other (sym e)))

-- ---- items without a time

abbrev is_other : Time → ItemKey → Bool
is_other t k = not (eq_by_cmp time_cmp k.time t)

is_other_time : (t u : Time) (v : ℤ) → t ≢ u → is_other u (item_key t v) ≡ true
is_other_time t u v other = ap not (apart time_exact t u other)

at-without : (m : Items) (t : Time) (k : ItemKey) → at (without_time m t) k ≡ cond (is_other t k) (at m k) (pos 0)
at-without m t k = at-only item_total item_exact (is_other t) m k

at-without_other : (m : Items) (t u : Time) (v : ℤ) → t ≢ u → at (without_time m u) (item_key t v) ≡ at m (item_key t v)
at-without_other m t u v other = at-without m u (item_key t v) ∙ ap (λ b. cond b (at m (item_key t v)) (pos 0)) (is_other_time t u v other)

cut_over : (p b : Bool) (x y : ℤ) → (b ≡ true → p ≡ true) → cond p (cond b x y) (pos 0) ≡ cond b x (cond p y (pos 0))
cut_over true b x y h = refl
cut_over false true x y h = absurd (cc (h refl))
cut_over false false x y h = refl

cut_twice : (p b : Bool) (x : ℤ) → cond p (cond b x (pos 0)) (pos 0) ≡ cond b (cond p x (pos 0)) (pos 0)
cut_twice true b x = refl
cut_twice false true x = refl
cut_twice false false x = refl

without-marked : (b : Bool) (m : Items) (t u : Time) (v : ℤ) → t ≢ u → without_time (marked b m (item_key t v)) u ≡ marked b (without_time m u) (item_key t v)
without-marked true m t u v other =
    let k : ItemKey = item_key t v in
    same item_total item_exact _ _ (λ q.
    at-without (set item_total m k (pos 1)) u q ∙ ap (λ z. cond (is_other u q) z (pos 0)) (at-set item_total m k (pos 1) q)
    ∙ cut_over (is_other u q) (eq_by_cmp item_cmp q k) (pos 1) (at m q) (λ e. ap (is_other u) (tells_apart item_exact q k e) ∙ is_other_time t u v other)
    ∙ sym (at-set item_total (without_time m u) k (pos 1) q ∙ ap (cond (eq_by_cmp item_cmp q k) (pos 1)) (at-without m u q)))
without-marked false m t u v other = refl

without-without : (m : Items) (t u : Time) → without_time (without_time m t) u ≡ without_time (without_time m u) t
without-without m t u =
    same item_total item_exact _ _ (λ q.
    at-without (without_time m t) u q ∙ ap (λ z. cond (is_other u q) z (pos 0)) (at-without m t q)
    ∙ cut_twice (is_other u q) (is_other t q) (at m q)
    ∙ sym (at-without (without_time m u) t q ∙ ap (λ z. cond (is_other t q) z (pos 0)) (at-without m u q)))

-- ---- two reactions

-- two records of which either the times or the values differ
pub records_apart : (op : Op) (t u : Time) (v w : ℤ) → item_key t v ≢ item_key u w → AreIndependent (λ m. on_record op m t v) (λ m. on_record op m u w)
records_apart Sum t u v w other = record { items = λ m. added-comm item_total item_exact m (sum_key t) (sum_key u) v w; first = λ m. refl; second = λ m. refl }
records_apart Distinct t u v w other =
    let j : ItemKey = item_key t v in
    let k : ItemKey = item_key u w in
    let back : k ≢ j = λ e. other (sym e) in
    record {
      items = λ m. mark_again m j k other ∙ marked-comm (is_zero (at m j)) (is_zero (at m k)) m j k other ∙ sym (mark_again m k j back);
      first = λ m. ap (λ z. cond (is_zero z) ((0, v) ∷ []) []) (at-marked_other (is_zero (at m k)) m k j other);
      second = λ m. ap (λ z. cond (is_zero z) ((0, w) ∷ []) []) (at-marked_other (is_zero (at m j)) m j k back);
    }
records_apart _ t u v w other = record { items = λ m. refl; first = λ m. refl; second = λ m. refl }

-- a record, and a notification of another time
pub record_and_notice : (op : Op) (t u : Time) (v : ℤ) → t ≢ u → AreIndependent (λ m. on_record op m t v) (λ m. on_notice op m u)
record_and_notice Sum t u v other =
    let j : ItemKey = sum_key t in
    let k : ItemKey = sum_key u in
    let apart_here : j ≢ k = apart_in_time t u (pos 0) (pos 0) other in
    record {
      items = λ m.
          set-comm item_total item_exact m j k (at m j +ℤ v) (pos 0) apart_here
          ∙ ap (λ z. set item_total (set item_total m k (pos 0)) j (z +ℤ v)) (sym (at-set_other item_total item_exact m k (pos 0) j apart_here));
      first = λ m. refl;
      second = λ m. ap (λ z. cond (is_zero z) [] ((0, z) ∷ [])) (at-set_other item_total item_exact m j (at m j +ℤ v) k (λ e. apart_here (sym e)));
    }
record_and_notice Distinct t u v other =
    let k : ItemKey = item_key t v in
    record {
      items = λ m. without-marked (is_zero (at m k)) m t u v other ∙ ap (λ z. marked (is_zero z) (without_time m u) k) (sym (at-without_other m t u v other));
      first = λ m. ap (λ z. cond (is_zero z) ((0, v) ∷ []) []) (at-without_other m t u v other);
      second = λ m. refl;
    }
record_and_notice _ t u v other = record { items = λ m. refl; first = λ m. refl; second = λ m. refl }

-- two notifications of different times
pub notices_apart : (op : Op) (t u : Time) → t ≢ u → AreIndependent (λ m. on_notice op m t) (λ m. on_notice op m u)
notices_apart Sum t u other =
    let j : ItemKey = sum_key t in
    let k : ItemKey = sum_key u in
    let apart_here : j ≢ k = apart_in_time t u (pos 0) (pos 0) other in
    record {
      items = λ m. set-comm item_total item_exact m j k (pos 0) (pos 0) apart_here;
      first = λ m. ap (λ z. cond (is_zero z) [] ((0, z) ∷ [])) (at-set_other item_total item_exact m k (pos 0) j apart_here);
      second = λ m. ap (λ z. cond (is_zero z) [] ((0, z) ∷ [])) (at-set_other item_total item_exact m j (pos 0) k (λ e. apart_here (sym e)));
    }
notices_apart Distinct t u other = record { items = λ m. without-without m t u; first = λ m. refl; second = λ m. refl }
notices_apart _ t u other = record { items = λ m. refl; first = λ m. refl; second = λ m. refl }
