-- Each place with an integer other than 0 is listed, so the difference of two states says by how much they differ at each place.
use Rattle.std.proofs.Common.{◌≡◌, ◌≢◌, ◌<◌, ◌+◌, ℕ, zero, suc, ℤ, pos, ◌-ℤ◌, Bool, true, false, cond, ◌||◌, List, [], ◌∷◌, ◌++◌, T, Option, Some, None, is_some, map, length, get_or, refl, sym, ap, ◌∙◌, arith, inl, inr, true≢false}
use Rattle.std.proofs.lemmas.List.Folds.{list_any-append}
use Rattle.std.proofs.lemmas.Map.Lookups.{exact_unsigned}
use Rattle.std.proofs.lemmas.Map.Views.{tells_apart}
use Rattle.std.specs.List.{list_any, flat_map, enumerate_from}
use Rattle.std.specs.declared.cmp.Ordering.{Ordering}
use Rattle.std.specs.Ordering.{eq_by_cmp}
use Rattle.std.specs.Cmp.{IsTotalOrder}
use Rattle.std.specs.FinMap.{FinMap, IsAntisymmetric, find, is_sorted, contains_key-keys}
use Rattle.std.specs.FinMap as fin
use Rattle.nd_map.specs.Counts.{Counts, Number, nil, integers, at as number_at, none as no_counts, entries, keys_of, has_key, or_else, of_entries, at-of_entries, entries-of_entries, same, at-absent, at-on_keys}
use Rattle.nd_paths.specs.Point.{point_exact}
use Rattle.nd_paths.specs.declared.point.Pointstamp.{Pointstamp}
use Rattle.nd_delta.specs.Delta.{DeltaValue, none as no_change, at as in_change, entries as listed, points_of, has_point, at-absent as in_absent}
use Rattle.nd_vertex.specs.Items.{item_exact}
use Rattle.nd_processor.specs.Keys.{value_at_exact, sink_exact}
use Rattle.nd_processor.specs.State.{ProcessorState, idle, items_at}
use Rattle.nd_protocol.specs.State.{ClusterState, processor, view}
use Rattle.nd_steps.specs.Places.{Place, place_at, view_of, place_cmp, place_total, place_exact}
use Rattle.nd_steps.specs.declared.slot.Slot.{Slot}
use Rattle.nd_steps.specs.declared.slot.Slot.TheVariants.{Records, Request, Token, State, Sink, Unsent}
use Rattle.nd_steps.specs.Integers.{standing, IsThere, places_of_processor, places_of, difference}
use Rattle.nd_steps.specs.Slots.{from_request, from_epoch, stands}
use Rattle.nd_steps.proofs.PlacesLemmas.{there_where, slot_there}
use Rattle.nd_steps.proofs.AlikeLemmas.{same_key}
use Rattle.nd_map.specs.Cases.{zero_or_not}
use Rattle.std.proofs.lemmas.Bool.{or_left, or_right}

-- ---- tests of lists

module _ {Y : Type 0} (p : Y → Bool) where
  pub on_left : (xs ys : List Y) → list_any p xs ≡ true → list_any p (xs ++ ys) ≡ true
  on_left xs ys h = list_any-append p xs ys ∙ or_left (list_any p xs) (list_any p ys) h

  pub on_right : (xs ys : List Y) → list_any p ys ≡ true → list_any p (xs ++ ys) ≡ true
  on_right xs ys h = list_any-append p xs ys ∙ or_right (list_any p xs) (list_any p ys) h

  in_flat : {X : Type 0} (f : ℕ × X → List Y) (n : ℕ) (xs : List X) (i : ℕ) (d : X) → i < length xs → list_any p (f (n + i, get_or xs i d)) ≡ true → list_any p (flat_map f (enumerate_from n xs)) ≡ true
  in_flat f n [] i d lt h = absurd (omega (arith, lt))
  in_flat f n (x ∷ xs) zero d lt h =
      let e : n + 0 ≡ n = omega arith in
      on_left (f (n, x)) (flat_map f (enumerate_from (n + 1) xs)) (ap (λ m. list_any p (f (m, x))) (sym e) ∙ h)
  in_flat f n (x ∷ xs) (suc i) d lt h =
      let e : n + suc i ≡ n + 1 + i = omega arith in
      on_right (f (n, x)) (flat_map f (enumerate_from (n + 1) xs)) (in_flat f (n + 1) xs i d (omega (arith, lt)) (ap (λ m. list_any p (f (m, get_or xs i d))) (sym e) ∙ h))

  pub in_flat_at : {X : Type 0} (f : ℕ × X → List Y) (xs : List X) (i : ℕ) (d : X) → i < length xs → list_any p (f (i, get_or xs i d)) ≡ true → list_any p (flat_map f (enumerate_from 0 xs)) ≡ true
  in_flat_at f xs i d lt h =
      let e : 0 + i ≡ i = omega arith in
      in_flat f 0 xs i d lt (ap (λ m. list_any p (f (m, get_or xs i d))) e ∙ h)

-- if a key is listed, so is its image
carried : {K Y E : Type 0} {R : K → K → Ordering} {S : Y → Y → Ordering} (tells : IsAntisymmetric R) (o : IsTotalOrder S) (f : K → Y) (g : E → K) (q : K) (es : List E)
    → list_any (eq_by_cmp R q) (map g es) ≡ true → list_any (eq_by_cmp S (f q)) (map (λ e. f (g e)) es) ≡ true
carried tells o f g q [] h = h
carried {R = R} {S = S} tells o f g q (e ∷ es) h =
    elim (eq_by_cmp R q (g e)) as (λ b. eq_by_cmp R q (g e) ≡ b → (b || list_any (eq_by_cmp R q) (map g es)) ≡ true → (eq_by_cmp S (f q) (f (g e)) || list_any (eq_by_cmp S (f q)) (map (λ e. f (g e)) es)) ≡ true) [
      | true ↦ λ t h. or_left (eq_by_cmp S (f q) (f (g e))) _ (ap (λ k. eq_by_cmp S (f q) (f k)) (sym (tells_apart tells q (g e) t)) ∙ same_key o (f q))
      | false ↦ λ t h. or_right (eq_by_cmp S (f q) (f (g e))) _ (carried {S = S} tells o f g q es h)
    ] refl h

itself : {K : Type 0} (ks : List K) → map (λ k. k) ks ≡ ks
itself [] = refl
itself (k ∷ ks) = ap (λ x. k ∷ x) (itself ks)

carried_keys : {K Y : Type 0} {R : K → K → Ordering} {S : Y → Y → Ordering} (tells : IsAntisymmetric R) (o : IsTotalOrder S) (f : K → Y) (q : K) (ks : List K)
    → list_any (eq_by_cmp R q) ks ≡ true → list_any (eq_by_cmp S (f q)) (map f ks) ≡ true
carried_keys {R = R} tells o f q ks h = carried tells o f (λ k. k) q ks (ap (list_any (eq_by_cmp R q)) (itself ks) ∙ h)

-- ---- integers other than 0 are listed

in_entries : {K X : Type 0} {R : K → K → Ordering} {N : Number X} (m : Counts R N) (q : K) → number_at m q ≢ nil N → has_key R q (keys_of (entries m)) ≡ true
in_entries {R = R} m q some = elim (has_key R q (keys_of (entries m))) as (λ b. has_key R q (keys_of (entries m)) ≡ b → b ≡ true) [
  | true ↦ λ t. refl
  | false ↦ λ t. absurd (some (at-absent m q t))
] refl

in_points : (m : DeltaValue) (x : Pointstamp) → in_change m x ≢ pos 0 → has_point x (points_of (listed m)) ≡ true
in_points m x some = elim (has_point x (points_of (listed m))) as (λ b. has_point x (points_of (listed m)) ≡ b → b ≡ true) [
  | true ↦ λ t. refl
  | false ↦ λ t. absurd (some (in_absent m x t))
] refl

is_there : {X : Type 0} (x : Option X) → x ≢ None → is_some x ≡ true
is_there None some = absurd (some refl)
is_there (Some v) some = refl

in_keys : {K X : Type 0} {R : K → K → Ordering} (m : FinMap R X) (q : K) → fin.get m q ≢ None → list_any (eq_by_cmp R q) (fin.keys m) ≡ true
in_keys m q some = sym (contains_key-keys m q) ∙ is_there (fin.get m q) some

-- ---- the places of a processor, and of a cluster

in_processor : (p : ℕ) (q : ProcessorState) (l : Slot) → stands q l ≢ pos 0 → list_any (eq_by_cmp place_cmp (place_at p l)) (places_of_processor p q) ≡ true
in_processor p q (Records key) some =
    on_left _ (map (λ e. place_at p (Records e.0)) (entries q.records)) _
    (carried value_at_exact place_total (λ k. place_at p (Records k)) (λ e. e.0) key (entries q.records) (in_entries q.records key (λ e. some (ap pos e))))
in_processor p q (Request point) some =
    on_right _ (map (λ e. place_at p (Records e.0)) (entries q.records)) _
    (on_left _ (map (λ x. place_at p (Request x)) (fin.keys q.requests)) _
    (carried_keys point_exact place_total (λ k. place_at p (Request k)) point (fin.keys q.requests) (in_keys q.requests point (λ e. some (ap from_request e)))))
in_processor p q (Token vertex) some =
    on_right _ (map (λ e. place_at p (Records e.0)) (entries q.records)) _
    (on_right _ (map (λ x. place_at p (Request x)) (fin.keys q.requests)) _
    (on_left _ (map (λ e. place_at p (Token e.0)) (fin.entries q.tokens)) _
    (carried exact_unsigned place_total (λ k. place_at p (Token k)) (λ e. e.0) vertex (fin.entries q.tokens) (in_keys q.tokens vertex (λ e. some (ap from_epoch e))))))
in_processor p q (State vertex key) some =
    on_right _ (map (λ e. place_at p (Records e.0)) (entries q.records)) _
    (on_right _ (map (λ x. place_at p (Request x)) (fin.keys q.requests)) _
    (on_right _ (map (λ e. place_at p (Token e.0)) (fin.entries q.tokens)) _
    (on_left _ (flat_map (λ i. map (λ e. place_at p (State i.0 e.0)) (entries i.1)) (enumerate_from 0 q.items)) _
    (in_flat_at (eq_by_cmp place_cmp (place_at p (State vertex key))) (λ i. map (λ e. place_at p (State i.0 e.0)) (entries i.1)) q.items vertex no_counts (slot_there q (State vertex key) some)
    (carried item_exact place_total (λ k. place_at p (State vertex k)) (λ e. e.0) key (entries (items_at q vertex)) (in_entries (items_at q vertex) key some))))))
in_processor p q (Sink key) some =
    on_right _ (map (λ e. place_at p (Records e.0)) (entries q.records)) _
    (on_right _ (map (λ x. place_at p (Request x)) (fin.keys q.requests)) _
    (on_right _ (map (λ e. place_at p (Token e.0)) (fin.entries q.tokens)) _
    (on_right _ (flat_map (λ i. map (λ e. place_at p (State i.0 e.0)) (entries i.1)) (enumerate_from 0 q.items)) _
    (on_left _ (map (λ e. place_at p (Sink e.0)) (entries q.sinks)) _
    (carried sink_exact place_total (λ k. place_at p (Sink k)) (λ e. e.0) key (entries q.sinks) (in_entries q.sinks key (λ e. some (ap pos e))))))))
in_processor p q (Unsent point) some =
    on_right _ (map (λ e. place_at p (Records e.0)) (entries q.records)) _
    (on_right _ (map (λ x. place_at p (Request x)) (fin.keys q.requests)) _
    (on_right _ (map (λ e. place_at p (Token e.0)) (fin.entries q.tokens)) _
    (on_right _ (flat_map (λ i. map (λ e. place_at p (State i.0 e.0)) (entries i.1)) (enumerate_from 0 q.items)) _
    (on_right _ (map (λ e. place_at p (Sink e.0)) (entries q.sinks)) _
    (carried point_exact place_total (λ k. place_at p (Unsent k)) (λ e. e.0) point (listed q.unsent) (in_points q.unsent point some))))))

abbrev listed_processor : ℕ × ProcessorState → List Place
listed_processor i = places_of_processor i.0 i.1

abbrev listed_view : ℕ × DeltaValue → List Place
listed_view i = map (λ e. view_of i.0 e.0) (listed i.1)

-- a place whose integer is not 0 is listed
listed_where : (s : ClusterState) (k : Place) → standing s k ≢ pos 0 → IsThere s k → has_key place_cmp k (places_of s) ≡ true
listed_where s (place_at p l) some there =
    on_left (eq_by_cmp place_cmp (place_at p l)) (flat_map listed_processor (enumerate_from 0 s.processors)) (flat_map listed_view (enumerate_from 0 s.views))
    (in_flat_at (eq_by_cmp place_cmp (place_at p l)) listed_processor s.processors p idle there.0 (in_processor p (processor s p) l some))
listed_where s (view_of q x) some there =
    on_right (eq_by_cmp place_cmp (view_of q x)) (flat_map listed_processor (enumerate_from 0 s.processors)) (flat_map listed_view (enumerate_from 0 s.views))
    (in_flat_at (eq_by_cmp place_cmp (view_of q x)) listed_view s.views q no_change there
    (carried point_exact place_total (view_of q) (λ e. e.0) x (listed (view s q)) (in_points (view s q) x some)))

pub in_places : (s : ClusterState) (k : Place) → standing s k ≢ pos 0 → has_key place_cmp k (places_of s) ≡ true
in_places s k some = listed_where s k some (there_where s k some)

unlisted : (s : ClusterState) (k : Place) → has_key place_cmp k (places_of s) ≡ false → standing s k ≡ pos 0
unlisted s k e = elim (zero_or_not (standing s k)) [
  | inl z ↦ z
  | inr some ↦ absurd (true≢false (sym (in_places s k some) ∙ e))
]

less_listed : (b c : Bool) (x y : ℤ) → (b ≡ false → x ≡ pos 0) → (c ≡ false → y ≡ pos 0) → cond (b || c) (y -ℤ x) (pos 0) ≡ y -ℤ x
less_listed true c x y p q = refl
less_listed false true x y p q = refl
less_listed false false x y p q = rw (p refl, q refl) refl

at-difference : (s t : ClusterState) (k : Place) → number_at (difference s t) k ≡ standing t k -ℤ standing s k
unfolding difference
at-difference s t k =
    at-on_keys integers place_total place_exact (places_of s ++ places_of t) (λ j. standing t j -ℤ standing s j) k
    ∙ ap (λ b. cond b (standing t k -ℤ standing s k) (pos 0)) (list_any-append (eq_by_cmp place_cmp k) (places_of s) (places_of t))
    ∙ less_listed (has_key place_cmp k (places_of s)) (has_key place_cmp k (places_of t)) (standing s k) (standing t k) (unlisted s k) (unlisted t k)

-- a list that has, in order, what t has more than s at each place has the entries of the difference
pub difference-listed : (s t : ClusterState) (es : List (Place × ℤ)) → T (is_sorted place_cmp es) → ((k : Place) → find place_cmp k es ≢ Some (pos 0)) → ((k : Place) → or_else (pos 0) (find place_cmp k es) ≡ standing t k -ℤ standing s k)
    → entries (difference s t) ≡ es
difference-listed s t es in_order some found =
    let e : of_entries {N = integers} place_total es ≡ difference s t
    = same place_total place_exact _ _ (λ k. at-of_entries integers place_total place_exact es k ∙ found k ∙ sym (at-difference s t k)) in
    sym (ap entries e) ∙ entries-of_entries integers place_total place_exact es in_order some
