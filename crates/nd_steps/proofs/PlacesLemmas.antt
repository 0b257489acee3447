-- The integers at the places of a state after another integer is put at one place, and states of one shape.
--     standing-put, standing-put_other     the integer at this place, and at each other place
--     SameShape, shape-put                 states that differ in their maps alone
--     same_state                           states of one shape with the same integer everywhere are equal
use Rattle.std.proofs.Common.{◌≡◌, ◌≢◌, ◌<◌, ◌+◌, ◌⊎◌, ℕ, zero, suc, ℤ, pos, negsuc, ◌≤ℤ◌, true, false, cond, List, Option, Some, None, length, get_or, set, refl, sym, ap, ◌∙◌, arith, inl, inr, true≢false}
use Rattle.std.proofs.lemmas.Int.{ints}
use Rattle.std.proofs.lemmas.Bool.{cases_lt, cases_eq}
use Rattle.std.proofs.lemmas.Cmp.{nat_cmp_total}
use Rattle.std.proofs.lemmas.List.{get_or-set_same, get_or-set_other, get_or_past, set_past, length-set, ext_get_or}
use Rattle.std.proofs.lemmas.Map.Lookups.{exact_unsigned}
use Rattle.std.proofs.lemmas.Map.Views.{tells_apart}
use Rattle.std.specs.declared.cmp.Ordering.{Ordering}
use Rattle.std.specs.Ordering.{nat_cmp, eq_by_cmp}
use Rattle.std.specs.Cmp.{IsTotalOrder}
use Rattle.std.specs.FinMap.{IsAntisymmetric, get-insert, get-remove, get-empty, same_map}
use Rattle.std.specs.FinMap as fin
use Rattle.nd_map.specs.Counts.{Counts, Number, natural, at as number_at, set as set_number, at-set, same, none as no_counts, at-none, naturals, integers}
use Rattle.nd_paths.specs.Point.{point_cmp, point_total, point_exact}
use Rattle.nd_paths.specs.declared.point.Pointstamp.{Pointstamp}
use Rattle.nd_delta.specs.Delta.{at as in_change, set as with_entry, at-set as in_change-set, same as same_change, none as no_change, at-none as in_no_change}
use Rattle.nd_vertex.specs.Items.{Items, item_cmp, item_total, item_exact}
use Rattle.nd_vertex.specs.Table.{is_zero}
use Rattle.nd_vertex.specs.declared.key.ItemKey.{ItemKey}
use Rattle.nd_processor.specs.Keys.{value_at_cmp, sink_cmp, value_at_total, value_at_exact, sink_total, sink_exact}
use Rattle.nd_processor.specs.State.{ProcessorState, Requests, idle, items_at}
use Rattle.nd_protocol.specs.State.{ClusterState, processor, view}
use Rattle.nd_steps.specs.Places.{Place, place_at, view_of, place_cmp, place_total, place_exact}
use Rattle.nd_steps.specs.declared.slot.Slot.{Slot}
use Rattle.nd_steps.specs.declared.slot.Slot.TheVariants.{Records, Request, Token, State, Sink, Unsent}
use Rattle.nd_steps.proofs.AlikeLemmas.{same_key, other_key}
use Rattle.nd_steps.specs.Slots.{from_request, from_epoch, with_request, with_epoch, stands, puts, SlotIsThere, SlotMay}
use Rattle.nd_steps.specs.Integers.{standing, put_at, IsThere, MayStand}

-- ---- another integer at one place of a processor

natural_kept : (z : ℤ) → pos 0 ≤ℤ z → pos (natural z) ≡ z
natural_kept (pos n) h = refl
natural_kept (negsuc n) h = absurd (omega (arith, ints, h))

module _ {K X : Type 0} {R : K → K → Ordering} {N : Number X} (o : IsTotalOrder R) (tells : IsAntisymmetric R) where
  at-set_here : (m : Counts R N) (k : K) (v : X) → number_at (set_number o m k v) k ≡ v
  at-set_here m k v = at-set o m k v k ∙ ap (λ b. cond b v (number_at m k)) (same_key o k)

  at-set_other : (m : Counts R N) (k : K) (v : X) (q : K) → q ≢ k → number_at (set_number o m k v) q ≡ number_at m q
  at-set_other m k v q ne = at-set o m k v q ∙ ap (λ b. cond b v (number_at m q)) (other_key tells q k ne)

request_here : (m : Requests) (x : Pointstamp) (z : ℤ) → (z ≡ pos 0) ⊎ (z ≡ pos 1) → from_request (fin.get (with_request m x z) x) ≡ z
request_here m x z (inl e) =
    ap (λ w. from_request (fin.get (with_request m x w) x)) e
    ∙ ap from_request (get-remove point_total m x x ∙ ap (λ b. cond b None (fin.get m x)) (same_key point_total x))
    ∙ sym e
request_here m x z (inr e) =
    ap (λ w. from_request (fin.get (with_request m x w) x)) e
    ∙ ap from_request (get-insert point_total m x tt x ∙ ap (λ b. cond b (Some tt) (fin.get m x)) (same_key point_total x))
    ∙ sym e

request_other : (m : Requests) (k : Pointstamp) (z : ℤ) (x : Pointstamp) → x ≢ k → fin.get (with_request m k z) x ≡ fin.get m x
request_other m k z x ne = elim (is_zero z) as (λ b. fin.get (cond b (fin.remove m k) (fin.insert m k tt)) x ≡ fin.get m x) [
  | true ↦ get-remove point_total m k x ∙ ap (λ b. cond b None (fin.get m x)) (other_key point_exact x k ne)
  | false ↦ get-insert point_total m k tt x ∙ ap (λ b. cond b (Some tt) (fin.get m x)) (other_key point_exact x k ne)
]

epoch_here : (m : fin.FinMap nat_cmp ℕ) (v : ℕ) (z : ℤ) → pos 0 ≤ℤ z → from_epoch (fin.get (with_epoch m v z) v) ≡ z
epoch_here m v (pos zero) h = ap from_epoch (get-remove nat_cmp_total m v v ∙ ap (λ b. cond b None (fin.get m v)) (same_key nat_cmp_total v))
epoch_here m v (pos (suc n)) h =
    let more : n + 1 ≡ suc n = omega arith in
    ap from_epoch (get-insert nat_cmp_total m v n v ∙ ap (λ b. cond b (Some n) (fin.get m v)) (same_key nat_cmp_total v)) ∙ ap pos more
epoch_here m v (negsuc n) h = absurd (omega (arith, ints, h))

epoch_other : (m : fin.FinMap nat_cmp ℕ) (v : ℕ) (z : ℤ) (w : ℕ) → w ≢ v → fin.get (with_epoch m v z) w ≡ fin.get m w
epoch_other m v (pos zero) w ne = get-remove nat_cmp_total m v w ∙ ap (λ b. cond b None (fin.get m w)) (other_key exact_unsigned w v ne)
epoch_other m v (pos (suc n)) w ne = get-insert nat_cmp_total m v n w ∙ ap (λ b. cond b (Some n) (fin.get m w)) (other_key exact_unsigned w v ne)
epoch_other m v (negsuc n) w ne = refl

pub stands-puts : (q : ProcessorState) (l : Slot) (z : ℤ) → SlotIsThere q l → SlotMay l z → stands (puts q l z) l ≡ z
stands-puts q (Records key) z there may = ap pos (at-set_here value_at_total value_at_exact q.records key (natural z)) ∙ natural_kept z may
stands-puts q (Request point) z there may = request_here q.requests point z may
stands-puts q (Token vertex) z there may = epoch_here q.tokens vertex z may
stands-puts q (State vertex key) z there may =
    ap (λ (m : Items). number_at m key) (get_or-set_same q.items vertex _ no_counts there) ∙ at-set_here item_total item_exact (items_at q vertex) key z
stands-puts q (Sink key) z there may = ap pos (at-set_here sink_total sink_exact q.sinks key (natural z)) ∙ natural_kept z may
stands-puts q (Unsent point) z there may = in_change-set q.unsent point z point ∙ ap (λ b. cond b z (in_change q.unsent point)) (same_key point_total point)

item_other : (q : ProcessorState) (v : ℕ) (k : ItemKey) (z : ℤ) (w : ℕ) (j : ItemKey) → v < length q.items → State w j ≢ State v k
    → number_at (get_or (set q.items v (set_number item_total (items_at q v) k z)) w no_counts) j ≡ number_at (items_at q w) j
item_other q v k z w j there ne = elim (cases_eq w v) [
  | inl e ↦
      ap (λ n. number_at (get_or (set q.items v (set_number item_total (items_at q v) k z)) n no_counts) j) e
      ∙ ap (λ (m : Items). number_at m j) (get_or-set_same q.items v _ no_counts there)
      ∙ at-set_other item_total item_exact (items_at q v) k z j (λ d. ne (λ i. State (e i) (d i)))
      ∙ ap (λ n. number_at (items_at q n) j) (sym e)
  | inr n ↦ ap (λ (m : Items). number_at m j) (get_or-set_other q.items v w _ no_counts n)
]

pub stands-puts_other : (q : ProcessorState) (l : Slot) (z : ℤ) (m : Slot) → SlotIsThere q l → m ≢ l → stands (puts q l z) m ≡ stands q m
stands-puts_other q (Records key) z (Records k) there ne = ap pos (at-set_other value_at_total value_at_exact q.records key (natural z) k (λ e. ne (ap Records e)))
stands-puts_other q (Request point) z (Request x) there ne = ap from_request (request_other q.requests point z x (λ e. ne (ap Request e)))
stands-puts_other q (Token vertex) z (Token v) there ne = ap from_epoch (epoch_other q.tokens vertex z v (λ e. ne (ap Token e)))
stands-puts_other q (State vertex key) z (State v k) there ne = item_other q vertex key z v k there ne
stands-puts_other q (Sink key) z (Sink k) there ne = ap pos (at-set_other sink_total sink_exact q.sinks key (natural z) k (λ e. ne (ap Sink e)))
stands-puts_other q (Unsent point) z (Unsent x) there ne = in_change-set q.unsent point z x ∙ ap (λ b. cond b z (in_change q.unsent x)) (other_key point_exact x point (λ e. ne (ap Unsent e)))
stands-puts_other q l z m there ne = refl

-- ---- another integer at one place of a cluster

pub standing-put : (s : ClusterState) (k : Place) (z : ℤ) → IsThere s k → MayStand k z → standing (put_at s k z) k ≡ z
standing-put s (place_at p l) z there may =
    ap (λ q. stands q l) (get_or-set_same s.processors p (puts (processor s p) l z) idle there.0) ∙ stands-puts (processor s p) l z there.1 may
standing-put s (view_of q x) z there may =
    ap (λ c. in_change c x) (get_or-set_same s.views q (with_entry (view s q) x z) no_change there)
    ∙ in_change-set (view s q) x z x ∙ ap (λ b. cond b z (in_change (view s q) x)) (same_key point_total x)

other_of_slot : (s : ClusterState) (p : ℕ) (l : Slot) (z : ℤ) (n : ℕ) (m : Slot) → IsThere s (place_at p l) → place_at n m ≢ place_at p l
    → stands (get_or (set s.processors p (puts (processor s p) l z)) n idle) m ≡ stands (processor s n) m
other_of_slot s p l z n m there ne =
    elim (cases_eq n p) [
      | inl e ↦
          ap (λ i. stands (get_or (set s.processors p (puts (processor s p) l z)) i idle) m) e
          ∙ ap (λ q. stands q m) (get_or-set_same s.processors p (puts (processor s p) l z) idle there.0)
          ∙ stands-puts_other (processor s p) l z m there.1 (λ d. ne (λ i. place_at (e i) (d i)))
          ∙ ap (λ i. stands (processor s i) m) (sym e)
      | inr o ↦ ap (λ q. stands q m) (get_or-set_other s.processors p n (puts (processor s p) l z) idle o)
    ]

other_of_view : (s : ClusterState) (q : ℕ) (x : Pointstamp) (z : ℤ) (n : ℕ) (y : Pointstamp) → q < length s.views → view_of n y ≢ view_of q x
    → in_change (get_or (set s.views q (with_entry (view s q) x z)) n no_change) y ≡ in_change (view s n) y
other_of_view s q x z n y there ne = elim (cases_eq n q) [
  | inl e ↦
      ap (λ i. in_change (get_or (set s.views q (with_entry (view s q) x z)) i no_change) y) e
      ∙ ap (λ c. in_change c y) (get_or-set_same s.views q (with_entry (view s q) x z) no_change there)
      ∙ in_change-set (view s q) x z y ∙ ap (λ b. cond b z (in_change (view s q) y)) (other_key point_exact y x (λ d. ne (λ i. view_of (e i) (d i))))
      ∙ ap (λ i. in_change (view s i) y) (sym e)
  | inr o ↦ ap (λ c. in_change c y) (get_or-set_other s.views q n (with_entry (view s q) x z) no_change o)
]

pub standing-put_other : (s : ClusterState) (k : Place) (z : ℤ) (j : Place) → IsThere s k → j ≢ k → standing (put_at s k z) j ≡ standing s j
standing-put_other s (place_at p l) z (place_at n m) there ne = other_of_slot s p l z n m there ne
standing-put_other s (place_at p l) z (view_of n y) there ne = refl
standing-put_other s (view_of q x) z (place_at n m) there ne = refl
standing-put_other s (view_of q x) z (view_of n y) there ne = other_of_view s q x z n y there ne

-- the integer at this place and at each other place
pub standing-put_at : (s : ClusterState) (k : Place) (z : ℤ) (j : Place) → IsThere s k → MayStand k z → standing (put_at s k z) j ≡ cond (eq_by_cmp place_cmp j k) z (standing s j)
standing-put_at s k z j there may = elim (eq_by_cmp place_cmp j k) as (λ b. eq_by_cmp place_cmp j k ≡ b → standing (put_at s k z) j ≡ cond b z (standing s j)) [
  | true ↦ λ t. ap (standing (put_at s k z)) (tells_apart place_exact j k t) ∙ standing-put s k z there may
  | false ↦ λ t. standing-put_other s k z j there (λ e. true≢false (sym (same_key place_total k) ∙ ap (λ i. eq_by_cmp place_cmp i k) (sym e) ∙ t))
] refl

-- ---- states of one shape

pub record SameShape (s t : ClusterState) : Type 0 where
  pub graph : s.graph ≡ t.graph
  pub processors : length s.processors ≡ length t.processors
  pub items : (p : ℕ) → length (processor s p).items ≡ length (processor t p).items
  pub views : length s.views ≡ length t.views
  pub queues : s.queues ≡ t.queues

pub shape-itself : (s : ClusterState) → SameShape s s
shape-itself s = record { graph = refl; processors = refl; items = λ p. refl; views = refl; queues = refl }

pub shape-turned : (s t : ClusterState) → SameShape s t → SameShape t s
shape-turned s t h = record { graph = sym h.graph; processors = sym h.processors; items = λ p. sym (h.items p); views = sym h.views; queues = sym h.queues }

pub shape-through : (s t u : ClusterState) → SameShape s t → SameShape t u → SameShape s u
shape-through s t u h g = record {
  graph = h.graph ∙ g.graph;
  processors = h.processors ∙ g.processors;
  items = λ p. h.items p ∙ g.items p;
  views = h.views ∙ g.views;
  queues = h.queues ∙ g.queues;
}

pub items-puts : (q : ProcessorState) (l : Slot) (z : ℤ) → length (puts q l z).items ≡ length q.items
items-puts q (State vertex key) z = length-set q.items vertex _
items-puts q l z = refl

kept_at : {X : Type 0} (f : X → ℕ) (xs : List X) (p : ℕ) (y d : X) → f y ≡ f (get_or xs p d) → (n : ℕ) → f (get_or (set xs p y) n d) ≡ f (get_or xs n d)
kept_at f xs p y d h n = elim (cases_lt p (length xs)) [
  | inl lt ↦ elim (cases_eq n p) [
    | inl e ↦ ap (λ m. f (get_or (set xs p y) m d)) e ∙ ap f (get_or-set_same xs p y d lt) ∙ h ∙ ap (λ m. f (get_or xs m d)) (sym e)
    | inr o ↦ ap f (get_or-set_other xs p n y d o)
  ]
  | inr past ↦ ap (λ ys. f (get_or ys n d)) (set_past xs p y past)
]

pub shape-put : (s : ClusterState) (k : Place) (z : ℤ) → SameShape (put_at s k z) s
shape-put s (place_at p l) z = record {
  graph = refl;
  processors = length-set s.processors p (puts (processor s p) l z);
  items = kept_at (λ (q : ProcessorState). length q.items) s.processors p (puts (processor s p) l z) idle (items-puts (processor s p) l z);
  views = refl;
  queues = refl;
}
shape-put s (view_of q x) z = record {
  graph = refl;
  processors = refl;
  items = λ p. refl;
  views = length-set s.views q (with_entry (view s q) x z);
  queues = refl;
}

-- one has the map of a key if the other has it
slot_alike : (q r : ProcessorState) (l : Slot) → length q.items ≡ length r.items → SlotIsThere q l → SlotIsThere r l
slot_alike q r (State vertex key) e there = rw (sym e) there
slot_alike q r l e there = tt

pub there_alike : (s t : ClusterState) (k : Place) → SameShape s t → IsThere s k → IsThere t k
there_alike s t (place_at p l) h there = (rw (sym h.processors) there.0, slot_alike (processor s p) (processor t p) l (h.items p) there.1)
there_alike s t (view_of q point) h there = rw (sym h.views) there

-- ---- states with the same integer everywhere

number_same : (m n : ℕ) → pos m ≡ pos n → m ≡ n
number_same m n e = cc

request_same : (a b : Option (Unit {0})) → from_request a ≡ from_request b → a ≡ b
request_same None None e = refl
request_same None (Some u) e = absurd (omega (arith, ints, e))
request_same (Some u) None e = absurd (omega (arith, ints, e))
request_same (Some u) (Some v) e = refl

pub epoch_same : (a b : Option ℕ) → from_epoch a ≡ from_epoch b → a ≡ b
epoch_same None None e = refl
epoch_same None (Some n) e = absurd (omega (arith, ints, e))
epoch_same (Some m) None e = absurd (omega (arith, ints, e))
epoch_same (Some m) (Some n) e = let d : m ≡ n = omega (arith, ints, e) in ap Some d

same_processor : (q r : ProcessorState) → length q.items ≡ length r.items → ((l : Slot) → stands q l ≡ stands r l) → q ≡ r
same_processor q r len h =
    let records : q.records ≡ r.records = same value_at_total value_at_exact q.records r.records (λ k. number_same _ _ (h (Records k))) in
    let requests : q.requests ≡ r.requests = same_map point_total point_exact q.requests r.requests (λ x. request_same _ _ (h (Request x))) in
    let tokens : q.tokens ≡ r.tokens = same_map nat_cmp_total exact_unsigned q.tokens r.tokens (λ v. epoch_same _ _ (h (Token v))) in
    let items : q.items ≡ r.items = ext_get_or no_counts q.items r.items len (λ v lt. same item_total item_exact (items_at q v) (items_at r v) (λ k. h (State v k))) in
    let sinks : q.sinks ≡ r.sinks = same sink_total sink_exact q.sinks r.sinks (λ k. number_same _ _ (h (Sink k))) in
    let unsent : q.unsent ≡ r.unsent = same_change q.unsent r.unsent (λ x. h (Unsent x)) in
    λ i. record { records = records i; requests = requests i; tokens = tokens i; items = items i; sinks = sinks i; unsent = unsent i }

pub same_state : (s t : ClusterState) → SameShape s t → ((k : Place) → standing s k ≡ standing t k) → s ≡ t
same_state s t shape h =
    let processors : s.processors ≡ t.processors
    = ext_get_or idle s.processors t.processors shape.processors (λ p lt. same_processor (processor s p) (processor t p) (shape.items p) (λ l. h (place_at p l))) in
    let views : s.views ≡ t.views = ext_get_or no_change s.views t.views shape.views (λ q lt. same_change (view s q) (view t q) (λ x. h (view_of q x))) in
    λ i. record { graph = shape.graph i; processors = processors i; views = views i; queues = shape.queues i }

-- ---- the integer at a place is allowed there, and its map exists

request_may : (x : Option (Unit {0})) → (from_request x ≡ pos 0) ⊎ (from_request x ≡ pos 1)
request_may None = inl refl
request_may (Some u) = inr refl

epoch_may : (x : Option ℕ) → pos 0 ≤ℤ from_epoch x
epoch_may None = omega (arith, ints)
epoch_may (Some n) = omega (arith, ints)

count_may : (n : ℕ) → pos 0 ≤ℤ pos n
count_may n = omega (arith, ints)

may_be : (q : ProcessorState) (l : Slot) → SlotMay l (stands q l)
may_be q (Records key) = count_may _
may_be q (Request point) = request_may _
may_be q (Token vertex) = epoch_may _
may_be q (State vertex key) = tt
may_be q (Sink key) = count_may _
may_be q (Unsent point) = tt

pub may_stand : (s : ClusterState) (k : Place) → MayStand k (standing s k)
may_stand s (place_at p l) = may_be (processor s p) l
may_stand s (view_of q point) = tt

pub idle_stands : (l : Slot) → stands idle l ≡ pos 0
idle_stands (Records key) = ap pos (at-none value_at_cmp naturals key)
idle_stands (Request point) = ap from_request (get-empty point_cmp point)
idle_stands (Token vertex) = ap from_epoch (get-empty nat_cmp vertex)
idle_stands (State vertex key) = at-none item_cmp integers key
idle_stands (Sink key) = ap pos (at-none sink_cmp naturals key)
idle_stands (Unsent point) = in_no_change point

pub slot_there : (q : ProcessorState) (l : Slot) → stands q l ≢ pos 0 → SlotIsThere q l
slot_there q (State vertex key) some = elim (cases_lt vertex (length q.items)) [
  | inl lt ↦ lt
  | inr past ↦ absurd (some (ap (λ (m : Items). number_at m key) (get_or_past q.items vertex no_counts past) ∙ at-none item_cmp integers key))
]
slot_there q l some = tt

pub there_where : (s : ClusterState) (k : Place) → standing s k ≢ pos 0 → IsThere s k
there_where s (place_at p l) some = elim (cases_lt p (length s.processors)) [
  | inl lt ↦ (lt, slot_there (processor s p) l some)
  | inr past ↦ absurd (some (ap (λ q. stands q l) (get_or_past s.processors p idle past) ∙ idle_stands l))
]
there_where s (view_of q x) some = elim (cases_lt q (length s.views)) [
  | inl lt ↦ lt
  | inr past ↦ absurd (some (ap (λ c. in_change c x) (get_or_past s.views q no_change past) ∙ in_no_change x))
]
