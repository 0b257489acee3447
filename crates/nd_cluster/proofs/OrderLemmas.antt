-- The candidates from a turn on are in order and complete, and the choice among them is the first enabled candidate.
use Rattle.std.proofs.Common.{◌≡◌, ◌≢◌, ◌<◌, ◌≤◌, ◌+◌, ◌-◌, ◌%◌, inl, inr, ℕ, zero, suc, ℤ, Bool, true, false, cond, T, List, [], ◌∷◌, ◌++◌, map, length, Option, Some, None, refl, sym, ap, subst, ◌∙◌, arith, mod-lt, mod-eq_of_lt, Ordering, Less}
use Rattle.std.proofs.Math.Nat.{add-mod_right}
use Rattle.std.specs.Prelude.{◌↔◌, ◌||◌, All, Contains, IsTrue, is_some}
use Rattle.std.specs.List.{flat_map, range_with_len}
use Rattle.std.specs.Ordering.{eq_by_cmp, is_eq}
use Rattle.std.specs.Cmp.{IsTotalOrder}
use Rattle.std.specs.FinMap.{is_sorted}
use Rattle.std.specs.FinMap as fin
use Rattle.std.specs.FinMap.Entries.{below_all}
use Rattle.std.proofs.lemmas.Cmp.{tied_itself}
use Rattle.std.proofs.lemmas.List.Elements.{All-nil, All-cons, All-head, All-tail, All-append, All-map, All-weaker, All-contains, Contains-append_left, Contains-append_right, Contains-append_cases, Contains-push}
use Rattle.nd_map.specs.Cases.{first, second, less}
use Rattle.nd_map.specs.Counts.{entries, entries_listed, at, at-present, keys_of, has_key}
use Rattle.nd_paths.specs.Point.{point_cmp, point_total}
use Rattle.nd_paths.specs.declared.point.Pointstamp.{Pointstamp}
use Rattle.nd_delta.specs.Delta.{DeltaValue, none, size, size-none}
use Rattle.nd_delta.specs.Delta.{entries as updates}
use Rattle.nd_processor.specs.Keys.{value_at_cmp, value_at_total}
use Rattle.nd_processor.specs.declared.key.ValueAt.{ValueAt}
use Rattle.nd_protocol.specs.State.{ClusterState, processor, queue}
use Rattle.nd_protocol.specs.Steps.{record_key, point_at}
use Rattle.nd_protocol.specs.Enabled.{IsEnabled}
use Rattle.nd_protocol.specs.declared.step.Step.{Step}
use Rattle.nd_protocol.specs.declared.step.Step.TheVariants.{Feed, Take, Notice, Release, Send, Broadcast, Receive}
use Rattle.nd_protocol.specs.declared.part.Part.TheVariants.{All as Whole}
use Rattle.nd_cluster.specs.Candidates.{receive_of, receives, takes, notices, broadcast_of, broadcasts, candidates_of, may_run, candidates_if, candidates_among, performer, IsAmong}
use Rattle.nd_cluster.specs.Choice.{from_turn, candidates_from, Chooses}
use Rattle.nd_cluster.specs.Order.{wait, rank, IsListedBefore, ComesFirst, ComesBefore, InOrder, Has, IsOffered, AreInTurn, IsFirst, IsNext, CandidatesAreInTurn, IdleMeansRefused, ChoiceIsFirst}
use Rattle.nd_cluster.specs.Drafted.{take_of, notice_of}
use Rattle.nd_cluster.proofs.CandidatesLemmas.{among_each, performer_there, covers_has, complete_among, complete_from, all_turns}
use Rattle.nd_cluster.proofs.ChoiceLemmas.{none_refused, some_enabled}

-- ---- lists in order

module _ {X : Type 0} (R : X → X → Type 0) where
  in_order_append : (xs ys : List X) → InOrder R xs → InOrder R ys → All (λ x. All (R x) ys) xs → InOrder R (xs ++ ys)
  in_order_append [] ys h k c = k
  in_order_append (x ∷ xs) ys h k c =
      (All-append (R x) xs ys h.0 (All-head (λ z. All (R z) ys) x xs c), in_order_append xs ys h.1 k (All-tail (λ z. All (R z) ys) x xs c))

module _ {X Y : Type 0} (f : X → List Y) where
  all_each : (P : Y → Type 0) (xs : List X) → All (λ x. All P (f x)) xs → All P (flat_map f xs)
  all_each P [] h = All-nil P
  all_each P (x ∷ xs) h = All-append P (f x) (flat_map f xs) (All-head (λ x. All P (f x)) x xs h) (all_each P xs (All-tail (λ x. All P (f x)) x xs h))

  module _ (Q : X → X → Type 0) (R : Y → Y → Type 0) (apart : (x y : X) → Q x y → All (λ a. All (R a) (f y)) (f x)) where
    apart_each : (x : X) (ys : List X) → All (Q x) ys → All (λ a. All (R a) (flat_map f ys)) (f x)
    apart_each x [] h = λ k d lt. All-nil (R _)
    apart_each x (y ∷ ys) h = λ k d lt.
        All-append (R _) (f y) (flat_map f ys) (apart x y (All-head (Q x) y ys h) k d lt) (apart_each x ys (All-tail (Q x) y ys h) k d lt)

    -- if each list is in order, and the lists are, so is the joined list
    in_order_each : ((x : X) → InOrder R (f x)) → (xs : List X) → InOrder Q xs → InOrder R (flat_map f xs)
    in_order_each each [] h = tt
    in_order_each each (x ∷ xs) h = in_order_append R (f x) (flat_map f xs) (each x) (in_order_each each xs h.1) (apart_each x xs h.0)

all_range : (P : ℕ → Type 0) (k n : ℕ) → ((j : ℕ) → k ≤ j → j < k + n → P j) → All P (range_with_len k n)
all_range P k zero h = All-nil P
all_range P k (suc n) h = All-cons P k (range_with_len (k + 1) n) (h k (omega arith) (omega arith)) (all_range P (k + 1) n (λ j low high. h j (omega (arith, low)) (omega (arith, high))))

in_order_range : (Q : ℕ → ℕ → Type 0) (k n : ℕ) → ((i j : ℕ) → k ≤ i → i < j → j < k + n → Q i j) → InOrder Q (range_with_len k n)
in_order_range Q k zero h = tt
in_order_range Q k (suc n) h = (
  all_range (Q k) (k + 1) n (λ j low high. h k j (omega arith) (omega (arith, low)) (omega (arith, high))),
  in_order_range Q (k + 1) n (λ i j low lt high. h i j (omega (arith, low)) lt (omega (arith, high))),
)

-- ---- the turns

module _ (n r : ℕ) (within : r < n) where
  wait_late : (p : ℕ) → r ≤ p → p < n → (p + n - r) % n ≡ p - r
  wait_late p low high =
      ap (λ k. k % n) (let e : p + n - r ≡ p - r + n = omega (arith, low) in e) ∙ add-mod_right (p - r) n ∙ mod-eq_of_lt (let l : p - r < n = omega (arith, high) in l)

  wait_early : (p : ℕ) → p < r → (p + n - r) % n ≡ p + n - r
  wait_early p lt = mod-eq_of_lt (let l : p + n - r < n = omega (arith, lt, within) in l)

  abbrev Sooner : ℕ → ℕ → Type 0
  Sooner p q = (p + n - r) % n < (q + n - r) % n

  turns_of : InOrder Sooner (range_with_len r (n - r) ++ range_with_len 0 r)
  turns_of =
      in_order_append Sooner (range_with_len r (n - r)) (range_with_len 0 r)
      (in_order_range Sooner r (n - r) (λ i j low lt high.
      let j_below : j < n = omega (arith, high, within) in
      omega (arith, low, lt, wait_late i low (omega (arith, lt, j_below)), wait_late j (omega (arith, low, lt)) j_below)))
      (in_order_range Sooner 0 r (λ i j low lt high.
      let j_below : j < r = omega (arith, high) in
      let i_below : i < r = omega (arith, lt, j_below) in
      omega (arith, lt, wait_early i i_below, wait_early j j_below, within)))
      (all_range (λ p. All (Sooner p) (range_with_len 0 r)) r (n - r) (λ p low high. all_range (Sooner p) 0 r (λ q zeroth lt.
      let p_below : p < n = omega (arith, high, within) in
      let q_below : q < r = omega (arith, lt) in
      omega (arith, low, p_below, q_below, within, wait_late p low p_below, wait_early q q_below))))

  below_of : All (λ p. p < n) (range_with_len r (n - r) ++ range_with_len 0 r)
  below_of =
      All-append (λ p. p < n) (range_with_len r (n - r)) (range_with_len 0 r)
      (all_range (λ p. p < n) r (n - r) (λ p low high. omega (arith, high, within)))
      (all_range (λ p. p < n) 0 r (λ p low high. omega (arith, high, within)))

-- ---- neither of two steps comes before the other twice

less_both : {K : Type 0} (R : K → K → Ordering) → IsTotalOrder R → (a b : K) → R a b ≡ Less → R b a ≡ Less → ⊥
less_both R o a b p q = absurd (cc (o.trans a b a p q, tied_itself o a))

module _ {A : Type 0} where
  listed_both : (x y : Step A) → IsListedBefore x y → IsListedBefore y x → ⊥
  listed_both (Receive from _) (Receive other _) a b = omega (arith, a, b)
  listed_both (Take _ edge t value) (Take _ other u w) a b = less_both value_at_cmp value_at_total (record_key edge t value) (record_key other u w) a b
  listed_both (Notice _ vertex t) (Notice _ other u) a b = less_both point_cmp point_total (point_at vertex t) (point_at other u) a b
  listed_both x y a b = a

  first_both : (x y : Step A) → ComesFirst x y → ComesFirst y x → ⊥
  first_both x y (inl a) (inl b) = omega (arith, a, b)
  first_both x y (inl a) (inr b) = omega (arith, a, b.0)
  first_both x y (inr a) (inl b) = omega (arith, a.0, b)
  first_both x y (inr a) (inr b) = listed_both x y a.1 b.1

  before_both : (n turn : ℕ) (x y : Step A) → ComesBefore n turn x y → ComesBefore n turn y x → ⊥
  before_both n turn x y (inl a) (inl b) = omega (arith, a, b)
  before_both n turn x y (inl a) (inr b) = omega (arith, a, ap (wait n turn) b.0)
  before_both n turn x y (inr a) (inl b) = omega (arith, b, ap (wait n turn) a.0)
  before_both n turn x y (inr a) (inr b) = first_both x y a.1 b.1

-- ---- the candidates of a processor

or_true : (b : Bool) → (b || true) ≡ true
or_true true = refl
or_true false = refl

-- each key of a list of entries is among its keys
key_there : {K X : Type 0} (R : K → K → Ordering) → IsTotalOrder R → (es : List (K × X)) → All (λ e. has_key R e.0 (keys_of es) ≡ true) es
key_there {K} {X} R o [] = All-nil (λ (e : K × X). false ≡ true)
key_there {K} {X} R o (x ∷ es) =
    All-cons (λ (e : K × X). has_key R e.0 (keys_of (x ∷ es)) ≡ true) x es (ap (λ b. b || has_key R x.0 (keys_of es)) (ap is_eq (tied_itself o x.0)))
    (All-weaker (λ (e : K × X). has_key R e.0 (keys_of es) ≡ true) (λ (e : K × X). has_key R e.0 (keys_of (x ∷ es)) ≡ true)
    (λ e h. ap (λ b. eq_by_cmp R e.0 x.0 || b) h ∙ or_true (eq_by_cmp R e.0 x.0)) es (key_there R o es))

is_there : {X : Type 0} (v : Option X) → is_some v ≡ true → v ≢ None
is_there None h = λ _. absurd (cc (h))
is_there (Some x) h = λ e. absurd (cc (e))

module _ (A : Type 0) (s : ClusterState) (p : ℕ) where
  -- the candidates of a rank
  abbrev IsPart : ℕ → Step A → Type 0
  IsPart r x = (performer x ≡ p) × (rank x ≡ r) × Has s x

  received : (from : ℕ) → from < length s.processors → (cs : List DeltaValue) → queue s from p ≡ cs → All (IsPart 0) (receive_of p from cs)
  received from lt [] is = All-nil (IsPart 0)
  received from lt (c ∷ cs) is = All-cons (IsPart 0) (Receive from p) [] (refl, refl, (lt, λ e. absurd (cc (e, is)))) (All-nil (IsPart 0))

  receives_part : All (IsPart 0) (receives s p)
  receives_part =
      all_each (λ from. receive_of p from (queue s from p)) (IsPart 0) (range_with_len 0 (length s.processors))
      (all_range (λ from. All (IsPart 0) (receive_of p from (queue s from p))) 0 (length s.processors) (λ from low high. received from (omega (arith, high)) (queue s from p) refl))

  takes_part : All (IsPart 1) (takes s p)
  takes_part =
      All-map (IsPart 1) (λ (e : ValueAt × ℕ). take_of p e.0) (entries (processor s p).records)
      (λ k d lt. (refl, refl, at-present (processor s p).records _ (key_there value_at_cmp value_at_total (entries (processor s p).records) k d lt)))

  notices_part : All (IsPart 2) (notices s p)
  notices_part =
      All-map (IsPart 2) (λ (e : Pointstamp × Unit {0}). notice_of p e.0) (fin.entries (processor s p).requests)
      (λ k d lt. (refl, refl, is_there _ (fin.contains_key-keys (processor s p).requests _ ∙ key_there point_cmp point_total (fin.entries (processor s p).requests) k d lt)))

  broadcast_part : (es : List (Pointstamp × ℤ)) → updates (processor s p).unsent ≡ es → All (IsPart 3) (broadcast_of p es)
  broadcast_part [] is = All-nil (IsPart 3)
  broadcast_part (e ∷ es) is =
      All-cons (IsPart 3) (Broadcast p Whole) [] (refl, refl, λ nothing. omega (arith, ap length is, ap size nothing, size-none)) (All-nil (IsPart 3))

  broadcasts_part : All (IsPart 3) (broadcasts s p)
  broadcasts_part = broadcast_part (updates (processor s p).unsent) refl

  all_parts : (P : Step A → Type 0) → ((r : ℕ) (x : Step A) → IsPart r x → P x) → All P (candidates_of s p)
  unfolding candidates_of
  all_parts P h =
      All-append P (receives s p) _ (All-weaker (IsPart 0) P (h 0) (receives s p) receives_part)
      (All-append P (takes s p) _ (All-weaker (IsPart 1) P (h 1) (takes s p) takes_part)
      (All-append P (notices s p) _ (All-weaker (IsPart 2) P (h 2) (notices s p) notices_part)
      (All-weaker (IsPart 3) P (h 3) (broadcasts s p) broadcasts_part)))

  -- ---- their order

  receive_in_order : (from : ℕ) (cs : List DeltaValue) → InOrder ComesFirst (receive_of {A = A} p from cs)
  receive_in_order from [] = tt
  receive_in_order from (c ∷ cs) = (All-nil (ComesFirst (Receive from p)), tt)

  receives_apart : (from other : ℕ) (cs ds : List DeltaValue) → from < other → All (λ x. All (ComesFirst {A = A} x) (receive_of p other ds)) (receive_of p from cs)
  receives_apart from other [] ds lt = All-nil (λ x. All (ComesFirst x) (receive_of p other ds))
  receives_apart from other (c ∷ cs) [] lt = All-cons (λ x. All (ComesFirst x) []) (Receive from p) [] (All-nil (ComesFirst (Receive from p))) (All-nil (λ x. All (ComesFirst x) []))
  receives_apart from other (c ∷ cs) (d ∷ ds) lt =
      All-cons (λ x. All (ComesFirst x) (Receive other p ∷ [])) (Receive from p) []
      (All-cons (ComesFirst (Receive from p)) (Receive other p) [] (inr (refl, lt)) (All-nil (ComesFirst (Receive from p))))
      (All-nil (λ x. All (ComesFirst x) (Receive other p ∷ [])))

  receives_in_order : InOrder ComesFirst (receives {A = A} s p)
  receives_in_order =
      in_order_each (λ from. receive_of p from (queue s from p)) ◌<◌ ComesFirst (λ from other lt. receives_apart from other (queue s from p) (queue s other p) lt)
      (λ from. receive_in_order from (queue s from p)) (range_with_len 0 (length s.processors))
      (in_order_range ◌<◌ 0 (length s.processors) (λ i j low lt high. lt))

  takes_after : (k : ValueAt) (es : List (ValueAt × ℕ)) → T (below_all value_at_cmp k es) → All (ComesFirst {A = A} (take_of p k)) (map (λ e. take_of p e.0) es)
  takes_after k [] h = All-nil (ComesFirst (take_of p k))
  takes_after k (e ∷ es) h =
      All-cons (ComesFirst (take_of p k)) (take_of p e.0) (map (λ d. take_of p d.0) es) (inr (refl, less _ (first _ _ h))) (takes_after k es (second _ _ h))

  takes_in_order : (es : List (ValueAt × ℕ)) → T (is_sorted value_at_cmp es) → InOrder ComesFirst (map (λ (e : ValueAt × ℕ). take_of {A = A} p e.0) es)
  takes_in_order [] h = tt
  takes_in_order (e ∷ es) h = (takes_after e.0 es (first _ _ h), takes_in_order es (second _ _ h))

  notices_after : (x : Pointstamp) (es : List (Pointstamp × Unit {0})) → T (below_all point_cmp x es) → All (ComesFirst {A = A} (notice_of p x)) (map (λ e. notice_of p e.0) es)
  notices_after x [] h = All-nil (ComesFirst (notice_of p x))
  notices_after x (e ∷ es) h =
      All-cons (ComesFirst (notice_of p x)) (notice_of p e.0) (map (λ d. notice_of p d.0) es) (inr (refl, less _ (first _ _ h))) (notices_after x es (second _ _ h))

  notices_in_order : (es : List (Pointstamp × Unit {0})) → T (is_sorted point_cmp es) → InOrder ComesFirst (map (λ (e : Pointstamp × Unit {0}). notice_of {A = A} p e.0) es)
  notices_in_order [] h = tt
  notices_in_order (e ∷ es) h = (notices_after e.0 es (first _ _ h), notices_in_order es (second _ _ h))

  broadcast_in_order : (es : List (Pointstamp × ℤ)) → InOrder ComesFirst (broadcast_of {A = A} p es)
  broadcast_in_order [] = tt
  broadcast_in_order (e ∷ es) = (All-nil (ComesFirst (Broadcast p Whole)), tt)

  -- steps of a lesser rank come first
  ranks_apart : (xs ys : List (Step A)) (r : ℕ) → All (λ x. rank x < r) xs → All (λ y. r ≤ rank y) ys → All (λ x. All (ComesFirst x) ys) xs
  ranks_apart xs ys r low high =
      All-weaker (λ x. rank x < r) (λ x. All (ComesFirst x) ys) (λ x lt. All-weaker (λ y. r ≤ rank y) (ComesFirst x) (λ y le. inl (omega (arith, lt, le))) ys high) xs low

  low : (r n : ℕ) → r < n → (xs : List (Step A)) → All (IsPart r) xs → All (λ x. rank x < n) xs
  low r n lt xs h = All-weaker (IsPart r) (λ x. rank x < n) (λ x k. omega (arith, lt, k.1)) xs h

  high : (r n : ℕ) → n ≤ r → (xs : List (Step A)) → All (IsPart r) xs → All (λ x. n ≤ rank x) xs
  high r n le xs h = All-weaker (IsPart r) (λ x. n ≤ rank x) (λ x k. omega (arith, le, k.1)) xs h

  own_order : InOrder ComesFirst (candidates_of {A = A} s p)
  unfolding candidates_of
  own_order =
      let last : List (Step A) = broadcasts s p in
      let third : List (Step A) = notices s p in
      let second : List (Step A) = takes s p in
      in_order_append ComesFirst (receives s p) (second ++ (third ++ last)) receives_in_order
      (in_order_append ComesFirst second (third ++ last) (takes_in_order (entries (processor s p).records) (entries_listed (processor s p).records))
      (in_order_append ComesFirst third last (notices_in_order (fin.entries (processor s p).requests) (fin.entries_sorted (processor s p).requests)) (broadcast_in_order (updates (processor s p).unsent))
      (ranks_apart third last 3 (low 2 3 (omega arith) third notices_part) (high 3 3 (omega arith) last broadcasts_part)))
      (ranks_apart second (third ++ last) 2 (low 1 2 (omega arith) second takes_part)
      (All-append (λ x. 2 ≤ rank x) third last (high 2 2 (omega arith) third notices_part) (high 3 2 (omega arith) last broadcasts_part))))
      (ranks_apart (receives s p) (second ++ (third ++ last)) 1 (low 0 1 (omega arith) (receives s p) receives_part)
      (All-append (λ x. 1 ≤ rank x) second (third ++ last) (high 1 1 (omega arith) second takes_part)
      (All-append (λ x. 1 ≤ rank x) third last (high 2 1 (omega arith) third notices_part) (high 3 1 (omega arith) last broadcasts_part))))

-- ---- the candidates of a cluster

module _ (A : Type 0) (s : ClusterState) (turn : ℕ) (only : Option (List ℕ)) where
  performed : (p : ℕ) → All (λ (x : Step A). performer x ≡ p) (candidates_if s only p)
  performed p = by (may_run only p)
    where
      by : (b : Bool) → All (λ (x : Step A). performer x ≡ p) (cond b (candidates_of s p) [])
      by true = all_parts A s p (λ x. performer x ≡ p) (λ r x h. h.0)
      by false = All-nil (λ (x : Step A). performer x ≡ p)

  offered : (p : ℕ) → p < length s.processors → All (IsOffered {A = A} s only) (candidates_if s only p)
  offered p lt = by (may_run only p) (λ t. t)
    where
      by : (b : Bool) → (b ≡ true → IsTrue (may_run only p)) → All (IsOffered {A = A} s only) (cond b (candidates_of s p) [])
      by true goes = all_parts A s p (IsOffered s only) (λ r x h. record {
        there = subst (λ q. q < length s.processors) (sym h.0) lt;
        listed = subst (λ q. IsTrue (may_run only q)) (sym h.0) (goes refl);
        has = h.2;
      })
      by false goes = All-nil (IsOffered s only)

  -- ---- their order

  abbrev Before : Step A → Step A → Type 0
  Before = ComesBefore (length s.processors) turn

  on_one : (p : ℕ) (xs : List (Step A)) → All (λ x. performer x ≡ p) xs → InOrder ComesFirst xs → InOrder Before xs
  on_one p [] h k = tt
  on_one p (x ∷ xs) h k = (
    λ i d lt. inr (All-head (λ x. performer x ≡ p) x xs h ∙ sym (All-tail (λ x. performer x ≡ p) x xs h i d lt), k.0 i d lt),
    on_one p xs (All-tail (λ x. performer x ≡ p) x xs h) k.1,
  )

  each_in_order : (p : ℕ) → InOrder Before (candidates_if s only p)
  each_in_order p = on_one p (candidates_if s only p) (performed p) (by (may_run only p))
    where
      by : (b : Bool) → InOrder ComesFirst (cond b (candidates_of {A = A} s p) [])
      by true = own_order A s p
      by false = tt

  each_apart : (p q : ℕ) → wait (length s.processors) turn p < wait (length s.processors) turn q → All (λ x. All (Before x) (candidates_if s only q)) (candidates_if s only p)
  each_apart p q sooner = λ k d lt. λ j e below.
      let here = ap (wait (length s.processors) turn) (performed p k d lt) in
      let there = ap (wait (length s.processors) turn) (performed q j e below) in
      inl (omega (arith, here, there, sooner))

  module _ (some : 0 < length s.processors) where
    ordered_from : InOrder Before (candidates_from s turn only)
    ordered_from =
        in_order_each (candidates_if s only) (λ p q. wait (length s.processors) turn p < wait (length s.processors) turn q) Before each_apart each_in_order
        (from_turn (length s.processors) turn) (turns_of (length s.processors) (turn % length s.processors) (mod-lt turn some))

    offered_from : All (IsOffered {A = A} s only) (candidates_from s turn only)
    offered_from =
        all_each (candidates_if s only) (IsOffered s only) (from_turn (length s.processors) turn)
        (All-weaker (λ p. p < length s.processors) (λ p. All (IsOffered {A = A} s only) (candidates_if s only p)) offered (from_turn (length s.processors) turn)
        (below_of (length s.processors) (turn % length s.processors) (mod-lt turn some)))

  covers_offered : (x : Step A) → IsOffered s only x → Contains (candidates_from s turn only) x
  covers_offered x is =
      among_each (candidates_if s only) (performer x) (from_turn (length s.processors) turn) x (all_turns (length s.processors) turn (performer x) is.there)
      (subst (λ b. Contains (cond b (candidates_of s (performer x)) []) x) (sym is.listed) (covers_has s x is.has))

pub in_turn : (A : Type 0) → CandidatesAreInTurn A
in_turn A s turn only state = record {
  ordered = ordered_from A s turn only state.within.some;
  exact = λ x. (All-contains (IsOffered s only) (candidates_from s turn only) x (offered_from A s turn only state.within.some), covers_offered A s turn only x);
}

-- ---- the choice

module _ {A : Type 0} (s : ClusterState) where
  chooses_none : (xs : List (Step A)) → All (λ x. IsEnabled s x → ⊥) xs → Chooses s xs None
  chooses_none [] h = refl
  chooses_none (x ∷ xs) h = inr (All-head (λ x. IsEnabled s x → ⊥) x xs h, chooses_none xs (All-tail (λ x. IsEnabled s x → ⊥) x xs h))

  module _ (R : Step A → Step A → Type 0) (both : (x y : Step A) → R x y → R y x → ⊥) where
    -- no enabled step comes before the choice
    none_sooner : (xs : List (Step A)) (x : Step A) → InOrder R xs → Chooses s xs (Some x) → (y : Step A) → Contains xs y → R y x → IsEnabled s y → ⊥
    none_sooner [] x sorted h y at before e = omega (arith, at.1)
    none_sooner (z ∷ xs) x sorted (inl h) y at before e =
        let same : z ≡ x = cc (h.1) in
        let before_z : R y z = subst (R y) (sym same) before in
        elim (Contains-append_cases (z ∷ []) xs y at) [
          | inl here ↦
              let is : z ≡ y = All-contains (λ w. z ≡ w) (z ∷ []) y (All-cons (λ w. z ≡ w) z [] refl (All-nil (λ w. z ≡ w))) here in
              let own : R z z = subst (λ w. R w z) (sym is) before_z in
              both z z own own
          | inr later ↦ both z y (All-contains (R z) xs y sorted.0 later) before_z
        ]
    none_sooner (z ∷ xs) x sorted (inr h) y at before e =
        elim (Contains-append_cases (z ∷ []) xs y at) [
          | inl here ↦ All-contains (λ w. IsEnabled s w → ⊥) (z ∷ []) y (All-cons (λ w. IsEnabled s w → ⊥) z [] h.0 (All-nil (λ w. IsEnabled s w → ⊥))) here e
          | inr later ↦ none_sooner xs x sorted.1 h.1 y later before e
        ]

    -- an enabled step that no enabled one comes before is the choice
    chooses_first : (xs : List (Step A)) (x : Step A) → InOrder R xs → Contains xs x → IsEnabled s x → ((y : Step A) → Contains xs y → R y x → IsEnabled s y → ⊥) → Chooses s xs (Some x)
    chooses_first [] x sorted at e none = absurd (omega (arith, at.1))
    chooses_first (z ∷ xs) x sorted at e none =
        elim (Contains-append_cases (z ∷ []) xs x at) [
          | inl here ↦
              let is : z ≡ x = All-contains (λ w. z ≡ w) (z ∷ []) x (All-cons (λ w. z ≡ w) z [] refl (All-nil (λ w. z ≡ w))) here in
              inl (subst (IsEnabled s) (sym is) e, ap Some (sym is))
          | inr later ↦
              inr (
                none z (Contains-append_left (z ∷ []) xs z (Contains-push [] z)) (All-contains (R z) xs x sorted.0 later),
                chooses_first xs x sorted.1 later e (λ y among. none y (Contains-append_right (z ∷ []) xs y among)),
              )
        ]

module _ (A : Type 0) (s : ClusterState) (turn : ℕ) (only : Option (List ℕ)) where
  abbrev all : List (Step A)
  all = candidates_from s turn only

  some_processors : (x : Step A) → IsEnabled s x → 0 < length s.processors
  some_processors x e = let there : performer x < length s.processors = performer_there s x e in omega (arith, there)

  first_of_choice : (x : Step A) → Chooses s all (Some x) → IsFirst s turn only x
  first_of_choice x h =
      let is = some_enabled s all x h in
      record {
        among = All-contains (IsAmong only) all x (complete_from s only turn).kinds is.0;
        enabled = is.1;
        first = λ y among before e.
            none_sooner s (ComesBefore (length s.processors) turn) (before_both (length s.processors) turn) all x (ordered_from A s turn only (some_processors x is.1)) h y
            ((complete_from s only turn).covers y among e) before e;
      }

  choice_of_first : (x : Step A) → IsFirst s turn only x → Chooses s all (Some x)
  choice_of_first x is =
      chooses_first s (ComesBefore (length s.processors) turn) (before_both (length s.processors) turn) all x (ordered_from A s turn only (some_processors x is.enabled))
      ((complete_from s only turn).covers x is.among is.enabled) is.enabled
      (λ y at. is.first y (All-contains (IsAmong only) all y (complete_from s only turn).kinds at))

pub idle_refused : (A : Type 0) → IdleMeansRefused A
idle_refused A s turn only = (
  λ none. All-weaker (IsAmong only) (λ x. IsEnabled s x → ⊥) none (candidates_among s only) (complete_among s only).kinds,
  λ refused y among e. All-contains (λ x. IsEnabled s x → ⊥) (candidates_among s only) y refused ((complete_among s only).covers y among e) e,
)

pub choice_is_first : (A : Type 0) → ChoiceIsFirst A
choice_is_first A s turn only None = (
  λ h y among e. All-contains (λ x. IsEnabled s x → ⊥) (candidates_from s turn only) y (none_refused s (candidates_from s turn only) h) ((complete_from s only turn).covers y among e) e,
  λ none. chooses_none s (candidates_from s turn only) (All-weaker (IsAmong only) (λ x. IsEnabled s x → ⊥) none (candidates_from s turn only) (complete_from s only turn).kinds),
)
choice_is_first A s turn only (Some x) = (first_of_choice A s turn only x, choice_of_first A s turn only x)
