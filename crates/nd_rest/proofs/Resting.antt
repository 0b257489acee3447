-- At rest each reason why a processor does not consider a point finished is held by tokens and capabilities, and no news of it is
-- under way.
use Rattle.std.proofs.Common.{◌≡◌, ◌≢◌, inl, inr, ℕ, zero, suc, ◌+◌, ◌<◌, ◌≤◌, ℤ, pos, ◌<ℤ◌, true, false, cond, ◌||◌, List, [], ◌∷◌, ◌++◌, take, length, get_or, sum_by, Option, None, Some, refl, sym, ap, subst, ◌∙◌, arith}
use Rattle.std.proofs.lemmas.Bool.{or_right}
use Rattle.std.proofs.lemmas.Int.{ints}
use Rattle.std.proofs.lemmas.List.{get_or_default, take_all}
use Rattle.std.proofs.lemmas.List.Elements.{All-nil, All-cons, All-append, All-map, All-same}
use Rattle.std.proofs.lemmas.List.Sums.{sum_by-cons, sum_by-append}
use Rattle.std.proofs.Math.Seq.{take-suc}
use Rattle.std.specs.Prelude.{All, is_some}
use Rattle.std.specs.List.{flat_map, list_any}
use Rattle.std.specs.FinMap as fin
use Rattle.std.specs.FinMap.{contains_key-keys}
use Rattle.nd_graph.specs.Graph.{Dataflow}
use Rattle.nd_map.specs.Counts.{Counts, naturals, at, none as no_counts, at-none, entries as numbers, same, size-none}
use Rattle.nd_map.specs.Entries.{find-index}
use Rattle.nd_paths.specs.Point.{point_cmp, point_total}
use Rattle.nd_paths.specs.declared.point.Pointstamp.{Pointstamp}
use Rattle.nd_delta.specs.Delta.{DeltaValue, none, at as in_change, is_point, entries, some-entry, sorted-entries}
use Rattle.nd_delta.specs.Delta.{at-none as in_none}
use Rattle.nd_delta.specs.Least.{at-index}
use Rattle.nd_processor.specs.Keys.{value_at_cmp, value_at_total, value_at_exact}
use Rattle.nd_processor.specs.State.{ProcessorState, idle, token_point, one_at, in_records, in_requests, in_tokens, held}
use Rattle.nd_processor.specs.declared.key.ValueAt.{ValueAt}
use Rattle.nd_protocol.specs.State.{ClusterState, processor, view, queue, truth}
use Rattle.nd_protocol.specs.Invariant.{KeepsProtocol}
use Rattle.nd_protocol.specs.TruthLaws.{count, truth-count}
use Rattle.nd_why.specs.Why.{in_turn, if_at, records_at, requests_at, tokens_at, held_by, held_at, unless_zero, unheard_from, amount, account, IsReason}
use Rattle.nd_why.specs.declared.answer.Held.{Held}
use Rattle.nd_why.specs.declared.answer.Held.TheVariants.{Records, Request, Token}
use Rattle.nd_why.specs.declared.answer.Unheard.TheVariants.{Unsent}
use Rattle.nd_why.specs.declared.question.Question.{Question}
use Rattle.nd_rest.specs.Rest.{IsAtRest}
use Rattle.nd_rest.specs.Laws.{IsForUsers, IsLeftToUsers, RestIsLeftToUsers}
use Rattle.nd_rest.proofs.Heard.{view_is_truth}
use Rattle.nd_rest.proofs.Ends.{heard}

-- ---- lists in turn

none_in_turn : {X : Type 0} (f : ℕ → List X) → ((k : ℕ) → f k ≡ []) → (n : ℕ) → in_turn n f ≡ []
none_in_turn f none_of zero = refl
none_in_turn f none_of (suc n) = λ i. none_in_turn f none_of n i ++ none_of n i

all_in_turn : {X : Type 0} (P : X → Type 0) (f : ℕ → List X) (n : ℕ) → ((k : ℕ) → k < n → All P (f k)) → All P (in_turn n f)
all_in_turn P f zero each = All-nil P
all_in_turn P f (suc n) each = All-append P (in_turn n f) (f n) (all_in_turn P f n (λ k lt. each k (omega arith))) (each n (omega arith))

-- ---- no news

no_news_from : (p : ℕ) (c : DeltaValue) (cs : List DeltaValue) (b : Pointstamp) → c ≡ none → cs ≡ [] → unheard_from p c cs b ≡ []
unfolding unheard_from
no_news_from p c cs b sent empty =
    (λ i. unheard_from p (sent i) (empty i) b) ∙ (λ i. unless_zero (in_none b i) (Unsent p (in_none b i)) ++ [])

-- ---- no records

empty_list : {X : Type 0} (xs : List X) → length xs ≡ 0 → xs ≡ []
empty_list [] e = refl
empty_list (x ∷ xs) e = absurd (omega arith)

no_numbers : (m : Counts value_at_cmp naturals) → ((k : ValueAt) → at m k ≡ 0) → numbers m ≡ []
no_numbers m none_there =
    ap numbers (same value_at_total value_at_exact m no_counts (λ k. none_there k ∙ sym (at-none value_at_cmp naturals k)))
    ∙ empty_list (numbers (no_counts {R = value_at_cmp} {N = naturals})) (size-none value_at_cmp naturals)

-- ---- what is held

module _ (g : Dataflow) (b : Pointstamp) where
  records_left : (p : ℕ) (r : ProcessorState) → ((k : ValueAt) → at r.records k ≡ 0) → All (IsForUsers g b) (records_at p r b)
  records_left p r none_there =
      All-same (IsForUsers g b) (records_at p r b) []
      (ap (flat_map (λ (e : ValueAt × ℕ). if_at b e.0.point (Records p e.0.value e.1))) (no_numbers r.records none_there)) (All-nil (IsForUsers g b))

  among_keys : (p : ℕ) (ks : List Pointstamp) → (list_any (is_point b) ks ≡ true → IsForUsers g b (Request p)) → All (IsForUsers g b) (flat_map (λ x. if_at b x (Request p)) ks)
  among_keys p [] for_users = All-nil (IsForUsers g b)
  among_keys p (k ∷ ks) for_users =
      All-append (IsForUsers g b) (if_at b k (Request p)) (flat_map (λ x. if_at b x (Request p)) ks)
      (elim (is_point b k) as (λ c. is_point b k ≡ c → All (IsForUsers g b) (cond c (Request p ∷ []) [])) [
        | true ↦ λ t. All-cons (IsForUsers g b) (Request p) [] (for_users (ap (λ c. c || list_any (is_point b) ks) t)) (All-nil (IsForUsers g b))
        | false ↦ λ t. All-nil (IsForUsers g b)
      ] refl)
      (among_keys p ks (λ t. for_users (or_right (is_point b k) (list_any (is_point b) ks) t)))

  is_asked : (r : ProcessorState) → list_any (is_point b) (fin.keys r.requests) ≡ true → fin.get r.requests b ≡ Some tt
  is_asked r t = by (fin.get r.requests b) (contains_key-keys r.requests b ∙ t)
    where
      by : (o : Option (Unit {0})) → is_some o ≡ true → o ≡ Some tt
      by None e = absurd (cc)
      by (Some u) e = refl

  tokens_left : (p : ℕ) (es : List (ℕ × ℕ)) → All (IsForUsers g b) (flat_map (λ e. if_at b (token_point e.0 e.1) (Token p)) es)
  tokens_left p [] = All-nil (IsForUsers g b)
  tokens_left p (e ∷ es) =
      All-append (IsForUsers g b) (if_at b (token_point e.0 e.1) (Token p)) (flat_map (λ e. if_at b (token_point e.0 e.1) (Token p)) es)
      (elim (is_point b (token_point e.0 e.1)) as (λ c. All (IsForUsers g b) (cond c (Token p ∷ []) [])) [
        | true ↦ All-cons (IsForUsers g b) (Token p) [] tt (All-nil (IsForUsers g b))
        | false ↦ All-nil (IsForUsers g b)
      ])
      (tokens_left p es)

  -- if a processor has no records, and a request at b is a capability, all that it holds there is for users to end
  held_left : (p : ℕ) (r : ProcessorState) → ((k : ValueAt) → at r.records k ≡ 0) → (fin.get r.requests b ≡ Some tt → IsForUsers g b (Request p)) → All (IsForUsers g b) (held_by p r b)
  unfolding held_by
  held_left p r none_there capability =
      All-append (IsForUsers g b) (records_at p r b) (requests_at p r b ++ tokens_at p r b) (records_left p r none_there)
      (All-append (IsForUsers g b) (requests_at p r b) (tokens_at p r b) (among_keys p (fin.keys r.requests) (λ t. capability (is_asked r t))) (tokens_left p (fin.entries r.tokens)))

-- ---- how much is held

amount_if : (b point : Pointstamp) (h : Held) → sum_by amount (if_at b point h) ≡ cond (is_point b point) (amount h) 0
amount_if b point h = elim (is_point b point) as (λ c. sum_by amount (cond c (h ∷ []) []) ≡ cond c (amount h) 0) [
  | true ↦ sum_by-cons amount h [] ∙ omega arith
  | false ↦ refl
]

flat_amount : {X : Type 0} (f : X → List Held) (n : X → ℕ) → ((x : X) → sum_by amount (f x) ≡ n x) → (xs : List X) → sum_by amount (flat_map f xs) ≡ sum_by n xs
flat_amount f n each [] = refl
flat_amount f n each (x ∷ xs) = sum_by-append amount (f x) (flat_map f xs) ∙ (λ i. each x i + flat_amount f n each xs i) ∙ sym (sum_by-cons n x xs)

held_amount : (p : ℕ) (r : ProcessorState) (b : Pointstamp) → sum_by amount (held_by p r b) ≡ held r b
unfolding held_by
held_amount p r b =
    let in_records_of : sum_by amount (records_at p r b) ≡ in_records r.records b
    = flat_amount (λ (e : ValueAt × ℕ). if_at b e.0.point (Records p e.0.value e.1)) (λ e. cond (is_point b e.0.point) e.1 0) (λ e. amount_if b e.0.point (Records p e.0.value e.1)) (numbers r.records) in
    let in_requests_of : sum_by amount (requests_at p r b) ≡ in_requests r.requests b
    = flat_amount (λ x. if_at b x (Request p)) (λ x. one_at x b) (λ x. amount_if b x (Request p)) (fin.keys r.requests) in
    let in_tokens_of : sum_by amount (tokens_at p r b) ≡ in_tokens r.tokens b
    = flat_amount (λ (e : ℕ × ℕ). if_at b (token_point e.0 e.1) (Token p)) (λ e. one_at (token_point e.0 e.1) b) (λ e. amount_if b (token_point e.0 e.1) (Token p)) (fin.entries r.tokens) in
    sum_by-append amount (records_at p r b) (requests_at p r b ++ tokens_at p r b)
    ∙ ap (λ n. sum_by amount (records_at p r b) + n) (sum_by-append amount (requests_at p r b) (tokens_at p r b))
    ∙ (λ i. in_records_of i + (in_requests_of i + in_tokens_of i))

-- what the first n processors hold
first_amount : (ps : List ProcessorState) (b : Pointstamp) (n : ℕ) → n ≤ length ps → sum_by amount (in_turn n (λ p. held_by p (get_or ps p idle) b)) ≡ sum_by (λ r. held r b) (take n ps)
first_amount ps b zero le = refl
first_amount ps b (suc n) le =
    let f : ℕ → List Held = λ p. held_by p (get_or ps p idle) b in
    let here : held (get_or ps n idle) b + 0 ≡ held (get_or ps n idle) b = omega arith in
    sum_by-append amount (in_turn n f) (f n)
    ∙ (λ i. first_amount ps b n (omega arith) i + held_amount n (get_or ps n idle) b i)
    ∙ ap (λ k. sum_by (λ r. held r b) (take n ps) + k) (sym (sum_by-cons (λ r. held r b) (get_or ps n idle) [] ∙ here))
    ∙ sym (ap (sum_by (λ r. held r b)) (take-suc ps n idle (omega arith)) ∙ sum_by-append (λ r. held r b) (take n ps) (get_or ps n idle ∷ []))

held_is_count : (ps : List ProcessorState) (b : Pointstamp) → sum_by amount (held_at ps b) ≡ count ps b
held_is_count ps b = first_amount ps b (length ps) (omega arith) ∙ ap (sum_by (λ r. held r b)) (take_all (length ps) ps (omega arith))

-- ---- reasons

module _ {A : Type 0} (s : ClusterState) (keeps : KeepsProtocol s) (rest : IsAtRest A s) (asked : Question) (inside : asked.q < length s.processors) where
  seen : (q : ℕ) → q < length s.processors → (x : Pointstamp) → in_change (view s q) x ≡ in_change (truth s.processors) x
  seen q lt x = view_is_truth s keeps.settled (heard s rest) q lt x

  -- a request at a reason is a capability: nothing that is outstanding is before a reason
  is_capability : (b : Pointstamp) → IsReason s.graph (view s asked.q) asked.extent asked.point b → (p : ℕ) → p < length s.processors → fin.get (processor s p).requests b ≡ Some tt → IsForUsers s.graph b (Request p)
  is_capability b reason p lt there =
      elim (rest.requests p b there) [
        | inl early ↦
            let least = early.1.fails in
            let same_view : in_change (view s p) early.0 ≡ in_change (view s asked.q) early.0 = seen p lt early.0 ∙ sym (seen asked.q inside early.0) in
            absurd (reason.frontier.first early.0 (record { positive = subst (λ z. pos 0 <ℤ z) same_view least.is_one.positive; before = least.is_one.before }))
        | inr holds ↦ holds.fails
      ]

  left_to_users : (b : Pointstamp) → IsReason s.graph (view s asked.q) asked.extent asked.point b → IsLeftToUsers s.graph (account s asked.q b)
  left_to_users b reason = record {
    unheard = none_in_turn (λ p. unheard_from p (processor s p).unsent (queue s p asked.q) b) (λ p. no_news_from p (processor s p).unsent (queue s p asked.q) b (rest.unsent p) (rest.queues p asked.q)) (length s.processors);
    some = λ empty.
        let held_there : sum_by amount (held_at s.processors b) ≡ count s.processors b = held_is_count s.processors b in
        let nothing : sum_by amount (held_at s.processors b) ≡ 0 = ap (sum_by amount) empty in
        let here : in_change (view s asked.q) b ≡ pos (count s.processors b) = seen asked.q inside b ∙ truth-count s.processors b in
        let positive : pos 0 <ℤ in_change (view s asked.q) b = reason.frontier.positive in
        omega (arith, ints);
    held = all_in_turn (IsForUsers s.graph b) (λ p. held_by p (get_or s.processors p idle) b) (length s.processors)
        (λ p lt. held_left s.graph b p (processor s p) (rest.records p) (is_capability b reason p lt));
  }

  each_left : (reasons : DeltaValue) → ((x : Pointstamp) → in_change reasons x ≢ pos 0 → IsReason s.graph (view s asked.q) asked.extent asked.point x)
      → All (λ (e : Pointstamp × ℤ). IsLeftToUsers s.graph (account s asked.q e.0)) (entries reasons)
  each_left reasons only = λ k d lt.
      let e : Pointstamp × ℤ = get_or (entries reasons) k d in
      let same_entry : e ≡ get_or (entries reasons) k e = get_or_default (entries reasons) k d e lt in
      let number_is : e.1 ≡ in_change reasons e.0 = at-index reasons k e lt same_entry in
      let some : e.1 ≢ pos 0 = λ zero_there. some-entry reasons (get_or (entries reasons) k e).0 (get_or (entries reasons) k e).1 (find-index point_cmp point_total (entries reasons) k e (sorted-entries reasons) lt) (ap (λ y. y.1) (sym same_entry) ∙ zero_there) in
      left_to_users e.0 (only e.0 (λ zero_there. some (number_is ∙ zero_there)))

pub rest_is_left_to_users : (A : Type 0) → RestIsLeftToUsers A
rest_is_left_to_users A s state keeps rest asked inside accounts why =
    All-same (IsLeftToUsers s.graph) accounts _ why.2
    (All-map (IsLeftToUsers s.graph) (λ e. account s asked.q e.0) (entries why.0) (each_left s keeps rest asked inside why.0 why.1.only))
