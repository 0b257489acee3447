-- What is held adds up to the truth, and the updates not received to what is pending.
use Rattle.std.proofs.Common.{◌≡◌, ◌≤◌, ◌<◌, ◌+◌, ℕ, zero, suc, ℤ, pos, negsuc, ◌+ℤ◌, true, false, cond, List, [], ◌∷◌, ◌++◌, length, take, get_or, sum_by, refl, ap, sym, ◌∙◌, arith}
use Rattle.std.proofs.lemmas.Int.{ints}
use Rattle.std.proofs.lemmas.List.{take_all}
use Rattle.std.proofs.lemmas.List.Sums.{sum_by-append, sum_by-cons}
use Rattle.std.proofs.Math.Seq.{take-suc}
use Rattle.std.specs.List.{flat_map}
use Rattle.std.specs.FinMap as fin
use Rattle.nd_map.specs.Counts.{entries as numbers}
use Rattle.nd_paths.specs.declared.point.Pointstamp.{Pointstamp}
use Rattle.nd_delta.specs.Delta.{DeltaValue, none, at, plus, is_point, at-none, at-plus}
use Rattle.nd_processor.specs.State.{ProcessorState, idle, token_point, one_at, in_records, in_requests, in_tokens, held}
use Rattle.nd_processor.specs.declared.key.ValueAt.{ValueAt}
use Rattle.nd_protocol.specs.State.{ClusterState, processor, view, queue}
use Rattle.nd_protocol.specs.TruthLaws.{truth-count}
use Rattle.nd_protocol.specs.Invariant.{IsSettled, sum_of, pending, total}
use Rattle.nd_why.specs.Why.{in_turn, if_at, records_at, requests_at, tokens_at, held_by, unless_zero, queued_behind, queued_at, unheard_from, unheard_at, amount, number, news, account, IsCounted, IsBalanced}
use Rattle.nd_why.specs.declared.answer.Held.{Held}
use Rattle.nd_why.specs.declared.answer.Held.TheVariants.{Records, Request, Token}
use Rattle.nd_why.specs.declared.answer.Unheard.{Unheard}
use Rattle.nd_why.specs.declared.answer.Unheard.TheVariants.{Unsent, Queued}

-- ---- what is held

pub amount-if_at : (b point : Pointstamp) (h : Held) → sum_by amount (if_at b point h) ≡ cond (is_point b point) (amount h) 0
amount-if_at b point h = elim (is_point b point) as (λ c. sum_by amount (cond c (h ∷ []) []) ≡ cond c (amount h) 0) [
  | true ↦ sum_by-cons amount h [] ∙ omega arith
  | false ↦ refl
]

pub flat_amount : {X : Type 0} (f : X → List Held) (n : X → ℕ) → ((x : X) → sum_by amount (f x) ≡ n x) → (xs : List X) → sum_by amount (flat_map f xs) ≡ sum_by n xs
flat_amount f n each [] = refl
flat_amount f n each (x ∷ xs) = sum_by-append amount (f x) (flat_map f xs) ∙ (λ i. each x i + flat_amount f n each xs i) ∙ sym (sum_by-cons n x xs)

pub records_amount : (p : ℕ) (r : ProcessorState) (b : Pointstamp) → sum_by amount (records_at p r b) ≡ in_records r.records b
records_amount p r b = flat_amount (λ (e : ValueAt × ℕ). if_at b e.0.point (Records p e.0.value e.1)) (λ e. cond (is_point b e.0.point) e.1 0) (λ e. amount-if_at b e.0.point (Records p e.0.value e.1)) (numbers r.records)

pub requests_amount : (p : ℕ) (r : ProcessorState) (b : Pointstamp) → sum_by amount (requests_at p r b) ≡ in_requests r.requests b
requests_amount p r b = flat_amount (λ x. if_at b x (Request p)) (λ x. one_at x b) (λ x. amount-if_at b x (Request p)) (fin.keys r.requests)

pub tokens_amount : (p : ℕ) (r : ProcessorState) (b : Pointstamp) → sum_by amount (tokens_at p r b) ≡ in_tokens r.tokens b
tokens_amount p r b = flat_amount (λ (e : ℕ × ℕ). if_at b (token_point e.0 e.1) (Token p)) (λ e. one_at (token_point e.0 e.1) b) (λ e. amount-if_at b (token_point e.0 e.1) (Token p)) (fin.entries r.tokens)

pub held_amount : (p : ℕ) (r : ProcessorState) (b : Pointstamp) → sum_by amount (held_by p r b) ≡ held r b
unfolding held_by
held_amount p r b =
    sum_by-append amount (records_at p r b) (requests_at p r b ++ tokens_at p r b)
    ∙ ap (λ n. sum_by amount (records_at p r b) + n) (sum_by-append amount (requests_at p r b) (tokens_at p r b))
    ∙ (λ i. records_amount p r b i + (requests_amount p r b i + tokens_amount p r b i))

-- what the first n processors hold
first_amount : (ps : List ProcessorState) (b : Pointstamp) (n : ℕ) → n ≤ length ps → sum_by amount (in_turn n (λ p. held_by p (get_or ps p idle) b)) ≡ sum_by (λ r. held r b) (take n ps)
first_amount ps b zero le = refl
first_amount ps b (suc n) le =
    let f : ℕ → List Held = λ p. held_by p (get_or ps p idle) b in
    let here : held (get_or ps n idle) b + 0 ≡ held (get_or ps n idle) b = omega arith in
    sum_by-append amount (in_turn n f) (f n)
    ∙ (λ i. first_amount ps b n (omega arith) i + held_amount n (get_or ps n idle) b i)
    ∙ ap (λ k. sum_by (λ r. held r b) (take n ps) + k) (sym (sum_by-cons (λ r. held r b) (get_or ps n idle) [] ∙ here))
    ∙ sym (ap (sum_by (λ r. held r b)) (take-suc ps n idle (omega arith)) ∙ sum_by-append (λ r. held r b) (take n ps) (get_or ps n idle ∷ []))

-- what is held is all that is outstanding
pub counted_at : (s : ClusterState) (q : ℕ) (b : Pointstamp) → IsCounted s (account s q b)
counted_at s q b =
    let n = length s.processors in
    truth-count s.processors b
    ∙ ap pos (sym (first_amount s.processors b n (omega arith) ∙ ap (sum_by (λ r. held r b)) (take_all n s.processors (omega arith))))

-- ---- the updates not received

pub news-append : (us ws : List Unheard) → news (us ++ ws) ≡ news us +ℤ news ws
news-append [] ws = omega (arith, ints)
news-append (u ∷ us) ws = let rest = news-append us ws in omega (arith, ints, rest)

pub news-unless_zero : (n : ℤ) (u : Unheard) → number u ≡ n → news (unless_zero n u) ≡ n
news-unless_zero (pos zero) u is = refl
news-unless_zero (pos (suc n)) u is = omega (arith, ints, is)
news-unless_zero (negsuc n) u is = omega (arith, ints, is)

news-in_turn : (f : ℕ → List Unheard) (z : ℕ → ℤ) → ((k : ℕ) → news (f k) ≡ z k) → (n : ℕ) → news (in_turn n f) ≡ total n z
news-in_turn f z each zero = refl
news-in_turn f z each (suc n) = news-append (in_turn n f) (f n) ∙ (λ i. news-in_turn f z each n i +ℤ each n i)

at-sum_of-last : (cs : List DeltaValue) (c : DeltaValue) (b : Pointstamp) → at (sum_of (cs ++ c ∷ [])) b ≡ at (sum_of cs) b +ℤ at c b
at-sum_of-last [] c b = let e = at-plus c none b in let z = at-none b in omega (arith, ints, e, z)
at-sum_of-last (d ∷ cs) c b =
    let e = at-plus d (sum_of (cs ++ c ∷ [])) b in
    let f = at-plus d (sum_of cs) b in
    let rest = at-sum_of-last cs c b in
    omega (arith, ints, e, f, rest)

-- the updates in the first n changes
first_changes : (cs : List DeltaValue) (b : Pointstamp) (n : ℕ) → n ≤ length cs → total n (λ k. at (get_or cs k none) b) ≡ at (sum_of (take n cs)) b
first_changes cs b zero le = sym (at-none b)
first_changes cs b (suc n) le =
    ap (λ z. z +ℤ at (get_or cs n none) b) (first_changes cs b n (omega arith))
    ∙ sym (ap (λ l. at (sum_of l) b) (take-suc cs n none (omega arith)) ∙ at-sum_of-last (take n cs) (get_or cs n none) b)

news-queued : (p : ℕ) (cs : List DeltaValue) (b : Pointstamp) → news (queued_at p cs b) ≡ at (sum_of cs) b
news-queued p cs b =
    news-in_turn (queued_behind p cs b) (λ k. at (get_or cs k none) b) (λ k. news-unless_zero (at (get_or cs k none) b) (Queued p k (at (get_or cs k none) b)) refl) (length cs)
    ∙ first_changes cs b (length cs) (omega arith) ∙ ap (λ l. at (sum_of l) b) (take_all (length cs) cs (omega arith))

news-from : (p : ℕ) (unsent : DeltaValue) (cs : List DeltaValue) (b : Pointstamp) → news (unheard_from p unsent cs b) ≡ at (plus (sum_of cs) unsent) b
unfolding unheard_from
news-from p unsent cs b =
    let first = news-append (unless_zero (at unsent b) (Unsent p (at unsent b))) (queued_at p cs b) in
    let own = news-unless_zero (at unsent b) (Unsent p (at unsent b)) refl in
    let rest = news-queued p cs b in
    let both = at-plus (sum_of cs) unsent b in
    omega (arith, ints, first, own, rest, both)

-- the updates not received are what is pending
news_pending : (s : ClusterState) (q : ℕ) (b : Pointstamp) → news (unheard_at s q b) ≡ total (length s.processors) (λ p. at (pending s p q 0) b)
news_pending s q b = news-in_turn (λ p. unheard_from p (processor s p).unsent (queue s p q) b) (λ p. at (pending s p q 0) b) (λ p. news-from p (processor s p).unsent (queue s p q) b) (length s.processors)

-- the view plus the updates not received is what is held
pub balanced_at : (s : ClusterState) → IsSettled s → (q : ℕ) → q < length s.processors → (b : Pointstamp) → IsBalanced (account s q b)
balanced_at s settled q lt b = ap (λ z. at (view s q) b +ℤ z) (news_pending s q b) ∙ sym (settled.balance q lt b) ∙ counted_at s q b
