-- The initial state of a cluster: its tokens and its requests, counted once for each processor, are all that is outstanding.
use Rattle.std.proofs.Common.{◌≡◌, ◌<◌, ◌+◌, ◌*◌, ℕ, zero, suc, pos, ◌+ℤ◌, ℤ, Bool, true, false, cond, List, [], ◌∷◌, ◌++◌, map, take, length, get_or, replicate, refl, sym, ap, ◌∙◌, arith}
use Rattle.std.proofs.Math.Nat.{mul-add}
use Rattle.std.proofs.lemmas.Int.{ints}
use Rattle.std.proofs.lemmas.List.{map-append, replicate_more}
use Rattle.std.proofs.lemmas.List.Folds.{sum_by-replicate}
use Rattle.std.proofs.lemmas.List.Sums.{sum_by_more, sum_by-cons}
use Rattle.std.specs.Prelude.{All}
use Rattle.std.specs.FinMap as fin
use Rattle.nd_graph.specs.Graph.{Dataflow, ArcAgrees, arcs, depths}
use Rattle.nd_graph.specs.Checked.{IsFaultless}
use Rattle.nd_paths.specs.Order.{IsAccepted}
use Rattle.nd_summaries.specs.Fault.{IsFault}
use Rattle.nd_paths.specs.Point.{point_exact}
use Rattle.nd_summaries.specs.declared.accept.PathFault.{PathFault}
use Rattle.nd_summaries.specs.declared.accept.PathFault.TheVariants as path
use Rattle.nd_paths.specs.declared.point.Pointstamp.{Pointstamp}
use Rattle.std.proofs.lemmas.Map.Views.{tells_apart}
use Rattle.nd_delta.specs.Delta.{DeltaValue, none, plus, at, set, same, is_point, at-none, at-plus, at-set}
use Rattle.nd_view.specs.Kept.{Kept}
use Rattle.nd_processor.specs.State.{ProcessorState, one_at, token_point, held}
use Rattle.nd_processor.specs.Start.{start_processor}
use Rattle.nd_processor.specs.HeldLaws.{no_records, in_requests-weight}
use Rattle.nd_protocol.specs.State.{truth}
use Rattle.nd_protocol.specs.Start.{start}
use Rattle.nd_protocol.specs.Fitting.{IsOrdered}
use Rattle.nd_protocol.specs.Seen.{seen}
use Rattle.nd_cluster.specs.Starting.{tokens_weigh, requests_weigh, IsProcessorCount, IsStartFault, fault_of}
use Rattle.nd_protocol.specs.TruthLaws.{truth-count}

add_here : (b : Bool) (here : ℤ) (s n : ℕ) → (b ≡ true → here ≡ pos s) → cond b (here +ℤ pos n) (pos s) ≡ pos (s + n * cond b 1 0)
add_here true here s n e = rw (e refl) (ap pos (omega arith))
add_here false here s n e = ap pos (omega arith)

-- one more token is counted n times
pub tokens_turn : (es : List (ℕ × ℕ)) (i n : ℕ) (z : ℤ) (d : ℕ × ℕ) (m new : DeltaValue) (p : Pointstamp) → i < length es → p ≡ token_point (get_or es i d).0 (get_or es i d).1 → z ≡ pos n → new ≡ set m p (at m p +ℤ z)
    → ((x : Pointstamp) → at m x ≡ pos (n * tokens_weigh (take i es) x)) → (x : Pointstamp) → at new x ≡ pos (n * tokens_weigh (take (i + 1) es) x)
tokens_turn es i n z d m new p lt is number add h x =
    let more : tokens_weigh (take (i + 1) es) x ≡ tokens_weigh (take i es) x + one_at (token_point (get_or es i d).0 (get_or es i d).1) x
    = sum_by_more (λ (e : ℕ × ℕ). one_at (token_point e.0 e.1) x) es i d lt in
    let here : one_at p x ≡ one_at (token_point (get_or es i d).0 (get_or es i d).1) x = ap (λ q. one_at q x) is in
    let sum : n * tokens_weigh (take i es) x + n * one_at p x ≡ n * tokens_weigh (take (i + 1) es) x
    = sym (mul-add n (tokens_weigh (take i es) x) (one_at p x)) ∙ ap (λ k. n * k) (ap (λ k. tokens_weigh (take i es) x + k) here ∙ sym more) in
    ap (λ c. at c x) (add ∙ ap (λ y. set m p (at m p +ℤ y)) number) ∙ at-set m p (at m p +ℤ pos n) x
    ∙ ap (cond (is_point x p) (at m p +ℤ pos n)) (h x)
    ∙ add_here (is_point x p) (at m p) (n * tokens_weigh (take i es) x) n (λ t. ap (at m) (sym (tells_apart point_exact x p t)) ∙ h x)
    ∙ ap pos sum

count_here : (b : Bool) (here there : ℤ) (n : ℕ) → (b ≡ true → here ≡ there) → cond b (here +ℤ pos n) there ≡ there +ℤ pos (n * cond b 1 0)
count_here true here there n e = let one : n ≡ n * 1 = omega arith in (λ i. e refl i +ℤ pos (one i))
count_here false here there n e = let none : there ≡ there +ℤ pos (n * 0) = omega (arith, ints) in none

-- a pointstamp is counted n times
counted : (m : DeltaValue) (p x : Pointstamp) (n : ℕ) → at (set m p (at m p +ℤ pos n)) x ≡ at m x +ℤ pos (n * one_at p x)
counted m p x n = at-set m p (at m p +ℤ pos n) x ∙ count_here (is_point x p) (at m p) (at m x) n (λ t. ap (at m) (sym (tells_apart point_exact x p t)))

one_less : (a b all : ℤ) (k l m : ℕ) → a ≡ b +ℤ pos k → m ≡ k + l → b +ℤ pos m ≡ all → a +ℤ pos l ≡ all
one_less a b all k l m more sum so_far = omega (arith, ints, more, sum, so_far)

-- one more request is counted n times
pub requests_turn : (es rest : List (Pointstamp × Unit {0})) (e : Pointstamp × Unit {0}) (n : ℕ) (z : ℤ) (m new : DeltaValue) → es ≡ e ∷ rest → z ≡ pos n → new ≡ set m e.0 (at m e.0 +ℤ z)
    → (all : Pointstamp → ℤ) → ((x : Pointstamp) → at m x +ℤ pos (n * requests_weigh es x) ≡ all x) → (x : Pointstamp) → at new x +ℤ pos (n * requests_weigh rest x) ≡ all x
requests_turn es rest e n z m new step number add all h x =
    let more : at new x ≡ at m x +ℤ pos (n * one_at e.0 x) = ap (λ c. at c x) (add ∙ ap (λ y. set m e.0 (at m e.0 +ℤ y)) number) ∙ counted m e.0 x n in
    let sum : n * requests_weigh es x ≡ n * one_at e.0 x + n * requests_weigh rest x
    = ap (λ k. n * k) (ap (λ ys. requests_weigh ys x) step ∙ sum_by-cons (λ (d : Pointstamp × Unit {0}). one_at d.0 x) e rest) ∙ mul-add n (one_at e.0 x) (requests_weigh rest x) in
    one_less (at new x) (at m x) (all x) (n * one_at e.0 x) (n * requests_weigh rest x) (n * requests_weigh es x) more sum (h x)

-- no request is left
pub requests_end : (es : List (Pointstamp × Unit {0})) (n : ℕ) (z all : ℤ) (x : Pointstamp) → es ≡ [] → z +ℤ pos (n * requests_weigh es x) ≡ all → z ≡ all
requests_end es n z all x none h =
    let nothing : z ≡ z +ℤ pos (n * 0) = omega (arith, ints) in
    nothing ∙ ap (λ ys. z +ℤ pos (n * requests_weigh ys x)) (sym none) ∙ h

-- in the initial state a processor holds only its tokens and its requests
held-start : (g : Dataflow) (x : Pointstamp) → held (start_processor g) x ≡ tokens_weigh (fin.entries (start_processor g).tokens) x + requests_weigh (fin.entries (start_processor g).requests) x
held-start g x = let r = no_records x in let q = in_requests-weight (start_processor g).requests x in omega arith

pub start_counts : (g : Dataflow) (n : ℕ) (d : DeltaValue) (es : List (ℕ × ℕ)) (rs : List (Pointstamp × Unit {0})) → es ≡ fin.entries (start_processor g).tokens → rs ≡ fin.entries (start_processor g).requests
    → ((x : Pointstamp) → at d x ≡ pos (n * tokens_weigh es x) +ℤ pos (n * requests_weigh rs x)) → d ≡ truth (replicate n (start_processor g))
start_counts g n d es rs is are h =
    same _ _ (λ x.
    h x
    ∙ ap pos (sym (mul-add n (tokens_weigh es x) (requests_weigh rs x)))
    ∙ ap (λ k. pos (n * k)) ((λ i. tokens_weigh (is i) x + requests_weigh (are i) x) ∙ sym (held-start g x))
    ∙ sym (ap pos (sum_by-replicate (λ (q : ProcessorState). held q x) n (start_processor g)))
    ∙ sym (truth-count (replicate n (start_processor g)) x))

-- one more view of what is outstanding
pub from_nothing : (d : DeltaValue) → plus none d ≡ d
from_nothing d = same _ _ (λ x. at-plus none d x ∙ ap (λ z. z +ℤ at d x) (at-none x) ∙ (let e : pos 0 +ℤ at d x ≡ at d x = omega (arith, ints) in e))

pub one : {X : Type 0} (P : X → Type 0) (x : X) → P x → All P (x ∷ [])
one P x h zero d lt = h
one P x h (suc k) d lt = absurd (omega arith)

pub views_turn : (vs new : List Kept) (v : Kept) (k : ℕ) (d : DeltaValue) → new ≡ vs ++ v ∷ [] → v.map ≡ d → map (λ (w : Kept). w.map) vs ≡ replicate k d → map (λ (w : Kept). w.map) new ≡ replicate (k + 1) d
views_turn vs new v k d is one all =
    ap (map (λ (w : Kept). w.map)) is ∙ map-append (λ (w : Kept). w.map) vs (v ∷ [])
    ∙ (λ i. all i ++ one i ∷ []) ∙ replicate_more k d

pub seen_start : (g : Dataflow) (n : ℕ) (k : Dataflow) (ps : List ProcessorState) (vs : List Kept) (m : List (List (List DeltaValue))) (d : DeltaValue) → k ≡ g → ps ≡ replicate n (start_processor g) → map (λ v. v.map) vs ≡ replicate n d → d ≡ truth (replicate n (start_processor g)) → m ≡ replicate n (replicate n [])
    → seen k ps vs m ≡ start g n
unfolding start
seen_start g n k ps vs m d a b c e f = λ i. record { graph = a i; processors = b i; views = (c ∙ ap (replicate n) e) i; queues = f i }

pub ordered : (g : Dataflow) → IsFaultless g → All (ArcAgrees (depths g)) (arcs g) → IsAccepted g → IsOrdered g
ordered g sound agree accepted = record { joined = sound.joined; agree = agree; accepted = accepted }

pub path_fault : (g : Dataflow) (n : ℕ) (e : PathFault) → IsProcessorCount n → IsFault g e → IsStartFault g n (fault_of e)
path_fault g n (path.LoopNotStrict l) count fails = (count, record { fails = fails.0; first = fails.1 })
path_fault g n path.Memory count fails = count
