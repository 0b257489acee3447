-- How many moves there can be: each broadcast needs something unsent, and each receive a change that is queued.
use Rattle.std.proofs.Common.{◌≡◌, inl, inr, ℕ, zero, suc, ◌+◌, ◌*◌, ◌<◌, ◌≤◌, pos, ◌-ℤ◌, true, false, cond, List, [], ◌∷◌, ◌++◌, map, length, refl, sym, ap, subst, ◌∙◌, arith, length-append}
use Rattle.std.proofs.lemmas.Int.{ints}
use Rattle.std.proofs.lemmas.List.Elements.{All-get_or}
use Rattle.std.proofs.lemmas.List.Sums.{sum_by-cons, sum_by-set}
use Rattle.std.proofs.Math.Nat.{mul-le-mul_left}
use Rattle.std.specs.Prelude.{slice_index_or, slice_set, sum_by}
use Rattle.nd_graph.specs.Graph.{Dataflow}
use Rattle.nd_delta.specs.Delta.{DeltaValue, none, minus, at as in_change, at-minus, at-none, at-entries, entries, or_zero, same, size-none}
use Rattle.std.specs.FinMap.{find}
use Rattle.nd_paths.specs.Point.{point_cmp}
use Rattle.nd_processor.specs.State.{ProcessorState, idle}
use Rattle.nd_processor.specs.declared.key.ValueAt.{ValueAt}
use Rattle.nd_protocol.specs.State.{ClusterState, processor, queue}
use Rattle.nd_protocol.specs.Steps.{with_record, with_records, with_gain, taken, noticed, stepped, after}
use Rattle.nd_protocol.specs.Exchange.{sent, received, received_from}
use Rattle.nd_protocol.specs.Fitting.{IsState}
use Rattle.nd_protocol.specs.declared.part.Part.TheVariants.{All as Whole, Points}
use Rattle.nd_protocol.specs.declared.step.Step.{Step}
use Rattle.nd_protocol.specs.declared.step.Step.TheVariants.{Feed, Take, Notice, Release, Send, Broadcast, Receive}
use Rattle.nd_protocol.specs.declared.refusal.Refusal.TheVariants.{NoProcessor, NothingToSend, QueueEmpty}
use Rattle.nd_rest.specs.Moves.{IsMove, AreMoves, work, works}
use Rattle.nd_rest.specs.Laws.{is_filled, senders, queued, MovesEnd}
use Rattle.nd_rest.proofs.Firings.{Firing, nth, changed, made, found, fire, length-fire}
use Rattle.nd_rest.proofs.Core.{taking, noticing, firing}
use Rattle.nd_rest.proofs.Moving.{Laws, IsSound, still_sound, same_many, below, taken-fires, noticed-fires}
use Rattle.nd_rest.proofs.Ends.{left}

-- ---- how many processors have something unsent

-- 1 if the processor has something unsent
abbrev has_unsent : ProcessorState → ℕ
has_unsent q = cond (is_filled (entries q.unsent)) 1 0

abbrev unsent_in : List ProcessorState → ℕ
unsent_in qs = sum_by has_unsent qs

at_most_one : (q : ProcessorState) → has_unsent q ≤ 1
at_most_one q = elim (is_filled (entries q.unsent)) as (λ b. cond b 1 0 ≤ 1) [ true ↦ omega arith | false ↦ omega arith ]

sum-same : (w : ProcessorState → ℕ) (qs : List ProcessorState) (p : ℕ) (r : ProcessorState) → w r ≡ w (nth qs p) → sum_by w (slice_set qs p r) ≡ sum_by w qs
sum-same w [] p r e = refl
sum-same w (q ∷ qs) zero r e = sum_by-cons w r qs ∙ ap (λ n. n + sum_by w qs) e ∙ sym (sum_by-cons w q qs)
sum-same w (q ∷ qs) (suc p) r e = sum_by-cons w q (slice_set qs p r) ∙ ap (λ n. w q + n) (sum-same w qs p r e) ∙ sym (sum_by-cons w q qs)

unsent-records : (qs : List ProcessorState) (rs : List (ℕ × ValueAt)) → unsent_in (with_records qs rs) ≡ unsent_in qs
unsent-records qs [] = refl
unsent-records qs (r ∷ rs) = unsent-records (with_record qs r) rs ∙ sum-same has_unsent qs r.0 _ refl

unsent-fire : (g : Dataflow) (f : Firing) (qs : List ProcessorState) → unsent_in (fire g f qs) ≡ unsent_in qs
unfolding fire
unsent-fire g f qs = unsent-records (slice_set qs f.p (changed f (nth qs f.p))) (made g (length qs) f (found f qs)) ∙ sum-same has_unsent qs f.p (changed f (nth qs f.p)) refl

-- another processor at a place makes at most one more
unsent-set : (qs : List ProcessorState) (p : ℕ) (r : ProcessorState) → p < length qs → unsent_in (slice_set qs p r) ≤ unsent_in qs + 1
unsent-set qs p r lt =
    let moved : unsent_in (slice_set qs p r) + has_unsent (nth qs p) ≡ unsent_in qs + has_unsent r = sum_by-set has_unsent qs p r idle lt in
    let few : has_unsent r ≤ 1 = at_most_one r in
    omega (arith, moved, few)

done_unsent : (s : ClusterState) (p : ℕ) (f : Firing) (new : List ProcessorState) → new ≡ fire s.graph f s.processors → p < length s.processors → unsent_in (with_gain s.processors p new) ≤ unsent_in s.processors + 1
done_unsent s p f new is lt =
    let inside : p < length new = subst (λ n. p < n) (sym (ap length is ∙ length-fire s.graph f s.processors)) lt in
    let one : unsent_in (with_gain s.processors p new) ≤ unsent_in new + 1 = unsent-set new p _ inside in
    let same_of : unsent_in new ≡ unsent_in s.processors = ap unsent_in is ∙ unsent-fire s.graph f s.processors in
    omega (arith, one, same_of)

-- ---- a broadcast of all

all_sent : (c : DeltaValue) → minus c c ≡ none
all_sent c = same (minus c c) none (λ x. at-minus c c x ∙ (let e : in_change c x -ℤ in_change c x ≡ pos 0 = omega (arith, ints) in e) ∙ sym (at-none x))

empty_is_none : (c : DeltaValue) → entries c ≡ [] → c ≡ none
empty_is_none c e = same c none (λ x. sym (at-entries c x) ∙ ap (λ es. or_zero (find point_cmp x es)) e ∙ sym (at-none x))

not_filled : {X : Type 0} (xs : List X) → length xs ≡ 0 → is_filled xs ≡ false
not_filled [] e = refl
not_filled (x ∷ xs) e = absurd (omega arith)

filled : {X : Type 0} (xs : List X) → (xs ≡ [] → ⊥) → is_filled xs ≡ true
filled [] some = absurd (some refl)
filled (x ∷ xs) some = refl

broadcast_unsent : (qs : List ProcessorState) (p : ℕ) → p < length qs → ((nth qs p).unsent ≡ none → ⊥)
    → unsent_in (slice_set qs p (record (nth qs p) { unsent = minus (nth qs p).unsent (nth qs p).unsent })) + 1 ≡ unsent_in qs
broadcast_unsent qs p lt some =
    let q : ProcessorState = nth qs p in
    let r : ProcessorState = record q { unsent = minus q.unsent q.unsent } in
    let moved : unsent_in (slice_set qs p r) + has_unsent q ≡ unsent_in qs + has_unsent r = sum_by-set has_unsent qs p r idle lt in
    let one : has_unsent q ≡ 1 = ap (λ b. cond b 1 0) (filled (entries q.unsent) (λ e. some (empty_is_none q.unsent e))) in
    let nothing : has_unsent r ≡ 0 = ap (λ c. cond (is_filled (entries c)) 1 0) (all_sent q.unsent) ∙ ap (λ b. cond b 1 0) (not_filled (entries none) size-none) in
    omega (arith, moved, one, nothing)

-- ---- the queues

abbrev in_row : List (List DeltaValue) → ℕ
in_row row = sum_by length row

one_more_each : (c : DeltaValue) (row : List (List DeltaValue)) → in_row (map (λ changes. changes ++ c ∷ []) row) ≡ in_row row + length row
one_more_each c [] = refl
one_more_each c (cs ∷ row) =
    let rest = one_more_each c row in
    let first = sum_by-cons length (cs ++ c ∷ []) (map (λ changes. changes ++ c ∷ []) row) in
    let before = sum_by-cons length cs row in
    let longer = length-append cs (c ∷ []) in
    omega (arith, rest, first, before, longer)

row_of : (s : ClusterState) → IsState s → (p : ℕ) → p < length s.processors → (p < length s.queues) × (length (slice_index_or s.queues p []) ≡ length s.processors)
row_of s state p lt =
    let inside : p < length s.queues = subst (λ n. p < n) (sym state.fits.each_sender) lt in
    (inside, All-get_or (λ r. length r ≡ length s.processors) s.queues p [] inside state.fits.each_receiver)

broadcast_queued : (s : ClusterState) → IsState s → (p : ℕ) (c : DeltaValue) → p < length s.processors
    → sum_by in_row (slice_set s.queues p (map (λ changes. changes ++ c ∷ []) (slice_index_or s.queues p []))) ≡ queued s + length s.processors
broadcast_queued s state p c lt =
    let row : List (List DeltaValue) = slice_index_or s.queues p [] in
    let place = row_of s state p lt in
    let moved = sum_by-set in_row s.queues p (map (λ changes. changes ++ c ∷ []) row) [] place.0 in
    let more : in_row (map (λ changes. changes ++ c ∷ []) row) ≡ in_row row + length row = one_more_each c row in
    let many : length row ≡ length s.processors = place.1 in
    omega (arith, moved, more, many)

received_queued : (s : ClusterState) → IsState s → (p q : ℕ) → p < length s.processors → q < length s.processors → (cs : List DeltaValue) → queue s p q ≡ cs → (cs ≡ [] → ⊥) → queued (received_from s p q cs) + 1 ≡ queued s
received_queued s state p q lt less [] is some = absurd (some refl)
received_queued s state p q lt less (c ∷ rest) is some =
    let row : List (List DeltaValue) = slice_index_or s.queues p [] in
    let place = row_of s state p lt in
    let in_this : q < length row = subst (λ n. q < n) (sym place.1) less in
    let moved = sum_by-set in_row s.queues p (slice_set row q rest) [] place.0 in
    let fewer : in_row (slice_set row q rest) + length (slice_index_or row q []) ≡ in_row row + length rest = sum_by-set length row q rest [] in_this in
    let old : length (slice_index_or row q []) ≡ suc (length rest) = ap length is in
    omega (arith, moved, fewer, old)

received_senders : (s : ClusterState) (p q : ℕ) (cs : List DeltaValue) → senders (received_from s p q cs) ≡ senders s
received_senders s p q [] = refl
received_senders s p q (c ∷ rest) = refl

-- ---- a move

-- 1 for a broadcast, and 1 for a receive
abbrev sending : {A : Type 0} → Step A → ℕ
sending (Broadcast p part) = 1
sending _ = 0

abbrev getting : {A : Type 0} → Step A → ℕ
getting (Receive from to) = 1
getting _ = 0

-- what a move needs, and what it leaves
record Pays {A : Type 0} (s : ClusterState) (x : Step A) : Type 0 where
  kind : work x + (sending x + getting x) ≡ 1
  unsent : senders (stepped s x) + sending x ≤ senders s + work x
  queues : queued (stepped s x) + getting x ≡ queued s + length s.processors * sending x

done_queued : (n m : ℕ) → n + 0 ≡ n + m * 0
done_queued n m = omega arith

pays : {A : Type 0} (s : ClusterState) (x : Step A) → IsState s → IsMove s x → Pays s x
unfolding stepped sent received
pays s (Take p edge t value) state move =
    let lt : p < length s.processors = below p (length s.processors) (move.enabled.free NoProcessor) in
    let one = done_unsent s p (firing s.graph (taking p edge t value)) (taken s p edge t value) (taken-fires s p edge t value) lt in
    record { kind = refl; unsent = omega (arith, one); queues = done_queued (queued s) (length s.processors) }
pays s (Notice p vertex t) state move =
    let lt : p < length s.processors = below p (length s.processors) (move.enabled.free NoProcessor) in
    let one = done_unsent s p (firing s.graph (noticing p vertex t)) (noticed s p vertex t) (noticed-fires s p vertex t) lt in
    record { kind = refl; unsent = omega (arith, one); queues = done_queued (queued s) (length s.processors) }
pays s (Broadcast p Whole) state move =
    let lt : p < length s.processors = below p (length s.processors) (move.enabled.free NoProcessor) in
    let fewer = broadcast_unsent s.processors p lt (move.enabled.free NothingToSend) in
    let more = broadcast_queued s state p (processor s p).unsent lt in
    record { kind = refl; unsent = omega (arith, fewer); queues = omega (arith, more) }
pays s (Broadcast p (Points points)) state move = absurd move.kind
pays s (Receive from to) state move =
    let lt : from < length s.processors = below from (length s.processors) (λ le. move.enabled.free NoProcessor (inl le)) in
    let less : to < length s.processors = below to (length s.processors) (λ le. move.enabled.free NoProcessor (inr le)) in
    let fewer = received_queued s state from to lt less (queue s from to) refl (move.enabled.free QueueEmpty) in
    let same_senders = received_senders s from to (queue s from to) in
    record { kind = refl; unsent = omega (arith, same_senders); queues = omega (arith, fewer) }
pays s (Feed p vertex values _) state move = absurd move.kind
pays s (Release p vertex times) state move = absurd move.kind
pays s (Send p vertex batch) state move = absurd move.kind

-- ---- lists of moves

abbrev sendings : {A : Type 0} → List (Step A) → ℕ
sendings [] = 0
sendings (x ∷ xs) = sending x + sendings xs

abbrev gettings : {A : Type 0} → List (Step A) → ℕ
gettings [] = 0
gettings (x ∷ xs) = getting x + gettings xs

module _ {A : Type 0} (laws : Laws A) (g : Dataflow) where
  all_kinds : (s : ClusterState) (xs : List (Step A)) → IsSound laws g s → AreMoves s xs → length xs ≡ works xs + (sendings xs + gettings xs)
  all_kinds s [] sound moves = refl
  all_kinds s (x ∷ xs) sound moves =
      let rest = all_kinds (stepped s x) xs (still_sound laws g s x sound moves.0) moves.1 in
      let one = (pays s x sound.state moves.0).kind in
      omega (arith, rest, one)

  few_sendings : (s : ClusterState) (xs : List (Step A)) → IsSound laws g s → AreMoves s xs → senders (after s xs) + sendings xs ≤ senders s + works xs
  unfolding after
  few_sendings s [] sound moves = omega arith
  few_sendings s (x ∷ xs) sound moves =
      let rest = few_sendings (stepped s x) xs (still_sound laws g s x sound moves.0) moves.1 in
      let one = (pays s x sound.state moves.0).unsent in
      omega (arith, rest, one)

  few_gettings : (s : ClusterState) (xs : List (Step A)) → IsSound laws g s → AreMoves s xs → queued (after s xs) + gettings xs ≡ queued s + length s.processors * sendings xs
  unfolding after
  few_gettings s [] sound moves = done_queued (queued s) (length s.processors)
  few_gettings s (x ∷ xs) sound moves =
      let n : ℕ = length s.processors in
      let rest : queued (after (stepped s x) xs) + gettings xs ≡ queued (stepped s x) + n * sendings xs
      = subst (λ m. queued (after (stepped s x) xs) + gettings xs ≡ queued (stepped s x) + m * sendings xs) (same_many laws s x sound.state sound.keeps moves.0)
      (few_gettings (stepped s x) xs (still_sound laws g s x sound moves.0) moves.1) in
      let one = (pays s x sound.state moves.0).queues in
      adds n (sending x) (sendings xs) (queued s) (queued (stepped s x)) (queued (after (stepped s x) xs)) (getting x) (gettings xs) rest one
    where
      adds : (n a b q q1 q2 c d : ℕ) → q2 + d ≡ q1 + n * b → q1 + c ≡ q + n * a → q2 + (c + d) ≡ q + n * (a + b)
      adds n a b q q1 q2 c d e f = omega (arith, e, f)

within : (n w r q k b g u v l : ℕ) → w ≤ k → u + b ≤ r + w → v + g ≡ q + n * b → l ≡ w + (b + g) → n * b ≤ n * (k + r) → l ≤ k + (k + r) + q + n * (k + r)
within n w r q k b g u v l few unsent queues whole product = omega (arith, few, unsent, queues, whole, product)

pub moves_end : {A : Type 0} → Laws A → MovesEnd A
moves_end laws s xs ys state keeps to_rest moves =
    let sound : IsSound laws s.graph s = record { state = state; keeps = keeps; graph = refl } in
    let n : ℕ = length s.processors in
    let rest = left laws s xs ys state keeps to_rest moves in
    let parts : works xs ≡ works ys + rest.0 = rest.1 in
    let few : works ys ≤ works xs = omega (arith, parts) in
    let unsent = few_sendings laws s.graph s ys sound moves in
    let below_most : sendings ys ≤ works xs + senders s = omega (arith, unsent, few) in (
      few,
      within n (works ys) (senders s) (queued s) (works xs) (sendings ys) (gettings ys) (senders (after s ys)) (queued (after s ys)) (length ys)
          few unsent (few_gettings laws s.graph s ys sound moves) (all_kinds laws s.graph s ys sound moves) (mul-le-mul_left n below_most),
    )
