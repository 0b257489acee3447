-- The candidates of a processor and of a cluster: they are complete; they are gone through one by one, and listed.
use Rattle.std.proofs.Common.{◌≡◌, ◌≢◌, ◌<◌, ◌≤◌, ◌+◌, ◌-◌, ◌%◌, inl, inr, ℕ, zero, suc, ℤ, Bool, true, false, cond, List, [], ◌∷◌, ◌++◌, map, length, length-append, Option, Some, None, refl, sym, ap, subst, ◌∙◌, arith, append_assoc, Ordering}
use Rattle.std.specs.Prelude.{All, Contains, nat_lt, IsTrue}
use Rattle.std.specs.List.{flat_map, range_with_len}
use Rattle.std.specs.Ordering.{eq_by_cmp}
use Rattle.std.specs.FinMap.{IsAntisymmetric, find}
use Rattle.std.specs.FinMap as fin
use Rattle.std.proofs.lemmas.Bool.{cases_lt}
use Rattle.std.proofs.lemmas.Bool.Decides.{nat_tests}
use Rattle.std.proofs.lemmas.List.{append-nil, length-map, map-append, take_all, take-append-le, length-take}
use Rattle.std.proofs.lemmas.List.Elements.{All-nil, All-cons, All-append, All-map, All-weaker, All-contains, All-push, Contains-append_left, Contains-append_right, Contains-append_cases, Contains-push}
use Rattle.std.proofs.lemmas.List.FromFn.{length-range_with_len, get_or-range_with_len}
use Rattle.std.proofs.lemmas.Map.Views.{tells_apart}
use Rattle.nd_time.specs.Limits.{max_told}
use Rattle.nd_map.specs.Counts.{entries, at-entries, or_else}
use Rattle.nd_paths.specs.Point.{point_cmp, point_exact}
use Rattle.nd_paths.specs.declared.point.Pointstamp.{Pointstamp}
use Rattle.nd_delta.specs.Delta.{DeltaValue, none, same, size, or_zero, at-none}
use Rattle.nd_delta.specs.Delta.{at-entries as updates-at, entries as updates}
use Rattle.nd_mesh.specs.Mesh.{AreVacant}
use Rattle.nd_processor.specs.State.{ProcessorState}
use Rattle.nd_processor.specs.Keys.{value_at_cmp, value_at_exact}
use Rattle.nd_processor.specs.declared.key.ValueAt.{ValueAt}
use Rattle.nd_protocol.specs.State.{ClusterState, processor, queue}
use Rattle.nd_protocol.specs.Steps.{record_key, point_at}
use Rattle.nd_protocol.specs.Enabled.{IsEnabled}
use Rattle.nd_protocol.specs.declared.refusal.Refusal.TheVariants.{NoProcessor, NoRecord, NoRequest, NothingToSend, QueueEmpty}
use Rattle.nd_protocol.specs.declared.step.Step.{Step}
use Rattle.nd_protocol.specs.declared.step.Step.TheVariants.{Feed, Take, Notice, Release, Send, Broadcast, Receive}
use Rattle.nd_protocol.specs.declared.part.Part.TheVariants.{Points}
use Rattle.nd_protocol.specs.declared.part.Part.TheVariants.{All as Whole}
use Rattle.nd_cluster.specs.Candidates.{receive_of, receives_from, receives, takes, notices, broadcast_of, broadcasts, candidates_of, may_run, candidates_if, candidates_on, candidates_among, IsCandidate, performer, IsAmong, AreComplete, receives_after, left_of, AreListed, IsAnswered, Lists}
use Rattle.nd_cluster.specs.Choice.{from_turn, candidates_from}
use Rattle.nd_cluster.specs.Order.{Has}
use Rattle.nd_cluster.specs.Drafted.{take_of, notice_of}
use Rattle.nd_cluster.specs.declared.candidate.Candidate.{Candidate}
use Rattle.nd_cluster.specs.declared.candidate.Candidates.{Candidates}

-- ---- lists

among_first : {X : Type 0} (x : X) (xs : List X) → Contains (x ∷ xs) x
among_first x xs = Contains-append_left (x ∷ []) xs x (Contains-push [] x)

in_range : (k n j : ℕ) → k ≤ j → j < k + n → Contains (range_with_len k n) j
in_range k n j low high =
    let back : k + (j - k) ≡ j = omega (arith, low) in
    (j - k, omega (arith, low, high, length-range_with_len k n), get_or-range_with_len k n (j - k) j (omega (arith, low, high)) ∙ back)

module _ {X Y : Type 0} (f : X → List Y) where
  -- if P holds of all elements of each of the lists, it holds of all elements of the joined list
  in_each : (P : Y → Type 0) → ((x : X) → All P (f x)) → (xs : List X) → All P (flat_map f xs)
  in_each P h [] = All-nil P
  in_each P h (x ∷ xs) = All-append P (f x) (flat_map f xs) (h x) (in_each P h xs)

  pub among_each : (x : X) (xs : List X) (y : Y) → Contains xs x → Contains (f x) y → Contains (flat_map f xs) y
  among_each x [] y at h = absurd (omega (arith, at.1))
  among_each x (z ∷ xs) y at h = elim (Contains-append_cases (z ∷ []) xs x at) [
    | inl here ↦
        let is : x ≡ z = All-contains (λ w. w ≡ z) (z ∷ []) x (All-cons (λ w. w ≡ z) z [] refl (All-nil (λ w. w ≡ z))) here in
        Contains-append_left (f z) (flat_map f xs) y (subst (λ w. Contains (f w) y) is h)
    | inr later ↦ Contains-append_right (f z) (flat_map f xs) y (among_each x xs y later h)
  ]

module _ {Y : Type 0} (f : ℕ → List Y) (k n : ℕ) where
  -- the list of k, and those of the numbers after k
  pub next_of : k < n → flat_map f (range_with_len k (n - k)) ≡ f k ++ flat_map f (range_with_len (k + 1) (n - (k + 1)))
  next_of lt = let more : n - k ≡ suc (n - (k + 1)) = omega (arith, lt) in ap (λ m. flat_map f (range_with_len k m)) more

  pub none_left : n ≤ k → flat_map f (range_with_len k (n - k)) ≡ []
  none_left le = let none : n - k ≡ 0 = omega (arith, le) in ap (λ m. flat_map f (range_with_len k m)) none

module _ {K X Y : Type 0} (R : K → K → Ordering) (tells : IsAntisymmetric R) (f : K → Y) where
  key_among : (k : K) (es : List (K × X)) → find R k es ≢ None → Contains (map (λ e. f e.0) es) (f k)
  key_among k [] h = absurd (h refl)
  key_among k (e ∷ es) h =
      elim (eq_by_cmp R k e.0) as (λ b. eq_by_cmp R k e.0 ≡ b → cond b (Some e.1) (find R k es) ≢ None → Contains (f e.0 ∷ map (λ d. f d.0) es) (f k)) [
        | true ↦ λ t _. subst (λ q. Contains (f e.0 ∷ map (λ d. f d.0) es) (f q)) (sym (tells_apart tells k e.0 t)) (among_first (f e.0) (map (λ d. f d.0) es))
        | false ↦ λ t has. Contains-append_right (f e.0 ∷ []) (map (λ d. f d.0) es) (f k) (key_among k es has)
      ] refl h

not_zero : (v : Option ℕ) → or_else 0 v ≢ 0 → v ≢ None
not_zero None h = λ _. h refl
not_zero (Some n) h = λ e. absurd (cc (e))

none_of : (m : DeltaValue) → updates m ≡ [] → m ≡ none
none_of m e = same m none (λ q. sym (updates-at m q) ∙ ap (λ es. or_zero (find point_cmp q es)) e ∙ sym (at-none q))

-- each processor has its turn
pub all_turns : (n turn p : ℕ) → p < n → Contains (from_turn n turn) p
all_turns n turn p lt = by (turn % n)
  where
    by : (r : ℕ) → Contains (range_with_len r (n - r) ++ range_with_len 0 r) p
    by r = elim (cases_lt p r) [
      | inl less ↦ Contains-append_right (range_with_len r (n - r)) (range_with_len 0 r) p (in_range 0 r p (omega arith) (omega (arith, less)))
      | inr most ↦ Contains-append_left (range_with_len r (n - r)) (range_with_len 0 r) p (in_range r (n - r) p most (omega (arith, most, lt)))
    ]

below : (n p : ℕ) → (n ≤ p → ⊥) → p < n
below n p h = omega (arith, h)

module _ {A : Type 0} (s : ClusterState) where
  -- ---- what the candidates of a processor are

  module _ (p : ℕ) where
    abbrev IsOf : Step A → Type 0
    IsOf x = IsCandidate x × (performer x ≡ p)

    receive_is_of : (from : ℕ) (cs : List DeltaValue) → All IsOf (receive_of p from cs)
    receive_is_of from [] = All-nil IsOf
    receive_is_of from (c ∷ cs) = All-cons IsOf (Receive from p) [] (tt, refl) (All-nil IsOf)

    broadcast_is_of : (es : List (Pointstamp × ℤ)) → All IsOf (broadcast_of p es)
    broadcast_is_of [] = All-nil IsOf
    broadcast_is_of (e ∷ es) = All-cons IsOf (Broadcast p Whole) [] (tt, refl) (All-nil IsOf)

    all_are_of : All IsOf (candidates_of s p)
    unfolding candidates_of
    all_are_of =
        All-append IsOf (receives s p) _ (in_each (λ from. receive_of p from (queue s from p)) IsOf (λ from. receive_is_of from (queue s from p)) (range_with_len 0 (length s.processors)))
        (All-append IsOf (takes s p) _ (All-map IsOf (λ (e : ValueAt × ℕ). take_of p e.0) (entries (processor s p).records) (λ k d lt. (tt, refl)))
        (All-append IsOf (notices s p) _ (All-map IsOf (λ (e : Pointstamp × Unit {0}). notice_of p e.0) (fin.entries (processor s p).requests) (λ k d lt. (tt, refl)))
        (broadcast_is_of (updates (processor s p).unsent))))

    all_among : (only : Option (List ℕ)) → All (IsAmong {A = A} only) (candidates_if s only p)
    all_among only = by (may_run only p) (λ t. t)
      where
        by : (b : Bool) → (b ≡ true → IsTrue (may_run only p)) → All (IsAmong {A = A} only) (cond b (candidates_of s p) [])
        by true goes = All-weaker IsOf (IsAmong only) (λ x h. (h.0, subst (λ q. IsTrue (may_run only q)) (sym h.1) (goes refl))) (candidates_of s p) all_are_of
        by false goes = All-nil (IsAmong only)

  -- ---- each enabled candidate is one of them

  pub performer_there : (x : Step A) → IsEnabled s x → performer x < length s.processors
  performer_there (Feed p vertex values _) e = below _ p (e.free NoProcessor)
  performer_there (Take p edge t value) e = below _ p (e.free NoProcessor)
  performer_there (Notice p vertex t) e = below _ p (e.free NoProcessor)
  performer_there (Release p vertex times) e = below _ p (e.free NoProcessor)
  performer_there (Send p vertex batch) e = below _ p (λ h. e.free NoProcessor (inl h))
  performer_there (Broadcast p part) e = below _ p (e.free NoProcessor)
  performer_there (Receive from to) e = below _ to (λ h. e.free NoProcessor (inr h))

  among_receives : (from p : ℕ) → from < length s.processors → queue s from p ≢ [] → Contains (receives {A = A} s p) (Receive from p)
  among_receives from p lt some =
      among_each (λ k. receive_of p k (queue s k p)) from (range_with_len 0 (length s.processors)) (Receive from p) (in_range 0 (length s.processors) from (omega arith) (omega (arith, lt))) (by (queue s from p) some)
    where
      by : (cs : List DeltaValue) → cs ≢ [] → Contains (receive_of {A = A} p from cs) (Receive from p)
      by [] h = absurd (h refl)
      by (c ∷ cs) h = among_first (Receive from p) []

  among_broadcasts : (p : ℕ) (m : DeltaValue) → m ≢ none → Contains (broadcast_of {A = A} p (updates m)) (Broadcast p Whole)
  among_broadcasts p m some = by (updates m) (λ e. some (none_of m e))
    where
      by : (es : List (Pointstamp × ℤ)) → es ≢ [] → Contains (broadcast_of {A = A} p es) (Broadcast p Whole)
      by [] h = absurd (h refl)
      by (e ∷ es) h = among_first (Broadcast p Whole) []

  -- an enabled candidate of a processor has what it needs
  has_enabled : (y : Step A) → IsCandidate y → IsEnabled s y → Has s y
  has_enabled (Feed p vertex values _) candidate e = absurd candidate
  has_enabled (Release p vertex times) candidate e = absurd candidate
  has_enabled (Send p vertex batch) candidate e = absurd candidate
  has_enabled (Receive from p) candidate e = (below _ from (λ h. e.free NoProcessor (inl h)), e.free QueueEmpty)
  has_enabled (Take p edge t value) candidate e = e.free NoRecord
  has_enabled (Notice p vertex t) candidate e = e.free NoRequest
  has_enabled (Broadcast p Whole) candidate e = e.free NothingToSend
  has_enabled (Broadcast p (Points points)) candidate e = absurd candidate

  pub covers_has : (y : Step A) → Has s y → Contains (candidates_of s (performer y)) y
  unfolding candidates_of
  covers_has (Feed p vertex values _) has = absurd has
  covers_has (Release p vertex times) has = absurd has
  covers_has (Send p vertex batch) has = absurd has
  covers_has (Receive from p) has =
      Contains-append_left (receives s p) (takes s p ++ (notices s p ++ broadcasts s p)) (Receive from p) (among_receives from p has.0 has.1)
  covers_has (Take p edge t value) has =
      Contains-append_right (receives s p) (takes s p ++ (notices s p ++ broadcasts s p)) (Take p edge t value)
      (Contains-append_left (takes s p) (notices s p ++ broadcasts s p) (Take p edge t value)
      (key_among value_at_cmp value_at_exact (take_of p) (record_key edge t value) (entries (processor s p).records)
      (not_zero _ (λ z. has (at-entries (processor s p).records (record_key edge t value) ∙ z)))))
  covers_has (Notice p vertex t) has =
      Contains-append_right (receives s p) (takes s p ++ (notices s p ++ broadcasts s p)) (Notice p vertex t)
      (Contains-append_right (takes s p) (notices s p ++ broadcasts s p) (Notice p vertex t)
      (Contains-append_left (notices s p) (broadcasts s p) (Notice p vertex t)
      (key_among point_cmp point_exact (notice_of p) (point_at vertex t) (fin.entries (processor s p).requests)
      (λ z. has (fin.get-entries (processor s p).requests (point_at vertex t) ∙ z)))))
  covers_has (Broadcast p Whole) has =
      Contains-append_right (receives s p) (takes s p ++ (notices s p ++ broadcasts s p)) (Broadcast p Whole)
      (Contains-append_right (takes s p) (notices s p ++ broadcasts s p) (Broadcast p Whole)
      (Contains-append_right (notices s p) (broadcasts s p) (Broadcast p Whole)
      (among_broadcasts p (processor s p).unsent has)))
  covers_has (Broadcast p (Points points)) has = absurd has

  -- ---- the candidates of all processors

  module _ (only : Option (List ℕ)) where
    complete : (ps : List ℕ) → ((p : ℕ) → p < length s.processors → Contains ps p) → AreComplete {A = A} s only (candidates_on s only ps)
    complete ps all = record {
      kinds = in_each (candidates_if s only) (IsAmong only) (λ p. all_among p only) ps;
      covers = λ x is e.
          among_each (candidates_if s only) (performer x) ps x (all (performer x) (performer_there x e))
          (subst (λ b. Contains (cond b (candidates_of s (performer x)) []) x) (sym is.1) (covers_has x (has_enabled x is.0 e)));
    }

    pub complete_among : AreComplete {A = A} s only (candidates_among s only)
    complete_among = complete (range_with_len 0 (length s.processors)) (λ p lt. in_range 0 (length s.processors) p (omega arith) (omega (arith, lt)))

    pub complete_from : (turn : ℕ) → AreComplete {A = A} s only (candidates_from s turn only)
    complete_from turn = complete (from_turn (length s.processors) turn) (all_turns (length s.processors) turn)

-- ---- the remaining candidates of a processor

module _ {A : Type 0} (s : ClusterState) (p : ℕ) where
  abbrev receive_from : ℕ → List (Step A)
  receive_from from = receive_of p from (queue s from p)

  -- the queue from a sender is not empty
  pub next_receive : (from : ℕ) → from < length s.processors → 0 < length (queue s from p) → receives_after {A = A} s p from ≡ Receive from p ∷ receives_after s p (from + 1)
  next_receive from lt some = next_of receive_from from (length s.processors) lt ∙ by (queue s from p) some
    where
      by : (cs : List DeltaValue) → 0 < length cs → receive_of {A = A} p from cs ++ receives_after s p (from + 1) ≡ Receive from p ∷ receives_after s p (from + 1)
      by [] h = absurd (omega (arith, h))
      by (c ∷ cs) h = refl

  -- the queue from a sender is empty
  pub no_receive : (from : ℕ) → from < length s.processors → length (queue s from p) ≡ 0 → receives_after {A = A} s p from ≡ receives_after s p (from + 1)
  no_receive from lt nothing = next_of receive_from from (length s.processors) lt ∙ by (queue s from p) nothing
    where
      by : (cs : List DeltaValue) → length cs ≡ 0 → receive_of {A = A} p from cs ++ receives_after s p (from + 1) ≡ receives_after s p (from + 1)
      by [] h = refl
      by (c ∷ cs) h = absurd (omega (arith, h))

  -- no sender is left
  pub no_receives : (from : ℕ) → length s.processors ≤ from → receives_after {A = A} s p from ≡ []
  no_receives from le = none_left receive_from from (length s.processors) le

  -- no queue has a change
  pub none_queued : AreVacant s.queues → (from : ℕ) → receives_after {A = A} s p from ≡ []
  none_queued vacant from = along from (length s.processors - from)
    where
      along : (k n : ℕ) → receives_from {A = A} s p (range_with_len k n) ≡ []
      along k zero = refl
      along k (suc n) = rw (vacant k p) (along (k + 1) n)

  broadcast_if : (es : List (Pointstamp × ℤ)) → ◌≡◌ {A = List (Step A)} (cond (nat_lt 0 (length es)) (Broadcast p Whole ∷ []) []) (broadcast_of p es)
  broadcast_if [] = refl
  broadcast_if (e ∷ es) =
      let some : nat_lt 0 (length (e ∷ es)) ≡ true = grind (arith, nat_tests) in
      ap (λ b. cond b (Broadcast p Whole ∷ []) []) some

  -- at first all candidates are left
  pub all_left : (q : ProcessorState) (records : List (ValueAt × ℕ)) (requests : List (Pointstamp × Unit {0})) (m : DeltaValue) (n : ℕ)
      → q ≡ processor s p → records ≡ entries q.records → requests ≡ fin.entries q.requests → m ≡ q.unsent → n ≡ size m
      → left_of {A = A} s p 0 records requests (nat_lt 0 n) ≡ candidates_of s p
  unfolding candidates_of
  all_left q records requests m n q_is records_are requests_are m_is n_is =
      let all : length s.processors - 0 ≡ length s.processors = omega arith in
      let rs : records ≡ entries (processor s p).records = records_are ∙ ap (λ (x : ProcessorState). entries x.records) q_is in
      let qs : requests ≡ fin.entries (processor s p).requests = requests_are ∙ ap (λ (x : ProcessorState). fin.entries x.requests) q_is in
      let us : n ≡ size (processor s p).unsent = n_is ∙ ap size (m_is ∙ ap (λ (x : ProcessorState). x.unsent) q_is) in
      (λ i. receives_from s p (range_with_len 0 (all i)) ++ (map (λ e. take_of p e.0) (rs i) ++ (map (λ e. notice_of p e.0) (qs i) ++ cond (nat_lt 0 (us i)) (Broadcast p Whole ∷ []) [])))
      ∙ ap (λ b. receives s p ++ (takes s p ++ (notices s p ++ b))) (broadcast_if (updates (processor s p).unsent))

-- ---- the list of candidates

module _ {A : Type 0} (s : ClusterState) (all : List (Step A)) where
  -- there is room for one more step
  pub with_room : (c : Candidate A) (old new : Candidates A) → AreListed s all old → length old.list < max_told → IsAnswered s c → new.list ≡ old.list ++ c ∷ [] → new.more ≡ old.more → AreListed s (all ++ c.step ∷ []) new
  with_room c old new is room answered pushed same =
      let steps : List (Candidate A) → List (Step A) = map (λ (d : Candidate A). d.step) in
      let count : length (steps old.list) ≡ length old.list = length-map old.list (λ (d : Candidate A). d.step) in
      let fewer : length all < max_told = omega (arith, room, count, ap length is.steps, length-take max_told all) in
      let more : length (all ++ c.step ∷ []) ≡ length all + 1 = length-append all (c.step ∷ []) in record {
        steps =
            ap steps pushed ∙ map-append (λ (d : Candidate A). d.step) old.list (c ∷ [])
            ∙ ap (λ xs. xs ++ c.step ∷ []) (is.steps ∙ take_all max_told all (omega (arith, fewer))) ∙ sym (take_all max_told (all ++ c.step ∷ []) (omega (arith, more, fewer)));
        answered = subst (All (IsAnswered s)) (sym pushed) (All-push (IsAnswered s) old.list c is.answered answered);
        more = (λ some. absurd (let lt : max_told < length all = is.more.0 (sym same ∙ some) in omega (arith, lt, fewer)), λ lt. absurd (omega (arith, lt, more, fewer)));
      }

  -- there is no room
  pub without_room : (x : Step A) (old new : Candidates A) → AreListed s all old → max_told ≤ length old.list → new.list ≡ old.list → new.more ≡ true → AreListed s (all ++ x ∷ []) new
  without_room x old new is full same some =
      let count : length (map (λ (d : Candidate A). d.step) old.list) ≡ length old.list = length-map old.list (λ (d : Candidate A). d.step) in
      let many : max_told ≤ length all = omega (arith, full, count, ap length is.steps, length-take max_told all) in record {
        steps = ap (map (λ (d : Candidate A). d.step)) same ∙ is.steps ∙ sym (take-append-le max_told all (x ∷ []) many);
        answered = subst (All (IsAnswered s)) (sym same) is.answered;
        more = (λ _. omega (arith, length-append all (x ∷ []), many), λ _. some);
      }

  -- there are already more than are listed
  pub more_already : (rest : List (Step A)) (listed : Candidates A) → listed.more ≡ true → AreListed s all listed → AreListed s (all ++ rest) listed
  more_already rest listed some is =
      let many : max_told < length all = is.more.0 some in record {
        steps = is.steps ∙ sym (take-append-le max_told all rest (omega (arith, many)));
        answered = is.answered;
        more = (λ _. omega (arith, length-append all rest, many), λ _. some);
      }

module _ {A : Type 0} (s : ClusterState) where
  pub lists_none : (listed : Candidates A) → Lists s [] listed listed
  lists_none listed all is = subst (λ xs. AreListed s xs listed) (sym (append-nil all)) is

  pub lists_both : (old mid new : Candidates A) (xs ys : List (Step A)) → Lists s xs old mid → Lists s ys mid new → Lists s (xs ++ ys) old new
  lists_both old mid new xs ys first next all is = subst (λ zs. AreListed s zs new) (append_assoc all xs ys) (next (all ++ xs) (first all is))
