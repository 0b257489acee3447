-- A state is at rest exactly if each of its candidates waits for users.
use Rattle.std.proofs.Common.{◌≡◌, ◌≢◌, ◌<◌, ◌≤◌, ◌-◌, ◌%◌, inl, inr, ℕ, zero, suc, ℤ, pos, negsuc, List, [], ◌∷◌, ◌++◌, length, Option, Some, None, refl, sym, ap, subst, ◌∙◌, arith}
use Rattle.std.specs.Prelude.{◌↔◌, All, Contains, IsTrue, slice_index_or}
use Rattle.std.specs.List.{range_with_len}
use Rattle.std.specs.FinMap as fin
use Rattle.std.proofs.lemmas.Bool.{cases_lt}
use Rattle.std.proofs.lemmas.List.{append-nil, get_or_past}
use Rattle.std.proofs.lemmas.List.Elements.{All-contains, All-get_or}
use Rattle.nd_map.specs.Counts.{at, naturals, at-none as no_number}
use Rattle.nd_paths.specs.Point.{point_cmp}
use Rattle.nd_paths.specs.declared.point.Pointstamp.{Pointstamp}
use Rattle.nd_delta.specs.Delta.{DeltaValue, none, same, at as in_change, at-none}
use Rattle.nd_processor.specs.State.{ProcessorState, idle}
use Rattle.nd_processor.specs.Keys.{value_at_cmp}
use Rattle.nd_processor.specs.declared.key.ValueAt.{ValueAt}
use Rattle.nd_protocol.specs.State.{ClusterState, processor, queue}
use Rattle.nd_protocol.specs.Steps.{record_key, point_at}
use Rattle.nd_protocol.specs.Fitting.{IsState}
use Rattle.nd_protocol.specs.declared.step.Step.{Step}
use Rattle.nd_protocol.specs.declared.step.Step.TheVariants.{Feed, Take, Notice, Release, Send, Broadcast, Receive}
use Rattle.nd_protocol.specs.declared.part.Part.TheVariants.{Points}
use Rattle.nd_protocol.specs.declared.part.Part.TheVariants.{All as Whole}
use Rattle.nd_cluster.specs.Candidates.{candidates_among, candidates_on}
use Rattle.nd_cluster.specs.Choice.{candidates_from, from_turn}
use Rattle.nd_cluster.specs.Order.{IsOffered, CandidatesAreInTurn}
use Rattle.nd_rest.specs.Rest.{IsAtRest, Waits}
use Rattle.nd_at_rest.specs.Waiting.{IsWaiting}

-- ---- what is left if nothing may be there

is_zero : (n : ℕ) → (n ≢ 0 → ⊥) → n ≡ 0
is_zero zero h = refl
is_zero (suc n) h = absurd (h (λ e. absurd (cc (e))))

is_nothing : (z : ℤ) → (z ≢ pos 0 → ⊥) → z ≡ pos 0
is_nothing (pos zero) h = refl
is_nothing (pos (suc n)) h = absurd (h (λ e. absurd (cc (e))))
is_nothing (negsuc n) h = absurd (h (λ e. absurd (cc (e))))

is_empty : {X : Type 0} (xs : List X) → (xs ≢ [] → ⊥) → xs ≡ []
is_empty [] h = refl
is_empty (x ∷ xs) h = absurd (h (λ e. absurd (cc (e))))

is_none : (c : DeltaValue) → (c ≢ none → ⊥) → c ≡ none
is_none c h = same c none (λ x. is_nothing (in_change c x) (λ some. h (λ e. some (ap (λ d. in_change d x) e ∙ at-none x))) ∙ sym (at-none x))

is_there : (o : Option (Unit {0})) → o ≢ None → o ≡ Some tt
is_there None h = absurd (h refl)
is_there (Some tt) h = refl

is_some : (o : Option (Unit {0})) → o ≡ Some tt → o ≢ None
is_some o is none = absurd (cc (is, none))

module _ {A : Type 0} (law : CandidatesAreInTurn A) (s : ClusterState) (is : IsState s) where
  -- ---- the candidates

  from_zero : (n r : ℕ) → r ≡ 0 → range_with_len r (n - r) ++ range_with_len 0 r ≡ range_with_len 0 n
  from_zero n r e =
      let all : n - 0 ≡ n = omega arith in
      ap (λ k. range_with_len k (n - k) ++ range_with_len 0 k) e ∙ (append-nil (range_with_len 0 (n - 0)) ∙ ap (range_with_len 0) all)

  in_turn : candidates_from {A = A} s 0 None ≡ candidates_among s None
  in_turn = ap (candidates_on s None) (from_zero (length s.processors) (0 % length s.processors) (omega arith))

  offered : (x : Step A) → Contains (candidates_among s None) x ↔ IsOffered s None x
  offered x = subst (λ xs. Contains xs x ↔ IsOffered s None x) in_turn ((law s 0 None is).exact x)

  -- ---- at rest, each candidate waits

  waits : IsAtRest A s → (x : Step A) → IsOffered s None x → IsWaiting s x
  waits rest (Receive from to) o = absurd (o.has.1 (rest.queues from to))
  waits rest (Take p edge t value) o = absurd (o.has (rest.records p (record_key edge t value)))
  waits rest (Notice p vertex t) o = rest.requests p (point_at vertex t) (is_there (fin.get (processor s p).requests (point_at vertex t)) o.has)
  waits rest (Broadcast p Whole) o = absurd (o.has (rest.unsent p))
  waits rest (Broadcast p (Points points)) o = absurd o.has
  waits rest (Feed p vertex values _) o = absurd o.has
  waits rest (Release p vertex times) o = absurd o.has
  waits rest (Send p vertex batch) o = absurd o.has

  -- ---- if each candidate waits, the state is at rest

  module _ (h : (x : Step A) → IsOffered s None x → IsWaiting s x) where
    past : (p : ℕ) → length s.processors ≤ p → processor s p ≡ idle
    past p le = get_or_past s.processors p idle le

    no_records : (p : ℕ) (k : ValueAt) → at (processor s p).records k ≡ 0
    no_records p k = elim (cases_lt p (length s.processors)) [
      | inl lt ↦ is_zero (at (processor s p).records k) (λ some. h (Take p k.point.location k.point.time k.value) (record { there = lt; listed = refl; has = some }))
      | inr le ↦ ap (λ (q : ProcessorState). at q.records k) (past p le) ∙ no_number value_at_cmp naturals k
    ]

    no_unsent : (p : ℕ) → (processor s p).unsent ≡ none
    no_unsent p = elim (cases_lt p (length s.processors)) [
      | inl lt ↦ is_none (processor s p).unsent (λ some. h (Broadcast p Whole) (record { there = lt; listed = refl; has = some }))
      | inr le ↦ ap (λ (q : ProcessorState). q.unsent) (past p le)
    ]

    empty : (p q : ℕ) → p < length s.processors → queue s p q ≡ []
    empty p q lt = elim (cases_lt q (length s.processors)) [
      | inl less ↦ is_empty (queue s p q) (λ some. h (Receive p q) (record { there = less; listed = refl; has = (lt, some) }))
      | inr most ↦
          let inside : p < length s.queues = subst (λ n. p < n) (sym is.fits.each_sender) lt in
          let row : length (slice_index_or s.queues p []) ≡ length s.processors = All-get_or (λ r. length r ≡ length s.processors) s.queues p [] inside is.fits.each_receiver in
          get_or_past (slice_index_or s.queues p []) q [] (subst (λ n. n ≤ q) (sym row) most)
    ]

    no_queues : (p q : ℕ) → queue s p q ≡ []
    no_queues p q = elim (cases_lt p (length s.processors)) [
      | inl lt ↦ empty p q lt
      | inr le ↦ ap (λ (row : List (List DeltaValue)). slice_index_or row q []) (get_or_past s.queues p [] (subst (λ n. n ≤ p) (sym is.fits.each_sender) le))
    ]

    requests_wait : (p : ℕ) (x : Pointstamp) → fin.get (processor s p).requests x ≡ Some tt → Waits A s p x
    requests_wait p x some = elim (cases_lt p (length s.processors)) [
      | inl lt ↦ h (Notice p x.location x.time) (record { there = lt; listed = refl; has = is_some (fin.get (processor s p).requests x) some })
      | inr le ↦
          let nothing : fin.get (processor s p).requests x ≡ None = ap (λ (q : ProcessorState). fin.get q.requests x) (past p le) ∙ fin.get-empty point_cmp x in
          absurd (is_some (fin.get (processor s p).requests x) some nothing)
    ]

    rests : IsAtRest A s
    rests = record { records = no_records; unsent = no_unsent; queues = no_queues; requests = requests_wait }

  pub at_rest_if : All (IsWaiting {A = A} s) (candidates_among s None) → IsAtRest A s
  at_rest_if all = rests (λ x o. All-contains (IsWaiting s) (candidates_among s None) x all ((offered x).1 o))

  pub not_at_rest : (x : Step A) → Contains (candidates_among s None) x → (IsWaiting s x → ⊥) → IsAtRest A s → ⊥
  not_at_rest x among goes rest = goes (waits rest x ((offered x).0 among))
