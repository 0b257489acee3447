-- A state without moves, in which no limit refuses a step, is the end of all lists of moves.
use Rattle.std.proofs.Common.{◌≡◌, ◌≢◌, inl, inr, ℕ, zero, suc, ◌<◌, ◌≤◌, ℤ, pos, ◌-ℤ◌, ◌<ℤ◌, true, false, List, [], ◌∷◌, length, Some, refl, sym, ap, subst, ◌∙◌, arith}
use Rattle.std.proofs.lemmas.Bool.{cases_lt}
use Rattle.std.proofs.lemmas.Int.{ints}
use Rattle.std.proofs.lemmas.List.{get_or_past, length-map}
use Rattle.std.proofs.lemmas.List.Elements.{All-get_or}
use Rattle.std.specs.Prelude.{slice_index_or}
use Rattle.std.specs.FinMap as fin
use Rattle.nd_time.specs.Limits.{max_processors}
use Rattle.nd_time.specs.Time.{Time}
use Rattle.nd_graph.specs.Operators.{facts}
use Rattle.nd_graph.specs.Graph.{op_at}
use Rattle.nd_map.specs.Cases.{zero_or_not}
use Rattle.nd_map.specs.Counts.{at, naturals, at-none as no_count}
use Rattle.nd_paths.specs.Order.{IsStrictlyBefore}
use Rattle.nd_paths.specs.declared.point.Pointstamp.{Pointstamp}
use Rattle.nd_delta.specs.Delta.{DeltaValue, none, minus, at as in_change, at-none, at-minus, same}
use Rattle.nd_processor.specs.Keys.{value_at_cmp}
use Rattle.nd_processor.specs.State.{ProcessorState, idle}
use Rattle.nd_processor.specs.declared.key.ValueAt.{ValueAt}
use Rattle.nd_protocol.specs.State.{ClusterState, processor, view, queue}
use Rattle.nd_protocol.specs.Steps.{record_key, point_at, after}
use Rattle.nd_protocol.specs.Fitting.{IsState, IsAtEdge, IsAtVertex}
use Rattle.nd_protocol.specs.Invariant.{KeepsProtocol}
use Rattle.nd_protocol.specs.Ranges.{IsSmall, NumbersFit}
use Rattle.nd_protocol.specs.Refusals.{number_of}
use Rattle.nd_protocol.specs.Enabled.{Fails, IsAdmissible}
use Rattle.nd_protocol.specs.TruthLaws.{count, truth-count}
use Rattle.nd_protocol.specs.declared.part.Part.TheVariants.{All as Whole}
use Rattle.nd_protocol.specs.declared.step.Step.{Step}
use Rattle.nd_protocol.specs.declared.step.Step.TheVariants.{Take, Notice, Broadcast, Receive}
use Rattle.nd_protocol.specs.declared.refusal.Refusal.{Refusal}
use Rattle.nd_protocol.specs.declared.refusal.Refusal.TheVariants.{NoProcessor, NoVertex, NoEdge, NoRecord, NoRequest, NotYet, CounterFull, ValueRange, CountFull, DeltaFull, NothingToSend, NotAdmissible, QueueEmpty, QueueFull, NotNotified}
use Rattle.nd_rest.specs.Moves.{NeedsNoUser, HasNoMove}
use Rattle.nd_rest.specs.Rest.{IsStuck, is_limit}
use Rattle.nd_rest.specs.Laws.{EndIsThere}
use Rattle.nd_rest.proofs.Diamond.{IsEnd}
use Rattle.nd_rest.proofs.Later.{place_within}
use Rattle.nd_rest.proofs.Core.{taking, noticing, next, IsAllowed}
use Rattle.nd_rest.proofs.Moving.{Laws, bare, core, nth-core, count-core, fits_at}
use Rattle.nd_rest.proofs.Heard.{IsHeard, view_is_truth, same_heard}
use Rattle.nd_rest.proofs.Ends.{at_rest_sound, there_sound, left, no_way, heard}

nothing_left : (z : ℤ) → pos 0 <ℤ z → z ≡ pos 0 → ⊥
nothing_left z some none_there = omega (arith, ints, some, none_there)

all_subtracted : (c : DeltaValue) (x : Pointstamp) → in_change (minus c c) x ≡ pos 0
all_subtracted c x = at-minus c c x ∙ (let e : in_change c x -ℤ in_change c x ≡ pos 0 = omega (arith, ints) in e)

module _ {A : Type 0} (laws : Laws A) (s : ClusterState) (state : IsState s) (keeps : KeepsProtocol s) (no_move : HasNoMove A s) (free : IsStuck A s → ⊥) where
  -- if all other refusals are ruled out, so are those by a limit
  free_below : (x : Step A) → NeedsNoUser x → ((r : Refusal) → is_limit r ≡ false → Fails s x r → ⊥) → (n : ℕ) (r : Refusal) → number_of r < n → Fails s x r → ⊥
  free_below x kind others zero r lt fails = omega arith
  free_below x kind others (suc n) r lt fails =
      elim (is_limit r) as (λ b. is_limit r ≡ b → ⊥) [
        | true ↦ λ limit. free (record {
          step = x;
          refusal = r;
          kind = kind;
          limit = limit;
          refused = record { fails = fails; least = record { free = λ r' less fails'. free_below x kind others n r' (omega arith) fails' } };
        })
        | false ↦ λ other. others r other fails
      ] refl

  -- no step that needs no user is left with nothing but limits to refuse it
  cannot : (x : Step A) → NeedsNoUser x → IsAdmissible s x → NumbersFit x → ((r : Refusal) → is_limit r ≡ false → Fails s x r → ⊥) → ⊥
  cannot x kind admissible numbers others =
      no_move x (record {
        kind = kind;
        enabled = record { free = λ r fails. free_below x kind others (suc (number_of r)) r (omega arith) fails; admissible = admissible; numbers = numbers };
      })

  small : (p : ℕ) → p < length s.processors → IsSmall p
  small p lt = let few : length s.processors ≤ max_processors = state.within.few in omega arith

  -- ---- no records

  take_others : (p edge : ℕ) (t : Time) (value : ℤ) → p < length s.processors → IsAtEdge s.graph (point_at edge t) → at (processor s p).records (record_key edge t value) ≢ 0
      → (r : Refusal) → is_limit r ≡ false → Fails {A = A} s (Take p edge t value) r → ⊥
  take_others p edge t value lt place some NoProcessor other fails = omega arith
  take_others p edge t value lt place some NoEdge other (inl early) = let from = place.place in omega arith
  take_others p edge t value lt place some NoEdge other (inr late) = let inside = place_within s.graph (point_at edge t) place.fits in omega arith
  take_others p edge t value lt place some NoRecord other fails = some fails
  take_others p edge t value lt place some CounterFull other fails = absurd (cc)
  take_others p edge t value lt place some ValueRange other fails = absurd (cc)
  take_others p edge t value lt place some CountFull other fails = absurd (cc)
  take_others p edge t value lt place some DeltaFull other fails = absurd (cc)
  take_others p edge t value lt place some _ other fails = fails

  no_record_of : (p : ℕ) → p < length s.processors → (k : ValueAt) (n : ℕ) → at (processor s p).records k ≡ n → n ≡ 0
  no_record_of p lt k zero is = refl
  no_record_of p lt k (suc n) is =
      let some : at (processor s p).records k ≢ 0 = λ none_there. absurd (cc (is, none_there)) in
      let there = (fits_at laws s state p lt).records k some in
      absurd (cannot (Take p k.point.location k.point.time k.value) tt tt (small p lt, there.0.small, there.1) (take_others p k.point.location k.point.time k.value lt there.0 some))

  no_records : (p : ℕ) (k : ValueAt) → at (processor s p).records k ≡ 0
  no_records p k =
      elim (cases_lt p (length s.processors)) [
        | inl lt ↦ no_record_of p lt k (at (processor s p).records k) refl
        | inr le ↦ ap (λ (q : ProcessorState). at q.records k) (get_or_past s.processors p idle le) ∙ no_count value_at_cmp naturals k
      ]

  -- ---- nothing unsent

  broadcast_others : (p : ℕ) → p < length s.processors → ((processor s p).unsent ≡ none → ⊥) → (r : Refusal) → is_limit r ≡ false → Fails {A = A} s (Broadcast p Whole) r → ⊥
  broadcast_others p lt some NoProcessor other fails = omega arith
  broadcast_others p lt some NothingToSend other fails = some fails
  broadcast_others p lt some (NotAdmissible x) other fails = nothing_left (in_change (minus (processor s p).unsent (processor s p).unsent) x) fails.is_one.positive (all_subtracted (processor s p).unsent x)
  broadcast_others p lt some QueueFull other fails = absurd (cc)
  broadcast_others p lt some _ other fails = fails

  no_unsent_at : (p : ℕ) → p < length s.processors → (x : Pointstamp) → in_change (processor s p).unsent x ≡ pos 0
  no_unsent_at p lt x =
      elim (zero_or_not (in_change (processor s p).unsent x)) [
        | inl none_there ↦ none_there
        | inr some ↦ absurd (cannot (Broadcast p Whole) tt
            (λ y positive. absurd (nothing_left (in_change (minus (processor s p).unsent (processor s p).unsent) y) positive (all_subtracted (processor s p).unsent y)))
            (small p lt, tt)
            (broadcast_others p lt (λ empty. some (ap (λ c. in_change c x) empty ∙ at-none x))))
      ]

  no_unsent : (p : ℕ) → (processor s p).unsent ≡ none
  no_unsent p =
      elim (cases_lt p (length s.processors)) [
        | inl lt ↦ same (processor s p).unsent none (λ x. no_unsent_at p lt x ∙ sym (at-none x))
        | inr le ↦ ap (λ (q : ProcessorState). q.unsent) (get_or_past s.processors p idle le)
      ]

  -- ---- nothing queued

  receive_others : (p q : ℕ) → p < length s.processors → q < length s.processors → (queue s p q ≡ [] → ⊥) → (r : Refusal) → is_limit r ≡ false → Fails {A = A} s (Receive p q) r → ⊥
  receive_others p q lt less some NoProcessor other (inl le) = omega arith
  receive_others p q lt less some NoProcessor other (inr le) = omega arith
  receive_others p q lt less some QueueEmpty other fails = some fails
  receive_others p q lt less some DeltaFull other fails = absurd (cc)
  receive_others p q lt less some _ other fails = fails

  no_queue_of : (p q : ℕ) → p < length s.processors → q < length s.processors → (cs : List DeltaValue) → queue s p q ≡ cs → cs ≡ []
  no_queue_of p q lt less [] is = refl
  no_queue_of p q lt less (c ∷ cs) is =
      absurd (cannot (Receive p q) tt tt (small p lt, small q less) (receive_others p q lt less (λ empty. absurd (cc (is, empty)))))

  no_queues : (p q : ℕ) → queue s p q ≡ []
  no_queues p q =
      elim (cases_lt p (length s.processors)) [
        | inl lt ↦ elim (cases_lt q (length s.processors)) [
          | inl less ↦ no_queue_of p q lt less (queue s p q) refl
          | inr le ↦
              let inside : p < length s.queues = subst (λ n. p < n) (sym state.fits.each_sender) lt in
              let many : length (slice_index_or s.queues p []) ≡ length s.processors = All-get_or (λ r. length r ≡ length s.processors) s.queues p [] inside state.fits.each_receiver in
              get_or_past (slice_index_or s.queues p []) q [] (subst (λ n. n ≤ q) (sym many) le)
        ]
        | inr le ↦ ap (λ row. slice_index_or row q []) (get_or_past s.queues p [] (subst (λ n. n ≤ p) (sym state.fits.each_sender) le))
      ]

  pub all_heard : IsHeard s
  all_heard = record { unsent = no_unsent; queues = no_queues }

  -- ---- no notice

  notice_others : (p vertex : ℕ) (t : Time) → p < length s.processors → IsAtVertex s.graph (point_at vertex t) → fin.get (processor s p).requests (point_at vertex t) ≡ Some tt
      → (facts (op_at s.graph vertex)).holds ≡ false → ((x : Pointstamp) → pos 0 <ℤ in_change (view s p) x → IsStrictlyBefore s.graph x (point_at vertex t) → ⊥)
      → (r : Refusal) → is_limit r ≡ false → Fails {A = A} s (Notice p vertex t) r → ⊥
  notice_others p vertex t lt place asked notified quiet NoProcessor other fails = omega arith
  notice_others p vertex t lt place asked notified quiet NoVertex other fails = let inside = place.place in omega arith
  notice_others p vertex t lt place asked notified quiet NoRequest other fails = absurd (cc (asked, fails))
  notice_others p vertex t lt place asked notified quiet (NotYet blocker) other fails = quiet blocker fails.is_one.positive fails.is_one.before
  notice_others p vertex t lt place asked notified quiet CountFull other fails = absurd (cc)
  notice_others p vertex t lt place asked notified quiet DeltaFull other fails = absurd (cc)
  notice_others p vertex t lt place asked notified quiet NotNotified other fails = absurd (cc (notified, fails))
  notice_others p vertex t lt place asked notified quiet _ other fails = fails

  pub core_ends : IsEnd (IsAllowed s.graph) (next s.graph) (core s.processors)
  core_ends (taking p edge t value) may =
      let none_there : at (processor s p).records (record_key edge t value) ≡ 0 = no_records p (record_key edge t value) in
      let some : 0 < at (processor s p).records (record_key edge t value) = subst (λ (q : ProcessorState). 0 < at q.records (record_key edge t value)) (nth-core s.processors p) may.some in
      omega (arith, none_there, some)
  core_ends (noticing p vertex t) may =
      let here : p < length s.processors = subst (λ n. p < n) (length-map s.processors bare) may.here in
      let asked : fin.get (processor s p).requests (point_at vertex t) ≡ Some tt = sym (ap (λ (q : ProcessorState). fin.get q.requests (point_at vertex t)) (nth-core s.processors p)) ∙ may.asked in
      let place : IsAtVertex s.graph (point_at vertex t) = (fits_at laws s state p here).requests (point_at vertex t) asked in
      cannot (Notice p vertex t) tt tt (small p here, place.small)
      (notice_others p vertex t here place asked may.notified (λ x positive before.
      let none_there : count s.processors x ≡ 0 = sym (count-core s.processors x) ∙ may.quiet x before in
      let seen : in_change (view s p) x ≡ pos 0 = view_is_truth s keeps.settled all_heard p here x ∙ truth-count s.processors x ∙ ap pos none_there in
      nothing_left (in_change (view s p) x) positive seen))

pub end_is_there : {A : Type 0} → Laws A → EndIsThere A
end_is_there laws s xs ys state keeps to_rest moves no_move free =
    let there = there_sound laws s xs ys state keeps to_rest moves in
    let at_end = at_rest_sound laws s xs ys state keeps to_rest moves in
    let rest = left laws s xs ys state keeps to_rest moves in
    let end : IsEnd (IsAllowed s.graph) (next s.graph) (core (after s ys).processors)
    = subst (λ g. IsEnd (IsAllowed g) (next g) (core (after s ys).processors)) there.graph (core_ends laws (after s ys) there.state there.keeps no_move free) in
    same_heard (after s ys) (after s xs) there.state at_end.state there.keeps at_end.keeps (all_heard laws (after s ys) there.state there.keeps no_move free) (heard (after s xs) to_rest.rest)
    (there.graph ∙ sym at_end.graph)
    (no_way s.graph rest.0 (core (after s ys).processors) (core (after s xs).processors) rest.2 end)
