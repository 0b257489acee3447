-- A log that grows by one entry.
use Rattle.std.proofs.Common.{◌≡◌, ℕ, zero, suc, ◌+◌, ◌<◌, ◌≤◌, ◌⊎◌, ◌==◌, true, false, inl, inr, List, [], ◌∷◌, ◌++◌, length, take, arith, refl, sym, ap, subst, ◌∙◌, length-append}
use Rattle.std.specs.Prelude.{slice_get, Some, cond, Result, IfErr, sum_by}
use Rattle.std.specs.Result.{IsErrAnd}
use Rattle.std.proofs.lemmas.Result.{err_from_is_err_and}
use Rattle.std.specs.Ordering.{nat_cmp}
use Rattle.std.specs.FinMap.{put}
use Rattle.std.specs.FinMap.Entries.{find-put}
use Rattle.std.proofs.lemmas.Cmp.{nat_cmp_total}
use Rattle.std.specs.Cmp.{unsigned_tied}
use Rattle.std.proofs.lemmas.Bool.{eq-eqb}
use Rattle.std.proofs.lemmas.Bool.Decides.{eqb_tells}
use Rattle.std.proofs.Math.Seq.{take-length}
use Rattle.std.proofs.lemmas.List.{take-append-le}
use Rattle.std.proofs.lemmas.List.Sums.{sum_by-append, sum_by-cons}
use Rattle.nd_time.specs.Limits.{max_log}
use Rattle.nd_protocol.specs.State.{ClusterState}
use Rattle.nd_protocol.specs.Fitting.{IsState}
use Rattle.nd_protocol.specs.Invariant.{KeepsProtocol}
use Rattle.nd_timeline.specs.Timeline.{TimelineValue, IsTimeline, opened}
use Rattle.nd_machine.specs.Moves.{MachineValue, Moves, without_breaks}
use Rattle.nd_session.specs.declared.receipt.Receipt.{Receipt}
use Rattle.nd_session.specs.declared.fault.SessionFault.{SessionFault}
use Rattle.nd_session.specs.declared.fault.SessionFault.TheVariants.{Memory}
use Rattle.nd_session.specs.Log.{IsStart, count_of, IsPlaced, ArePlaced, Leads, IsLegal, opening_of}
use Rattle.nd_session.specs.Kept.{AreCounts, IsKept}

-- an element of a longer list is one of the list or the last
pub slice_get-snoc : {X : Type 0} (xs : List X) (x : X) (i : ℕ) (y : X) → slice_get (xs ++ x ∷ []) i ≡ Some y
    → ((i < length xs) × (slice_get xs i ≡ Some y)) ⊎ ((i ≡ length xs) × (x ≡ y))
slice_get-snoc [] x zero y e = inr (refl, cc)
slice_get-snoc [] x (suc i) y e = absurd cc
slice_get-snoc (z ∷ xs) x zero y e = inl (omega arith, e)
slice_get-snoc (z ∷ xs) x (suc i) y e =
    elim (slice_get-snoc xs x i y e) [ inl p ↦ inl (omega arith, p.1) | inr p ↦ inr (ap suc p.0, p.1) ]

module _ {A : Type 0} where
  -- ---- positions

  -- an entry keeps its position when the log grows
  pub place_stays : (log rest : List (Receipt A)) (i : ℕ) (e : Receipt A) → i ≤ length log → IsPlaced log i e → IsPlaced (log ++ rest) i e
  place_stays log rest i e within p =
      let same : take i (log ++ rest) ≡ take i log = take-append-le i log rest within in record {
        index = p.index;
        number = rw same p.number;
      }

  pub placed_grows : (log : List (Receipt A)) (e : Receipt A) → ArePlaced log → IsPlaced log (length log) e → ArePlaced (log ++ e ∷ [])
  placed_grows log e placed p i x at =
      elim (slice_get-snoc log e i x at) [
        | inl q ↦ place_stays log (e ∷ []) i x (omega arith) (placed i x q.1)
        | inr q ↦
            let P : Receipt A → Type 0 = λ y. IsPlaced (log ++ e ∷ []) i y in
            let Q : ℕ → Type 0 = λ k. IsPlaced (log ++ e ∷ []) k e in
            subst P q.1 (subst Q (sym q.0) (place_stays log (e ∷ []) (length log) e (omega arith) p))
      ]

  -- ---- moves

  pub leads_on : (m mid new : MachineValue A) (log : List (Receipt A)) (e : Receipt A) → Leads m log mid → Moves mid e.command e.reply new → Leads m (log ++ e ∷ []) new
  unfolding Leads
  leads_on m mid new [] e leads moves =
      let P : MachineValue A → Type 0 = λ x. Moves x e.command e.reply new in
      record { mid = new; moves = subst P leads moves; rest = refl }
  leads_on m mid new (x ∷ log) e leads moves =
      record { mid = leads.mid; moves = leads.moves; rest = leads_on leads.mid mid new log e leads.rest moves }

  pub legal_grows : (opening mid new : MachineValue A) (log : List (Receipt A)) (e : Receipt A) → IsLegal opening log mid → IsPlaced log (length log) e → Moves mid e.command e.reply new
      → IsLegal opening (log ++ e ∷ []) new
  legal_grows opening mid new log e legal placed moves = record {
    placed = placed_grows log e legal.placed placed;
    leads = leads_on opening mid new log e legal.leads moves;
  }

  -- ---- counts

  counted_more : (client : ℕ) (log : List (Receipt A)) (e : Receipt A) → count_of client (log ++ e ∷ []) ≡ count_of client log + cond (e.client == client) 1 0
  counted_more client log e =
      let last : sum_by (λ (r : Receipt A). cond (r.client == client) 1 0) (e ∷ []) ≡ cond (e.client == client) 1 0 + 0 = sum_by-cons (λ (r : Receipt A). cond (r.client == client) 1 0) e [] in
      omega (arith, sum_by-append (λ (r : Receipt A). cond (r.client == client) 1 0) log (e ∷ []), last)

  pub counts_grow : (counts next : List (ℕ × ℕ)) (log : List (Receipt A)) (e : Receipt A) → AreCounts counts log → e.number ≡ count_of e.client log
      → next ≡ put nat_cmp e.client (e.number + 1) counts → AreCounts next (log ++ e ∷ [])
  counts_grow counts next log e counted number is q =
      let found = find-put nat_cmp nat_cmp_total q e.client (e.number + 1) counts in
      let tied = unsigned_tied q e.client in
      let more = counted_more q log e in
      rw is (elim (eqb_tells q e.client) [
        | inl same ↦
            let back : (e.client == q) ≡ true = eq-eqb e.client q (sym same.1) in
            let here : e.number ≡ count_of q log = number ∙ ap (λ k. count_of k log) (sym same.1) in
            rw (found, tied, same.0, more, back) (omega (arith, here))
        | inr other ↦
            let back : (e.client == q) ≡ false = elim (eqb_tells e.client q) [
              | inl same ↦ absurd (other.1 (sym same.1))
              | inr apart ↦ apart.0
            ] in
            rw (found, tied, other.0, more, back) (omega (arith, counted q))
      ])

  -- ---- `State`s

  -- a timeline without kept steps is a new one
  fresh : (t : TimelineValue A) → t.kept ≡ [] → IsTimeline t → t ≡ opened A t.base
  fresh t none is =
      let few : length t.kept ≡ 0 = ap length none in
      let front : t.cursor ≡ 0 = omega (arith, few, is.within) in
      λ i. record { base = t.base; kept = none i; cursor = front i }

  -- an initial state without kept steps
  pub kept_new : (t : TimelineValue A) → t.kept ≡ [] → IsTimeline t → IsStart t.base → IsState t.base → KeepsProtocol t.base → IsKept (without_breaks t) [] []
  unfolding Leads
  kept_new t none is start state protocol = record {
    start = start;
    state = state;
    protocol = protocol;
    legal = record { placed = λ i e at. absurd cc; leads = ap (λ (t : TimelineValue A). without_breaks t) (fresh t none is) };
    few = omega arith;
    counted = λ client. refl;
  }

  -- an answer that is logged
  pub kept_grows : (m new : MachineValue A) (log : List (Receipt A)) (counts next : List (ℕ × ℕ)) (e : Receipt A)
      → IsKept m log counts → length log < max_log → new.timeline.base ≡ m.timeline.base → Moves m e.command e.reply new → IsPlaced log (length log) e
      → next ≡ put nat_cmp e.client (e.number + 1) counts → IsKept new (log ++ e ∷ []) next
  kept_grows m new log counts next e kept room base moves placed is =
      let whole : take (length log) log ≡ log = take-length log in
      let number : e.number ≡ count_of e.client log = placed.number ∙ ap (λ l. count_of e.client l) whole in
      let P : ClusterState → Type 0 = λ s. IsLegal (without_breaks (opened A s)) (log ++ e ∷ []) new in record {
        start = subst IsStart (sym base) kept.start;
        state = subst IsState (sym base) kept.state;
        protocol = subst KeepsProtocol (sym base) kept.protocol;
        legal = subst P (sym base) (legal_grows (opening_of m) m new log e kept.legal placed moves);
        few = omega (arith, length-append log (e ∷ []), room);
        counted = counts_grow counts next log e kept.counted number is;
      }

  pub placed_last : (log : List (Receipt A)) (e : Receipt A) → e.index ≡ length log → e.number ≡ count_of e.client log → IsPlaced log (length log) e
  placed_last log e index number =
      let whole : take (length log) log ≡ log = take-length log in record { index = index; number = rw whole number }

  -- the error comes from another call
  pub passed_on : {T : Type 0} (P : SessionFault A → Type 0) (r : Result T (SessionFault A)) (e : SessionFault A) → IsErrAnd r (λ f. f ≡ e) → P e → IfErr r P
  passed_on {T} P r e h fails =
      let f = err_from_is_err_and r h in
      let Q : Result T (SessionFault A) → Type 0 = λ r. IfErr r P in
      subst Q (sym f.1) (subst P (sym f.2) fails)

  -- memory ran out
  pub refused : {T : Type 0} (P : SessionFault A → Type 0) (r : Result T (SessionFault A)) → IsErrAnd r (λ f. f ≡ Memory) → P Memory → IfErr r P
  refused P r h room = passed_on P r Memory h room
