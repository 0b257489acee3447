-- What a client knows about the log under the lock, after the lock is released.
use Rattle.std.proofs.Common.{◌≡◌, ℕ, zero, suc, ◌-◌, ◌<◌, ◌≤◌, inl, inr, List, [], ◌∷◌, ◌++◌, length, length-append, get_or, arith, refl, sym, ap, subst, ◌∙◌}
use Rattle.std.specs.Prelude.{slice_get, Option, Some, None, MatchOption, Result, Ok, Err, IfOk, IfErr, OnOk}
use Rattle.std.specs.Option.{option_map_or}
use Rattle.std.proofs.lemmas.Option.{slice_get_within, slice_get-get_or}
use Rattle.std.proofs.lemmas.Bool.{cases_lt}
use Rattle.nd_protocol.specs.State.{ClusterState}
use Rattle.nd_time.specs.Limits.{max_log}
use Rattle.nd_protocol.specs.Fitting.{IsState}
use Rattle.nd_protocol.specs.Invariant.{KeepsProtocol}
use Rattle.nd_timeline.specs.Timeline.{opened}
use Rattle.nd_machine.specs.Moves.{MachineValue, without_breaks}
use Rattle.nd_commands.specs.declared.command.Command.{Command}
use Rattle.nd_timeline.specs.Snapshot.{SnapshotValue, snapshot_of}
use Rattle.nd_session.specs.declared.receipt.Receipt.{Receipt}
use Rattle.nd_session.specs.declared.fault.SessionFault.{SessionFault}
use Rattle.nd_session.specs.declared.shared.Shared.{Shared}
use Rattle.nd_session.specs.Answered.{IsAnswered}
use Rattle.nd_session.specs.Log.{IsStart, IsLegal, opening_of}
use Rattle.nd_session.specs.Clients.{ClientValue, Holds, last_of, HoldsLast, IsAboveLast, IsOwn, IsHistory, IsKnown, IsUnknown, IsStranger, IsReceiptFor, IsSeen}
use Rattle.nd_session.specs.declared.fault.SessionFault.TheVariants.{NotThisSession, LogFull, TooManyClients, Memory}
use Rattle.nd_session.specs.Faults.{ApplyFails, CommandFails, CopyFails, CommandMayFail, CopyMayFail}
use Rattle.nd_session.proofs.Logs.{slice_get-snoc}

pub slice_get-append : {X : Type 0} (xs ys : List X) (i : ℕ) (y : X) → slice_get xs i ≡ Some y → slice_get (xs ++ ys) i ≡ Some y
slice_get-append [] ys i y e = absurd cc
slice_get-append (x ∷ xs) ys zero y e = e
slice_get-append (x ∷ xs) ys (suc i) y e = slice_get-append xs ys i y e

pub slice_get-seam : {X : Type 0} (xs : List X) (x : X) → slice_get (xs ++ x ∷ []) (length xs) ≡ Some x
slice_get-seam [] x = refl
slice_get-seam (y ∷ xs) x = slice_get-seam xs x

match_some : {X : Type 0} (o : Option X) (P Q : X → Type 0) → ((x : X) → P x → Q x) → MatchOption o (Unit {0}) P → MatchOption o (Unit {0}) Q
match_some None P Q f h = tt
match_some (Some x) P Q f h = f x h

some_of : {X : Type 0} (o : Option X) (P : X → Type 0) (x : X) → MatchOption o (Unit {0}) P → o ≡ Some x → P x
some_of None P x h e = absurd cc
some_of (Some y) P x h e = let same : y ≡ x = cc in subst P same h

module _ {A : Type 0} where
  pub last_stays : (log rest rs : List (Receipt A)) → HoldsLast log rs → HoldsLast (log ++ rest) rs
  last_stays log rest rs h = match_some (last_of rs) (λ r. Holds log r) (λ r. Holds (log ++ rest) r) (λ r p. slice_get-append log rest r.index r p) h

  pub last_below : (log rs : List (Receipt A)) → HoldsLast log rs → IsAboveLast (length log) rs
  last_below log rs h = match_some (last_of rs) (λ r. Holds log r) (λ r. r.index < length log) (λ r p. slice_get_within log r.index r p) h

  -- a history continues from its base
  pub history_grows : (log next : List (Receipt A)) (m new : MachineValue A) → IsHistory log m → IsLegal (opening_of m) next new → new.timeline.base ≡ m.timeline.base → length next ≤ max_log → IsHistory next new
  history_grows log next m new h legal base few =
      let P : ClusterState → Type 0 = λ s. IsLegal (without_breaks (opened A s)) next new in record {
        start = subst IsStart (sym base) h.start;
        state = subst IsState (sym base) h.state;
        protocol = subst KeepsProtocol (sym base) h.protocol;
        legal = subst P (sym base) legal;
        few = few;
      }

  -- ---- a client's own receipts

  -- a bound of the last receipt's index bounds the index of each
  below_last : (number : ℕ) (rs : List (Receipt A)) (j : ℕ) (r : Receipt A) (bound : ℕ) → IsOwn number rs → slice_get rs j ≡ Some r → IsAboveLast bound rs → r.index < bound
  below_last number rs j r bound own at above =
      let within : j < length rs = slice_get_within rs j r at in
      let last = get_or rs (length rs - 1) r in
      let at_end : slice_get rs (length rs - 1) ≡ Some last = slice_get-get_or rs (length rs - 1) r (omega arith) in
      let end_below : last.index < bound = some_of (last_of rs) (λ (s : Receipt A). s.index < bound) last above at_end in
      elim (cases_lt j (length rs - 1)) [
        | inl lt ↦ let h : r.index < last.index = own.order j (length rs - 1) r last lt at at_end in omega arith
        | inr ge ↦
            let here : j ≡ length rs - 1 = omega arith in
            let P : ℕ → Type 0 = λ i. slice_get rs i ≡ Some r in
            let e : slice_get rs (length rs - 1) ≡ Some r = subst P here at in
            let same : last ≡ r = cc in
            let i : last.index ≡ r.index = ap (λ (t : Receipt A). t.index) same in
            omega arith
      ]

  -- a client's receipts, and one more
  pub own_grows : (number : ℕ) (log rs : List (Receipt A)) (r : Receipt A) → IsOwn number rs → HoldsLast log rs → r.index ≡ length log → r.client ≡ number → IsOwn number (rs ++ r ∷ [])
  own_grows number log rs r own known index client = record {
    client = λ k s at. elim (slice_get-snoc rs r k s at) [
      | inl q ↦ own.client k s q.1
      | inr q ↦ ap (λ (t : Receipt A). t.client) (sym q.1) ∙ client
    ];
    order = λ j k a b below at_j at_k. elim (slice_get-snoc rs r k b at_k) [
      | inl q ↦ elim (slice_get-snoc rs r j a at_j) [
        | inl w ↦ own.order j k a b below w.1 q.1
        | inr w ↦ absurd (omega arith)
      ]
      | inr q ↦ elim (slice_get-snoc rs r j a at_j) [
        | inl w ↦
            let h : a.index < length log = below_last number rs j a (length log) own w.1 (last_below log rs known) in
            let same : r.index ≡ b.index = ap (λ (t : Receipt A). t.index) q.1 in
            omega arith
        | inr w ↦ absurd (omega arith)
      ]
    ];
  }

  -- ---- the answers of a session

  -- the answer to a command
  pub told : (was new : Shared A) (p : ClientValue A) (command : Command A) (result : Result (Receipt A) (SessionFault A))
      → IsHistory was.state.log was.state.machine → IfOk result (IsAnswered was new p command) → IfOk result (IsReceiptFor p command)
  told was new p command (Err e) history answered = tt
  told was new p command (Ok r) history answered =
      let log = was.state.log in
      let P : List (Receipt A) → Type 0 = λ l. IsLegal (opening_of was.state.machine) l new.state.machine in
      let Q : ℕ → Type 0 = λ i. slice_get (log ++ r ∷ []) i ≡ Some r in
      let S : ℕ → Type 0 = λ i. IsAboveLast i p.receipts in record {
        log = log ++ r ∷ [];
        machine = new.state.machine;
        history = history_grows log (log ++ r ∷ []) was.state.machine new.state.machine history (subst P answered.logged answered.legal) answered.base (omega (arith, length-append log (r ∷ []), answered.room));
        entry = subst Q (sym answered.placed.index) (slice_get-seam log r);
        last = last_stays log (r ∷ []) p.receipts answered.known.last;
        later = subst S (sym answered.placed.index) (last_below log p.receipts answered.known.last);
        client = answered.client;
        command_is = answered.command_is;
      }

  module _ (log : List (Receipt A)) (m : MachineValue A) (history : IsHistory log m) (entered : ℕ) (p : ClientValue A) where
    -- the timeline that a copy has
    pub seen : (result : Result (SnapshotValue A) (SessionFault A)) → IfOk result (λ s. s ≡ snapshot_of m.timeline (length log)) → OnOk result (IsKnown entered log p) → IfOk result (IsSeen p)
    seen (Err e) ok known = tt
    seen (Ok s) ok known =
        let P : SnapshotValue A → Type 0 = λ s. IsSeen p s in
        subst P (sym ok) (record {
          log = log;
          machine = m;
          history = history;
          length_is = refl;
          timeline_is = refl;
          last = known.last;
          later = last_below log p.receipts known.last;
          start = history.start;
          protocol = history.protocol;
        })

    pub command_may_fail : {T : Type 0} (result : Result T (SessionFault A)) → IfErr result (CommandFails entered log p) → IfErr result (CommandMayFail p)
    command_may_fail (Ok x) fails = tt
    command_may_fail (Err e) fails = record { log = log; machine = m; entered = entered; history = history; fails = fails }

    pub copy_may_fail : {T : Type 0} (result : Result T (SessionFault A)) → IfErr result (CopyFails entered log p) → IfErr result (CopyMayFail p)
    copy_may_fail (Ok x) fails = tt
    copy_may_fail (Err e) fails = record { log = log; machine = m; entered = entered; history = history; fails = fails }

  -- a command of a known client fails as a command of a `State` does
  pub known_fails : (entered : ℕ) (log : List (Receipt A)) (p : ClientValue A) → IsKnown entered log p → (fault : SessionFault A) → ApplyFails log fault → CommandFails entered log p fault
  known_fails entered log p known (NotThisSession index found) fails = absurd fails
  known_fails entered log p known LogFull full = (known, full)
  known_fails entered log p known TooManyClients fails = absurd fails
  known_fails entered log p known Memory room = inr (known, room)

  -- the answer to an unknown client
  pub stranger : (entered : ℕ) (log : List (Receipt A)) (p : ClientValue A) (read rs : List (Receipt A)) (index : ℕ) (found : Option (Receipt A))
      → IsUnknown entered log p → read ≡ log → rs ≡ p.receipts → index ≡ option_map_or (λ (r : Receipt A). r.index) (last_of rs) 0 → found ≡ slice_get read index
      → IsStranger entered log p index found
  stranger entered log p read rs index found unknown log_is receipts_is index_is found_is = record {
    unknown = unknown;
    index_is = index_is ∙ ap (λ (l : List (Receipt A)). option_map_or (λ (r : Receipt A). r.index) (last_of l) 0) receipts_is;
    found_is = found_is ∙ ap (λ (l : List (Receipt A)). slice_get l index) log_is;
  }
