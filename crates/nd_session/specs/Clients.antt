-- A client's receipts, compared with the log of a session.
use Rattle.std.specs.Prelude.{◌≡◌, ℕ, ◌-◌, ◌<◌, ◌≤◌, ◌⊎◌, List, [], ◌∷◌, ◌++◌, length, slice_get, Option, Some, MatchOption, refl}
use Rattle.std.specs.Option.{option_map_or}
use Rattle.std.specs.Coded.{Coded, code_by, coded×, coded_ℕ, coded_list}
use Rattle.nd_time.specs.Limits.{max_log}
use Rattle.nd_protocol.specs.Fitting.{IsState}
use Rattle.nd_protocol.specs.Invariant.{KeepsProtocol}
use Rattle.nd_machine.specs.Moves.{MachineValue}
use Rattle.nd_commands.specs.declared.command.Command.{Command}
use Rattle.nd_timeline.specs.Snapshot.{SnapshotValue}
use Rattle.nd_session.specs.Codes.{receipt_code}
use Rattle.nd_session.specs.Log.{IsStart, IsLegal, opening_of}
use Rattle.nd_session.specs.declared.receipt.Receipt.{Receipt}

-- a client: its number, and its receipts in the order in which it got them
pub record ClientValue (A : Type 0) : Type 0 where
  pub number : ℕ
  pub receipts : List (Receipt A)

abbrev pub client_code : (A : Type 0) → Coded (ClientValue A)
client_code A =
    code_by _ (coded× coded_ℕ (coded_list (receipt_code A)))
    (λ p. (p.number, p.receipts)) (λ t. record { number = t.0; receipts = t.1 }) (λ _. refl)

-- `new` is the client `old` with one more receipt
abbrev pub Gains : {A : Type 0} → ClientValue A → ClientValue A → Receipt A → Type 0
Gains old new r = new ≡ record old { receipts = old.receipts ++ r ∷ [] }

-- ---- receipts and a log

-- the log has this receipt at its index
abbrev pub Holds : {A : Type 0} → List (Receipt A) → Receipt A → Type 0
Holds log r = slice_get log r.index ≡ Some r

-- the last receipt, if there is one
abbrev pub last_of : {A : Type 0} → List (Receipt A) → Option (Receipt A)
last_of rs = slice_get rs (length rs - 1)

-- the log has the last receipt, if there is one, at its index
abbrev pub HoldsLast : {A : Type 0} → List (Receipt A) → List (Receipt A) → Type 0
HoldsLast log rs = MatchOption (last_of rs) (Unit {0}) (λ r. Holds log r)

-- i is above the index of the last receipt, if there is one
abbrev pub IsAboveLast : {A : Type 0} → ℕ → List (Receipt A) → Type 0
IsAboveLast i rs = MatchOption (last_of rs) (Unit {0}) (λ r. r.index < i)

-- the receipts are those of one client, in the log's order
pub record IsOwn {A : Type 0} (number : ℕ) (receipts : List (Receipt A)) : Type 0 where
  pub client : (k : ℕ) (r : Receipt A) → slice_get receipts k ≡ Some r → r.client ≡ number
  pub order : (j k : ℕ) (r s : Receipt A) → j < k → slice_get receipts j ≡ Some r → slice_get receipts k ≡ Some s → r.index < s.index

-- ---- one history

-- what holds of a log and a machine under a session's lock: the machine began at an initial state, and the log, which is within
-- its limit, leads from there to the machine
pub record IsHistory {A : Type 0} (log : List (Receipt A)) (machine : MachineValue A) : Type 0 where
  pub start : IsStart machine.timeline.base
  pub state : IsState machine.timeline.base
  pub protocol : KeepsProtocol machine.timeline.base
  pub legal : IsLegal (opening_of machine) log machine
  pub few : length log ≤ max_log

-- r answers the client's command: it is an entry of some history that also has the client's last receipt, at a lesser index
pub record IsReceiptFor {A : Type 0} (p : ClientValue A) (command : Command A) (r : Receipt A) : Type 0 where
  pub log : List (Receipt A)
  pub machine : MachineValue A
  pub history : IsHistory log machine
  pub entry : Holds log r
  pub last : HoldsLast log p.receipts
  pub later : IsAboveLast r.index p.receipts
  pub client : r.client ≡ p.number
  pub command_is : r.command ≡ command

-- a snapshot has the timeline after some history, as long as the snapshot's index, that has the client's last receipt
pub record IsSeen {A : Type 0} (p : ClientValue A) (s : SnapshotValue A) : Type 0 where
  pub log : List (Receipt A)
  pub machine : MachineValue A
  pub history : IsHistory log machine
  pub length_is : length log ≡ s.index
  pub timeline_is : s.timeline ≡ machine.timeline
  pub last : HoldsLast log p.receipts
  pub later : IsAboveLast s.index p.receipts
  pub start : IsStart s.timeline.base
  pub protocol : KeepsProtocol s.timeline.base

-- ---- unknown clients

-- the client's number was given out, and the log has its last receipt
pub record IsKnown {A : Type 0} (entered : ℕ) (log : List (Receipt A)) (p : ClientValue A) : Type 0 where
  pub given : p.number < entered
  pub last : HoldsLast log p.receipts

-- the client's number was not given out, or the log does not have its last receipt
abbrev pub IsUnknown : {A : Type 0} → ℕ → List (Receipt A) → ClientValue A → Type 0
IsUnknown entered log p = (entered ≤ p.number) ⊎ (HoldsLast log p.receipts → ⊥)

-- the index that is reported to an unknown client: that of its last receipt, or 0
abbrev pub reported_index : {A : Type 0} → ClientValue A → ℕ
reported_index p = option_map_or (λ r. r.index) (last_of p.receipts) 0

-- the client is unknown, and the log has an entry at the index that is reported
abbrev pub HasReportedEntry : {A : Type 0} → ℕ → List (Receipt A) → ClientValue A → Type 0
HasReportedEntry entered log p = IsUnknown entered log p × (reported_index p < length log)

-- what is reported to an unknown client: that index, and the log's entry there, if there is one
pub record IsStranger {A : Type 0} (entered : ℕ) (log : List (Receipt A)) (p : ClientValue A) (index : ℕ) (found : Option (Receipt A)) : Type 0 where
  pub unknown : IsUnknown entered log p
  pub index_is : index ≡ reported_index p
  pub found_is : found ≡ slice_get log index
