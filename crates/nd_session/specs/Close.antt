-- How a session ends: each client's receipts are compared with the log.
use Rattle.std.specs.Prelude.{◌≡◌, ◌≢◌, ℕ, ◌<◌, ◌⊎◌, ◌==◌, List, length, filter, slice_get, Some}
use Rattle.nd_session.specs.declared.receipt.Receipt.{Receipt}
use Rattle.nd_session.specs.declared.close.CloseWhy.{CloseWhy}
use Rattle.nd_session.specs.declared.close.CloseWhy.TheVariants.{Mismatch, ClientMissing}
use Rattle.nd_session.specs.declared.close.Log.{Log}
use Rattle.nd_session.specs.declared.shared.Shared.{Shared}
use Rattle.nd_session.specs.Clients.{ClientValue, Holds, IsOwn, IsHistory}

-- ---- what is tested

-- the log has the first k receipts, each at its index
abbrev pub HeldBelow : {A : Type 0} → List (Receipt A) → List (Receipt A) → ℕ → Type 0
HeldBelow {A} log rs k = (j : ℕ) → j < k → (r : Receipt A) → slice_get rs j ≡ Some r → Holds log r

-- none of the first k clients has this number
abbrev pub IsNewBelow : {A : Type 0} → List (ClientValue A) → ℕ → ℕ → Type 0
IsNewBelow {A} clients k number = (j : ℕ) → j < k → (q : ClientValue A) → slice_get clients j ≡ Some q → q.number ≢ number

-- a client with this number was handed in
pub record IsIn {A : Type 0} (clients : List (ClientValue A)) (number : ℕ) : Type 0 where
  pub place : ℕ
  pub client : ClientValue A
  pub at : slice_get clients place ≡ Some client
  pub number_is : client.number ≡ number

-- the receipts of the client at k are its own and in the log, and no client before it has its number
pub record IsRight {A : Type 0} (log : List (Receipt A)) (clients : List (ClientValue A)) (k : ℕ) (p : ClientValue A) : Type 0 where
  pub own : IsOwn p.number p.receipts
  pub held : HeldBelow log p.receipts (length p.receipts)
  pub new : IsNewBelow clients k p.number

-- this holds of each of the first n clients
abbrev pub AreRightBelow : {A : Type 0} → List (Receipt A) → List (ClientValue A) → ℕ → Type 0
AreRightBelow {A} log clients n = (k : ℕ) → k < n → (p : ClientValue A) → slice_get clients k ≡ Some p → IsRight log clients k p

-- each number below this one was handed in
abbrev pub AreInBelow : {A : Type 0} → List (ClientValue A) → ℕ → Type 0
AreInBelow clients n = (m : ℕ) → m < n → IsIn clients m

-- a client that was handed in has this entry among its receipts
pub record HasReceipt {A : Type 0} (clients : List (ClientValue A)) (e : Receipt A) : Type 0 where
  pub place : ℕ
  pub client : ClientValue A
  pub at : slice_get clients place ≡ Some client
  pub receipt_place : ℕ
  pub receipt : slice_get client.receipts receipt_place ≡ Some e

-- each of the first n entries is a receipt of a client that was handed in
abbrev pub HaveReceiptsBelow : {A : Type 0} → List (Receipt A) → List (ClientValue A) → ℕ → Type 0
HaveReceiptsBelow {A} log clients n = (i : ℕ) → i < n → (e : Receipt A) → slice_get log i ≡ Some e → HasReceipt clients e

-- ---- the first error

-- `index` is that of the client's first receipt that is not the log's entry at its index
pub record IsFirstWrong {A : Type 0} (log : List (Receipt A)) (rs : List (Receipt A)) (index : ℕ) : Type 0 where
  pub place : ℕ
  pub receipt : Receipt A
  pub at : slice_get rs place ≡ Some receipt
  pub earlier : HeldBelow log rs place
  pub wrong : Holds log receipt → ⊥
  pub index_is : index ≡ receipt.index

-- the client's number was handed in before; the index reported is the length of the log
pub record IsHandedInBefore {A : Type 0} (log : List (Receipt A)) (clients : List (ClientValue A)) (k : ℕ) (p : ClientValue A) (index : ℕ) : Type 0 where
  pub held : HeldBelow log p.receipts (length p.receipts)
  pub place : ℕ
  pub other : ClientValue A
  pub before : place < k
  pub at : slice_get clients place ≡ Some other
  pub number_is : other.number ≡ p.number
  pub index_is : index ≡ length log

-- what is wrong with the client at k: a receipt, or otherwise its number
abbrev pub IsWrong : {A : Type 0} → List (Receipt A) → List (ClientValue A) → ℕ → ClientValue A → ℕ → Type 0
IsWrong log clients k p index = IsFirstWrong log p.receipts index ⊎ IsHandedInBefore log clients k p index

-- `number` is that of the first client with which something is wrong
pub record IsMismatch {A : Type 0} (log : List (Receipt A)) (clients : List (ClientValue A)) (number index : ℕ) : Type 0 where
  pub place : ℕ
  pub client : ClientValue A
  pub at : slice_get clients place ≡ Some client
  pub earlier : AreRightBelow log clients place
  pub number_is : number ≡ client.number
  pub wrong : IsWrong log clients place client index

-- the least number that was given out and not handed in
pub record IsMissing {A : Type 0} (log : List (Receipt A)) (clients : List (ClientValue A)) (entered number : ℕ) : Type 0 where
  pub right : AreRightBelow log clients (length clients)
  pub given : number < entered
  pub earlier : AreInBelow clients number
  pub absent : IsIn clients number → ⊥

-- `index` is that of the first entry that is no client's receipt
pub record IsUnlogged {A : Type 0} (log : List (Receipt A)) (clients : List (ClientValue A)) (entered number index : ℕ) : Type 0 where
  pub right : AreRightBelow log clients (length clients)
  pub all_in : AreInBelow clients entered
  pub entry : Receipt A
  pub at : slice_get log index ≡ Some entry
  pub earlier : HaveReceiptsBelow log clients index
  pub untold : HasReceipt clients entry → ⊥
  pub number_is : number ≡ entry.client

-- the first error: the clients are tested in order, then the numbers, then the entries
abbrev pub ClosesWith : {A : Type 0} → List (Receipt A) → List (ClientValue A) → ℕ → CloseWhy → Type 0
ClosesWith log clients entered (Mismatch number index) = IsMismatch log clients number index ⊎ IsUnlogged log clients entered number index
ClosesWith log clients entered (ClientMissing number) = IsMissing log clients entered number

-- ---- what a clean end says

-- the clients have distinct numbers, all that were given out; each has exactly the log's entries of its number, in order, and the log has no others
pub record IsWhole {A : Type 0} (log : List (Receipt A)) (clients : List (ClientValue A)) (entered : ℕ) : Type 0 where
  pub receipts : (k : ℕ) (p : ClientValue A) → slice_get clients k ≡ Some p → p.receipts ≡ filter (λ e. e.client == p.number) log
  pub apart : (j k : ℕ) (p q : ClientValue A) → j < k → slice_get clients j ≡ Some p → slice_get clients k ≡ Some q → p.number ≢ q.number
  pub no_others : (i : ℕ) (e : Receipt A) → slice_get log i ≡ Some e → IsIn clients e.client
  pub all_in : AreInBelow clients entered

-- the log of a session with its machine is a history
abbrev pub IsSettled : {A : Type 0} → Log A → Type 0
IsSettled l = IsHistory l.entries.items (record { timeline = l.timeline; breaks = l.breaks })

-- the log l is what was under the lock
pub record IsLeft {A : Type 0} (was : Shared A) (l : Log A) : Type 0 where
  pub entries : l.entries.items ≡ was.state.log
  pub entered : l.entered ≡ was.entered
  pub timeline : l.timeline ≡ was.state.machine.timeline
  pub breaks : l.breaks ≡ was.state.machine.breaks
