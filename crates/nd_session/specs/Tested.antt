-- What the tests at the end of a session find. Only their proofs use these definitions.
use Rattle.std.specs.Prelude.{◌≡◌, ℕ, ◌<◌, List, length, slice_get, Some}
use Rattle.nd_session.specs.declared.receipt.Receipt.{Receipt}
use Rattle.nd_session.specs.Clients.{ClientValue}
use Rattle.nd_session.specs.Close.{IsIn, AreRightBelow, AreInBelow}

-- one of the first k clients has this number
pub record IsOther {A : Type 0} (clients : List (ClientValue A)) (k number : ℕ) : Type 0 where
  pub place : ℕ
  pub client : ClientValue A
  pub before : place < k
  pub at : slice_get clients place ≡ Some client
  pub number_is : client.number ≡ number

-- the least number that was given out and not handed in
pub record IsFirstMissing {A : Type 0} (clients : List (ClientValue A)) (entered number : ℕ) : Type 0 where
  pub given : number < entered
  pub earlier : AreInBelow clients number
  pub absent : IsIn clients number → ⊥

-- the client has the entry's number, and has the entry as its receipt at the position of the entry's own number
pub record HasAt {A : Type 0} (p : ClientValue A) (e : Receipt A) : Type 0 where
  pub number_is : p.number ≡ e.client
  pub receipt : slice_get p.receipts e.number ≡ Some e

-- some client has the entry at this position
pub record HasInPlace {A : Type 0} (clients : List (ClientValue A)) (e : Receipt A) : Type 0 where
  pub place : ℕ
  pub client : ClientValue A
  pub at : slice_get clients place ≡ Some client
  pub has : HasAt client e

abbrev pub AreInPlaceBelow : {A : Type 0} → List (Receipt A) → List (ClientValue A) → ℕ → Type 0
AreInPlaceBelow {A} log clients n = (i : ℕ) → i < n → (e : Receipt A) → slice_get log i ≡ Some e → HasInPlace clients e

-- `index` is that of the first entry that no client has at this position
pub record IsFirstUnlogged {A : Type 0} (log : List (Receipt A)) (clients : List (ClientValue A)) (number index : ℕ) : Type 0 where
  pub entry : Receipt A
  pub at : slice_get log index ≡ Some entry
  pub number_is : number ≡ entry.client
  pub earlier : AreInPlaceBelow log clients index
  pub untold : HasInPlace clients entry → ⊥

-- all tests pass
pub record IsClean {A : Type 0} (log : List (Receipt A)) (clients : List (ClientValue A)) (entered : ℕ) : Type 0 where
  pub right : AreRightBelow log clients (length clients)
  pub all_in : AreInBelow clients entered
  pub in_place : AreInPlaceBelow log clients (length log)
