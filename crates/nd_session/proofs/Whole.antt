-- The end of a session: what the tests show about each client's receipts.
use Rattle.std.proofs.Common.{◌≡◌, ◌≢◌, ℕ, ◌<◌, ◌==◌, inl, inr, true, List, length, take, arith, refl, sym, ap, subst, ◌∙◌}
use Rattle.std.specs.Prelude.{slice_get, Some, filter}
use Rattle.std.proofs.lemmas.Option.{slice_get_within}
use Rattle.std.proofs.lemmas.Bool.{cases_lt, eqb-true, eq-eqb}
use Rattle.std.proofs.lemmas.List.Sums.{length-filter}
use Rattle.nd_session.specs.declared.receipt.Receipt.{Receipt}
use Rattle.nd_session.specs.Log.{ArePlaced, count_of}
use Rattle.nd_session.specs.Clients.{ClientValue, IsOwn}
use Rattle.nd_session.specs.Close.{HeldBelow, IsNewBelow, IsRight, IsWrong, AreRightBelow, HasReceipt, HaveReceiptsBelow, IsUnlogged, AreInBelow, IsWhole}
use Rattle.nd_session.specs.Tested.{IsOther, HasInPlace, AreInPlaceBelow, IsFirstUnlogged, IsClean}
use Rattle.nd_session.proofs.Filters.{filter_at, found_in, some_at, same_list, in_take, to_take, take_less}

module _ {A : Type 0} (log : List (Receipt A)) (clients : List (ClientValue A)) (k : ℕ) (p : ClientValue A) (rs : List (Receipt A)) (n : ℕ) where
  pub right_with : IsOwn p.number p.receipts → rs ≡ p.receipts → n ≡ p.number → HeldBelow log rs (length rs) → IsNewBelow clients k n → IsRight log clients k p
  right_with own receipts_is number_is held new =
      let P : List (Receipt A) → Type 0 = λ l. HeldBelow log l (length l) in
      let Q : ℕ → Type 0 = λ m. IsNewBelow clients k m in
      record { own = own; held = subst P receipts_is held; new = subst Q number_is new }

  pub wrong_with : rs ≡ p.receipts → n ≡ p.number → HeldBelow log rs (length rs) → IsOther clients k n → IsWrong log clients k p (length log)
  wrong_with receipts_is number_is held other =
      let P : List (Receipt A) → Type 0 = λ l. HeldBelow log l (length l) in
      inr (record {
        held = subst P receipts_is held;
        place = other.place;
        other = other.client;
        before = other.before;
        at = other.at;
        number_is = other.number_is ∙ number_is;
        index_is = refl;
      })

module _ {A : Type 0} (log : List (Receipt A)) (placed : ArePlaced log) where
  number_at : (n i : ℕ) (e : Receipt A) → slice_get log i ≡ Some e → e.client ≡ n → e.number ≡ count_of n (take i log)
  number_at n i e at client =
      let P : ℕ → Type 0 = λ m. e.number ≡ count_of m (take i log) in subst P client (placed i e at).number

  -- the numbers of one client's entries increase
  count_rises : (n i m : ℕ) (r : Receipt A) → m < i → slice_get log m ≡ Some r → r.client ≡ n → count_of n (take m log) < count_of n (take i log)
  count_rises n i m r below at client =
      let front : slice_get (take i log) m ≡ Some r = to_take log i m r below at in
      let test : (r.client == n) ≡ true = eq-eqb r.client n client in
      let there : slice_get (filter (λ (x : Receipt A). x.client == n) (take i log)) (count_of n (take m (take i log))) ≡ Some r =
      filter_at (λ (x : Receipt A). x.client == n) (take i log) m r front test in
      let within = slice_get_within (filter (λ (x : Receipt A). x.client == n) (take i log)) (count_of n (take m (take i log))) r there in
      let same : take m (take i log) ≡ take m log = take_less log m i (omega arith) in
      let count : count_of n (take m (take i log)) ≡ count_of n (take m log) = ap (λ (l : List (Receipt A)). count_of n l) same in
      let whole : length (filter (λ (x : Receipt A). x.client == n) (take i log)) ≡ count_of n (take i log) = length-filter (λ (x : Receipt A). x.client == n) (take i log) in
      omega (arith, within, count, whole)

  pub receipts_are : (n : ℕ) (rs : List (Receipt A)) → IsOwn n rs → HeldBelow log rs (length rs)
      → ((i : ℕ) (e : Receipt A) → slice_get log i ≡ Some e → e.client ≡ n → slice_get rs e.number ≡ Some e)
      → rs ≡ filter (λ e. e.client == n) log
  receipts_are n rs own held has =
      let own_entries = filter (λ (e : Receipt A). e.client == n) log in
      let each : (k : ℕ) (e : Receipt A) → slice_get own_entries k ≡ Some e → slice_get rs k ≡ Some e = (λ k e at.
      let f = found_in (λ (x : Receipt A). x.client == n) log k e at in
      let client : e.client ≡ n = eqb-true e.client n f.passes in
      let number : e.number ≡ k = number_at n f.place e f.at client ∙ f.number in
      let P : ℕ → Type 0 = λ m. slice_get rs m ≡ Some e in
      subst P number (has f.place e f.at client)) in
      same_list rs own_entries each (elim (cases_lt (length own_entries) (length rs)) [
        | inr le ↦ le
        | inl lt ↦
            let s = some_at rs (length own_entries) lt in
            let r = s.0 in
            let client : r.client ≡ n = own.client (length own_entries) r s.1 in
            let in_log : slice_get log r.index ≡ Some r = held (length own_entries) lt r s.1 in
            let in_place : slice_get rs r.number ≡ Some r = has r.index r in_log client in
            let test : (r.client == n) ≡ true = eq-eqb r.client n client in
            let there : slice_get own_entries (count_of n (take r.index log)) ≡ Some r = filter_at (λ (x : Receipt A). x.client == n) log r.index r in_log test in
            let number : r.number ≡ count_of n (take r.index log) = number_at n r.index r in_log client in
            let within : count_of n (take r.index log) < length own_entries = slice_get_within own_entries _ r there in
            let below : r.index < r.index = own.order r.number (length own_entries) r r (omega arith) in_place s.1 in
            absurd (omega arith)
      ])

  module _ (clients : List (ClientValue A)) (right : AreRightBelow log clients (length clients)) where
    right_at : (k : ℕ) (p : ClientValue A) → slice_get clients k ≡ Some p → IsRight log clients k p
    right_at k p at = right k (slice_get_within clients k p at) p at

    pub apart_at : (j k : ℕ) (p q : ClientValue A) → j < k → slice_get clients j ≡ Some p → slice_get clients k ≡ Some q → p.number ≢ q.number
    apart_at j k p q below at_j at_k = (right_at k q at_k).new j below p at_j

    -- only one client has a given number
    one_place : (j k : ℕ) (p q : ClientValue A) → slice_get clients j ≡ Some p → slice_get clients k ≡ Some q → p.number ≡ q.number → p ≡ q
    one_place j k p q at_j at_k same =
        elim (cases_lt j k) [
          | inl lt ↦ absurd (apart_at j k p q lt at_j at_k same)
          | inr le ↦ elim (cases_lt k j) [
            | inl lt ↦ absurd (apart_at k j q p lt at_k at_j (sym same))
            | inr ge ↦
                let here : j ≡ k = omega arith in
                let P : ℕ → Type 0 = λ i. slice_get clients i ≡ Some p in
                let e : slice_get clients k ≡ Some p = subst P here at_j in cc
          ]
        ]

    -- an entry that is at its position is at it with the client of its number
    placed_with : (k : ℕ) (p : ClientValue A) (e : Receipt A) → slice_get clients k ≡ Some p → e.client ≡ p.number → HasInPlace clients e → slice_get p.receipts e.number ≡ Some e
    placed_with k p e at client h =
        let same : h.client ≡ p = one_place h.place k h.client p h.at at (h.has.number_is ∙ client) in
        let P : ClientValue A → Type 0 = λ q. slice_get q.receipts e.number ≡ Some e in subst P same h.has.receipt

    -- if all earlier entries are at their positions, an entry that a client has is at its own
    pub in_its_place : (i : ℕ) (e : Receipt A) → slice_get log i ≡ Some e → AreInPlaceBelow log clients i → HasReceipt clients e → HasInPlace clients e
    in_its_place i e at earlier h =
        let p = h.client in
        let j = h.receipt_place in
        let r = right_at h.place p h.at in
        let client : e.client ≡ p.number = r.own.client j e h.receipt in
        let index : e.index ≡ i = (placed i e at).index in
        let number : e.number ≡ count_of p.number (take i log) = number_at p.number i e at client in
        let P : ℕ → Type 0 = λ m. slice_get p.receipts m ≡ Some e in
        let here : slice_get p.receipts e.number ≡ Some e = elim (cases_lt j e.number) [
          | inl lt ↦
              let own_entries = filter (λ (x : Receipt A). x.client == p.number) (take i log) in
              let whole : length own_entries ≡ count_of p.number (take i log) = length-filter (λ (x : Receipt A). x.client == p.number) (take i log) in
              let s = some_at own_entries j (omega (arith, lt, whole, number)) in
              let x = s.0 in
              let f = found_in (λ (y : Receipt A). y.client == p.number) (take i log) j x s.1 in
              let t = in_take log i f.place x f.at in
              let own : x.client ≡ p.number = eqb-true x.client p.number f.passes in
              let same : take f.place (take i log) ≡ take f.place log = take_less log f.place i (omega (arith, t.0)) in
              let count : count_of p.number (take f.place (take i log)) ≡ count_of p.number (take f.place log) = ap (λ (l : List (Receipt A)). count_of p.number l) same in
              let its : x.number ≡ j = number_at p.number f.place x t.1 own ∙ (sym count ∙ f.number) in
              let there : slice_get p.receipts x.number ≡ Some x = placed_with h.place p x h.at own (earlier f.place t.0 x t.1) in
              let Q : ℕ → Type 0 = λ m. slice_get p.receipts m ≡ Some x in
              let at_j : slice_get p.receipts j ≡ Some x = subst Q its there in
              let one : x ≡ e = cc (at_j, h.receipt) in
              let low : x.index ≡ f.place = (placed f.place x t.1).index in
              let equal : x.index ≡ e.index = ap (λ (y : Receipt A). y.index) one in
              absurd (omega (arith, low, equal, index, t.0))
          | inr ge ↦ elim (cases_lt e.number j) [
            | inr le ↦ let same : j ≡ e.number = omega (arith, ge, le) in subst P same h.receipt
            | inl lt ↦
                let within : j < length p.receipts = slice_get_within p.receipts j e h.receipt in
                let s = some_at p.receipts e.number (omega (arith, lt, within)) in
                let x = s.0 in
                let before : x.index < e.index = r.own.order e.number j x e lt s.1 h.receipt in
                let own : x.client ≡ p.number = r.own.client e.number x s.1 in
                let in_log : slice_get log x.index ≡ Some x = r.held e.number (omega (arith, lt, within)) x s.1 in
                let low : x.index < i = omega (arith, before, index) in
                let its : x.number ≡ count_of p.number (take x.index log) = number_at p.number x.index x in_log own in
                let fewer : count_of p.number (take x.index log) < count_of p.number (take i log) = count_rises p.number i x.index x low in_log own in
                let there : slice_get p.receipts x.number ≡ Some x = placed_with h.place p x h.at own (earlier x.index low x in_log) in
                let below : x.index < x.index = r.own.order x.number e.number x x (omega (arith, its, fewer, number)) there s.1 in
                absurd (omega (arith, below))
          ]
        ] in
        record { place = h.place; client = p; at = h.at; has = record { number_is = sym client; receipt = here } }

    pub have_receipts : (n : ℕ) → AreInPlaceBelow log clients n → HaveReceiptsBelow log clients n
    have_receipts n h i below e at =
        let t = h i below e at in record { place = t.place; client = t.client; at = t.at; receipt_place = e.number; receipt = t.has.receipt }

    pub is_unlogged : (entered number index : ℕ) → AreInBelow clients entered → IsFirstUnlogged log clients number index → IsUnlogged log clients entered number index
    is_unlogged entered number index all_in h = record {
      right = right;
      all_in = all_in;
      entry = h.entry;
      at = h.at;
      earlier = have_receipts index h.earlier;
      untold = λ has. h.untold (in_its_place index h.entry h.at h.earlier has);
      number_is = h.number_is;
    }

  pub is_whole : (clients : List (ClientValue A)) (entered : ℕ) → IsClean log clients entered → IsWhole log clients entered
  is_whole clients entered clean = record {
    receipts = λ k p at.
        let r = right_at clients clean.right k p at in
        receipts_are p.number p.receipts r.own r.held (λ i e in_log client. placed_with clients clean.right k p e at client (clean.in_place i (slice_get_within log i e in_log) e in_log));
    apart = apart_at clients clean.right;
    no_others = λ i e at. let h = clean.in_place i (slice_get_within log i e at) e at in record { place = h.place; client = h.client; at = h.at; number_is = h.has.number_is };
    all_in = clean.all_in;
  }
