-- What a step writes in one processor, each with its changes: a record arrives or is taken, a
-- request is removed or made, a sink counts a value, or the token of an input moves.
use Rattle.std.proofs.Common.{◌≡◌, inl, inr, ℕ, suc, ◌+◌, ◌≤◌, ℤ, pos, negsuc, ◌+ℤ◌, ◌-ℤ◌, ◌≤ℤ◌, Bool, true, false, cond, ◌&&◌, is_none, Option, Some, None, List, [], ◌∷◌, refl, sym, ap, subst, ◌∙◌, arith}
use Rattle.std.proofs.lemmas.Int.{ints}
use Rattle.std.proofs.lemmas.Map.Views.{tells_apart}
use Rattle.std.specs.Ordering.{eq_by_cmp}
use Rattle.std.specs.FinMap as fin
use Rattle.nd_map.specs.Counts.{at as number_at, added}
use Rattle.nd_paths.specs.Point.{point_cmp, point_total, point_exact}
use Rattle.nd_paths.specs.declared.point.Pointstamp.{Pointstamp}
use Rattle.nd_processor.specs.Keys.{value_at_total, sink_total}
use Rattle.nd_processor.specs.State.{ProcessorState, Requests, token_point, one_at, held, in_records, in_requests}
use Rattle.nd_processor.specs.Held.{token_at}
use Rattle.nd_processor.specs.HeldLaws.{in_records-taken, in_requests-insert, in_requests-remove, held-added, held-token, held-closed}
use Rattle.nd_processor.specs.declared.key.ValueAt.{ValueAt}
use Rattle.nd_processor.specs.declared.key.SinkKey.{SinkKey}
use Rattle.nd_protocol.specs.Steps.{moved_token}
use Rattle.nd_protocol.specs.declared.step.Next.{Next as Afterwards}
use Rattle.nd_protocol.specs.declared.step.Next.TheVariants as token
use Rattle.nd_steps.specs.Places.{place_at}
use Rattle.nd_steps.specs.Slots.{from_request, from_epoch, with_request, with_epoch}
use Rattle.nd_steps.specs.Plans.{total_at, Each}
use Rattle.nd_steps.specs.Changes.{at_key}
use Rattle.nd_steps.specs.Drafts.{ask_changes, sink_changes, token_changes}
use Rattle.nd_steps.specs.declared.change.Change.{Change}
use Rattle.nd_steps.specs.declared.slot.Slot.TheVariants.{Records, Request, Token, Sink, Unsent}
use Rattle.nd_steps.proofs.Moves.{Moves, IsSent, nothing_more, stays, put_moves, sent_one, one_more, one_less}

-- ---- records

more_may : (n : ℕ) → pos 0 ≤ℤ (pos n +ℤ pos 1)
more_may n = omega (arith, ints)

less_may : (n : ℕ) → 1 ≤ n → pos 0 ≤ℤ (pos n +ℤ negsuc 0)
less_may n some = omega (arith, ints, some)

pub record_comes : (p i : ℕ) (q : ProcessorState) (k : ValueAt) → Moves p i q (record q { records = added value_at_total q.records k (pos 1) }) (at_key i (Records k) (pos 1) ∷ at_key p (Unsent k.point) (pos 1) ∷ [])
record_comes p i q k =
    put_moves p i q (Records k) (pos 1) (at_key p (Unsent k.point) (pos 1) ∷ []) _ refl tt tt (more_may (number_at q.records k)) (sent_one p k.point (pos 1), tt) (λ x.
    let a : held (record q { records = added value_at_total q.records k (pos 1) }) x ≡ held q x + one_at k.point x = held-added q k 1 x in
    let b = one_more p k.point x [] in
    omega (arith, ints, a, b))

pub record_goes : (p : ℕ) (q : ProcessorState) (k : ValueAt) → 1 ≤ number_at q.records k
    → Moves p p q (record q { records = added value_at_total q.records k (negsuc 0) }) (at_key p (Records k) (negsuc 0) ∷ at_key p (Unsent k.point) (negsuc 0) ∷ [])
record_goes p q k some =
    put_moves p p q (Records k) (negsuc 0) (at_key p (Unsent k.point) (negsuc 0) ∷ []) _ refl tt tt (less_may (number_at q.records k) some) (sent_one p k.point (negsuc 0), tt) (λ x.
    let a : in_records (added value_at_total q.records k (negsuc 0)) x + one_at k.point x ≡ in_records q.records x = in_records-taken q.records k 1 x some in
    let b = one_less p k.point x [] in
    omega (arith, ints, a, b))

-- ---- requests

pub request_goes : (p : ℕ) (q : ProcessorState) (y : Pointstamp) → fin.get q.requests y ≡ Some tt
    → Moves p p q (record q { requests = fin.remove q.requests y }) (at_key p (Request y) (negsuc 0) ∷ at_key p (Unsent y) (negsuc 0) ∷ [])
request_goes p q y found =
    put_moves p p q (Request y) (negsuc 0) (at_key p (Unsent y) (negsuc 0) ∷ []) _
    (ap (λ o. record q { requests = with_request q.requests y (from_request o +ℤ negsuc 0) }) (sym found))
    tt tt (inl (ap (λ o. from_request o +ℤ negsuc 0) found)) (sent_one p y (negsuc 0), tt) (λ x.
    let a : in_requests (fin.remove q.requests y) x + one_at y x ≡ in_requests q.requests x = in_requests-remove q.requests y x found in
    let b = one_less p y x [] in
    omega (arith, ints, a, b))

-- a request that stands already changes nothing
made_again : (m : Requests) (y : Pointstamp) → fin.get m y ≡ Some tt → fin.insert m y tt ≡ m
made_again m y found = fin.same_map point_total point_exact (fin.insert m y tt) m (λ x.
    fin.get-insert point_total m y tt x ∙ by (eq_by_cmp point_cmp x y) (fin.get m x) (λ t. ap (fin.get m) (tells_apart point_exact x y t) ∙ found))
  where
    by : (b : Bool) (o : Option (Unit {0})) → (b ≡ true → o ≡ Some tt) → cond b (Some tt) o ≡ o
    by true o e = sym (e refl)
    by false o e = refl

module _ (p : ℕ) (q : ProcessorState) (y : Pointstamp) where
  made : (o : Option (Unit {0})) → fin.get q.requests y ≡ o → Moves p p q (record q { requests = fin.insert q.requests y tt }) (ask_changes p y (is_none o))
  made None absent =
      put_moves p p q (Request y) (pos 1) (at_key p (Unsent y) (pos 1) ∷ []) _
      (ap (λ o. record q { requests = with_request q.requests y (from_request o +ℤ pos 1) }) (sym absent))
      tt tt (inr (ap (λ o. from_request o +ℤ pos 1) absent)) (sent_one p y (pos 1), tt) (λ x.
      let a = in_requests-insert q.requests y x absent in
      let b = one_more p y x [] in
      omega (arith, ints, a, b))
  made (Some u) found = subst (λ m. Moves p p q (record q { requests = m }) []) (sym (made_again q.requests y found)) (stays p p q)

  -- a request, if there is none
  pub request_made : Moves p p q (record q { requests = fin.insert q.requests y tt }) (ask_changes p y (is_none (fin.get q.requests y)))
  request_made = made (fin.get q.requests y) refl

  pub request_asked : (asks : Bool) → Moves p p q (record q { requests = cond asks (fin.insert q.requests y tt) q.requests }) (ask_changes p y (asks && is_none (fin.get q.requests y)))
  request_asked true = request_made
  request_asked false = stays p p q

-- ---- a value that a sink counts

pub value_counts : (p : ℕ) (q : ProcessorState) (key : SinkKey) (counts : Bool) → Moves p p q (record q { sinks = cond counts (added sink_total q.sinks key (pos 1)) q.sinks }) (sink_changes p key counts)
value_counts p q key true = put_moves p p q (Sink key) (pos 1) [] _ refl tt tt (more_may (number_at q.sinks key)) tt (λ x. nothing_more (pos (held q x)))
value_counts p q key false = stays p p q

-- ---- the token of an input

module _ (p : ℕ) (q : ProcessorState) (vertex epoch : ℕ) (found : fin.get q.tokens vertex ≡ Some epoch) where
  -- the token's integer, 1 more than its epoch, becomes z
  token_put : (n z : ℤ) (es : List Change) → pos (epoch + 1) +ℤ n ≡ z → pos 0 ≤ℤ z → Each (IsSent p) es
      → ((x : Pointstamp) → pos (held (record q { tokens = with_epoch q.tokens vertex z }) x) ≡ pos (held q x) +ℤ total_at (place_at p (Unsent x)) es)
      → Moves p p q (record q { tokens = with_epoch q.tokens vertex z }) (at_key p (Token vertex) n ∷ es)
  token_put n z es is may sent outstanding =
      let then : z ≡ from_epoch (fin.get q.tokens vertex) +ℤ n = sym is ∙ ap (λ o. from_epoch o +ℤ n) (sym found) in
      put_moves p p q (Token vertex) n es _ (ap (λ w. record q { tokens = with_epoch q.tokens vertex w }) then) tt tt (subst (λ w. pos 0 ≤ℤ w) then may) sent outstanding

  token_was : (x : Pointstamp) → token_at vertex (fin.get q.tokens vertex) x ≡ one_at (token_point vertex epoch) x
  token_was x = ap (λ (o : Option ℕ). token_at vertex o x) found

  -- the token goes to epoch n
  token_goes : (n : ℕ) (z : ℤ) → pos (epoch + 1) +ℤ z ≡ pos (suc n)
      → Moves p p q (record q { tokens = fin.insert q.tokens vertex n }) (at_key p (Token vertex) z ∷ at_key p (Unsent (token_point vertex epoch)) (negsuc 0) ∷ at_key p (Unsent (token_point vertex n)) (pos 1) ∷ [])
  token_goes n z is =
      token_put z (pos (suc n)) _ is (omega (arith, ints)) (sent_one p (token_point vertex epoch) (negsuc 0), (sent_one p (token_point vertex n) (pos 1), tt)) (λ x.
      let a : held (record q { tokens = fin.insert q.tokens vertex n }) x + token_at vertex (fin.get q.tokens vertex) x ≡ held q x + one_at (token_point vertex n) x = held-token q vertex n x in
      let b = token_was x in
      let c = one_less p (token_point vertex epoch) x (at_key p (Unsent (token_point vertex n)) (pos 1) ∷ []) in
      let d = one_more p (token_point vertex n) x [] in
      omega (arith, ints, a, b, c, d))

  token_closes : Moves p p q (record q { tokens = fin.remove q.tokens vertex }) (token_changes p vertex epoch token.Close)
  token_closes =
      token_put (negsuc epoch) (pos 0) _ (omega (arith, ints)) (omega (arith, ints)) (sent_one p (token_point vertex epoch) (negsuc 0), tt) (λ x.
      let a = held-closed q vertex x in
      let b = token_was x in
      let c = one_less p (token_point vertex epoch) x [] in
      omega (arith, ints, a, b, c))

  pub token_moves : (next : Afterwards) → Moves p p q (record q { tokens = moved_token q.tokens vertex epoch next }) (token_changes p vertex epoch next)
  token_moves token.Next = token_goes (epoch + 1) (pos 1) (omega (arith, ints))
  token_moves token.Close = token_closes
  token_moves token.Stay = stays p p q
  token_moves (token.To n) = token_goes n (pos n -ℤ pos epoch) (omega (arith, ints))
