use Rattle.std.specs.Prelude.{MatchBool, slice_get}
use Rattle.std.proofs.Common.{◌≡◌, ◌∙◌, Bool, true, false, length, Some, sym, subst}
use Rattle.std.proofs.lemmas.Bool.{ltb-true, ltb-false}
use Rattle.nd_session.specs.Clients.{ClientValue}
use Rattle.nd_session.specs.Tested.{HasAt}
use Rattle.nd_session.specs.declared.receipt.Receipt.{Receipt}
use Rattle.nd_session.proofs.Lookups.{found, compared, beyond}
use Rattle.nd_session.proofs.close.has_at.Goals as goal

module _ {A : Type 0} (p : ClientValue A) (e : Receipt A) where
  -- the receipt at the entry's number decides, if the client has the entry's number
  decided : (b : Bool) → p.number ≡ e.client → MatchBool b (slice_get p.receipts e.number ≡ Some e) (slice_get p.receipts e.number ≡ Some e → ⊥) → MatchBool b (HasAt p e) (HasAt p e → ⊥)
  decided true number at = record { number_is = number; receipt = at }
  decided false number other = λ has. other has.receipt

pub returns-in-Some : goal.returns-in-Some
returns-in-Some g c =
    let e = c.args.entry.now in
    let rs = c.receipts.result.now in
    let lookup = c.in-Some.ensures.lookup in
    let here = compared rs e.number c.same.result c.in-Some.receipt.now e (found rs e.number c.in-Some.receipt.now (ltb-true e.number (length rs) (sym lookup.0)) lookup.1) c.same.ensures in
    decided c.args.client.now e c.same.result (sym c.number.ensures ∙ c.if-number-entry.true)
    (subst (λ rs. MatchBool c.same.result (slice_get rs e.number ≡ Some e) (slice_get rs e.number ≡ Some e → ⊥)) c.receipts.ensures.value here)

pub returns-in-None : goal.returns-in-None
returns-in-None g c = λ has.
    let e = c.args.entry.now in
    let rs = c.receipts.result.now in
    beyond rs e.number e (ltb-false e.number (length rs) (sym c.in-None.ensures.lookup.0)) (subst (λ rs. slice_get rs e.number ≡ Some e) (sym c.receipts.ensures.value) has.receipt)
