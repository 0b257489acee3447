use Rattle.std.proofs.Common.{rules, ◌≡◌, ℕ, length, Some, arith, refl, below_more, subst}
use Rattle.std.specs.Prelude.{slice_get}
use Rattle.std.proofs.lemmas.Option.{slice_get_read}
use Rattle.nd_session.specs.declared.receipt.Receipt.{Receipt}
use Rattle.nd_session.specs.Clients.{Holds}
use Rattle.nd_session.proofs.close.first_wrong.Goals as goal

pub loop-j-preserved : goal.loop-j-preserved
loop-j-preserved g c =
    let at : slice_get c.args.receipts.now c.loop-j.j ≡ Some c.index-receipts-j.result = slice_get_read _ (length c.args.receipts.now) _ _ refl (omega arith) c.index-receipts-j.is in
    let held : Holds c.args.log.now c.index-receipts-j.result = search rules in
    let P : ℕ → Type 0 = λ j. (r : Receipt g.row.A.Denot) → slice_get c.args.receipts.now j ≡ Some r → Holds c.args.log.now r in
    let Q : Receipt g.row.A.Denot → Type 0 = λ r. Holds c.args.log.now r in
    let here : P c.loop-j.j = (λ r is. let same : c.index-receipts-j.result ≡ r = cc (at, is) in subst Q same held) in
    below_more P c.loop-j.j c.loop-j.invariant here
