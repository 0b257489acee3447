use Rattle.std.proofs.Common.{rules, ◌≡◌, ℕ, length, Some, refl, arith, subst, below_more}
use Rattle.std.specs.Prelude.{slice_get}
use Rattle.std.proofs.lemmas.Option.{slice_get_read}
use Rattle.nd_session.specs.declared.receipt.Receipt.{Receipt}
use Rattle.nd_session.specs.Tested.{HasInPlace}
use Rattle.nd_session.proofs.close.first_unlogged.Goals as goal

pub loop-i-preserved : goal.loop-i-preserved
loop-i-preserved g c =
    let at : slice_get c.args.log.now c.loop-i.i ≡ Some c.index-log-i.result = slice_get_read _ (length c.args.log.now) _ _ refl (omega arith) c.index-log-i.is in
    let has : HasInPlace c.args.clients.now c.index-log-i.result = search rules in
    let P : ℕ → Type 0 = λ i. (e : Receipt g.row.A.Denot) → slice_get c.args.log.now i ≡ Some e → HasInPlace c.args.clients.now e in
    let Q : Receipt g.row.A.Denot → Type 0 = λ e. HasInPlace c.args.clients.now e in
    let here : P c.loop-i.i = (λ e is. let same : c.index-log-i.result ≡ e = cc (at, is) in subst Q same has) in
    below_more P c.loop-i.i c.loop-i.invariant here
