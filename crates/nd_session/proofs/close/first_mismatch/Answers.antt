use Rattle.std.proofs.Common.{◌≡◌, ℕ, length, Some, refl, arith, subst, below_more}
use Rattle.std.specs.Prelude.{slice_get}
use Rattle.std.proofs.lemmas.Option.{slice_get_read}
use Rattle.nd_session.specs.Clients.{ClientValue}
use Rattle.nd_session.specs.Close.{IsRight}
use Rattle.nd_session.proofs.close.first_mismatch.Goals as goal

pub loop-k-preserved : goal.loop-k-preserved
loop-k-preserved g c =
    let at : slice_get c.args.clients.now c.loop-k.k ≡ Some c.index-clients-k.result = slice_get_read _ (length c.args.clients.now) _ _ refl (omega arith) c.index-clients-k.is in
    let right : IsRight c.args.log.now c.args.clients.now c.loop-k.k c.index-clients-k.result = c.in_default.ensures.right in
    let P : ℕ → Type 0 = λ k. (p : ClientValue g.row.A.Denot) → slice_get c.args.clients.now k ≡ Some p → IsRight c.args.log.now c.args.clients.now k p in
    let Q : ClientValue g.row.A.Denot → Type 0 = λ p. IsRight c.args.log.now c.args.clients.now c.loop-k.k p in
    let here : P c.loop-k.k = (λ p is. let same : c.index-clients-k.result ≡ p = cc (at, is) in subst Q same right) in
    below_more P c.loop-k.k c.loop-k.invariant here

pub returns-clause-none : goal.returns-clause-none
returns-clause-none g c = λ k below p at. c.loop-k.invariant k (omega arith) p at
