use Rattle.std.proofs.Common.{rules, ℕ, below_more}
use Rattle.nd_session.specs.Close.{IsIn}
use Rattle.nd_session.proofs.close.first_missing.Goals as goal

pub loop-n-preserved : goal.loop-n-preserved
loop-n-preserved g c =
    let P : ℕ → Type 0 = λ m. IsIn c.args.clients.now m in
    let here : P c.loop-n.n = search rules in
    below_more P c.loop-n.n c.loop-n.invariant here
