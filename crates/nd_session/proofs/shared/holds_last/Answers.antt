use Rattle.std.specs.Prelude.{MatchOption, MatchBool}
use Rattle.std.proofs.Common.{subst}
use Rattle.nd_session.specs.Clients.{Holds}
use Rattle.nd_session.proofs.shared.holds_last.Goals as goal

pub returns-in-Some : goal.returns-in-Some
returns-in-Some g c =
    let log = c.args.log.now in
    subst (λ o. MatchBool c.holds.result (MatchOption o (Unit {0}) (λ r. Holds log r)) (MatchOption o (Unit {0}) (λ r. Holds log r) → ⊥)) c.in-Some.ensures.value c.holds.ensures
