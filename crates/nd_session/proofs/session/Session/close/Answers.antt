use Rattle.std.proofs.Common.{List, IfOk, IfErr, subst}
use Rattle.nd_session.specs.Clients.{ClientValue}
use Rattle.nd_session.specs.Close.{ClosesWith, IsWhole}
use Rattle.nd_session.proofs.session.Session.close.Goals as goal

pub returns-clause-whole : goal.returns-clause-whole
returns-clause-whole g c =
    let P : List (ClientValue g.row.A.Denot) → Type 0 = λ cs. IfOk c.close.result (λ l. IsWhole l.entries.items cs l.entered) in
    subst P c.deref.ensures.value c.close.ensures.whole

pub returns-clause-wrong : goal.returns-clause-wrong
returns-clause-wrong g c =
    let P : List (ClientValue g.row.A.Denot) → Type 0 = λ cs. IfErr c.close.result (λ f. ClosesWith f.log.entries.items cs f.log.entered f.why) in
    subst P c.deref.ensures.value c.close.ensures.wrong
