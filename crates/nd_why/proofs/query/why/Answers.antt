use Rattle.std.proofs.Common.{◌≡◌, ◌<◌, [], sym, subst}
use Rattle.std.proofs.lemmas.Result.{IfOk-weaker}
use Rattle.nd_view.specs.View.{IsBefore}
use Rattle.nd_why.specs.Why.{IsCounted, IsBalanced}
use Rattle.nd_why.proofs.Nothing.{nothing_held}
use Rattle.nd_why.proofs.Sums.{counted_at, balanced_at}
use Rattle.nd_why.proofs.Whole.{each_account, covered, passed_by}
use Rattle.nd_why.proofs.query.why.Goals as goal

pub frontier_before-requires : goal.frontier_before-requires
frontier_before-requires g c = subst (λ n. c.args.asked.now.q < n) (sym c.requires.state.fits.each_view) c.requires.q

pub returns-clause-whole : goal.returns-clause-whole
returns-clause-whole g c = IfOk-weaker c.reasons_at.result _ _ (λ w told. (c.in_ok-points.points, c.in_ok-points.ensures.part, told)) c.reasons_at.ensures

pub returns-clause-passed : goal.returns-clause-passed
returns-clause-passed g c =
    let a = c.args in
    let s = a.parts.now in
    IfOk-weaker c.reasons_at.result _ _ (λ w why. passed_by s a.asked.now w why c.in_ok-points.ensures.covers) (returns-clause-whole g c)

pub returns-clause-before : goal.returns-clause-before
returns-clause-before g c =
    let a = c.args in
    let s = a.parts.now in
    IfOk-weaker c.reasons_at.result _ _ (λ w why. each_account s a.asked.now w why (λ r. IsBefore s.graph a.asked.now.extent r.point a.asked.now.point) (λ b reason. reason.before)) (returns-clause-whole g c)

pub returns-clause-covered : goal.returns-clause-covered
returns-clause-covered g c =
    let a = c.args in
    let s = a.parts.now in
    IfOk-weaker c.reasons_at.result _ _ (λ w why. covered s a.asked.now w why c.in_ok-points.ensures.covers) (returns-clause-whole g c)

pub returns-clause-counted : goal.returns-clause-counted
returns-clause-counted g c =
    let a = c.args in
    let s = a.parts.now in
    IfOk-weaker c.reasons_at.result _ _ (λ w why. each_account s a.asked.now w why (IsCounted s) (λ b reason. counted_at s a.asked.now.q b)) (returns-clause-whole g c)

pub returns-clause-balanced : goal.returns-clause-balanced
returns-clause-balanced g c = λ keeps.
    let a = c.args in
    let s = a.parts.now in
    IfOk-weaker c.reasons_at.result _ _ (λ w why. each_account s a.asked.now w why IsBalanced (λ b reason. balanced_at s keeps.settled a.asked.now.q c.requires.q b)) (returns-clause-whole g c)

pub returns-clause-finished : goal.returns-clause-finished
returns-clause-finished g c = λ finished.
    let a = c.args in
    let s = a.parts.now in
    IfOk-weaker c.reasons_at.result _ _ (λ w why. each_account s a.asked.now w why (λ r. r.held ≡ []) (λ b reason. nothing_held s a.asked.now.q b (finished b reason.before))) (returns-clause-whole g c)
