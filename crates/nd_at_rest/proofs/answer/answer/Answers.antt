use Rattle.std.proofs.Common.{◌≡◌, ◌<◌, [], length, sym, subst}
use Rattle.std.specs.Prelude.{◌↔◌, IsTrue}
use Rattle.nd_view.specs.View.{IsPassedBefore}
use Rattle.nd_protocol.specs.State.{ClusterState, view}
use Rattle.nd_why.specs.Why.{IsWhy, IsFinishedBefore}
use Rattle.nd_at_rest.specs.Run.{IsStopOf}
use Rattle.nd_at_rest.proofs.Steps.{as_many}
use Rattle.nd_at_rest.proofs.Answered.{runs, are_moves, tells}
use Rattle.nd_at_rest.proofs.answer.answer.Goals as goal

pub why-requires : goal.why-requires
why-requires g c =
    let gone = c.in_ok-ran.ensures.gone in
    subst (λ n. c.args.asked.now.q < n) (as_many c.args.cluster c.advance_all.new.cluster gone.steps c.n.ensures.state c.n-2.ensures.state gone.leads) c.requires.q

pub returns : goal.returns
returns g c =
    let s = c.args.cluster in
    let t = c.advance_all.new.cluster in
    let asked = c.args.asked.now in
    let reasons = c.in_ok-reasons.reasons in
    let how = c.in_ok-stop.stop in
    let gone = c.in_ok-ran.ensures.gone in
    let less : asked.q < length t.processors = subst (λ n. asked.q < n) (as_many s t gone.steps c.n.ensures.state c.n-2.ensures.state gone.leads) c.requires.q in
    let laws = c.order_does_not_matter.ensures in
    record {
      steps = gone.steps;
      run = runs s t c.args.turn c.args.limit c.in_ok-ran.ran gone how c.in_ok-stop.ensures;
      ran = sym gone.count;
      whole = subst (λ u. IsWhy u asked reasons) gone.leads c.in_ok-reasons.ensures.whole;
      passed = subst (λ (u : ClusterState). (reasons ≡ []) ↔ IsPassedBefore u.graph asked.extent (view u asked.q) asked.point) gone.leads c.in_ok-reasons.ensures.passed;
      finished = subst (λ u. IsTrue c.finished-finished.result ↔ IsFinishedBefore u asked.extent asked.point) gone.leads c.finished-finished.ensures;
      moves = are_moves s c.args.turn gone.steps gone.first;
      orders = λ is.
          tells laws.end laws.passed laws.finished laws.moves laws.there c.rest_is_left_to_users.ensures s t asked c.args.turn c.args.limit c.in_ok-ran.ran gone reasons
          c.n.ensures.state c.n-2.ensures.state c.requires.protocol (c.in_ok-ran.ensures.protocol c.requires.protocol) c.requires.q less
          c.in_ok-reasons.ensures.whole (subst (IsStopOf _ t) is c.in_ok-stop.ensures);
    }
