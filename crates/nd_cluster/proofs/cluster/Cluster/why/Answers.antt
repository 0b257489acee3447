use Rattle.std.proofs.Common.{◌≡◌, ◌<◌, ◌↔◌, [], length, sym, subst}
use Rattle.std.specs.Prelude.{All}
use Rattle.nd_paths.specs.declared.point.Pointstamp.{Pointstamp}
use Rattle.nd_view.specs.View.{IsBefore, IsPositiveBefore, IsPassedBefore}
use Rattle.nd_protocol.specs.State.{ClusterState, view}
use Rattle.nd_protocol.specs.Invariant.{KeepsProtocol}
use Rattle.nd_why.specs.Why.{IsWhy, IsFinishedBefore, HasReasonBefore, IsCounted, IsBalanced}
use Rattle.nd_cluster.proofs.cluster.Cluster.why.Goals as goal

pub why-requires-clause-state : goal.why-requires-clause-state
why-requires-clause-state g c = c.self.invariant

pub why-requires-clause-q : goal.why-requires-clause-q
why-requires-clause-q g c = subst (λ (s : ClusterState). c.args.asked.now.q < length s.processors) (sym c.self.view_is) c.requires

pub returns-clause-whole : goal.returns-clause-whole
returns-clause-whole g c =
    subst (λ (s : ClusterState). IsWhy s c.args.asked.now c.in-Ok.reasons) c.self.view_is c.in-Ok.ensures.whole

pub returns-clause-passed : goal.returns-clause-passed
returns-clause-passed g c =
    subst (λ (s : ClusterState). (c.in-Ok.reasons ≡ []) ↔ IsPassedBefore s.graph c.args.asked.now.extent (view s c.args.asked.now.q) c.args.asked.now.point) c.self.view_is c.in-Ok.ensures.passed

pub returns-clause-before : goal.returns-clause-before
returns-clause-before g c =
    subst (λ (s : ClusterState). All (λ a. IsBefore s.graph c.args.asked.now.extent a.point c.args.asked.now.point) c.in-Ok.reasons) c.self.view_is c.in-Ok.ensures.before

pub returns-clause-covered : goal.returns-clause-covered
returns-clause-covered g c =
    subst (λ (s : ClusterState). (x : Pointstamp) → IsPositiveBefore s.graph (view s c.args.asked.now.q) c.args.asked.now.extent c.args.asked.now.point x → HasReasonBefore s.graph c.in-Ok.reasons x) c.self.view_is c.in-Ok.ensures.covered

pub returns-clause-counted : goal.returns-clause-counted
returns-clause-counted g c =
    subst (λ (s : ClusterState). All (IsCounted s) c.in-Ok.reasons) c.self.view_is c.in-Ok.ensures.counted

pub returns-clause-balanced : goal.returns-clause-balanced
returns-clause-balanced g c =
    subst (λ (s : ClusterState). KeepsProtocol s → All IsBalanced c.in-Ok.reasons) c.self.view_is c.in-Ok.ensures.balanced

pub returns-clause-finished : goal.returns-clause-finished
returns-clause-finished g c =
    subst (λ (s : ClusterState). IsFinishedBefore s c.args.asked.now.extent c.args.asked.now.point → All (λ a. a.held ≡ []) c.in-Ok.reasons) c.self.view_is c.in-Ok.ensures.finished
