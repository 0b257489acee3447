use Rattle.std.proofs.Common.{[], ◌∷◌, sym, subst}
use Rattle.nd_paths.specs.declared.point.Pointstamp.{Pointstamp}
use Rattle.nd_protocol.specs.State.{ClusterState}
use Rattle.nd_protocol.specs.Steps.{stepped, after}
use Rattle.nd_protocol.specs.declared.step.Step.{Step}
use Rattle.nd_protocol.specs.declared.step.Step.TheVariants.{Send}
use Rattle.nd_protocol.specs.Enabled.{IsEnabled}
use Rattle.nd_protocol.specs.Laws.{SentIsLater, SentIsNotPassed, SendIsExact}
use Rattle.nd_protocol.specs.Invariant.{IsSettled, KeepsProtocol, IsFinished}
use Rattle.nd_steps.specs.Records.{Makes}
use Rattle.nd_protocol.specs.Fitting.{IsState}
use Rattle.nd_cluster.specs.Records.{IsSent}
use Rattle.nd_cluster.proofs.cluster.Cluster.commit.Goals as goal

-- the state after the only step of a list
finished_after : {A : Type 0} (s : ClusterState) (x : Step A) (p : Pointstamp) → IsFinished (after s (x ∷ [])) p → IsFinished (stepped s x) p
unfolding after
finished_after s x p h = h

-- what an enabled step sends
is_sent : {A : Type 0} → SentIsLater A → SentIsNotPassed A → SendIsExact A → (s : ClusterState) (x : Step A) → IsState s → IsEnabled s x → IsSent s (stepped s x) x
is_sent later not_passed exact s (Send p vertex batch) state e = record {
  exact = exact s p vertex batch state e;
  held = (later s p vertex batch state e).0;
  stays = (later s p vertex batch state e).1;
  later = (later s p vertex batch state e).2;
  not_passed = λ keeps q lt. not_passed s p q vertex batch state keeps e lt;
}
is_sent later not_passed exact s _ state e = tt

pub commit_record-requires-clause-makes : goal.commit_record-requires-clause-makes
commit_record-requires-clause-makes g c =
    let r = c.args.planned.now in
    (stepped c.args.self.now r.step, subst (λ s. Makes s r (stepped c.args.self.now r.step)) (sym c.self.view_is) c.requires.makes)

pub returns-clause-step : goal.returns-clause-step
returns-clause-step g c =
    let r = c.args.planned.now in
    c.in-Ok.ensures.ok (stepped c.args.self.now r.step) (subst (λ s. Makes s r (stepped c.args.self.now r.step)) (sym c.self.view_is) c.requires.makes)

pub invariant_of-self-2 : goal.invariant_of-self-2
invariant_of-self-2 g c =
    subst IsState (sym (returns-clause-step g c)) (c.steps_keep_protocol.ensures.state c.args.self.now c.args.planned.now.step c.requires.state c.requires.enabled)

pub returns-clause-leads : goal.returns-clause-leads
returns-clause-leads g c = record { planned = c.requires; after = returns-clause-step g c }

pub returns-clause-settled : goal.returns-clause-settled
returns-clause-settled g c = λ h.
    subst IsSettled (sym (returns-clause-step g c)) (c.steps_keep_protocol.ensures.settled c.args.self.now c.args.planned.now.step c.requires.state c.requires.enabled h)

pub returns-clause-protocol : goal.returns-clause-protocol
returns-clause-protocol g c = λ h.
    subst KeepsProtocol (sym (returns-clause-step g c)) (c.steps_keep_protocol.ensures.protocol c.args.self.now c.args.planned.now.step c.requires.state c.requires.enabled h)

pub returns-clause-finished : goal.returns-clause-finished
returns-clause-finished g c = λ h x is.
    subst (λ (s : ClusterState). IsFinished s x) (sym (returns-clause-step g c))
    (finished_after c.args.self.now c.args.planned.now.step x (c.protocol_is_safe.ensures.finished c.args.self.now (c.args.planned.now.step ∷ []) c.requires.state h (c.requires.enabled, tt) x is))

pub returns-clause-held : goal.returns-clause-held
returns-clause-held g c = λ h. c.protocol_is_safe.ensures.held _ (invariant_of-self-2 g c) (returns-clause-protocol g c h)

pub returns-clause-sent : goal.returns-clause-sent
returns-clause-sent g c =
    let s = c.args.self.now in
    let x = c.args.planned.now.step in
    subst (λ (t : ClusterState). IsSent s t x) (sym (returns-clause-step g c))
    (is_sent c.sends_are_later.ensures.later c.sends_are_later.ensures.not_passed c.sends_are_later.ensures.exact s x c.requires.state c.requires.enabled)
