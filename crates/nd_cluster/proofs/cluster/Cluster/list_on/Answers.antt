use Rattle.std.proofs.Common.{◌≡◌, [], ◌∷◌, sym, subst, ◌∙◌}
use Rattle.nd_cluster.specs.Candidates.{Lists, candidates_of}
use Rattle.nd_cluster.proofs.CandidatesLemmas.{more_already, lists_none, lists_both}
use Rattle.nd_cluster.proofs.cluster.Cluster.list_on.Goals as goal

pub loop-step-init : goal.loop-step-init
loop-step-init g c = λ new rest.
    let same : c.into_iter-step-iterator.result ≡ candidates_of {A = g.row.A.Denot} c.args.self.now c.args.p = c.into_iter-step-iterator.ensures.into_iter_gives ∙ c.candidates_of-step-items.ensures in
    subst (λ xs. Lists c.args.self.now xs c.args.listed.now new) same rest

pub loop-step-preserved : goal.loop-step-preserved
loop-step-preserved g c = λ new rest.
    let s = c.args.self.now in
    let x = c.in-Some.step in
    c.loop-step.invariant new
    (subst (λ xs. Lists s xs c.loop-step.listed new) (sym c.in-Some.ensures.steps) (lists_both s c.loop-step.listed c.list_step.new.listed new (x ∷ []) c.next.new.self c.in_ok-list_step.ensures rest))

pub returns-then-listed : goal.returns-then-listed
returns-then-listed g c =
    c.loop-step.invariant c.loop-step.listed (λ all is. more_already c.args.self.now all c.loop-step.step-iterator c.loop-step.listed c.if-listed.true is)

pub returns : goal.returns
returns g c =
    let s = c.args.self.now in
    c.loop-step.invariant c.loop-step.listed (subst (λ xs. Lists s xs c.loop-step.listed c.loop-step.listed) (sym c.in-None.ensures.steps.0) (lists_none s c.loop-step.listed))
