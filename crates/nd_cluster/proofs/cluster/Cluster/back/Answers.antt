use Rattle.std.proofs.Common.{sym, subst, ◌∙◌}
use Rattle.nd_protocol.specs.Fitting.{IsState}
use Rattle.nd_steps.specs.Records.{Makes}
use Rattle.nd_cluster.proofs.cluster.Cluster.back.Goals as goal

pub undo_record-requires : goal.undo_record-requires
undo_record-requires g c =
    let s = c.requires.state in
    let h = c.requires.leads in
    (s, h.planned.state, subst (λ t. Makes s c.args.made.now t) (sym h.after ∙ sym c.self.view_is) h.planned.makes)

pub returns-clause-ok : goal.returns-clause-ok
returns-clause-ok g c = λ s leads.
    c.in-Ok.ensures.ok s leads.planned.state (subst (λ t. Makes s c.args.made.now t) (sym leads.after ∙ sym c.self.view_is) leads.planned.makes)

pub invariant_of-self-2 : goal.invariant_of-self-2
invariant_of-self-2 g c = subst IsState (sym (returns-clause-ok g c c.requires.state c.requires.leads)) c.requires.leads.planned.state
