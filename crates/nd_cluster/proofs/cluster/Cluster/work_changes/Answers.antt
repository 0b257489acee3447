use Rattle.std.proofs.Common.{sym, subst}
use Rattle.std.proofs.lemmas.Result.{err_from_is_err_and}
use Rattle.nd_protocol.specs.Steps.{stepped}
use Rattle.nd_steps.specs.Plans.{ReachesIn}
use Rattle.nd_steps.specs.Flows.{come_changes}
use Rattle.nd_steps.specs.Limits.{LimitFails}
use Rattle.nd_cluster.specs.Drafted.{IsDraft}
use Rattle.nd_cluster.specs.declared.work.Drafted.{Drafted}
use Rattle.nd_cluster.proofs.Tests.{record_passes, enabled, last_refused, limit_refused}
use Rattle.nd_cluster.proofs.Exchanges.{work_plans, flow_plans}
use Rattle.nd_cluster.proofs.cluster.Cluster.work_changes.Goals as goal

pub returns-in_err-changes-in-Each-clause-refused : goal.returns-in_err-changes-in-Each-clause-refused
returns-in_err-changes-in-Each-clause-refused g c =
    let s = c.args.self.now in
    let x = c.args.step.now in
    let t = stepped s x in
    let draft = subst (λ (d : Drafted g.row.A.Denot). IsDraft s x d) c.in-Each.is c.in_ok-all.ensures.drafted in
    let made : ReachesIn c.processors.result.now s t c.in-Each.all.items = (sym c.processors.ensures.value, draft) in
    let p = err_from_is_err_and c.from_residual-in_err-changes-in-Each.result c.from_residual-in_err-changes-in-Each.ensures.1 in
    rw (p.1) (λ some. limit_refused s x c.requires c.in_ok-all.ensures.free p.0 (subst (LimitFails t) (sym p.2) (c.in_err-changes-in-Each.ensures.refused s t made)) some)

pub returns-in_err-flow-in-Flow-clause-refused : goal.returns-in_err-flow-in-Flow-clause-refused
returns-in_err-flow-in-Flow-clause-refused g c =
    let s = c.args.self.now in
    let x = c.args.step.now in
    let t = stepped s x in
    let draft = subst (λ (d : Drafted g.row.A.Denot). IsDraft s x d) c.in-Flow.is c.in_ok-all.ensures.drafted in
    let made : ReachesIn c.processors-in-Flow.result.now s t (come_changes c.in-Flow.p c.in-Flow.gone c.in-Flow.come) = (sym c.processors-in-Flow.ensures.value, draft.1) in
    let p = err_from_is_err_and c.from_residual-in_err-flow-in-Flow.result c.from_residual-in_err-flow-in-Flow.ensures.1 in
    rw (p.1) (λ some. limit_refused s x c.requires c.in_ok-all.ensures.free p.0 (subst (LimitFails t) (sym p.2) (c.in_err-flow-in-Flow.ensures.refused s t made)) some)

pub returns-in-Some-clause-refused : goal.returns-in-Some-clause-refused
returns-in-Some-clause-refused g c =
    let s = c.args.self.now in
    let x = c.args.step.now in
    let t = stepped s x in
    let draft = subst (λ (d : Drafted g.row.A.Denot). IsDraft s x d) c.in-Each.is c.in_ok-all.ensures.drafted in
    let made : ReachesIn c.processors.result.now s t c.in-Each.all.items = (sym c.processors.ensures.value, draft) in
    let told = c.in_ok-changes-in-Each.ensures.ok in
    λ some. last_refused s x c.requires c.in_ok-all.ensures.free (told.counts s t made) (told.entries s t made) c.in-Some.refusal c.in-Some.ensures

pub returns-in_default-clause-ok : goal.returns-in_default-clause-ok
returns-in_default-clause-ok g c =
    let s = c.args.self.now in
    let x = c.args.step.now in
    let t = stepped s x in
    let draft = subst (λ (d : Drafted g.row.A.Denot). IsDraft s x d) c.in-Each.is c.in_ok-all.ensures.drafted in
    let made : ReachesIn c.processors.result.now s t c.in-Each.all.items = (sym c.processors.ensures.value, draft) in
    let told = c.in_ok-changes-in-Each.ensures.ok in
    work_plans s x c.in_ok-changes-in-Each.changes c.requires
    (enabled s x c.requires c.in_ok-all.ensures.free (told.counts s t made) (told.entries s t made) c.in_default.ensures c.numbers_fit.ensures) (told.leads s t made)

pub returns-in_ok-flow-in-Flow-clause-ok : goal.returns-in_ok-flow-in-Flow-clause-ok
returns-in_ok-flow-in-Flow-clause-ok g c =
    let s = c.args.self.now in
    let x = c.args.step.now in
    let t = stepped s x in
    let draft = subst (λ (d : Drafted g.row.A.Denot). IsDraft s x d) c.in-Flow.is c.in_ok-all.ensures.drafted in
    let made : ReachesIn c.processors-in-Flow.result.now s t (come_changes c.in-Flow.p c.in-Flow.gone c.in-Flow.come) = (sym c.processors-in-Flow.ensures.value, draft.1) in
    let told = c.in_ok-flow-in-Flow.ensures.ok in
    flow_plans s c.in-Flow.p c.in-Flow.gone c.in_ok-flow-in-Flow.flow x draft.0
    (enabled s x c.requires c.in_ok-all.ensures.free (told.counts s t made) (told.entries s t made) (record_passes s c.in-Flow.p c.in-Flow.gone x draft.0) c.numbers_fit.ensures) (told.leads s t made)
