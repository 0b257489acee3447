use Rattle.std.proofs.Common.{◌≡◌, inl, inr, Some, None, refl, sym, ap, subst, ◌∙◌}
use Rattle.nd_protocol.specs.Enabled.{IsEnabled}
use Rattle.nd_cluster.specs.Records.{IsPlanned}
use Rattle.nd_cluster.specs.Candidates.{candidates_of}
use Rattle.nd_cluster.specs.Choice.{Chooses, Tries}
use Rattle.nd_cluster.proofs.cluster.Cluster.first_on.Goals as goal

pub loop-step-init : goal.loop-step-init
loop-step-init g c = λ choice h.
    let same : c.into_iter-step-iterator.result ≡ candidates_of {A = g.row.A.Denot} c.args.self.now c.args.p = c.into_iter-step-iterator.ensures.into_iter_gives ∙ c.candidates_of-step-items.ensures in
    subst (λ xs. Chooses c.args.self.now xs choice) same h

pub loop-step-preserved : goal.loop-step-preserved
loop-step-preserved g c = λ choice h.
    let s = c.args.self.now in
    let x = c.in-Some.step in
    let refused : IsEnabled {A = g.row.A.Denot} s x → ⊥ = subst (Tries s x) c.in_default.is c.in_ok-record.ensures in
    c.loop-step.invariant choice (subst (λ xs. Chooses s xs choice) (sym c.in-Some.ensures.steps) (inr (refused, h)))

pub returns-in-Some-2 : goal.returns-in-Some-2
returns-in-Some-2 g c =
    let s = c.args.self.now in
    let x = c.in-Some.step in
    let r = c.in-Some-2.record in
    let tried : IsEnabled {A = g.row.A.Denot} s x × (r.step ≡ x) × IsPlanned r s = subst (Tries s x) c.in-Some-2.is c.in_ok-record.ensures in
    (c.loop-step.invariant (Some r.step) (subst (λ xs. Chooses s xs (Some r.step)) (sym c.in-Some.ensures.steps) (inl (tried.0, ap Some tried.1))), tried.2)

pub returns : goal.returns
returns g c = (c.loop-step.invariant None (subst (λ xs. Chooses c.args.self.now xs None) (sym c.in-None.ensures.steps.0) refl), tt)
