use Rattle.std.proofs.Common.{◌≡◌, ◌+◌, inl, inr, List, ◌∷◌, drop, Some, None, refl, sym, ap, subst, ◌∙◌}
use Rattle.std.proofs.lemmas.List.{drop_all, drop_more}
use Rattle.nd_protocol.specs.Enabled.{IsEnabled}
use Rattle.nd_protocol.specs.declared.step.Step.{Step}
use Rattle.nd_cluster.specs.Records.{IsPlanned}
use Rattle.nd_cluster.specs.Choice.{Chooses, Tries}
use Rattle.nd_cluster.proofs.cluster.Cluster.first_of.Goals as goal

pub loop-step-init : goal.loop-step-init
loop-step-init g c = λ choice h. h

pub loop-step-preserved : goal.loop-step-preserved
loop-step-preserved g c = λ choice h.
    let s = c.args.self.now in
    let xs : List (Step g.row.A.Denot) = c.args.steps.now in
    let i = c.loop-step.step-index in
    let x : Step g.row.A.Denot = c.step-item.result in
    let refused : IsEnabled {A = g.row.A.Denot} s x → ⊥ = subst (Tries s x) c.in_default.is c.in_ok-record.ensures in
    let more : drop i xs ≡ x ∷ drop (i + 1) xs = drop_more xs i x c.loop-step-test.true ∙ ap (λ (y : Step g.row.A.Denot). y ∷ drop (i + 1) xs) (sym c.step-item.is) in
    c.loop-step.invariant choice (subst (λ (ys : List (Step g.row.A.Denot)). Chooses s ys choice) (sym more) (inr (refused, h)))

pub returns-in-Some : goal.returns-in-Some
returns-in-Some g c =
    let s = c.args.self.now in
    let xs : List (Step g.row.A.Denot) = c.args.steps.now in
    let i = c.loop-step.step-index in
    let x : Step g.row.A.Denot = c.step-item.result in
    let r = c.in-Some.record in
    let tried : IsEnabled {A = g.row.A.Denot} s x × (r.step ≡ x) × IsPlanned r s = subst (Tries s x) c.in-Some.is c.in_ok-record.ensures in
    let more : drop i xs ≡ x ∷ drop (i + 1) xs = drop_more xs i x c.loop-step-test.true ∙ ap (λ (y : Step g.row.A.Denot). y ∷ drop (i + 1) xs) (sym c.step-item.is) in
    (c.loop-step.invariant (Some r.step) (subst (λ (ys : List (Step g.row.A.Denot)). Chooses s ys (Some r.step)) (sym more) (inl (tried.0, ap Some tried.1))), tried.2)

pub returns : goal.returns
returns g c =
    let s = c.args.self.now in
    let xs : List (Step g.row.A.Denot) = c.args.steps.now in
    (c.loop-step.invariant None (subst (λ (ys : List (Step g.row.A.Denot)). Chooses s ys None) (sym (drop_all c.loop-step.step-index xs c.loop-step-test.false)) refl), tt)
