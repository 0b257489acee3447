use Rattle.std.proofs.Common.{◌≡◌, ◌+◌, ◌∙◌, List, ◌∷◌, ◌++◌, [], take, refl, sym, subst, None}
use Rattle.std.specs.Prelude.{All, Contains}
use Rattle.std.proofs.lemmas.List.{take_all, take_more}
use Rattle.std.proofs.lemmas.List.Elements.{All-push, Contains-get_or}
use Rattle.nd_protocol.specs.declared.step.Step.{Step}
use Rattle.nd_cluster.specs.Candidates.{candidates_among}
use Rattle.nd_at_rest.specs.Waiting.{IsWaiting}
use Rattle.nd_at_rest.proofs.Waiting.{at_rest_if, not_at_rest}
use Rattle.nd_at_rest.proofs.rest.is_at_rest.Goals as goal

pub returns-then-not-branch : goal.returns-then-not-branch
returns-then-not-branch g c =
    let s = c.args.cluster.now in
    let xs : List (Step g.row.A.Denot) = c.deref-step-items.result.now in
    let x : Step g.row.A.Denot = c.step-item.result in
    let all : xs ≡ candidates_among s None = c.deref-step-items.ensures.value ∙ c.in-Ok.ensures.all in
    let among : Contains xs x = subst (Contains xs) (sym c.step-item.is) (Contains-get_or xs c.loop-step.step-index x c.loop-step-test.true) in (
      λ e. absurd (cc (e)),
      λ rest. absurd (not_at_rest c.candidates_are_in_turn.ensures.turn s c.n.ensures.state x (subst (λ ys. Contains ys x) all among)
          (λ waits. absurd (cc (c.if-not-branch.true, c.in_ok-is_waiting.ensures.1 waits))) rest),
    )

pub loop-step-preserved : goal.loop-step-preserved
loop-step-preserved g c =
    let s = c.args.cluster.now in
    let xs : List (Step g.row.A.Denot) = c.deref-step-items.result.now in
    let x : Step g.row.A.Denot = c.step-item.result in
    let more : take (c.loop-step.step-index + 1) xs ≡ take c.loop-step.step-index xs ++ x ∷ [] =
    subst (λ y. take (c.loop-step.step-index + 1) xs ≡ take c.loop-step.step-index xs ++ y ∷ []) (sym c.step-item.is) (take_more xs c.loop-step.step-index x c.loop-step-test.true) in
    let waits : IsWaiting {A = g.row.A.Denot} s x = c.in_ok-is_waiting.ensures.0 c.if-not-branch.false in
    subst (All (IsWaiting {A = g.row.A.Denot} s)) (sym more) (All-push (IsWaiting {A = g.row.A.Denot} s) (take c.loop-step.step-index xs) x c.loop-step.invariant waits)

pub returns : goal.returns
returns g c =
    let s = c.args.cluster.now in
    let xs : List (Step g.row.A.Denot) = c.deref-step-items.result.now in
    let all : xs ≡ candidates_among s None = c.deref-step-items.ensures.value ∙ c.in-Ok.ensures.all in
    let wait : All (IsWaiting {A = g.row.A.Denot} s) xs =
    subst (All (IsWaiting {A = g.row.A.Denot} s)) (take_all c.loop-step.step-index xs c.loop-step-test.false) c.loop-step.invariant in
    (λ _. at_rest_if c.candidates_are_in_turn.ensures.turn s c.n.ensures.state (subst (All (IsWaiting {A = g.row.A.Denot} s)) all wait), λ _. refl)
