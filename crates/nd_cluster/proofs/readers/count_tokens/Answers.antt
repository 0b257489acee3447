use Rattle.std.proofs.Common.{◌≡◌, ℕ, Bool, true, false, cond, Option, sym, ap, ◌∙◌}
use Rattle.std.specs.Ordering.{is_eq}
use Rattle.nd_delta.specs.Delta.{is_point}
use Rattle.nd_processor.specs.State.{token_point}
use Rattle.nd_processor.specs.Held.{token_at}
use Rattle.nd_cluster.proofs.Tallies.{one_token}
use Rattle.nd_cluster.proofs.readers.count_tokens.Goals as goal

pub returns-in_default-clause-value : goal.returns-in_default-clause-value
returns-in_default-clause-value g c =
    let x = c.args.point.now in
    sym (one_token c.args.processor.now.tokens x ∙ ap (λ (o : Option ℕ). token_at x.location o x) (sym c.token.ensures ∙ c.in_default.is))

pub returns-then-is_eq-clause-value : goal.returns-then-is_eq-clause-value
returns-then-is_eq-clause-value g c =
    let x = c.args.point.now in
    let e : is_point x (token_point x.location c.in-Some.epoch) ≡ true
    = ap (λ p. is_point x p) (sym c.token_point-token.ensures) ∙ ap is_eq (sym c.cmp.ensures) ∙ sym c.is_eq.ensures ∙ c.if-is_eq.true in
    sym (one_token c.args.processor.now.tokens x ∙ ap (λ (o : Option ℕ). token_at x.location o x) (sym c.token.ensures ∙ c.in-Some.is) ∙ ap (λ (b : Bool). cond {A = ℕ} b 1 0) e)

pub returns-else-is_eq-clause-value : goal.returns-else-is_eq-clause-value
returns-else-is_eq-clause-value g c =
    let x = c.args.point.now in
    let e : is_point x (token_point x.location c.in-Some.epoch) ≡ false
    = ap (λ p. is_point x p) (sym c.token_point-token.ensures) ∙ ap is_eq (sym c.cmp.ensures) ∙ sym c.is_eq.ensures ∙ c.if-is_eq.false in
    sym (one_token c.args.processor.now.tokens x ∙ ap (λ (o : Option ℕ). token_at x.location o x) (sym c.token.ensures ∙ c.in-Some.is) ∙ ap (λ (b : Bool). cond {A = ℕ} b 1 0) e)
