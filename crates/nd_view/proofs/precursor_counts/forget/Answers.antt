use Rattle.std.proofs.Common.{rules, ◌≡◌, sym, subst, ◌∙◌, true≢false}
use Rattle.std.specs.Prelude.{Contains}
use Rattle.std.specs.List.{filter}
use Rattle.std.proofs.lemmas.Fn.{filter_same}
use Rattle.nd_view.proofs.Zeros.{others_than, is_other, is_itself, tells_other, stays_in, was_in}
use Rattle.nd_view.proofs.precursor_counts.forget.Given.{Over}
use Rattle.nd_view.proofs.precursor_counts.forget.Goals as goal

-- the others stay
filtered : (g : Over) (c : goal.After-retain g) → c.retain.new.self.items ≡ filter (others_than c.args.point.now) c.args.frontier.now.items
filtered g c = filter_same _ (others_than c.args.point.now) _ (λ x b f' k. (tells_other b c.args.point.now x (search rules), search rules)) _ _ c.retain.ensures.filtered

pub returns-clause-gone : goal.returns-clause-gone
returns-clause-gone g c = λ among.
    let p = c.args.point.now in
    let was = was_in (others_than p) c.args.frontier.now.items p (subst (λ l. Contains l p) (filtered g c) among) in
    true≢false (sym was.1 ∙ is_itself p)

pub returns-clause-others : goal.returns-clause-others
returns-clause-others g c = λ q ne.
    let p = c.args.point.now in (
      λ among. (was_in (others_than p) c.args.frontier.now.items q (subst (λ l. Contains l q) (filtered g c) among)).0,
      λ among. subst (λ l. Contains l q) (sym (filtered g c)) (stays_in (others_than p) c.args.frontier.now.items q (is_other p q ne) among),
    )
