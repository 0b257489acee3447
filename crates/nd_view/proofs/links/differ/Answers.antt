use Rattle.std.proofs.Common.{◌∙◌, sym, ap}
use Rattle.nd_view.proofs.LinksLemmas.{unlike, one}
use Rattle.nd_view.proofs.links.differ.Goals as goal

pub returns-then-epoch : goal.returns-then-epoch
returns-then-epoch c = (
  λ _ same. c.if-epoch.true (c.epoch.ensures ∙ ap (λ p. p.time.epoch) same ∙ sym c.epoch-2.ensures),
  λ _. (unlike c.epoch.result c.epoch-2.result).1 c.if-epoch.true,
)

pub returns-else-epoch : goal.returns-else-epoch
returns-else-epoch c =
    let a = c.args.first.now in
    let b = c.args.second.now in (
      λ yes same. (unlike a.location b.location).0 yes (ap (λ p. p.location) same),
      λ other. (unlike a.location b.location).1 (λ place. other (one a b place (sym c.epoch.ensures ∙ c.if-epoch.false ∙ c.epoch-2.ensures) (c.requires.first ∙ sym c.requires.second))),
    )
