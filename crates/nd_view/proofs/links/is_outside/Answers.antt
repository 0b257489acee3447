use Rattle.std.proofs.Common.{◌∙◌, sym, ap, length}
use Rattle.std.proofs.lemmas.Bool.{eqb-true, eq-eqb}
use Rattle.nd_view.proofs.LinksLemmas.{none_of}
use Rattle.nd_view.proofs.links.is_outside.Goals as goal

pub returns : goal.returns
returns c = (
  λ yes. none_of c.args.point.now.time.counters (sym c.depth.ensures.value ∙ eqb-true c.depth.result 0 yes),
  λ none. eq-eqb c.depth.result 0 (c.depth.ensures.value ∙ ap length none),
)
