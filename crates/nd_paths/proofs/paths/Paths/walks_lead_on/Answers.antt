use Rattle.std.proofs.Common.{◌∙◌, subst}
use Rattle.nd_paths.specs.Arrival.{WalksLeadOn}
use Rattle.nd_paths.proofs.Arrivals.{turned_on}
use Rattle.nd_paths.proofs.paths.Paths.walks_lead_on.Goals as goal

pub returns : goal.returns
returns g c =
    subst WalksLeadOn (c.deref.ensures ∙ c.self.view_is) (turned_on c.deref.result.now c.walks_lead_on.ensures)
