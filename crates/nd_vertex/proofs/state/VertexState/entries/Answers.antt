use Rattle.std.proofs.Common.{◌<◌, ◌^◌, length, subst, ◌∙◌}
use Rattle.nd_vertex.proofs.KeptLemmas.{listed}
use Rattle.nd_vertex.proofs.state.VertexState.entries.Goals as goal

pub returns : goal.returns
returns g c =
    let is = listed c.self.inside.map c.self.invariant c.args.self.now c.self.view_is in
    record {
      listed = c.iter.ensures.rest ∙ is;
      runs = c.iter.ensures.runs;
      fits = subst (λ es. length es < 2 ^ 63) is c.iter.ensures.fits;
    }
