use Rattle.std.proofs.Common.{FitsSigned, pos, ◌+ℤ◌, w64, ap, sym, subst, ◌∙◌}
use Rattle.std.specs.Option.{unwrap_or}
use Rattle.nd_map.specs.Counts.{at}
use Rattle.nd_vertex.specs.Items.{item_key}
use Rattle.nd_vertex.proofs.EffectsLemmas.{nothing, values_set, total, at_here}
use Rattle.nd_vertex.proofs.state.VertexState.sum.Goals as goal

pub returns-in-Some-clause-fits : goal.returns-in-Some-clause-fits
returns-in-Some-clause-fits g c =
    let m = c.args.self.now in
    let key = item_key c.args.time.now (pos 0) in
    let sum_is = total m key c.unwrap_or.result c.args.value (c.unwrap_or.ensures ∙ ap (λ o. unwrap_or o (pos 0)) c.get.ensures.value) c.get.ensures.values c.ranges.value in
    record {
      emissions = nothing _;
      items = values_set m key (at m key +ℤ c.args.value) c.get.ensures.values (subst (FitsSigned w64) sum_is c.in-Some.ensures.0);
    }

pub returns-in-None-clause-range : goal.returns-in-None-clause-range
returns-in-None-clause-range g c = λ r.
    let m = c.args.self.now in
    let key = item_key c.args.time.now (pos 0) in
    let sum_is = total m key c.unwrap_or.result c.args.value (c.unwrap_or.ensures ∙ ap (λ o. unwrap_or o (pos 0)) c.get.ensures.value) c.get.ensures.values c.ranges.value in
    c.in-None.ensures (subst (FitsSigned w64) (at_here m key (at m key +ℤ c.args.value) ∙ sym sum_is) (r.items key))
