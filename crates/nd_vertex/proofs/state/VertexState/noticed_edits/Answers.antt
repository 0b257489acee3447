use Rattle.std.proofs.Common.{ap, sym, subst}
use Rattle.nd_vertex.specs.Edits.{LeadsTo}
use Rattle.nd_vertex.specs.Table.{on_notice}
use Rattle.nd_vertex.proofs.EffectsLemmas.{leads_none, noticed_plain}
use Rattle.nd_vertex.proofs.state.VertexState.noticed_edits.Goals as goal

pub returns-in_default : goal.returns-in_default
returns-in_default g c =
    let m = c.args.self.now in
    let t = c.args.time.now in
    let same = ap (λ o. o.items) (sym (noticed_plain c.args.op m t c.in_default.not-Sum c.in_default.not-Distinct)) in
    subst (λ es. LeadsTo m es (on_notice c.args.op m t).items) (sym c.new.ensures.items) (leads_none m _ same)
