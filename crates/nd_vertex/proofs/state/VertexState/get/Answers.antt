use Rattle.std.proofs.Common.{◌∙◌, w64}
use Rattle.std.proofs.lemmas.Int.{to_z-of_z}
use Rattle.nd_vertex.specs.Items.{item_key}
use Rattle.nd_vertex.proofs.KeptLemmas.{found, values}
use Rattle.nd_vertex.proofs.state.VertexState.get.Goals as goal

pub returns : goal.returns
returns g c =
    let key = item_key c.args.time.now c.args.item in
    record {
      value = rw (c.copy.ensures, to_z-of_z w64 c.args.item c.ranges.item) at c.get.ensures.value ∙ found c.self.inside.map c.self.invariant c.args.self.now c.self.view_is key;
      values = values c.self.inside.map c.self.invariant c.args.self.now c.self.view_is;
    }
