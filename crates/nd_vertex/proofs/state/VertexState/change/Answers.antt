use Rattle.std.proofs.Common.{rules, ◌≡◌, ◌≢◌, w64}
use Rattle.std.proofs.lemmas.Int.{to_z-of_z}
use Rattle.nd_vertex.specs.Items.{item_key}
use Rattle.nd_vertex.proofs.EffectsLemmas.{leads_one, leads_same}
use Rattle.nd_vertex.proofs.state.VertexState.change.Goals as goal

pub returns-then-eq : goal.returns-then-eq
returns-then-eq g c =
    let same : c.get-old.result ≡ c.args.new = search rules in
    leads_same c.args.self.now (item_key c.args.time.now c.args.item) c.get-old.result c.args.new (rw (to_z-of_z w64 c.args.item c.ranges.item) at c.get-old.ensures.value) same

pub returns : goal.returns
returns g c =
    let differ : c.get-old.result ≢ c.args.new = search rules in
    rw (c.copy.ensures, to_z-of_z w64 c.args.item c.ranges.item)
    (leads_one c.args.self.now (item_key c.args.time.now c.args.item) c.get-old.result c.args.new (rw (to_z-of_z w64 c.args.item c.ranges.item) at c.get-old.ensures.value) c.requires differ)
