use Rattle.std.proofs.Common.{ap, ◌∙◌}
use Rattle.nd_map.specs.Counts.{integers, of_entries, of_entries-nil}
use Rattle.nd_vertex.specs.Items.{item_total}
use Rattle.nd_vertex.proofs.state.VertexState.new.Goals as goal

pub returns : goal.returns
returns g c = ap (of_entries {N = integers} item_total) c.new.ensures ∙ of_entries-nil integers item_total
