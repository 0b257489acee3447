use Rattle.std.proofs.Common.{ap, ◌∙◌}
use Rattle.std.specs.FinMap.{find}
use Rattle.nd_map.proofs.Trees.{find_is}
use Rattle.nd_map.proofs.tree.TreeMap.get.Goals as goal

pub returns-clause-value : goal.returns-clause-value
returns-clause-value g c =
    c.copied.ensures ∙ c.get.ensures.value ∙ find_is g.K.Ord.cmp c.args.key.now c.self.inside.tree.entries
    ∙ ap (find g.K.Ord.cmp c.args.key.now) c.self.view_is
