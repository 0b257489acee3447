use Rattle.std.proofs.Common.{◌++◌, drop, ap, ◌+◌, ◌∙◌}
use Rattle.nd_map.proofs.Trees.{put_next}
use Rattle.nd_map.proofs.growing.as_tree.Goals as goal

pub loop-entry-preserved : goal.loop-entry-preserved
loop-entry-preserved g c =
    ap (λ es. es ++ drop (c.loop-entry.entry-index + 1) c.args.entries.now) c.in_ok-put.ensures.ok
    ∙ put_next g.K.Ord.cmp g.met.K.Ord.total c.entry-item.result.0 c.entry-item.result.1 c.loop-entry.tree c.args.entries.now c.loop-entry.entry-index c.loop-entry-test.true c.entry-item.is c.requires c.loop-entry.invariant
