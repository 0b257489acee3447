use Rattle.std.proofs.Common.{refl}
use Rattle.nd_delta.proofs.Sums.{next_entry, one_more, all_entries}
use Rattle.nd_delta.proofs.large.LargeDelta.clear.Goals as goal

pub loop-entry-init : goal.loop-entry-init
loop-entry-init g c = record { value = λ q. refl }

pub loop-entry-preserved : goal.loop-entry-preserved
loop-entry-preserved g c =
    one_more c.entry-item.result.0 c.loop-entry.invariant c.remove.ensures (next_entry c.args.entries.now c.loop-entry.entry-index c.entry-item.result c.loop-entry-test.true c.entry-item.is)

pub returns : goal.returns
returns g c q = (all_entries c.args.entries.now c.loop-entry.entry-index c.loop-entry-test.false c.loop-entry.invariant).value q
