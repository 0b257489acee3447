use Rattle.std.proofs.Common.{map, ap, ◌∙◌}
use Rattle.std.proofs.lemmas.List.{take_all}
use Rattle.nd_delta.specs.Delta.{entries}
use Rattle.nd_steps.specs.Alterations.{received_row}
use Rattle.nd_steps.proofs.CountsReceived.{entry_within}
use Rattle.nd_steps.proofs.EffectLemmas.{row_more}
use Rattle.nd_steps.proofs.effects.received_list.Goals as goal

pub loop-entry-init : goal.loop-entry-init
loop-entry-init g c = record { items = c.entries-entry-items.ensures.listed; rows = c.new-rows.ensures.items }

pub received_altered-requires : goal.received_altered-requires
received_altered-requires g c =
    entry_within c.args.change.now c.loop-entry.entry-index c.entry-item.result (rw c.loop-entry.invariant.items at c.loop-entry-test.true) (rw c.loop-entry.invariant.items at c.entry-item.is)
    c.entries-entry-items.ensures.within

pub loop-entry-preserved : goal.loop-entry-preserved
loop-entry-preserved g c = record {
  items = c.loop-entry.invariant.items;
  rows = row_more (received_row c.args.q c.args.view.now.map) (entries c.args.change.now) c.loop-entry.entry-index c.entry-item.result
      (rw c.loop-entry.invariant.items at c.loop-entry-test.true) (rw c.loop-entry.invariant.items at c.entry-item.is)
      c.loop-entry.rows.items c.push.new.self.items c.received_altered.result c.loop-entry.invariant.rows c.in_ok-push.ensures.items c.received_altered.ensures;
}

pub returns : goal.returns
returns g c =
    c.loop-entry.invariant.rows
    ∙ ap (map (received_row c.args.q c.args.view.now.map)) (take_all c.loop-entry.entry-index (entries c.args.change.now) (rw c.loop-entry.invariant.items at c.loop-entry-test.false))
