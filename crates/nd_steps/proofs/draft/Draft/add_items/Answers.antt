use Rattle.std.proofs.Common.{◌∙◌, subst}
use Rattle.std.specs.Int.{w128}
use Rattle.std.proofs.lemmas.Int.{to_z-of_z}
use Rattle.std.proofs.lemmas.List.Elements.{All-more}
use Rattle.nd_steps.specs.Changes.{at_key}
use Rattle.nd_steps.specs.Drafts.{HasValues}
use Rattle.nd_steps.specs.declared.slot.Slot.TheVariants.{State}
use Rattle.nd_steps.proofs.DraftsLemmas.{item_more}
use Rattle.nd_steps.proofs.draft.Draft.add_items.Goals as goal

pub loop-item-preserved : goal.loop-item-preserved
loop-item-preserved g c = record {
  p = c.in_ok-add.ensures.p ∙ c.loop-item.invariant.p;
  changes = item_more c.args.self.now.p c.args.vertex c.args.items.now c.loop-item.item-index c.item-item.result c.loop-item-test.true c.item-item.is
      c.args.self.now.changes.items c.loop-item.self.changes.items c.add.new.self.changes.items c.loop-item.invariant.changes _ c.in_ok-add.ensures.changes
      (λ i. at_key (c.loop-item.invariant.p i) (State c.args.vertex (c.copy-key.ensures i)) ((to_z-of_z w128 c.gain.result c.gain.ensures.fits ∙ c.gain.ensures.value) i));
  values = All-more HasValues c.args.items.now c.loop-item.item-index c.item-item.result c.loop-item-test.true c.loop-item.invariant.values (subst HasValues c.item-item.is c.gain.ensures.values);
}
