use Rattle.std.proofs.Common.{◌≡◌, ◌++◌, take}
use Rattle.std.specs.Prelude.{All}
use Rattle.nd_steps.specs.Drafts.{item_changes, HasValues}
use Rattle.nd_steps.proofs.draft.Draft.add_items.Given as goal

-- the items so far are listed
abbrev pub invariant-loop-item : goal.invariant-loop-item
invariant-loop-item g l = record {
  p : l.self.p ≡ l.initial.self.p;
  changes : l.self.changes.items ≡ l.initial.self.changes.items ++ item_changes l.initial.self.p l.vertex (take l.item-index l.items);
  values : All HasValues (take l.item-index l.items);
}
