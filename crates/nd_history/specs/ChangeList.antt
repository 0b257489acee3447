-- What is listed of the changes of a view.
use Rattle.std.specs.Prelude.{◌≡◌, ◌↔◌, ◌<◌, List, length, take, IsTrue}
use Rattle.nd_time.specs.Limits.{max_told}
use Rattle.nd_timeline.specs.declared.changed.Changed.{Changed}
use Rattle.nd_history.specs.declared.change_list.ChangeList.{ChangeList}

-- the first changes, in order, and whether there are more
pub record AreFirstChanges {A : Type 0} (all : List Changed) (told : ChangeList A) : Type 0 where
  pub changes : told.changes ≡ take max_told all
  pub more : IsTrue told.more ↔ (max_told < length all)
