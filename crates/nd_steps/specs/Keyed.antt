-- Changes by their indices: those of a feed, those of a take, or those of a list.
use Rattle.std.specs.Prelude.{List, ◌++◌, map}
use Rattle.nd_steps.specs.Feeds.{arrived}
use Rattle.nd_steps.specs.Flows.{arriving_as, take_order}
use Rattle.nd_steps.specs.declared.change.Change.{Change}
use Rattle.nd_steps.specs.declared.flow.TakeChanges.{TakeChanges}
use Rattle.nd_steps.specs.declared.keyed.Origin.{Origin}
use Rattle.nd_steps.specs.declared.keyed.Origin.TheVariants.{Fed, Taken, Listed}

-- the changes of what arrives by a take
abbrev pub comes_in : TakeChanges → List Change
comes_in t = arriving_as t.p t.gone t.key t.flow.come

-- the changes of a take
abbrev pub taken_in : TakeChanges → List Change
taken_in t = take_order t.p t.gone t.flow.late (comes_in t)

abbrev pub changes_in : Origin → List Change
changes_in (Fed at values rest) = map (arrived at) values.now ++ rest.items
changes_in (Taken changes) = taken_in changes
changes_in (Listed changes) = changes.now
