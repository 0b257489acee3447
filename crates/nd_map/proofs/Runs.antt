-- How an iterator runs that is represented by the list of the items it has not yet returned.
use Rattle.std_collections.proofs.IterRuns.{shows_in_order}
use Rattle.std.specs.Map.Iter.{ShowsInOrder}

pub in_order : {A X : Type 0} (shows : A → X) → ShowsInOrder shows
in_order shows = shows_in_order shows
