use Rattle.std.proofs.Common.{◌≡◌, length}
use Rattle.std.specs.Vec.Iter.{into_iter_items, into_iter_len}
use Rattle.nd_reach.specs.Questions.{wanted}
use Rattle.nd_reach.proofs.Expands.{IsLeft}
use Rattle.nd_reach.proofs.search.Question.expand.Given as goal

abbrev pub invariant-loop-made : goal.invariant-loop-made
invariant-loop-made g l =
    (goal.iterator-loop-made g).can_next l.made-iterator ×
    (goal.iterator-loop-made g).is_finite l.made-iterator ×
    (into_iter_len l.made-iterator ≡ length (into_iter_items l.made-iterator)) ×
    IsLeft (wanted l.fn.self) l.found.forms.keys l.found.nodes.items l.at l.walker (into_iter_items l.made-iterator)
