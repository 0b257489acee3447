use Rattle.std.proofs.Common.{rules}
use Rattle.std.proofs.lemmas.List.Sorted.{ranks_by, answers_always}
use Rattle.nd_steps.specs.Places.{place_total}
use Rattle.nd_steps.specs.Changes.{place_of}
use Rattle.nd_steps.proofs.draft.sorted.Goals as goal

pub returns-clause-order : goal.returns-clause-order
returns-clause-order g c = c.sort_unstable_by.ensures.sorted _ (ranks_by place_total place_of) (answers_always _ _ _ (λ f a r h k. search rules))
