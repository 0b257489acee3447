-- What a search looks for.
use Rattle.nd_reach.specs.Found.{Wanted}
use Rattle.nd_reach.specs.declared.search.Question.{Question}

-- the question as values
abbrev pub wanted : {A : Type 0} → Question A → Wanted
wanted q = record { start = q.start.now; allowed = q.allowed; when = q.when.now; limit = q.limit }
