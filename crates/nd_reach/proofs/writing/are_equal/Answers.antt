use Rattle.std.proofs.Common.{ℤ, rules}
use Rattle.std.proofs.lemmas.Slice.Eq.{slice_eq-Decides}
use Rattle.nd_paths.specs.declared.point.Pointstamp.{Pointstamp}
use Rattle.nd_reach.proofs.Queues.{match_equal}
use Rattle.nd_reach.proofs.writing.are_equal.Goals as goal

pub returns : goal.returns
returns g c =
    let decided = slice_eq-Decides (λ (x y : Pointstamp × ℤ). (λ e. search rules, λ e. search rules)) c.entries.result.now c.entries-2.result.now c.eq.result c.eq.ensures in
    match_equal c.args.first.now c.args.second.now c.entries.result.now c.entries-2.result.now c.eq.result c.entries.ensures.listed c.entries-2.ensures.listed decided
