use Rattle.std.proofs.Common.{rules, tests}
use Rattle.std.proofs.lemmas.Iterator.{YieldsList-from_slice}
use Rattle.std.proofs.lemmas.Iterator.Search.{any_from_yields_List}
use Rattle.rewind_sessions.specs.Runs.{is_full}
use Rattle.rewind_sessions.proofs.drive.any_full.Goals as goal

pub returns : goal.returns
returns c = any_from_yields_List is_full _ _ _ c.any.ensures.ran (YieldsList-from_slice c.args.faults.now cc) (λ x b q k. search (rules, tests))
