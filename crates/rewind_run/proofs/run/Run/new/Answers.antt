use Rattle.std.proofs.Common.{refl}
use Rattle.rewind_run.proofs.StandLaws.{stands-new}
use Rattle.rewind_run.proofs.run.Run.new.Goals as goal

pub returns-clause-stands : goal.returns-clause-stands
returns-clause-stands c = stands-new c.args.processors _ refl c.new.ensures.first c.new-2.ensures refl
