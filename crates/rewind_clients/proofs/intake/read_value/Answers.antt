use Rattle.rewind_clients.proofs.OpeningLemmas.{reads-version}
use Rattle.rewind_clients.proofs.intake.read_value.Goals as goal

pub returns-in-Some-version_of : goal.returns-in-Some-version_of
returns-in-Some-version_of c = rw c.in-None.is (reads-version c.args.options.now.processors c.args.options.now.clients c.args.line _ c.in-Some-version_of.version c.in-Some-version_of.ensures)
