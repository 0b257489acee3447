use Rattle.std.proofs.Common.{refl}
use Rattle.rewind_clients.proofs.ReadersLemmas.{stands-new}
use Rattle.rewind_clients.proofs.reader.Reader.new.Goals as goal

pub returns-clause-stands : goal.returns-clause-stands
returns-clause-stands c = stands-new c.args.options.now _ c.new.ensures.first refl refl
