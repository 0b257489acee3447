use Rattle.std.proofs.Common.{ap, ◌∙◌}
use Rattle.nd_delta.specs.Delta.{of_entries, of_entries-nil}
use Rattle.nd_delta.proofs.Delta.new.Goals as goal

pub returns : goal.returns
returns g c = ap of_entries c.new.ensures ∙ of_entries-nil
