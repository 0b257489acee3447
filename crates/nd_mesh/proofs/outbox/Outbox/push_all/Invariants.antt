use Rattle.std.proofs.Common.{◌≡◌}
use Rattle.nd_mesh.specs.Mesh.{appended, first_mapped}
use Rattle.nd_mesh.proofs.outbox.Outbox.push_all.Given as goal

abbrev pub invariant-loop-to : goal.invariant-loop-to
invariant-loop-to g l = l.self ≡ first_mapped (appended l.change) l.to l.initial.self
